-- Places in a list of numbers.
-- Assumes nothing.
use Rattle.std.specs.Prelude.{if◌then◌else◌, ◌≡◌, refl, Bool, true, false, ◌&&◌, List, [], ◌∷◌, ◌++◌, map, ℕ, zero, suc, ◌+◌, ◌-◌, ◌≤◌, ◌<◌, length, get_or, eqb, leb}
use Rattle.std.proofs.Common.{sym, ap, ap₂, ◌∙◌, arith, eqb-true, eq-eqb, ne_eqb, leb-true, le-leb}
use Rattle.std.proofs.lemmas.Bool.{eqb-false}
use Rattle.meaning.specs.Grammar.{is_row}
use Rattle.meaning.specs.Renumbering.{place_from}
use Rattle.spec_laws.specs.Tags.{and_left, and_right}
use Rattle.bound_laws.specs.Numbers.{All}

-- ---- how often a number stands in a list

abbrev pub one_if : Bool → ℕ
one_if b = if b then 1 else 0

unfoldable pub occurs : ℕ → List ℕ → ℕ
occurs s [] = 0
occurs s (x ∷ xs) = one_if (eqb x s) + occurs s xs

pub occurs_++ : (s : ℕ) (xs ys : List ℕ) → occurs s (xs ++ ys) ≡ occurs s xs + occurs s ys
unfolding occurs
occurs_++ s [] ys = omega arith
occurs_++ s (x ∷ xs) ys = omega (arith, occurs_++ s xs ys)

-- ---- its place

-- there is none if it does not stand there
pub place_none : (s k : ℕ) (xs : List ℕ) → occurs s xs ≡ 0 → place_from k xs s ≡ 0
unfolding occurs place_from
place_none s k [] e = refl
place_none s k (x ∷ xs) e = go (eqb x s) e (place_none s (suc k) xs)
  where
    go : (b : Bool) → one_if b + occurs s xs ≡ 0 → (occurs s xs ≡ 0 → place_from (suc k) xs s ≡ 0) → (if b then k else place_from (suc k) xs s) ≡ 0
    go true e rest = absurd (omega arith)
    go false e rest = rest (omega arith)

-- and else it is one of those counted
pub place_some : (s k : ℕ) (xs : List ℕ) → 1 ≤ occurs s xs → k ≤ place_from k xs s
unfolding occurs place_from
place_some s k [] l = absurd (omega arith)
place_some s k (x ∷ xs) l = go (eqb x s) l (place_some s (suc k) xs)
  where
    go : (b : Bool) → 1 ≤ one_if b + occurs s xs → (1 ≤ occurs s xs → suc k ≤ place_from (suc k) xs s) → k ≤ (if b then k else place_from (suc k) xs s)
    go true l rest = omega arith
    go false l rest = omega (arith, rest (omega arith))

pub place_most : (s k : ℕ) (xs : List ℕ) → 1 ≤ k → place_from k xs s < k + length xs
unfolding place_from
place_most s k [] l = omega arith
place_most s k (x ∷ xs) l = go (eqb x s) (place_most s (suc k) xs (omega arith))
  where
    go : (b : Bool) → place_from (suc k) xs s < suc k + length xs → (if b then k else place_from (suc k) xs s) < k + suc (length xs)
    go true m = omega arith
    go false m = omega arith

-- none, or behind those before k
place_late : (t k : ℕ) (xs : List ℕ) → place_from k xs t < k → place_from k xs t ≡ 0
unfolding place_from
place_late t k [] l = refl
place_late t k (x ∷ xs) l = go (eqb x t) l (place_late t (suc k) xs)
  where
    go : (b : Bool) → (if b then k else place_from (suc k) xs t) < k → (place_from (suc k) xs t < suc k → place_from (suc k) xs t ≡ 0)
        → (if b then k else place_from (suc k) xs t) ≡ 0
    go true l rest = absurd (omega arith)
    go false l rest = rest (omega arith)

-- the number stands at its place
pub place_there : (s k : ℕ) (xs : List ℕ) → 1 ≤ occurs s xs → get_or xs (place_from k xs s - k) 0 ≡ s
unfolding occurs place_from
place_there s k [] l = absurd (omega arith)
place_there s k (x ∷ xs) l = go (eqb x s) refl l (place_there s (suc k) xs) (place_some s (suc k) xs)
  where
    go : (b : Bool) → eqb x s ≡ b → 1 ≤ one_if b + occurs s xs → (1 ≤ occurs s xs → get_or xs (place_from (suc k) xs s - suc k) 0 ≡ s)
        → (1 ≤ occurs s xs → suc k ≤ place_from (suc k) xs s) → get_or (x ∷ xs) ((if b then k else place_from (suc k) xs s) - k) 0 ≡ s
    go true e l rest late = let here : k - k ≡ 0 = omega arith in rw here (eqb-true x s e)
    go false e l rest late =
        let some : 1 ≤ occurs s xs = omega arith in
        let behind : place_from (suc k) xs s - k ≡ suc (place_from (suc k) xs s - suc k) = omega (arith, late some) in
        rw behind (rest some)

-- NO TWO NUMBERS HAVE ONE PLACE.
pub place_one : (s t k : ℕ) (xs : List ℕ) → 1 ≤ k → 1 ≤ occurs s xs → place_from k xs s ≡ place_from k xs t → s ≡ t
unfolding occurs place_from
place_one s t k [] l o e = absurd (omega arith)
place_one s t k (x ∷ xs) l o e = go (eqb x s) (eqb x t) refl refl o e (place_one s t (suc k) xs (omega arith))
  where
    go : (b c : Bool) → eqb x s ≡ b → eqb x t ≡ c → 1 ≤ one_if b + occurs s xs
        → (if b then k else place_from (suc k) xs s) ≡ (if c then k else place_from (suc k) xs t)
        → (1 ≤ occurs s xs → place_from (suc k) xs s ≡ place_from (suc k) xs t → s ≡ t) → s ≡ t
    go true true p q o e rest = sym (eqb-true x s p) ∙ eqb-true x t q
    go true false p q o e rest = absurd (omega (arith, place_late t (suc k) xs (omega arith)))
    go false true p q o e rest = absurd (omega (arith, place_some s (suc k) xs (omega arith)))
    go false false p q o e rest = rest (omega arith) e

-- ---- one after another

-- n numbers from k on
unfoldable pub up_from : ℕ → ℕ → List ℕ
up_from k zero = []
up_from k (suc n) = k ∷ up_from (suc k) n

pub up_length : (k n : ℕ) → length (up_from k n) ≡ n
unfolding up_from
up_length k zero = refl
up_length k (suc n) = ap suc (up_length (suc k) n)

-- a number that does not stand in a list changes no place of those that do
places_behind : (k x : ℕ) (xs ys : List ℕ) → occurs x ys ≡ 0 → map (place_from k (x ∷ xs)) ys ≡ map (place_from (suc k) xs) ys
unfolding occurs place_from
places_behind k x xs [] e = refl
places_behind k x xs (y ∷ ys) e = ap₂ ◌∷◌ (go (eqb x y) refl) (places_behind k x xs ys (omega arith))
  where
    go : (b : Bool) → eqb x y ≡ b → (if b then k else place_from (suc k) xs y) ≡ place_from (suc k) xs y
    go true d = let yes = eq-eqb y x (sym (eqb-true x y d)) in absurd (omega (arith, rw yes at e))
    go false d = refl

-- WHERE EACH NUMBER STANDS ONCE, its places are 1, 2, 3 and so on.
pub places_up : (k : ℕ) (xs : List ℕ) → ((s : ℕ) → occurs s xs ≤ 1) → map (place_from k xs) xs ≡ up_from k (length xs)
unfolding occurs place_from up_from
places_up k [] once = refl
places_up k (x ∷ xs) once =
    let own = eq-eqb x x refl in
    let one = once x in
    let no_other : occurs x xs ≡ 0 = omega (arith, rw own at one) in
    let rest : (s : ℕ) → occurs s xs ≤ 1 = λ s. omega (arith, once s) in
    ap₂ ◌∷◌ (rw own) (places_behind k x xs xs no_other ∙ places_up (suc k) xs rest)

-- the place of a number among them is the number
pub up_place : (k n s : ℕ) → k ≤ s → s < k + n → place_from k (up_from k n) s ≡ s
unfolding place_from up_from
up_place k zero s l m = absurd (omega arith)
up_place k (suc n) s l m = go (eqb k s) refl (up_place (suc k) n s)
  where
    go : (b : Bool) → eqb k s ≡ b → (suc k ≤ s → s < suc k + n → place_from (suc k) (up_from (suc k) n) s ≡ s)
        → (if b then k else place_from (suc k) (up_from (suc k) n) s) ≡ s
    go true d rest = eqb-true k s d
    go false d rest = let ne = eqb-false k s d in rest (omega (arith, ne)) (omega arith)

up_none : (k n s : ℕ) → s < k → occurs s (up_from k n) ≡ 0
unfolding occurs up_from
up_none k zero s l = refl
up_none k (suc n) s l = let e = ne_eqb k s (λ q. omega arith) in rw e (omega (arith, up_none (suc k) n s (omega arith)))

-- so all up to n keep their numbers
pub up_keeps : (n s : ℕ) → s ≤ n → place_from 1 (up_from 1 n) s ≡ s
up_keeps n zero l = place_none 0 1 (up_from 1 n) (up_none 1 n 0 (omega arith))
up_keeps n (suc s) l = up_place 1 n (suc s) (omega arith) (omega arith)

-- ---- as many as rows

-- how often each of n numbers from k on stands there, in all
sum_from : ℕ → ℕ → List ℕ → ℕ
sum_from k zero xs = 0
sum_from k (suc n) xs = occurs k xs + sum_from (suc k) n xs

sum_nothing : (k n : ℕ) → sum_from k n [] ≡ 0
unfolding sum_from occurs
sum_nothing k zero = refl
sum_nothing k (suc n) = omega (arith, sum_nothing (suc k) n)

-- a number among them counts once
tests : ℕ → ℕ → ℕ → ℕ
tests k zero x = 0
tests k (suc n) x = one_if (eqb x k) + tests (suc k) n x

tests_none : (k n x : ℕ) → x < k → tests k n x ≡ 0
unfolding tests
tests_none k zero x l = refl
tests_none k (suc n) x l = let e = ne_eqb x k (λ q. omega arith) in rw e (omega (arith, tests_none (suc k) n x (omega arith)))

tests_one : (k n x : ℕ) → k ≤ x → x < k + n → tests k n x ≡ 1
unfolding tests
tests_one k zero x l m = absurd (omega arith)
tests_one k (suc n) x l m = go (eqb x k) refl (tests_one (suc k) n x)
  where
    go : (b : Bool) → eqb x k ≡ b → (suc k ≤ x → x < suc k + n → tests (suc k) n x ≡ 1) → one_if b + tests (suc k) n x ≡ 1
    go true e rest = let is = eqb-true x k e in omega (arith, tests_none (suc k) n x (omega arith))
    go false e rest = let ne = eqb-false x k e in omega (arith, rest (omega (arith, ne)) (omega arith))

sum_more : (k n x : ℕ) (xs : List ℕ) → sum_from k n (x ∷ xs) ≡ tests k n x + sum_from k n xs
unfolding sum_from tests occurs
sum_more k zero x xs = refl
sum_more k (suc n) x xs = omega (arith, sum_more (suc k) n x xs)

sum_all : (n : ℕ) (xs : List ℕ) → All (λ x. is_row n x ≡ true) xs → sum_from 1 n xs ≡ length xs
sum_all n [] p = sum_nothing 1 n
sum_all n (x ∷ xs) p =
    let low = leb-true 1 x (and_left (leb 1 x) (leb x n) p.0) in
    let high = leb-true x n (and_right (leb 1 x) (leb x n) p.0) in
    omega (arith, sum_more 1 n x xs, tests_one 1 n x (omega arith) (omega arith), sum_all n xs p.1)

sum_once : (k n : ℕ) (xs : List ℕ) → ((s : ℕ) → k ≤ s → s < k + n → occurs s xs ≡ 1) → sum_from k n xs ≡ n
unfolding sum_from
sum_once k zero xs once = refl
sum_once k (suc n) xs once =
    omega (arith, once k (omega arith) (omega arith), sum_once (suc k) n xs (λ s l m. once s (omega arith) (omega arith)))

-- a number that stands in a list is a row, if none but rows does
pub rows_only : (n : ℕ) (xs : List ℕ) → ((s : ℕ) → is_row n s ≡ false → occurs s xs ≡ 0) → All (λ x. is_row n x ≡ true) xs
unfolding occurs
rows_only n [] others = tt
rows_only n (x ∷ xs) others = (go (is_row n x) refl, rows_only n xs (λ s e. omega (arith, others s e)))
  where
    go : (b : Bool) → is_row n x ≡ b → b ≡ true
    go true e = refl
    go false e = let own = eq-eqb x x refl in absurd (omega (arith, rw own at (others x e)))

-- IF EACH ROW STANDS ONCE IN A LIST, and nothing else does, it is as long as there are rows.
pub once_each : (n : ℕ) (xs : List ℕ) → ((s : ℕ) → occurs s xs ≡ one_if (is_row n s)) → length xs ≡ n
once_each n xs each =
    let others : (s : ℕ) → is_row n s ≡ false → occurs s xs ≡ 0 = λ s e. each s ∙ ap one_if e in
    let rows : (s : ℕ) → 1 ≤ s → s < 1 + n → occurs s xs ≡ 1 =
    λ s l m. each s ∙ ap one_if (ap₂ ◌&&◌ (le-leb 1 s l) (le-leb s n (omega arith))) in
    sym (sum_all n xs (rows_only n xs others)) ∙ sum_once 1 n xs rows
