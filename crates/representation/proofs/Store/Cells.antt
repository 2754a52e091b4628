-- Tables of rows, all as long: what holds whatever the rows are.
-- Assumes nothing.
use Rattle.std.specs.Prelude.{if◌then◌else◌, ◌≡◌, refl, Bool, true, false, List, [], ◌∷◌, ◌++◌, ℕ, zero, suc, ◌+◌, ◌*◌, ◌-◌, length, get_or, set, eqb, leb}
use Rattle.std.proofs.Common.{sym, ap, arith, get_or-append-add, ne_eqb, le-leb}
use Rattle.std.proofs.Math.Dec.{leb-suc-suc}
use Rattle.std.proofs.lemmas.Bool.{lt-leb}
use Rattle.meaning.specs.Scoping.{row_at, set_row}
use Rattle.spec_laws.specs.Bools.{one_less as by_one}

-- How rows are laid out: `w` numbers to a row, by the row and a state that goes along, and free numbers behind the rows.
pub record Layout (X A : Type 0) : Type 0 where
  pub w : ℕ
  pub cells : List X → A → List ℕ → List ℕ
  pub row : X → A → List ℕ
  pub next : A → A
  pub long : (x : X) (a : A) → length (row x a) ≡ w
  pub last : (a : A) (z : List ℕ) → cells [] a z ≡ z
  pub more : (x : X) (xs : List X) (a : A) (z : List ℕ) → cells (x ∷ xs) a z ≡ row x a ++ cells xs (next a) z

-- a number of one of the first n rows, by 1, and its change
abbrev pub number : ℕ → List ℕ → ℕ → ℕ → ℕ → ℕ
number w t n s f = if eqb s 0 then 0 else if leb s n then get_or t ((s - 1) * w + f) 0 else 0

abbrev pub put : ℕ → List ℕ → ℕ → ℕ → ℕ → ℕ → List ℕ
put w t n s f v = if eqb s 0 then t else if leb s n then set t ((s - 1) * w + f) v else t

-- ---- behind a row

set_append_add : (r t : List ℕ) (n v : ℕ) → set (r ++ t) (length r + n) v ≡ r ++ set t n v
set_append_add [] t n v = let e : 0 + n ≡ n = omega arith in rw e
set_append_add (x ∷ r) t n v =
    let e : suc (length r) + n ≡ suc (length r + n) = omega arith in
    rw e (ap (λ (l : List ℕ). x ∷ l) (set_append_add r t n v))

module _ (w : ℕ) (r t : List ℕ) (long : length r ≡ w) where
  further : (i f : ℕ) → suc i * w + f ≡ length r + (i * w + f)
  further i f = rw long (omega arith)

  pub get_next : (i f : ℕ) → get_or (r ++ t) (suc i * w + f) 0 ≡ get_or t (i * w + f) 0
  get_next i f = rw (further i f) (get_or-append-add r t (i * w + f) 0)

  set_next : (i f v : ℕ) → set (r ++ t) (suc i * w + f) v ≡ r ++ set t (i * w + f) v
  set_next i f v = rw (further i f) (set_append_add r t (i * w + f) v)

-- ---- numbers of rows

first : (w f : ℕ) → 0 * w + f ≡ f
first w f = omega arith

either_++ : (b : Bool) (r s t : List ℕ) → (if b then r ++ s else (r ++ t)) ≡ r ++ (if b then s else t)
either_++ true r s t = refl
either_++ false r s t = refl

module _ {X A : Type 0} (L : Layout X A) (d : X) (f : ℕ) where
  module _ (num : X → ℕ) (none : num d ≡ 0)
      (cell : (x : X) (a : A) (t : List ℕ) → get_or (L.row x a ++ t) f 0 ≡ num x) where
    number_from : (xs : List X) (a : A) (z : List ℕ) (i : ℕ)
        → (if leb (suc i) (length xs) then get_or (L.cells xs a z) (i * L.w + f) 0 else 0) ≡ num (get_or xs i d)
    number_from [] a z i = rw (lt-leb (suc i) 0 (omega arith)) (sym none)
    number_from (x ∷ xs) a z zero =
        rw (le-leb 1 (suc (length xs)) (omega arith), L.more x xs a z, first L.w f) (cell x a (L.cells xs (L.next a) z))
    number_from (x ∷ xs) a z (suc i) =
        let t = L.cells xs (L.next a) z in
        rw (leb-suc-suc (suc i) (length xs), L.more x xs a z, get_next L.w (L.row x a) t (L.long x a) i f)
        (number_from xs (L.next a) z i)

    pub number_is : (xs : List X) (a : A) (z : List ℕ) (s : ℕ)
        → number L.w (L.cells xs a z) (length xs) s f ≡ num (row_at d xs s)
    number_is xs a z zero = sym none
    number_is xs a z (suc i) = rw (ne_eqb (suc i) 0 (λ q. omega (arith, q)), by_one i) (number_from xs a z i)

  module _ (v : ℕ) (g : X → X) (cell : (x : X) (a : A) (t : List ℕ) → set (L.row x a ++ t) f v ≡ L.row (g x) a ++ t) where
    put_from : (xs : List X) (a : A) (z : List ℕ) (i : ℕ)
        → (if leb (suc i) (length xs) then set (L.cells xs a z) (i * L.w + f) v else L.cells xs a z)
        ≡ L.cells (set xs i (g (get_or xs i d))) a z
    put_from [] a z i = rw (lt-leb (suc i) 0 (omega arith))
    put_from (x ∷ xs) a z zero =
        rw (le-leb 1 (suc (length xs)) (omega arith), L.more x xs a z, first L.w f, L.more (g x) xs a z)
        (cell x a (L.cells xs (L.next a) z))
    put_from (x ∷ xs) a z (suc i) =
        let t = L.cells xs (L.next a) z in
        let b = leb (suc i) (length xs) in
        rw (
          leb-suc-suc (suc i) (length xs),
          L.more x xs a z,
          set_next L.w (L.row x a) t (L.long x a) i f v,
          either_++ b (L.row x a) (set t (i * L.w + f) v) t,
          L.more x (set xs i (g (get_or xs i d))) a z,
        )
        (ap (λ (l : List ℕ). L.row x a ++ l) (put_from xs (L.next a) z i))

    pub put_is : (xs : List X) (a : A) (z : List ℕ) (s : ℕ)
        → put L.w (L.cells xs a z) (length xs) s f v ≡ L.cells (set_row xs s (g (row_at d xs s))) a z
    put_is xs a z zero = refl
    put_is xs a z (suc i) = rw (ne_eqb (suc i) 0 (λ q. omega (arith, q)), by_one i) (put_from xs a z i)

-- ---- a number behind the rows

pub set_behind : {X A : Type 0} (L : Layout X A) (xs : List X) (a : A) (z : List ℕ) (f v : ℕ)
    → set (L.cells xs a z) (length xs * L.w + f) v ≡ L.cells xs a (set z f v)
set_behind L [] a z f v = rw (L.last a z, first L.w f, L.last a (set z f v))
set_behind L (x ∷ xs) a z f v =
    let t = L.cells xs (L.next a) z in
    rw (L.more x xs a z, set_next L.w (L.row x a) t (L.long x a) (length xs) f v, L.more x xs a (set z f v))
    (ap (λ (l : List ℕ). L.row x a ++ l) (set_behind L xs (L.next a) z f v))

-- ---- all rows

module _ {X A : Type 0} (L : Layout X A) (at : List ℕ → ℕ → X) (rows : List ℕ → ℕ → ℕ → List X)
    (last : (t : List ℕ) (i : ℕ) → rows t 0 i ≡ [])
    (more : (t : List ℕ) (n i : ℕ) → rows t (suc n) i ≡ at t i ∷ rows t n (suc i))
    (later : (r t : List ℕ) (i : ℕ) → length r ≡ L.w → at (r ++ t) (suc i) ≡ at t i) where
  pub rows_next : (r t : List ℕ) (n i : ℕ) → length r ≡ L.w → rows (r ++ t) n (suc i) ≡ rows t n i
  rows_next r t zero i long = rw (last (r ++ t) (suc i), last t i)
  rows_next r t (suc n) i long = rw (more (r ++ t) n (suc i), more t n i, later r t i long, rows_next r t n (suc i) long)

  pub rows_are : ((x : X) (a : A) (t : List ℕ) → at (L.row x a ++ t) 0 ≡ x)
      → (xs : List X) (a : A) (z : List ℕ) → rows (L.cells xs a z) (length xs) 0 ≡ xs
  rows_are cell [] a z = last (L.cells [] a z) 0
  rows_are cell (x ∷ xs) a z =
      let t = L.cells xs (L.next a) z in
      rw (L.more x xs a z, more (L.row x a ++ t) (length xs) 0, cell x a t, rows_next (L.row x a) t (length xs) 0 (L.long x a))
      (ap (λ (l : List X). x ∷ l) (rows_are cell xs (L.next a) z))
