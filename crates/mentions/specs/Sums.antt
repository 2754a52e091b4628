-- What counters come to when records are added to them and taken off: how often these name each symbol.
-- Assumes nothing.
use Rattle.std.specs.Prelude.{if◌then◌else◌, ◌≡◌, Bool, ℕ, zero, suc, ◌+◌, ◌*◌, ◌-◌, ◌≤◌, ◌<◌, eqb, length, get_or, set, replicate}
use Rattle.std.proofs.Math.Path.{refl}
use Rattle.std.proofs.Common.{ap, ap₂, ◌∙◌, length-set, get_or-set_same, get_or-set_other}
use Rattle.std.proofs.Math.Bool.{true, false}
use mathlib.Core.List.{List, [], ◌∷◌, ◌++◌}
use native.Mathlib.Omega.{arith}
use Rattle.std.proofs.lemmas.List.{length-replicate}
use borrow.Author.Tests.{eqb-true, eqb-false, ne_eqb}
use Rattle.meaning.specs.Tree.{Head, Forest, none, more, size}
use Rattle.meaning.specs.Mentions.{first_named, second_named, named, mentions}
use Rattle.tables.specs.Table.{capped, largest}
use Rattle.mentions.specs.Counters.{add_f, take_f, add_record_f, take_record_f}

-- ---- records in a list

-- those of a tree in file order
unfoldable pub heads_of : Forest → List Head
heads_of none = []
heads_of (more h k r) = h ∷ (heads_of k ++ heads_of r)

-- how often they name a symbol
unfoldable pub named_by : ℕ → List Head → ℕ
named_by y [] = 0
named_by y (h ∷ hs) = named y h + named_by y hs

pub named_++ : (y : ℕ) (xs ys : List Head) → named_by y (xs ++ ys) ≡ named_by y xs + named_by y ys
unfolding named_by
named_++ y [] ys = omega arith
named_++ y (x ∷ xs) ys = omega (arith, named_++ y xs ys)

pub named_heads : (y : ℕ) (f : Forest) → named_by y (heads_of f) ≡ mentions y f
unfolding heads_of named_by mentions
named_heads y none = refl
named_heads y (more h k r) = omega (arith, named_++ y (heads_of k) (heads_of r), named_heads y k, named_heads y r)

-- one after the other, by what each does to the counters
unfoldable pub all : (List ℕ → Head → List ℕ) → List ℕ → List Head → List ℕ
all one t [] = t
all one t (h ∷ hs) = all one (one t h) hs

pub all_++ : (one : List ℕ → Head → List ℕ) (t : List ℕ) (xs ys : List Head) → all one t (xs ++ ys) ≡ all one (all one t xs) ys
unfolding all
all_++ one t [] ys = refl
all_++ one t (x ∷ xs) ys = all_++ one (one t x) xs ys

-- ---- no counter is made

if_length : (b : Bool) (t : List ℕ) (i v : ℕ) → length (if b then t else set t i v) ≡ length t
if_length true t i v = refl
if_length false t i v = length-set t i v

add_length : (t : List ℕ) (y : ℕ) → length (add_f t y) ≡ length t
unfolding add_f
add_length t y = if_length (eqb y 0) t (y - 1) (capped (get_or t (y - 1) 0) 1)

take-length : (t : List ℕ) (y : ℕ) → length (take_f t y) ≡ length t
unfolding take_f
take-length t y = if_length (eqb y 0) t (y - 1) (get_or t (y - 1) 0 - 1)

-- what a record does keeps their number
abbrev pub SameLength : (List ℕ → Head → List ℕ) → Type 0
SameLength one = (t : List ℕ) (h : Head) → length (one t h) ≡ length t

pub record_added : SameLength add_record_f
unfolding add_record_f
record_added t h = add_length (add_f t (first_named h)) (second_named h) ∙ add_length t (first_named h)

pub record_taken : SameLength take_record_f
unfolding take_record_f
record_taken t h = take-length (take_f t (first_named h)) (second_named h) ∙ take-length t (first_named h)

pub all_length : (one : List ℕ → Head → List ℕ) → SameLength one → (t : List ℕ) (hs : List Head) → length (all one t hs) ≡ length t
unfolding all
all_length one same t [] = refl
all_length one same t (h ∷ hs) = all_length one same (one t h) hs ∙ same t h

-- ---- one counter

abbrev one_if : Bool → ℕ
one_if b = if b then 1 else 0

-- the counter of symbol row y
abbrev pub counter : List ℕ → ℕ → ℕ
counter t y = get_or t (y - 1) 0

cap_none : (x : ℕ) → x ≤ largest → x ≡ capped x 0
cap_none x h = omega arith

-- capping early or late comes to the same
cap_sum : (x a b u v : ℕ) → u ≡ capped x a → v ≡ capped u b → v ≡ capped x (a + b)
cap_sum x a b u v e d = omega arith

-- a sum that fits is whole
pub whole_sum : (x y b u m : ℕ) → y ≡ x → u ≡ capped y b → m ≡ x + b → m ≤ largest → u ≡ m
whole_sum x y b u m e d s h = omega arith

cap_most : (x a u : ℕ) → u ≡ capped x a → u ≤ largest
cap_most x a u e = omega arith

module _ (y : ℕ) (some : 1 ≤ y) where
  -- ---- a mention more

  add_some : (t : List ℕ) (n : ℕ) (is : Bool) → y ≤ length t → counter t y ≤ largest → eqb n y ≡ is → (n ≡ 0 → ⊥)
      → counter (set t (n - 1) (capped (counter t n) 1)) y ≡ capped (counter t y) (one_if is)
  add_some t n true in_table fits e h =
      let d : n ≡ y = eqb-true n y e in
      rw d (get_or-set_same t (y - 1) (capped (counter t y) 1) 0 (omega arith))
  add_some t n false in_table fits e h =
      get_or-set_other t (n - 1) (y - 1) (capped (counter t n) 1) 0 (λ d. eqb-false n y e (omega arith))
      ∙ cap_none (counter t y) fits

  add_at : (t : List ℕ) (n : ℕ) (zero_is : Bool) → y ≤ length t → counter t y ≤ largest → eqb n 0 ≡ zero_is
      → counter (add_f t n) y ≡ capped (counter t y) (one_if (eqb n y))
  unfolding add_f
  add_at t n true in_table fits e =
      let d : n ≡ 0 = eqb-true n 0 e in
      rw (d, ne_eqb 0 y (λ q. omega arith)) (cap_none (counter t y) fits)
  add_at t n false in_table fits e = rw e (add_some t n (eqb n y) in_table fits refl (eqb-false n 0 e))

  record_added_at : (t : List ℕ) (h : Head) → y ≤ length t → counter t y ≤ largest
      → counter (add_record_f t h) y ≡ capped (counter t y) (named y h)
  unfolding add_record_f named
  record_added_at t h in_table fits =
      let first = add_at t (first_named h) (eqb (first_named h) 0) in_table fits refl in
      let t₁ = add_f t (first_named h) in
      let second =
      add_at t₁ (second_named h) (eqb (second_named h) 0) (omega (arith, add_length t (first_named h))) (cap_most _ _ _ first) refl in
      cap_sum _ _ _ _ _ first second

  -- RECORDS ADDED: the counter of a symbol row counts their mentions of it, up to the largest number.
  pub added_at : (t : List ℕ) (hs : List Head) → y ≤ length t → counter t y ≤ largest
      → counter (all add_record_f t hs) y ≡ capped (counter t y) (named_by y hs)
  unfolding all named_by
  added_at t [] in_table fits = cap_none (counter t y) fits
  added_at t (h ∷ hs) in_table fits =
      let own = record_added_at t h in_table fits in
      cap_sum _ _ _ _ _ own (added_at (add_record_f t h) hs (omega (arith, record_added t h)) (cap_most _ _ _ own))

  -- ---- a mention less

  take_some : (t : List ℕ) (n : ℕ) (is : Bool) → y ≤ length t → eqb n y ≡ is → (n ≡ 0 → ⊥)
      → counter (set t (n - 1) (counter t n - 1)) y ≡ counter t y - one_if is
  take_some t n true in_table e h =
      let d : n ≡ y = eqb-true n y e in
      rw d (get_or-set_same t (y - 1) (counter t y - 1) 0 (omega arith))
  take_some t n false in_table e h =
      get_or-set_other t (n - 1) (y - 1) (counter t n - 1) 0 (λ d. eqb-false n y e (omega arith)) ∙ omega arith

  take_at : (t : List ℕ) (n : ℕ) (zero_is : Bool) → y ≤ length t → eqb n 0 ≡ zero_is → counter (take_f t n) y ≡ counter t y - one_if (eqb n y)
  unfolding take_f
  take_at t n true in_table e =
      let d : n ≡ 0 = eqb-true n 0 e in
      rw (d, ne_eqb 0 y (λ q. omega arith)) (omega arith)
  take_at t n false in_table e = rw e (take_some t n (eqb n y) in_table refl (eqb-false n 0 e))

  record_taken_at : (t : List ℕ) (h : Head) → y ≤ length t → counter (take_record_f t h) y ≡ counter t y - named y h
  unfolding take_record_f named
  record_taken_at t h in_table =
      let first = take_at t (first_named h) (eqb (first_named h) 0) in_table refl in
      let t₁ = take_f t (first_named h) in
      let second = take_at t₁ (second_named h) (eqb (second_named h) 0) (omega (arith, take-length t (first_named h))) refl in
      omega (arith, first, second)

  -- RECORDS TAKEN OFF: it is less by their mentions.
  pub taken_at : (t : List ℕ) (hs : List Head) → y ≤ length t → counter (all take_record_f t hs) y ≡ counter t y - named_by y hs
  unfolding all named_by
  taken_at t [] in_table = omega arith
  taken_at t (h ∷ hs) in_table =
      omega (arith, record_taken_at t h in_table, taken_at (take_record_f t h) hs (omega (arith, record_taken t h)))

-- ---- how many mentions there can be: two a record

one_most : (b : Bool) → one_if b ≤ 1
one_most true = omega arith
one_most false = omega arith

named_most : (y : ℕ) (h : Head) → named y h ≤ 2
unfolding named
named_most y h = omega (arith, one_most (eqb (first_named h) y), one_most (eqb (second_named h) y))

pub two_a_record : (y : ℕ) (f : Forest) → mentions y f ≤ 2 * size f
unfolding mentions size
two_a_record y none = omega arith
two_a_record y (more h k r) = omega (arith, named_most y h, two_a_record y k, two_a_record y r)

-- ---- counters that are known

-- n counters, from symbol row y on
unfoldable pub counts_from : (ℕ → ℕ) → ℕ → ℕ → List ℕ
counts_from count zero y = []
counts_from count (suc n) y = count y ∷ counts_from count n (suc y)

-- a list whose numbers are known
from_known : (count : ℕ → ℕ) (n y : ℕ) (t : List ℕ) → length t ≡ n → ((i : ℕ) → i < n → get_or t i 0 ≡ count (y + i)) → t ≡ counts_from count n y
unfolding counts_from
from_known count zero y [] e known = refl
from_known count zero y (x ∷ t) e known = absurd (omega arith)
from_known count (suc n) y [] e known = absurd (omega arith)
from_known count (suc n) y (x ∷ t) e known =
    let z : y + 0 ≡ y = omega arith in
    ap₂ ◌∷◌ (rw z at (known 0 (omega arith)))
    (from_known count n (suc y) t (omega arith) (λ i l. let s : suc y + i ≡ y + suc i = omega arith in rw s (known (suc i) (omega arith))))

-- COUNTERS ARE KNOWN by each of them.
pub known_counts : (count : ℕ → ℕ) (n : ℕ) (t : List ℕ) → length t ≡ n → ((y : ℕ) → 1 ≤ y → y ≤ n → counter t y ≡ count y)
    → t ≡ counts_from count n 1
known_counts count n t e known =
    from_known count n 1 t e
    (λ i l. let d : 1 + i - 1 ≡ i = omega arith in rw d at (known (1 + i) (omega arith) (omega arith)))

-- and the other way
pub from_at : (count : ℕ → ℕ) (n y i : ℕ) → i < n → get_or (counts_from count n y) i 0 ≡ count (y + i)
unfolding counts_from
from_at count zero y i l = absurd (omega arith)
from_at count (suc n) y zero l = let z : y + 0 ≡ y = omega arith in rw z
from_at count (suc n) y (suc i) l = let s : suc y + i ≡ y + suc i = omega arith in rw (← s) (from_at count n (suc y) i (omega arith))

pub count_at : (count : ℕ → ℕ) (n y : ℕ) → 1 ≤ y → y ≤ n → counter (counts_from count n 1) y ≡ count y
count_at count n y some in_table =
    let d : 1 + (y - 1) ≡ y = omega arith in
    from_at count n 1 (y - 1) (omega arith) ∙ ap count d

pub counts_length : (count : ℕ → ℕ) (n y : ℕ) → length (counts_from count n y) ≡ n
unfolding counts_from
counts_length count zero y = refl
counts_length count (suc n) y = ap suc (counts_length count n (suc y))

-- ---- from 0 on

zero_at : (n i : ℕ) → get_or {A = ℕ} (replicate {A = ℕ} n 0) i 0 ≡ 0
zero_at zero i = refl
zero_at (suc n) zero = refl
zero_at (suc n) (suc i) = zero_at n i

-- THE RECORDS OF A TREE, ADDED TO NONE, come to its mentions.
pub counted_tree : (f : Forest) (n : ℕ) → ((y : ℕ) → 1 ≤ y → mentions y f ≤ largest)
    → all add_record_f (replicate n 0) (heads_of f) ≡ counts_from (λ y. mentions y f) n 1
counted_tree f n fits =
    let zeros = replicate {A = ℕ} n 0 in
    known_counts (λ y. mentions y f) n (all add_record_f zeros (heads_of f))
    (all_length add_record_f record_added zeros (heads_of f) ∙ length-replicate n 0)
    (λ y some in_table.
    let added = added_at y some zeros (heads_of f) (omega (arith, length-replicate {A = ℕ} n 0)) (omega (arith, zero_at n (y - 1))) in
    whole_sum 0 (counter zeros y) _ _ _ (zero_at n (y - 1)) added (omega (arith, named_heads y f)) (fits y some))
