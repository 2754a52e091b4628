-- NUMBERS GIVEN ROW BY ROW are the places in the order of names.
-- Assumes nothing.
use Rattle.std.specs.Prelude.{if◌then◌else◌, ◌≡◌, Bool, leb, length, replicate}
use Rattle.std.proofs.Math.Path.{refl, sym}
use Rattle.std.proofs.Common.{ap, ◌∙◌, arith, length-set}
use Rattle.std.proofs.Math.Bool.{true, false}
use mathlib.Core.List.{List, [], ◌∷◌, ◌++◌}
use Prim.Native.Nat.{ℕ, zero, suc, ◌+◌, ◌-◌, ◌≤◌, ◌<◌}
use Rattle.std.proofs.Math.Dec.{eqb}
use Rattle.std.proofs.Math.ListN.{get_or, set, length-replicate, get_or-replicate, get_or-eq_default}
use Rattle.std.proofs.Math.Seq.{get_or-set_same, get_or-set_other}
use borrow.Author.Tests.{eqb-true, eqb-false, ne_eqb, leb-true, leb-false}
use Rattle.meaning.specs.Tree.{Head}
use Rattle.meaning.specs.Grammar.{scope_of}
use Rattle.meaning.specs.Renumbering.{scope_named, place_from, new_number}
use Rattle.renumbering.specs.Numbers.{number_in, number_f, numbers_f}

-- ---- one scope is numbered

number_length : (t : List ℕ) (x v : ℕ) → length (number_f t x v) ≡ length t
unfolding number_f
number_length t x v = go (eqb x 0) (eqb (get_or t (x - 1) 0) 0)
  where
    go : (b c : Bool) → length (if b then t else if c then set t (x - 1) v else t) ≡ length t
    go true c = refl
    go false true = length-set t (x - 1) v
    go false false = refl

-- a number that is given, by the one that there was
abbrev or_else : ℕ → ℕ → ℕ
or_else old v = if eqb old 0 then v else old

none_else : (m : ℕ) → m ≡ or_else m 0
none_else m = go (eqb m 0) refl
  where
    go : (b : Bool) → eqb m 0 ≡ b → m ≡ (if b then 0 else m)
    go true e = eqb-true m 0 e
    go false e = refl

-- what has a number keeps it
else_settled : (m v w : ℕ) → 1 ≤ v → or_else (or_else m v) w ≡ or_else m v
else_settled m v w l = go (eqb m 0) refl
  where
    go : (b : Bool) → eqb m 0 ≡ b → or_else (if b then v else m) w ≡ (if b then v else m)
    go true e = let d = ne_eqb v 0 (λ q. omega arith) in rw d
    go false e = rw e

module _ (s : ℕ) (some : 1 ≤ s) where
  there_is : eqb s 0 ≡ false
  there_is = ne_eqb s 0 (λ e. omega arith)

  number_own : (t : List ℕ) (v : ℕ) → s ≤ length t → number_in (number_f t s v) s ≡ or_else (number_in t s) v
  unfolding number_in number_f
  number_own t v in_table = rw there_is (go (eqb (get_or t (s - 1) 0) 0) refl)
    where
      go : (b : Bool) → eqb (get_or t (s - 1) 0) 0 ≡ b
          → get_or (if b then set t (s - 1) v else t) (s - 1) 0 ≡ (if b then v else get_or t (s - 1) 0)
      go true e = get_or-set_same t (s - 1) v 0 (omega arith)
      go false e = refl

  number_other : (t : List ℕ) (x v : ℕ) → eqb x s ≡ false → number_in (number_f t x v) s ≡ number_in t s
  unfolding number_in number_f
  number_other t x v e = rw there_is (go (eqb x 0) (eqb (get_or t (x - 1) 0) 0) refl)
    where
      go : (b c : Bool) → eqb x 0 ≡ b → get_or (if b then t else if c then set t (x - 1) v else t) (s - 1) 0 ≡ get_or t (s - 1) 0
      go true c d = refl
      go false true d =
          let some_x = eqb-false x 0 d in
          let differ = eqb-false x s e in
          get_or-set_other t (x - 1) (s - 1) v 0 (λ q. differ (omega (arith, some_x)))
      go false false d = refl

  -- the next scope's number, by whether it is this one
  next_number : (t : List ℕ) (x v w : ℕ) (b : Bool) → s ≤ length t → 1 ≤ v → eqb x s ≡ b
      → or_else (number_in (number_f t x v) s) w ≡ or_else (number_in t s) (if b then v else w)
  next_number t x v w true in_table l e =
      ap (λ (m : ℕ). or_else m w) (ap (λ (y : ℕ). number_in (number_f t y v) s) (eqb-true x s e) ∙ number_own t v in_table)
      ∙ else_settled (number_in t s) v w l
  next_number t x v w false in_table l e = ap (λ (m : ℕ). or_else m w) (number_other t x v e)

  -- ---- all are numbered

  -- the number of a scope, from v on: the one that it had, or its first place
  numbers_at : (order : List ℕ) (v : ℕ) (t : List ℕ) → s ≤ length t → 1 ≤ v
      → number_in (numbers_f v order t) s ≡ or_else (number_in t s) (place_from v order s)
  unfolding numbers_f place_from
  numbers_at [] v t in_table l = none_else (number_in t s)
  numbers_at (x ∷ xs) v t in_table l =
      numbers_at xs (suc v) (number_f t x v) (omega (arith, number_length t x v)) (omega arith)
      ∙ next_number t x v (place_from (suc v) xs s) (eqb x s) in_table l refl

pub numbers_length : (order : List ℕ) (v : ℕ) (t : List ℕ) → length (numbers_f v order t) ≡ length t
unfolding numbers_f
numbers_length [] v t = refl
numbers_length (x ∷ xs) v t = numbers_length xs (suc v) (number_f t x v) ∙ number_length t x v

-- ALL NUMBERS. In a column of n zeros, if no scope behind row n is named, each scope has its place in the order of names.
module _ (order : List ℕ) (n : ℕ) (no_zero : new_number order 0 ≡ 0) (no_more : (s : ℕ) → n < s → new_number order s ≡ 0) where
  abbrev column : List ℕ
  column = numbers_f 1 order (replicate n 0)

  in_column : (s : ℕ) → 1 ≤ s → s ≤ n → number_in column s ≡ new_number order s
  unfolding number_in
  in_column s some few =
      let e = there_is s some in
      let z = get_or-replicate {A = ℕ} n (s - 1) 0 0 (omega arith) in
      numbers_at s some order 1 (replicate n 0) (omega (arith, length-replicate {A = ℕ} n 0)) (omega arith) ∙ rw (e, z)

  behind_column : (s : ℕ) → n < s → number_in column s ≡ 0
  unfolding number_in
  behind_column s l =
      let e = there_is s (omega arith) in
      rw e (get_or-eq_default column 0 (omega (arith, numbers_length order 1 (replicate n 0), length-replicate {A = ℕ} n 0)))

  by_place : (j : ℕ) (b : Bool) → leb (suc j) n ≡ b → number_in column (suc j) ≡ new_number order (suc j)
  by_place j true e = in_column (suc j) (omega arith) (leb-true (suc j) n e)
  by_place j false e = let l = leb-false (suc j) n e in behind_column (suc j) (omega arith) ∙ sym (no_more (suc j) (omega arith))

  each_number : (s : ℕ) → number_in column s ≡ new_number order s
  unfolding number_in
  each_number zero = sym no_zero
  each_number (suc j) = by_place j (leb (suc j) n) refl

  pub numbers_are : number_in column ≡ new_number order
  numbers_are = λ i s. each_number s i

-- ---- numbers for some scopes, and for others behind them

pub numbers_++ : (xs ys : List ℕ) (v : ℕ) (t : List ℕ) → numbers_f v (xs ++ ys) t ≡ numbers_f (v + length xs) ys (numbers_f v xs t)
unfolding numbers_f
numbers_++ [] ys v t = let e : v + 0 ≡ v = omega arith in rw e
numbers_++ (x ∷ xs) ys v t =
    let e : v + suc (length xs) ≡ suc v + length xs = omega arith in
    rw e (numbers_++ xs ys (suc v) (number_f t x v))

-- a record names one scope at most
pub named_most : (h : Head) → length (scope_named h) ≤ 1
unfolding scope_named
named_most h = go (eqb (scope_of h) 0)
  where
    go : (b : Bool) → length (if b then [] else (scope_of h ∷ [])) ≤ 1
    go true = omega arith
    go false = omega arith
