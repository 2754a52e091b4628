-- The scope rows of an accepted file offer what its tree demands: reading marks the rows that are named, and at the end all are.
-- Assumes nothing.
use Rattle.std.specs.Prelude.{Ok, if◌then◌else◌, ◌≡◌, Bool, true, false, ◌||◌, ◌&&◌, length, get_or, set, replicate, eqb}
use Rattle.std.proofs.Math.Path.{refl}
use Rattle.std.proofs.Common.{◌∙◌, length-set}
use mathlib.Core.List.{List, [], ◌∷◌}
use Prim.Native.Nat.{ℕ, zero, suc, ◌+◌, ◌-◌, ◌≤◌, ◌<◌}
use native.Mathlib.Omega.{arith}
use Rattle.std.proofs.lemmas.List.{length-replicate}
use Rattle.std.proofs.Math.Dec.{leb}
use borrow.Author.Tests.{eqb-true, eqb-false, leb-true, not-true}
use Rattle.meaning.specs.Numbers.Form
use Rattle.meaning.specs.Tree.{Head, Forest}
use Rattle.meaning.specs.File.{File, numbers_of, has_children, own_numbers}
use Rattle.meaning.specs.Grammar.{
  is,
  form_fits,
  field_of,
  function_right,
  class_right,
  right,
  head_of,
  scope_of,
  parent_in,
  may_name,
  naming,
  unnamed,
}
use Rattle.meaning.specs.Agreement.{names_scope}
use Rattle.meaning.specs.Reading.{scopes_in, read_file}
use Rattle.meaning.specs.declared.Place.{Place}
use Rattle.meaning.specs.declared.Place.TheVariants.{DefaultExport}
use Rattle.meaning.specs.declared.Field.{Field}
use Rattle.spec_laws.specs.Tags.{Seen, other, here, there, seen, clash, and_left, and_right}
use Rattle.parsing.specs.Parsed.{RecordAt, Parsed, parsed_none, parsed_more}
use Rattle.parsing.specs.Files.{file_parsed}
use Rattle.agreement_laws.specs.Weights.{Weight, demanded, offered, Offers}
use Rattle.agreement_laws.specs.Demands.{scope_tags, no_scope_lem}

-- ---- a record read that names a row names one with a number

above_0 : (a : ℕ) → leb 1 a ≡ true → a ≡ 0 → ⊥
above_0 a e z = let l = leb-true 1 a e in omega arith

-- the second of four tests
second_test : (s t u v : Bool) → (s && t && u && v) ≡ true → t ≡ true
second_test s t u v e = and_right s t (and_left (s && t) u (and_left (s && t && u) v e))

module _ (p : Place) (syms : ℕ) where
  numbered : {t : ℕ} (a b c d next : ℕ) → Seen scope_tags t
      → let x : Field = record { tag = t; a = a; b = b; c = c; d = d; next = next } in
      right p syms x ≡ true → names_scope (head_of x) ≡ true → scope_of (head_of x) ≡ 0 → ⊥
  unfolding right function_right class_right head_of own_numbers has_children numbers_of names_scope scope_of
  numbered a b c d next here e n = λ z. let o = eqb-true a 1 e in omega arith
  numbered a b c d next (there e₁ here) e n = above_0 a e
  numbered a b c d next (there e₁ (there e₂ here)) e n = above_0 a (and_left (leb 1 a) (eqb b 3) e)
  numbered a b c d next (there e₁ (there e₂ (there e₇ here))) e n =
      above_0 a (and_left (leb 1 a) (leb b 1) (and_left (leb 1 a && leb b 1) (eqb c 3) e))
  numbered a b c d next (there e₁ (there e₂ (there e₇ (there e₈ here)))) e n = above_0 a (and_left (leb 1 a) (leb 1 b) e)
  numbered a b c d next (there e₁ (there e₂ (there e₇ (there e₈ (there e₉ here))))) e n = above_0 a (and_left (leb 1 a) (eqb d (b + 1)) e)
  numbered a b c d next (there e₁ (there e₂ (there e₇ (there e₈ (there e₉ (there e₁₂ here)))))) e n =
      above_0 b (second_test (form_fits p a) (leb 1 b) (leb c syms) (eqb d 2) e)
  numbered a b c d next (there e₁ (there e₂ (there e₇ (there e₈ (there e₉ (there e₁₂ (there e₁₃ here))))))) e n =
      above_0 b (second_test (form_fits p a) (leb 1 b) (leb c syms) (eqb a Form.Expression || leb 1 c || is p DefaultExport) e)
  numbered a b c d next (there e₁ (there e₂ (there e₇ (there e₈ (there e₉ (there e₁₂ (there e₁₃ (there e₁₅ here)))))))) e n = above_0 a e
  numbered a b c d next (there e₁ (there e₂ (there e₇ (there e₈ (there e₉ (there e₁₂ (there e₁₃ (there e₁₅ (there e₁₆ here))))))))) e n =
      eqb-false a 0 (not-true (eqb a 0) n)
  numbered a b c d next (there e₁ (there e₂ (there e₇ (there e₈ (there e₉ (there e₁₂ (there e₁₃ (there e₁₅ (there e₁₆ (there e₃ other)))))))))) e n =
      absurd (clash (rw (e₁, e₂, e₃, e₇, e₈, e₉, e₁₂, e₁₆, e₁₃, e₁₅)) n)

-- ---- marks

module _ (w : Weight) (f : List ℕ) where
  -- what the rows with a mark offer, numbered from i on
  marked : ℕ → List ℕ → ℕ
  marked i [] = 0
  marked i (m ∷ ms) = (if eqb m 0 then 0 else w i (parent_in f i)) + marked (suc i) ms

  marked_set : (ms : List ℕ) (i j : ℕ) → j < length ms → get_or ms j 0 ≡ 0
      → marked i (set ms j 1) ≡ marked i ms + w (i + j) (parent_in f (i + j))
  unfolding marked
  marked_set [] i j l z = absurd (omega arith)
  marked_set (m ∷ ms) i zero l z =
      let e : i + 0 ≡ i = omega arith in
      rw (e, z) (omega arith)
  marked_set (m ∷ ms) i (suc j) l z =
      let e : i + suc j ≡ suc i + j = omega arith in
      rw e (omega (arith, marked_set ms (suc i) j (omega arith) z))

  marked_none : (n i : ℕ) → marked i (replicate n 0) ≡ 0
  unfolding marked
  marked_none zero i = refl
  marked_none (suc n) i = omega (arith, marked_none n (suc i))

  all_if : (b : Bool) (u l i x y : ℕ) → suc l ≤ (if b then 0 else 1 + u) → (l ≤ u → x ≡ y)
      → (if b then 0 else w i (parent_in f i)) + x ≡ w i (parent_in f i) + y
  all_if true u l i x y e k = absurd (omega arith)
  all_if false u l i x y e k = omega (arith, k (omega arith))

  -- where all rows have one, what they offer
  marked_all : (ms : List ℕ) (i : ℕ) → length ms ≤ unnamed ms → marked i ms ≡ offered w i (scopes_in f (length ms) i)
  unfolding marked unnamed scopes_in offered
  marked_all [] i l = refl
  marked_all (m ∷ ms) i l = all_if (eqb m 0) (unnamed ms) (length ms) i _ _ l (marked_all ms (suc i))

-- ---- naming a row

name_length : (m : List ℕ) (s : ℕ) → length (naming m s) ≡ length m
unfolding naming
name_length m s = go (eqb s 0)
  where
    go : (b : Bool) → length (if b then m else set m (s - 1) 1) ≡ length m
    go true = refl
    go false = length-set m (s - 1) 1

named_by_lem : (b z : Bool) (w : Weight) (f : List ℕ) (cur : ℕ) (m : List ℕ) (s : ℕ) → eqb s 0 ≡ z → (b ≡ true → s ≡ 0 → ⊥) → (b ≡ false → z ≡ true)
    → (z || (leb s (length m) && eqb (parent_in f s) cur && eqb (get_or m (s - 1) 0) 0)) ≡ true
    → (if b then w s cur else 0) + marked w f 1 m ≡ marked w f 1 (if z then m else set m (s - 1) 1)
named_by_lem true true w f cur m s e n q t = absurd (n refl (eqb-true s 0 e))
named_by_lem true false w f cur m s e n q t =
    let t₁ = and_left (leb s (length m) && eqb (parent_in f s) cur) (eqb (get_or m (s - 1) 0) 0) t in
    let l = leb-true s (length m) (and_left (leb s (length m)) (eqb (parent_in f s) cur) t₁) in
    let c = eqb-true (parent_in f s) cur (and_right (leb s (length m)) (eqb (parent_in f s) cur) t₁) in
    let g = eqb-true (get_or m (s - 1) 0) 0 (and_right (leb s (length m) && eqb (parent_in f s) cur) (eqb (get_or m (s - 1) 0) 0) t) in
    let above = eqb-false s 0 e in
    let j : 1 + (s - 1) ≡ s = omega arith in
    omega (arith, rw (j, c) at (marked_set w f m 1 (s - 1) (omega arith) g))
named_by_lem false true w f cur m s e n q t = omega arith
named_by_lem false false w f cur m s e n q t = absurd (clash refl (q refl))

-- ---- records

module _ (f : List ℕ) (syms : ℕ) where
  record_marks : {p : Place} {cur at : ℕ} {m : List ℕ} {h : Head} {k : Forest} → RecordAt f syms p cur at m h k → (w : Weight)
      → (if names_scope h then w (scope_of h) cur else 0) + marked w f 1 m ≡ marked w f 1 (naming m (scope_of h))
  unfolding may_name naming
  record_marks {p} {cur} {at} {m} {h} y w =
      let x = field_of f at in
      let s = scope_of h in
      named_by_lem (names_scope h) (eqb s 0) w f cur m s refl
      (λ n. rw y.head (numbered p syms x.a x.b x.c x.d x.next (seen scope_tags x.tag) y.numbers (rw y.head at n)))
      (no_scope_lem h)
      y.scope

  -- what records demand are the marks that reading them sets
  parsed_marks : {place : ℕ → Place} {i cur at next : ℕ} {m o : List ℕ} {t : Forest} → Parsed f syms place i cur at m t next o
      → ((w : Weight) → demanded w cur t + marked w f 1 m ≡ marked w f 1 o) × (length o ≡ length m)
  unfolding demanded
  parsed_marks parsed_none = ((λ w. omega arith), refl)
  parsed_marks (parsed_more {m = m} {h = h} y ks rs) =
      let k = parsed_marks ks in
      let r = parsed_marks rs in
      ((λ w. omega (arith, record_marks y w, k.0 w, r.0 w)), r.1 ∙ k.1 ∙ name_length m (scope_of h))

-- THE ROWS OF AN ACCEPTED FILE OFFER WHAT ITS TREE DEMANDS.
pub read_offers : (b : List ℕ) (f : File) → read_file b ≡ Ok f → Offers f.scopes (λ w. demanded w 0 f.tree)
read_offers b f e =
    let q = file_parsed b f e in
    let n = q.scope_number_lem in
    let t = parsed_marks b q.symbol_number_lem q.tree in
    let l : length q.marks ≡ n = t.1 ∙ length-replicate n 0 in
    let named = q.all_named in
    rw q.scopes (λ w. omega (arith, t.0 w, marked_none w b n 1, rw l at (marked_all w b q.marks 1 (omega arith))))
