-- An accepted file is fit, so the counts after any number of visits are those of its charges.
-- Assumes nothing.
use Rattle.std.specs.Prelude.{Ok, ◌≡◌, Bool, true, not, ◌||◌, ◌&&◌, List, [], ◌∷◌, ℕ, suc, take, eqb, ltb}
use Rattle.std.proofs.Math.Path.{refl, sym, ap}
use Rattle.std.proofs.Common.{subst, ◌∙◌, arith}
use Rattle.std.proofs.Math.Bool.{false, or-true}
use borrow.Author.Tests.{eqb-true, le-ltb}
use Rattle.meaning.specs.Numbers.Tag
use Rattle.meaning.specs.Numbers.Kind
use Rattle.meaning.specs.Tree.{one_of, Head, Forest, none, more, count}
use Rattle.meaning.specs.File.{File, numbers_of, has_children, own_numbers}
use Rattle.meaning.specs.Grammar.{tags_of, index, allowed, is, declarator_right, right, children_of, place_of, head_of}
use Rattle.meaning.specs.Reading.{read_file}
use Rattle.meaning.specs.declared.Place.{Place}
use Rattle.meaning.specs.declared.Place.TheVariants.{Program, Name, ForOfLeft, ForOfDeclarator}
use Rattle.meaning.specs.declared.Field.{Field}
use Rattle.meaning.specs.Statements.{is_using}
use Rattle.meaning.specs.ForOf.{binds_identifier}
use Rattle.meaning.specs.Walk.{start, visits}
use Rattle.meaning.specs.Charges.{Line, initializers, ◌⊕◌, total, figures_in, figures_at}
use Rattle.meaning.specs.Due.{dues}
use Rattle.charge_laws.specs.VisitCharges.{visit_charges}
use Rattle.spec_laws.specs.Tags.{Seen, other, here, there, seen, clash, and_left, and_right}
use Rattle.charge_laws.proofs.Growth.Trees.{using_tag}
use Rattle.charge_laws.proofs.Growth.ForOf.{Named}
use Rattle.charge_laws.proofs.Growth.Items.{Exports}
use Rattle.charge_laws.proofs.Totals.Accepted.{one_child}
use Rattle.charge_laws.proofs.Counts.TakenUp.{Labelled}
use Rattle.charge_laws.proofs.Counts.Program.{Kinds}
use Rattle.charge_laws.proofs.Counts.Enter.{Begins, Body, Left}
use Rattle.charge_laws.proofs.Counts.Fits.{FitsIn, Fits}
use Rattle.charge_laws.specs.Counts.Figures.{joined}
use Rattle.charge_laws.proofs.Counts.Figures.{dues_are, after}
use Rattle.charge_laws.proofs.Fit.Placed.{ReadAs, same_tag, Placed, accepted_placed}
use Rattle.parsing.specs.Places.{Bars, body_bars_5, below_bars_10}
use Rattle.charge_laws.proofs.Fit.Barred.{barred, no_catch}
use Rattle.spec_laws.specs.Bools.{or-false}

-- ---- a field

module _ (p : Place) (syms : ℕ) where
  -- a Declarator with pattern 0 has a Name
  module _ (x : Field) (t : x.tag ≡ Tag.Declarator) (z : x.a ≡ 0) (e : right p syms x ≡ true) where
    one_name : x.b ≡ 1
    unfolding right declarator_right
    one_name = eqb-true x.b 1 (and_left (eqb x.b 1) _ (rw (t, z) at e))

    name_first : place_of p x 0 ≡ Name
    unfolding place_of
    name_first = rw (t, one_name)

    not_empty : 0 ≡ children_of x → ⊥
    unfolding right declarator_right children_of own_numbers has_children numbers_of
    not_empty n =
        let c : 0 ≡ x.c = n ∙ rw t in
        clash refl (and_right (not (is p ForOfDeclarator)) false (rw (t, z, one_name, ← c) at e))

-- a Declaration's only number is its kind
own_kind : {t : ℕ} (a b c d next : ℕ) → Seen (Tag.Declaration ∷ []) t
    → let h = head_of (record { tag = t; a = a; b = b; c = c; d = d; next = next }) in
    is_using h ≡ true → one_of (Kind.Using ∷ Kind.AwaitUsing ∷ []) h.a ≡ true
unfolding is_using head_of own_numbers has_children numbers_of
own_kind a b c d next here u = or-false (one_of (3 ∷ 4 ∷ []) a) u
own_kind a b c d next (there e other) u = absurd (clash (rw e) u)

-- ---- a record read

module _ {syms : ℕ} {p : Place} {x : Field} {h : Head} {k : Forest} (q : ReadAs syms p x h k) where
  has_one : one_of (Tag.Label ∷ Tag.DefaultExport ∷ Tag.ExportedDeclaration ∷ []) h.tag ≡ true → count k ≡ 1
  has_one e = q.children ∙ one_child p syms x (rw (same_tag q) at e) q.numbers

  using_kind : is_using h ≡ true → one_of (Kind.Using ∷ Kind.AwaitUsing ∷ []) h.a ≡ true
  using_kind u =
      let k = own_kind x.a x.b x.c x.d x.next (seen (Tag.Declaration ∷ []) x.tag) in
      rw q.head (k (rw q.head at u))

  -- a Declarator with pattern 0, as a field
  of_identifier : (eqb h.tag Tag.Declarator && eqb h.a 0) ≡ true → (x.tag ≡ Tag.Declarator) × (x.a ≡ 0)
  unfolding head_of own_numbers has_children numbers_of
  of_identifier e =
      let t : x.tag ≡ Tag.Declarator = sym (same_tag q) ∙ eqb-true h.tag Tag.Declarator (and_left (eqb h.tag Tag.Declarator) (eqb h.a 0) e) in
      let a : h.a ≡ x.a = ap (λ (v : Head). v.a) q.head ∙ rw t in
      (t, sym a ∙ eqb-true h.a 0 (and_right (eqb h.tag Tag.Declarator) (eqb h.a 0) e))

-- ---- the children of a ForOf

for_of_left_lem : (p : Place) (x : Field) → x.tag ≡ Tag.ForOf → place_of p x 0 ≡ ForOfLeft
unfolding place_of
for_of_left_lem p x e = rw e

-- a Declarator there has no more children than Names
all_names : (syms : ℕ) (x : Field) → x.tag ≡ Tag.Declarator → right ForOfDeclarator syms x ≡ true → x.c ≡ x.b
unfolding right declarator_right index
all_names syms x t e = eqb-true x.c x.b (or-false (eqb x.c x.b) (and_right (not (eqb x.a 0) || eqb x.b 1) _ (rw t at e)))

no_initializer : {syms : ℕ} {p : Place} {x : Field} {h : Head} {k : Forest} → ReadAs syms p x h k → p ≡ ForOfDeclarator
    → (eqb h.tag Tag.Declarator && ltb h.b (count k)) ≡ false
unfolding allowed tags_of head_of children_of own_numbers has_children numbers_of
no_initializer {syms} {p} {x} q e =
    let t : x.tag ≡ Tag.Declarator =
    eqb-true x.tag Tag.Declarator (or-false (eqb x.tag Tag.Declarator) (subst (λ (p : Place). allowed p x.tag ≡ true) e q.taken)) in
    let same = all_names syms x t (subst (λ (p : Place). right p syms x ≡ true) e q.numbers) in
    rw (q.head, q.children, t, same, le-ltb x.b x.b (omega arith))

-- ---- lists

module _ (syms : ℕ) where
  exports : (f : Forest) (place : ℕ → Place) (i : ℕ) → Placed syms place i f → Exports f
  exports none place i q = tt
  exports (more h k r) place i q = ((λ e. has_one q.1 (rw e (or-true (eqb h.tag Tag.Label)))), exports r place (suc i) q.3)

  kinds : (f : Forest) (place : ℕ → Place) (i : ℕ) → Placed syms place i f → Kinds f
  kinds none place i q = tt
  kinds (more h k r) place i q = (using_kind q.1, kinds r place (suc i) q.3)

  labelled : (f : Forest) (place : ℕ → Place) (i : ℕ) → Placed syms place i f → count f ≡ 1 → Labelled f
  unfolding count
  labelled none place i q e = absurd (omega arith)
  labelled (more h k none) place i q e = λ t. labelled k (place_of (place i) q.0) 0 q.2 (has_one q.1 (rw t))
  labelled (more h k (more h₁ k₁ r₁)) place i q e = absurd (omega arith)

  named : (f : Forest) (place : ℕ → Place) (i : ℕ) → Placed syms place i f → binds_identifier f ≡ true → Named f × Begins f
  unfolding binds_identifier allowed tags_of count
  named none place i q e = absurd (clash refl e)
  named (more h none r) place i q e =
      let o = of_identifier q.1 e in
      absurd (not_empty (place i) syms q.0 o.0 o.1 q.1.numbers q.1.children)
  named (more h (more h₁ k₁ r₁) r) place i q e =
      let o = of_identifier q.1 e in
      let n = q.2.0.tag in
      let first = name_first (place i) syms q.0 o.0 o.1 q.1.numbers in (
        same_tag q.2.1 ∙ eqb-true n 26 (or-false (eqb n 26) (subst (λ (p : Place). allowed p n ≡ true) first q.2.1.taken)),
        tt,
      )

  body : (f : Forest) (place : ℕ → Place) (i : ℕ) → Bars Tag.Declaration (place (suc i)) → Placed syms place i f → Body f
  body none place i bars q = tt
  body (more h k none) place i bars q = tt
  body (more h₂ k₂ (more h₃ k₃ r)) place i bars q = barred 5 bars q.3.1

  -- Declarators of a ForOf
  bare : (f : Forest) (place : ℕ → Place) (i : ℕ) → ((j : ℕ) → place j ≡ ForOfDeclarator) → Placed syms place i f → initializers f ≡ 0
  unfolding initializers
  bare none place i e q = refl
  bare (more h k r) place i e q =
      let none_here = no_initializer q.1 (e i) in
      rw none_here (omega (arith, bare r place (suc i) e q.3))

  left : (f : Forest) (place : ℕ → Place) → place 0 ≡ ForOfLeft → Bars Tag.Declaration (place 2) → Placed syms place 0 f → Left f
  unfolding place_of index
  left none place first bars q = tt
  left (more h k r) place first bars q =
      λ e.
      let u = and_left (is_using h) (binds_identifier k) e in
      let five : q.0.tag ≡ Tag.Declaration = sym (same_tag q.1) ∙ using_tag h u in
      let n = named k (place_of (place 0) q.0) 0 q.2 (and_right (is_using h) (binds_identifier k) e) in
      (n.0, n.1, using_kind q.1 u, body r place 1 bars q.3, bare k (place_of (place 0) q.0) 0 (λ j. rw (first, five)) q.2)

  fits : (b : Bool) (f : Forest) (place : ℕ → Place) (i : ℕ) → (b ≡ false → (j : ℕ) → Bars Tag.Case (place j)) → Placed syms place i f → FitsIn b f
  fits b none place i bars q = tt
  fits b (more h k r) place i bars q =
      let inside = place_of (place i) q.0 in (
        record {
          items = λ e u. (exports k inside 0 q.2, kinds k inside 0 q.2);
          side =
              λ e.
              let eight = eqb-true q.0.tag Tag.ForOf (rw (same_tag q.1) at e) in
              left k inside (for_of_left_lem (place i) q.0 eight) (body_bars_5 (place i) q.0 eight) q.2;
          label = λ e. labelled k inside 0 q.2 (has_one q.1 (rw e));
          handler = λ e. no_catch q.1 q.2 (rw (eqb-true h.tag Tag.Catch e));
          taken = λ s e. absurd (clash (barred Tag.Case (bars s i) q.1) e);
        },
        fits (eqb h.tag Tag.Switch) k inside 0 (λ s. below_bars_10 (place i) q.0 (rw (same_tag q.1) at s)) q.2,
        fits b r place (suc i) bars q.3,
      )

-- ---- the file

program_bars_10 : Bars Tag.Case Program
unfolding Bars allowed tags_of
program_bars_10 = refl

-- The tree of an accepted file is fit.
pub accepted_fit : (b : List ℕ) (f : File) → read_file b ≡ Ok f → Fits f.tree
accepted_fit b f e = let q = accepted_placed b f e in fits q.0 false f.tree (λ _. Program) 0 (λ _ _. program_bars_10) q.1

-- What the visits of an accepted file are charged is its account from the source; after k visits the figures are those read and the first k
-- charges.
pub accepted_dues : (b : List ℕ) (f : File) (k : ℕ) → read_file b ≡ Ok f → dues k (start f) ≡ take k (visit_charges f)
accepted_dues b f k e = dues_are k f (accepted_fit b f e)

pub accepted_charged : (b : List ℕ) (f : File) (k : ℕ) → read_file b ≡ Ok f
    → figures_at (visits k (start f)) ≡ figures_in f ⊕ total (joined (dues k (start f)))
accepted_charged b f k e = after k f (accepted_fit b f e)

pub accepted_after : (b : List ℕ) (f : File) (k : ℕ) → read_file b ≡ Ok f
    → figures_at (visits k (start f)) ≡ figures_in f ⊕ total (joined (take k (visit_charges f)))
accepted_after b f k e =
    accepted_charged b f k e ∙ ap (λ (ls : List (List Line)). figures_in f ⊕ total (joined ls)) (accepted_dues b f k e)
