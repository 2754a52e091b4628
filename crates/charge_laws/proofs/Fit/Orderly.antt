-- The tree of an accepted file is orderly: Catches stand in a Try, and the body of a ForOf is a statement.
-- Assumes nothing.
use Rattle.std.specs.Prelude.{Ok, ◌≡◌, refl, Bool, true, false, List, [], ◌∷◌, ℕ, suc, eqb}
use Rattle.std.proofs.Common.{eqb-true}
use Rattle.meaning.specs.Numbers.Tag
use Rattle.meaning.specs.Tree.{one_of, Head, Forest, none, more}
use Rattle.meaning.specs.File.{File}
use Rattle.meaning.specs.Grammar.{tags_of, allowed, place_of}
use Rattle.meaning.specs.Reading.{read_file}
use Rattle.meaning.specs.Statements.{is_using}
use Rattle.meaning.specs.declared.Place.{Place}
use Rattle.meaning.specs.declared.Place.TheVariants.{Program}
use Rattle.spec_laws.specs.Tags.{or_none}
use Rattle.charge_laws.proofs.Totals.Roles.{Lacks}
use Rattle.charge_laws.proofs.Fit.Placed.{same_tag, Placed, accepted_placed}
use Rattle.parsing.specs.Places.{Bars, body_bars_5}
use Rattle.charge_laws.proofs.Fit.Barred.{barred, lacks, no_catch}

-- ---- what a tree must be

-- the third of some records is no using
abbrev pub PlainBody : Forest → Type 0
PlainBody none = Unit {0}
PlainBody (more h₁ k₁ none) = Unit {0}
PlainBody (more h₁ k₁ (more h₂ k₂ none)) = Unit {0}
PlainBody (more h₁ k₁ (more h₂ k₂ (more h₃ k₃ r))) = is_using h₃ ≡ false

-- a Try, or a Catch
abbrev pub is_try : ℕ → Bool
is_try t = one_of (Tag.Try ∷ Tag.Catch ∷ []) t

-- A Catch stands in a Try or a Catch only, and the body of a ForOf is no using.
abbrev pub Orderly : Forest → Type 0
Orderly none = Unit {0}
Orderly (more h k r) =
    (is_try h.tag ≡ false → Lacks Tag.Catch k) × (eqb h.tag Tag.ForOf ≡ true → PlainBody k) × Orderly k × Orderly r

-- ---- lists

no_using : (h : Head) → eqb h.tag Tag.Declaration ≡ false → is_using h ≡ false
unfolding is_using
no_using h e = rw e

module _ (syms : ℕ) where
  plain_body : (f : Forest) (place : ℕ → Place) → Bars Tag.Declaration (place 2) → Placed syms place 0 f → PlainBody f
  plain_body none place bars q = tt
  plain_body (more h₁ k₁ none) place bars q = tt
  plain_body (more h₁ k₁ (more h₂ k₂ none)) place bars q = tt
  plain_body (more h₁ k₁ (more h₂ k₂ (more h₃ k₃ r))) place bars q = no_using h₃ (barred 5 bars q.3.3.1)

  orderly : (f : Forest) (place : ℕ → Place) (i : ℕ) → Placed syms place i f → Orderly f
  orderly none place i q = tt
  orderly (more h k r) place i q =
      let x = q.0 in
      let inside = place_of (place i) x in (
        (λ e. no_catch q.1 q.2 (or_none (eqb h.tag Tag.Try) _ e).0),
        (λ e. plain_body k inside (body_bars_5 (place i) x (eqb-true x.tag Tag.ForOf (rw (same_tag q.1) at e))) q.2),
        orderly k inside 0 q.2,
        orderly r place (suc i) q.3,
      )

-- the tree of an accepted file; its one record is a Program
pub accepted_orderly : (b : List ℕ) (f : File) → read_file b ≡ Ok f → Orderly f.tree × Lacks Tag.Catch f.tree
unfolding Bars allowed tags_of
accepted_orderly b f e =
    let q = accepted_placed b f e in
    (orderly q.0 f.tree (λ _. Program) 0 q.1, lacks q.0 f.tree (λ _. Program) 0 (λ _. refl) q.1)
