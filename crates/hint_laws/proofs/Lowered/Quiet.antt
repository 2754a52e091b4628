-- Records that entering again would not change for their usings; of a tree with only such records nothing is asked.
-- Assumes nothing.
use Rattle.std.specs.Prelude.{if◌then◌else◌, ◌≡◌, Bool, true, false, ◌&&◌, ℕ, eqb}
use Rattle.std.proofs.Math.Path.{refl}
use mathlib.Core.List.{List, []}
use Rattle.std.proofs.Common.{arith}
use Rattle.meaning.specs.Numbers.Tag
use Rattle.meaning.specs.Tree.{Head, Forest, none, more, ◌&◌}
use Rattle.meaning.specs.Statements.{is_using, any_using}
use Rattle.meaning.specs.ForOf.{binds_identifier}
use Rattle.spec_laws.specs.Tags.{clash}
use Rattle.charge_laws.specs.Growth.Chosen.{held_using}
use Rattle.hint_laws.proofs.Outline.{no_usings}
use Rattle.hint_laws.specs.Hints.{sum_over, names_of, letter_for, takes_up, usings_in, for_of_using, asks_for}

-- entering the record again would take up none of its usings: none stands in its list, and a ForOf's first child is none with an identifier
unfoldable pub Quiet : Head → Forest → Type 0
Quiet h k = (takes_up h.tag ≡ true → any_using k ≡ false) × (eqb h.tag Tag.ForOf ≡ true → held_using k ≡ false)

-- deep
unfoldable pub AllQuiet : Forest → Type 0
AllQuiet none = Unit {0}
AllQuiet (more h k r) = Quiet h k × AllQuiet k × AllQuiet r

-- a record that takes up nothing, by its tag
pub calm : (h : Head) (k : Forest) → takes_up h.tag ≡ false → eqb h.tag Tag.ForOf ≡ false → Quiet h k
unfolding Quiet
calm h k p q = ((λ e. absurd (clash p e)), (λ e. absurd (clash q e)))

-- a list, or a For, without a using
pub quiet_list : (h : Head) (k : Forest) → eqb h.tag Tag.ForOf ≡ false → any_using k ≡ false → Quiet h k
unfolding Quiet
quiet_list h k q u = ((λ _. u), (λ e. absurd (clash q e)))

pub quiet_& : (f g : Forest) → AllQuiet f → AllQuiet g → AllQuiet (f & g)
unfolding AllQuiet ◌&◌
quiet_& none g p q = q
quiet_& (more h k r) g p q = (p.0, p.1, quiet_& r g p.2 q)

-- ---- what is asked

no_value : (b : Bool) (m : ℕ) → b ≡ false → (if b then m else 0) ≡ 0
no_value b m e = rw e

by_test : (s t : Bool) (m n : ℕ) → (s ≡ true → m ≡ 0) → (t ≡ true → n ≡ 0) → (if s then m else if t then n else 0) ≡ 0
by_test true t m n p q = p refl
by_test false true m n p q = q refl
by_test false false m n p q = refl

module _ (w : List ℕ → List ℕ → ℕ → ℕ) where
  no_held : (k : Forest) → held_using k ≡ false → for_of_using w k ≡ 0
  unfolding for_of_using held_using
  no_held none e = refl
  no_held (more h₁ k₁ none) e = refl
  no_held (more h₁ none (more h₂ k₂ r)) e = refl
  no_held (more h₁ (more d kids s) (more h₂ k₂ none)) e = refl
  no_held (more h₁ (more d kids s) (more h₂ k₂ (more h₃ k₃ r))) e =
      no_value (is_using h₁ && binds_identifier (more d kids s)) (w (names_of 1 kids) [] (letter_for h₁)) e

  asks_nothing : (letter : Head → ℕ) (h : Head) (k : Forest) → Quiet h k → asks_for w letter h k ≡ 0
  unfolding asks_for Quiet
  asks_nothing letter h k q =
      by_test (takes_up h.tag) (eqb h.tag Tag.ForOf) (usings_in w letter k) (for_of_using w k)
      (λ e. no_usings w letter k (q.0 e))
      (λ e. no_held k (q.1 e))

  -- Of a tree in which all records are quiet nothing is asked, whatever the letters.
  pub nothing_asked : (letter : ℕ → Head → ℕ) (f : Forest) → AllQuiet f → sum_over (λ h k. asks_for w (letter h.tag) h k) f ≡ 0
  unfolding sum_over AllQuiet
  nothing_asked letter none q = refl
  nothing_asked letter (more h k r) q =
      omega (arith, asks_nothing (letter h.tag) h k q.0, nothing_asked letter k q.1, nothing_asked letter r q.2)
