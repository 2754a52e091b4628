-- A tree with its heads changed, one by one. If the changes keep what hints are read from, it gives the same hints.
-- Assumes nothing.
use Rattle.std.specs.Prelude.{if◌then◌else◌, ◌≡◌, Bool}
use Rattle.std.proofs.Math.Path.{refl, ap, ap₂}
use Rattle.std.proofs.Common.{◌∙◌}
use Rattle.std.proofs.Math.Bool.{true, false}
use mathlib.Core.List.{List, [], ◌∷◌, ◌++◌}
use Prim.Native.Nat.{ℕ, zero, suc, ◌+◌}
use Rattle.std.proofs.Math.Dec.{eqb}
use Rattle.meaning.specs.Numbers.Tag
use Rattle.meaning.specs.Tree.{Head, Forest, none, more, count, row}
use Rattle.meaning.specs.File.{record_numbers}
use Rattle.meaning.specs.Renumbering.{with_scope}
use Rattle.spec_laws.specs.Bools.{if_same}
use Rattle.hint_laws.specs.Hints.{sum_over, names_of, of_initializer, over_declarators, is_expression, shown, called, calls_in}

unfoldable pub mapped : (Head → Head) → Forest → Forest
mapped φ none = none
mapped φ (more h k r) = more (φ h) (mapped φ k) (mapped φ r)

pub mapped_count : (φ : Head → Head) (f : Forest) → count (mapped φ f) ≡ count f
unfolding mapped count
mapped_count φ none = refl
mapped_count φ (more h k r) = ap suc (mapped_count φ r)

-- the tag, a Name's symbol, how many a Declarator binds, a Call's letter and context, and what is written but for the scope
pub record KeepsHints (φ : Head → Head) : Type 0 where
  pub tag : (h : Head) → (φ h).tag ≡ h.tag
  pub symbol : (h : Head) → eqb h.tag Tag.Name ≡ true → (φ h).a ≡ h.a
  pub names : (h : Head) → eqb h.tag Tag.Declarator ≡ true → (φ h).b ≡ h.b
  pub letter : (h : Head) → eqb h.tag Tag.Call ≡ true → (φ h).a ≡ h.a
  pub context : (h : Head) → eqb h.tag Tag.Call ≡ true → (φ h).b ≡ h.b
  pub written : (h : Head) (n : ℕ) → record_numbers (row (with_scope (φ h) 0) n) ≡ record_numbers (row (with_scope h 0) n)

module _ (φ : Head → Head) (keeps : KeepsHints φ) where
  names_kept : (m : ℕ) (k : Forest) → names_of m (mapped φ k) ≡ names_of m k
  unfolding names_of mapped
  names_kept zero k = refl
  names_kept (suc m) none = refl
  names_kept (suc m) (more h k r) =
      rw (keeps.tag h) (ap₂ ◌∷◌ (if_same (eqb h.tag Tag.Name) (φ h).a h.a (keeps.symbol h)) (names_kept m r))

  shown_kept : (f : Forest) → shown (mapped φ f) ≡ shown f
  unfolding shown mapped
  shown_kept none = refl
  shown_kept (more h k r) =
      let kids = count (mapped φ k) in
      let numbers = record_numbers (row (with_scope (φ h) 0) kids) in
      let same : numbers ++ shown (mapped φ k) ≡ record_numbers (row (with_scope h 0) (count k)) ++ shown k =
      ap₂ ◌++◌ (keeps.written h kids ∙ ap (λ (n : ℕ). record_numbers (row (with_scope h 0) n)) (mapped_count φ k)) (shown_kept k) in
      ap (λ (t : ℕ). (if is_expression t then t ∷ (numbers ++ shown (mapped φ k)) else []) ++ shown (mapped φ r)) (keeps.tag h)
      ∙ ap₂ ◌++◌ (ap (λ (ns : List ℕ). if is_expression h.tag then h.tag ∷ ns else []) same) (shown_kept r)

  module _ (w : List ℕ → List ℕ → ℕ → ℕ) (read : ℕ) where
    called_kept : (names : List ℕ) (h : Head) (k : Forest) → called w read names (φ h) (mapped φ k) ≡ called w read names h k
    unfolding called
    called_kept names h k = go (eqb h.tag Tag.Call) refl
      where
        go : (b : Bool) → eqb h.tag Tag.Call ≡ b → called w read names (φ h) (mapped φ k) ≡ called w read names h k
        go true e = rw (keeps.tag h, keeps.letter h e, keeps.context h e, shown_kept k)
        go false e = rw (keeps.tag h, e)

    initializer_kept : (names : List ℕ) (m : ℕ) (k : Forest)
        → of_initializer (called w read names) m (mapped φ k) ≡ of_initializer (called w read names) m k
    unfolding of_initializer mapped
    initializer_kept names m none = refl
    initializer_kept names zero (more h k r) = called_kept names h k
    initializer_kept names (suc m) (more h k r) = initializer_kept names m r

    declarators_kept : (f : Forest) → over_declarators (called w read) (mapped φ f) ≡ over_declarators (called w read) f
    unfolding over_declarators mapped
    declarators_kept none = refl
    declarators_kept (more h k r) =
        rw (keeps.tag h)
        (ap₂ ◌+◌
        (if_same (eqb h.tag Tag.Declarator) _ _
        (λ e. rw (keeps.names h e, names_kept h.b k) (initializer_kept (names_of h.b k) h.b k)))
        (declarators_kept r))

    calls_kept : (f : Forest) → calls_in w read (mapped φ f) ≡ calls_in w read f
    unfolding calls_in mapped
    calls_kept none = refl
    calls_kept (more h k r) =
        rw (keeps.tag h) (ap₂ ◌+◌ (if_same (eqb h.tag Tag.Declaration) _ _ (λ e. declarators_kept k)) (calls_kept r))

    -- THE HINTS ARE THE SAME.
    pub mapped_gives : (f : Forest) → sum_over (λ h k. calls_in w read k) (mapped φ f) ≡ sum_over (λ h k. calls_in w read k) f
    unfolding sum_over mapped
    mapped_gives none = refl
    mapped_gives (more h k r) = ap₂ ◌+◌ (calls_kept k) (ap₂ ◌+◌ (mapped_gives k) (mapped_gives r))
