-- Trees that differ only in records on which no hint depends.
-- Assumes nothing.
use Rattle.std.specs.Prelude.{◌≡◌, refl, false, List, ◌∷◌, ◌⊎◌, ℕ}
use Rattle.std.proofs.Common.{inl, inr}
use Rattle.meaning.specs.Numbers.Tag
use Rattle.meaning.specs.Tree.{one_of, Head, Forest, none, more, ◌&◌}
use Rattle.meaning.specs.Grammar.{expressions}
use Rattle.meaning.specs.Statements.{is_using, any_using}
use Rattle.spec_laws.specs.Bools.{no_summand}
use Rattle.hint_laws.specs.Hints.{over_declarators, wanted, usings_in}

-- neither a Declaration nor a Declarator, a Name or an expression
abbrev pub Neutral : Head → Type 0
Neutral h = one_of (Tag.Declaration ∷ Tag.Declarator ∷ Tag.Name ∷ expressions) h.tag ≡ false

-- record by record: the same head above the same outline, or two neutral heads above anything
unfoldable pub Same : Forest → Forest → Type 0
Same none none = Unit {0}
Same none (more h' k' r') = ⊥
Same (more h k r) none = ⊥
Same (more h k r) (more h' k' r') = (((h ≡ h') × Same k k') ⊎ (Neutral h × Neutral h')) × Same r r'

pub same_refl : (f : Forest) → Same f f
unfolding Same
same_refl none = tt
same_refl (more h k r) = (inl (refl, same_refl k), same_refl r)

-- before the same records
pub same_& : (d : Forest) (f g : Forest) → Same f g → Same (d & f) (d & g)
unfolding Same ◌&◌
same_& none f g s = s
same_& (more h k r) f g s = (inl (refl, same_refl k), same_& r f g s)

-- below the same record
pub same_below : (h : Head) (r : Forest) (f g : Forest) → Same f g → Same (more h f r) (more h g r)
unfolding Same
same_below h r f g s = (inl (refl, s), same_refl r)

-- in the place of a neutral record
pub same_neutral : (h h' : Head) (k k' r : Forest) → Neutral h → Neutral h' → Same (more h k r) (more h' k' r)
unfolding Same
same_neutral h h' k k' r n n' = (inr (n, n'), same_refl r)

-- ---- lists without usings

-- ask for nothing
pub no_usings : (w : List ℕ → List ℕ → ℕ → ℕ) (letter : Head → ℕ) (f : Forest) → any_using f ≡ false → usings_in w letter f ≡ 0
unfolding usings_in any_using
no_usings w letter none e = refl
no_usings w letter (more h k r) e =
    no_summand (is_using h) (any_using r) (over_declarators (wanted w (letter h)) k) (usings_in w letter r) e (no_usings w letter r)
