-- Matches over tags: the compiler tests the numbers of an arm one by one, and numbers in a row as a range.
-- Assumes nothing.
use Rattle.std.specs.Prelude.{if◌then◌else◌}
use mathlib.Core.Path.{◌≡◌, refl}
use mathlib.Core.Logic.{inl, inr}
use mathlib.Core.Bool.{Bool, false, ◌||◌}
use mathlib.Core.List.{List, [], ◌∷◌, map}
use Prim.Native.Nat.{ℕ, ◌+◌, ◌≤◌, ◌<◌}
use types.Run.{OneOf}
use borrow.Author.Tests.{ne_eqb}
use Rattle.meaning.specs.Tree.{one_of}
use Rattle.fields.specs.Ranges.{values, values_agree, below_or_not}

-- two functions agree at a key of an arm if they agree at all of them
pub at_keys : {X : Type 0} (f g : ℕ → X) (ks : List ℕ) (t : ℕ) → map f ks ≡ map g ks → OneOf ks t → f t ≡ g t
at_keys f g [] t e h = absurd h
at_keys f g (k ∷ []) t e h = cc
at_keys f g (k ∷ j ∷ ks) t e (inl h) = cc
at_keys f g (k ∷ j ∷ ks) t e (inr h) = at_keys f g (j ∷ ks) t (cc) h

-- what is told where no arm's keys fit, the last arm first
abbrev Rest : List (List ℕ) → ℕ → Type 0
Rest [] t = Unit {0}
Rest (ks ∷ arms) t = Rest arms t × (OneOf ks t → ⊥)

abbrev keyed : List (List ℕ) → ℕ → Bool
keyed [] t = false
keyed (ks ∷ arms) t = one_of ks t || keyed arms t

no_key : (ks : List ℕ) (t : ℕ) → (OneOf ks t → ⊥) → one_of ks t ≡ false
no_key [] t h = refl
no_key (k ∷ []) t h = rw (ne_eqb t k h)
no_key (k ∷ j ∷ ks) t h = rw (ne_eqb t k (λ e. h (inl e)), no_key (j ∷ ks) t (λ e. h (inr e)))

no_arm : (arms : List (List ℕ)) (t : ℕ) → Rest arms t → keyed arms t ≡ false
no_arm [] t h = refl
no_arm (ks ∷ arms) t h = rw (no_key ks t h.1, no_arm arms t h.0)

-- two functions agree in a range if they agree at all its numbers but the keys of arms
pub in_range : {X : Type 0} (f g : ℕ → X) (arms : List (List ℕ)) (lo n t : ℕ)
    → values (λ x. if keyed arms x then g x else f x) lo n ≡ values g lo n → Rest arms t → lo ≤ t → t < lo + n → f t ≡ g t
in_range f g arms lo n t e r h l =
    rw (no_arm arms t r) at (values_agree (λ x. if keyed arms x then g x else f x) g lo n t e h l)

-- two functions agree from a number on if they agree in a range, and behind it
pub from_on : {X : Type 0} (f g : ℕ → X) (arms : List (List ℕ)) (lo n t : ℕ)
    → values (λ x. if keyed arms x then g x else f x) lo n ≡ values g lo n → (lo + n ≤ t → f t ≡ g t) → Rest arms t → lo ≤ t → f t ≡ g t
from_on f g arms lo n t e behind r h = below_or_not t (lo + n) (λ l. in_range f g arms lo n t e r h l) behind
