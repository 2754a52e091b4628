-- What is known of a number in an arm of a match, and behind its arms.
-- Assumes nothing.
use mathlib.Core.Path.{◌≡◌, sym, subst}
use mathlib.Core.Bool.{Bool, false, not, ◌||◌}
use mathlib.Core.List.{List, [], ◌∷◌}
use mathlib.Core.Logic.{⊎_elim}
use Prim.Native.Nat.{ℕ}
use lib.Dec.{T, eqb}
use mir.Val.{has_key}
use mir.Facts.{or_yes}
use types.Run.{OneOf, hit, miss}
use borrow.Author.Tests.{ne_eqb}

-- what is known behind arms with these keys, the last first
abbrev pub Behind : List (List ℕ) → ℕ → Type 0
Behind [] t = Unit {0}
Behind (ks ∷ kss) t = Behind kss t × (OneOf ks t → ⊥)

abbrev pub any_key : List (List ℕ) → ℕ → Bool
any_key [] k = false
any_key (ks ∷ kss) k = has_key ks k || any_key kss k

no_arm : (kss : List (List ℕ)) (t k : ℕ) → Behind kss t → T (any_key kss k) → t ≡ k → ⊥
no_arm [] t k r h e = h
no_arm (ks ∷ kss) t k r h e =
    ⊎_elim (λ a. r.1 (subst (λ (x : ℕ). OneOf ks x) (sym e) (hit ks k a))) (λ b. no_arm kss t k r.0 b e) (or_yes (has_key ks k) (any_key kss k) h)

-- behind the arms, and in an arm
pub behind : (kss : List (List ℕ)) (t : ℕ) → Behind kss t → (k : ℕ) → T (any_key kss k) → eqb t k ≡ false
behind kss t r k h = ne_eqb t k (no_arm kss t k r h)

pub within : (ks : List ℕ) (t : ℕ) → OneOf ks t → (k : ℕ) → T (not (has_key ks k)) → eqb t k ≡ false
within ks t o k h = ne_eqb t k (λ e. miss ks k h (subst (λ (x : ℕ). OneOf ks x) e o))
