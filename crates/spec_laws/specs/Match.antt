-- The last arm of a match on a number.
-- Assumes nothing.
use Rattle.std.specs.Prelude.{◌≡◌, false, List, [], ◌∷◌, ℕ, T, eqb}
use Rattle.std.proofs.Common.{sym, ◌∙◌, ⊎_elim, eqb→eq, ne_eqb}
use mir.Val.{has_key}
use Rattle.std.proofs.Math.Facts.{or_yes}

-- what is known there: t is none of the keys, the last key first
abbrev pub Rest : List ℕ → ℕ → Type 0
Rest [] t = Unit {0}
Rest (j ∷ js) t = Rest js t × (t ≡ j → ⊥)

no_key : (js : List ℕ) (t : ℕ) → Rest js t → (k : ℕ) → T (has_key js k) → t ≡ k → ⊥
no_key [] t r k h e = h
no_key (j ∷ js) t r k h e = ⊎_elim (λ a. r.1 (e ∙ sym (eqb→eq j k a))) (λ b. no_key js t r.0 k b e) (or_yes (eqb j k) (has_key js k) h)

pub other : (js : List ℕ) (t : ℕ) → Rest js t → (k : ℕ) → T (has_key js k) → eqb t k ≡ false
other js t r k h = ne_eqb t k (no_key js t r k h)
