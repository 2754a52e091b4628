-- What holds of each record of a tree, and the sums over such trees.
-- Assumes nothing.
use Rattle.std.specs.Prelude.{◌≡◌, ℕ}
use Rattle.std.proofs.Math.Path.{refl}
use Rattle.std.proofs.Common.{arith}
use Rattle.meaning.specs.Tree.{Head, Forest, none, more}
use Rattle.hint_laws.specs.Hints.{sum_over}

-- of each record's tag and numbers
abbrev pub Everywhere : (Head → Type 0) → Forest → Type 0
Everywhere P none = Unit {0}
Everywhere P (more h k r) = P h × Everywhere P k × Everywhere P r

module _ (P : Head → Type 0) where
  -- what follows of each record
  pub everywhere : (Q : Head → Type 0) → ((h : Head) → P h → Q h) → (f : Forest) → Everywhere P f → Everywhere Q f
  everywhere Q i none p = tt
  everywhere Q i (more h k r) p = (i h p.0, everywhere Q i k p.1, everywhere Q i r p.2)

  -- sums with equal summands
  pub sums_same : (v v' : Head → Forest → ℕ) → ((h : Head) (k : Forest) → Everywhere P k → v h k ≡ v' h k)
      → (f : Forest) → Everywhere P f → sum_over v f ≡ sum_over v' f
  unfolding sum_over
  sums_same v v' e none p = refl
  sums_same v v' e (more h k r) p =
      omega (arith, e h k p.1, sums_same v v' e k p.1, sums_same v v' e r p.2)
