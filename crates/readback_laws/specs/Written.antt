-- The numbers that stand in some bytes from an offset on.
-- Assumes nothing.
use mathlib.Core.List.{List, [], ◌∷◌}
use Prim.Native.Nat.{ℕ, zero, suc, ◌+◌}
use Rattle.meaning.specs.Numbers.Tag
use Rattle.meaning.specs.Grammar.{two}

-- so many numbers from an offset on
unfoldable pub numbers_from : List ℕ → ℕ → ℕ → List ℕ
numbers_from f at zero = []
numbers_from f at (suc n) = two f at ∷ numbers_from f (at + 2) n
