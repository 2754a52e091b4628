-- Numbers that stop at the largest.
-- Assumes nothing.
use Rattle.std.proofs.Common.{◌≡◌, ℕ, ◌+◌, arith}
use Rattle.tables.specs.Table.{capped}

pub one_more : (x k : ℕ) → capped (capped x k) 1 ≡ capped x (k + 1)
one_more x k = omega arith
