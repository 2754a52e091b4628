-- The letters of a Call.
-- Assumes nothing.
use Rattle.std.specs.Prelude.{ℕ}

abbrev pub U : ℕ
U = 0

abbrev pub A : ℕ
A = 1
