-- The forms of a Function or a Class.
-- Assumes nothing.
use Rattle.std.specs.Prelude.{ℕ}

abbrev pub Declaration : ℕ
Declaration = 0

abbrev pub Expression : ℕ
Expression = 1
