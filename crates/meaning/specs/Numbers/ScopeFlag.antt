-- The flags of a scope.
-- Assumes nothing.
use Rattle.std.specs.Prelude.{ℕ}

abbrev pub Strict : ℕ
Strict = 1

abbrev pub Catch : ℕ
Catch = 2

abbrev pub StaticBlock : ℕ
StaticBlock = 4

abbrev pub Function : ℕ
Function = 8

abbrev pub Top : ℕ
Top = 16
