-- The flags of a symbol.
-- Assumes nothing.
use Rattle.std.specs.Prelude.{ℕ}

abbrev pub FunctionScoped : ℕ
FunctionScoped = 1

abbrev pub BlockScoped : ℕ
BlockScoped = 2

abbrev pub Const : ℕ
Const = 4

abbrev pub Class : ℕ
Class = 8

abbrev pub Catch : ℕ
Catch = 16

abbrev pub Import : ℕ
Import = 32

abbrev pub Function : ℕ
Function = 64
