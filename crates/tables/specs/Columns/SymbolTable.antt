-- The columns of the symbol table, how many numbers a row has, and how many are lent for one. ReadScope is the scope that was read.
-- Assumes nothing.
use Rattle.std.specs.Prelude.{ℕ}

abbrev pub Name : ℕ
Name = 0

abbrev pub Flags : ℕ
Flags = 1

abbrev pub Scope : ℕ
Scope = 2

abbrev pub Made : ℕ
Made = 3

abbrev pub ReadScope : ℕ
ReadScope = 4

abbrev pub Numbers : ℕ
Numbers = 5

abbrev pub Lent : ℕ
Lent = 6
