-- The columns of the scope table, how many numbers a row has, and how many are lent for one.
-- Assumes nothing.
use Rattle.std.specs.Prelude.{ℕ}

abbrev pub Parent : ℕ
Parent = 0

abbrev pub Flags : ℕ
Flags = 1

abbrev pub Numbers : ℕ
Numbers = 2

abbrev pub Lent : ℕ
Lent = 3
