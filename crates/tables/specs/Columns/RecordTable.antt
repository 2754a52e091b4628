-- The columns of the record table, and how many numbers a row has.
-- Assumes nothing.
use Rattle.std.specs.Prelude.{ℕ}

abbrev pub Tag : ℕ
Tag = 0

abbrev pub A : ℕ
A = 1

abbrev pub B : ℕ
B = 2

abbrev pub C : ℕ
C = 3

abbrev pub N : ℕ
N = 4

abbrev pub Up : ℕ
Up = 5

abbrev pub Left : ℕ
Left = 6

abbrev pub Numbers : ℕ
Numbers = 7
