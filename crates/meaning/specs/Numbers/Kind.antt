-- The kinds of a Declaration.
-- Assumes nothing.
use Rattle.std.specs.Prelude.{ℕ}

abbrev pub Var : ℕ
Var = 0

abbrev pub Let : ℕ
Let = 1

abbrev pub Const : ℕ
Const = 2

abbrev pub Using : ℕ
Using = 3

abbrev pub AwaitUsing : ℕ
AwaitUsing = 4
