-- The forms of a Step: `.e = _`, `.d()`, awaited `.d()`.
-- Assumes nothing.
use Rattle.std.specs.Prelude.{ℕ}

abbrev pub KeepError : ℕ
KeepError = 0

abbrev pub Dispose : ℕ
Dispose = 1

abbrev pub AwaitDispose : ℕ
AwaitDispose = 2
