-- The names that 01 gives a number: `babelHelpers`, `_`, `default`, `_default`, `using_ctx`.
-- Assumes nothing.
use Rattle.std.specs.Prelude.{ℕ}

abbrev pub BabelHelpers : ℕ
BabelHelpers = 1

abbrev pub Underscore : ℕ
Underscore = 2

abbrev pub Default : ℕ
Default = 3

abbrev pub DefaultValue : ℕ
DefaultValue = 4

abbrev pub UsingCtx : ℕ
UsingCtx = 5
