-- The forms of a Module line.
-- Assumes nothing.
use Rattle.std.specs.Prelude.{ℕ}

abbrev pub Import : ℕ
Import = 0

abbrev pub ExportAll : ℕ
ExportAll = 1

abbrev pub ExportNamed : ℕ
ExportNamed = 2

abbrev pub ExportFrom : ℕ
ExportFrom = 3

-- the runtime helper's import (02, request 1)
abbrev pub ImportHelper : ℕ
ImportHelper = 4
