-- The rows of a Try around a list.
-- Assumes nothing.
use Rattle.std.specs.Prelude.{◌≡◌, ℕ, ◌+◌}
use mathlib.Core.List.{◌∷◌, ◌++◌}
use Rattle.meaning.specs.Numbers.Tag
use Rattle.meaning.specs.Numbers.Parts
use Rattle.meaning.specs.Tree.{hd, Forest, one, count, ◌&◌}
use Rattle.meaning.specs.Shapes.{block}
use Rattle.tables.specs.Table.{closed_row_f}
use Rattle.representation.specs.Gap.Cells.{rows_of}
use Rattle.statements.specs.declared.Parts.{Parts}
use Rattle.table_laws.specs.Lists.Try.{handlers_of}
use Rattle.table_laws.specs.Streamed.Places.{one_row}

-- a Try of a first Block and two others
pub try_rows_lem : (scope : ℕ) (list : Forest) (p : Parts)
    → rows_of (one (hd Tag.Try Parts.Both 0 0) (block scope list & handlers_of p))
    ≡ closed_row_f 11 3 0 0 3 ∷ closed_row_f 2 scope 0 0 (count list) ∷ (rows_of list ++ rows_of (handlers_of p))
unfolding rows_of count handlers_of ◌&◌
try_rows_lem scope list p = one_row (hd Tag.Try Parts.Both 0 0) (block scope list & handlers_of p)
