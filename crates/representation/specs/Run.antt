-- The row of a record that is read from a file.
-- Assumes nothing.
use Rattle.meaning.specs.Grammar.{head_of, children_of}
use Rattle.meaning.specs.declared.Field.{Field}
use Rattle.tables.specs.declared.Row.{Row}
use Rattle.representation.specs.Gap.Cells.{line}

-- the row of a record that is not open
unfoldable pub record_row : Field → Row
record_row x = line (head_of x) (children_of x)
