-- How many rows the parts of a Try get.
-- Assumes nothing.
use Rattle.std.specs.Prelude.{if◌then◌else◌, ◌&&◌, ℕ, ◌+◌, eqb}
use Rattle.meaning.specs.Numbers.Tag
use Rattle.meaning.specs.Tree.{Head, Forest, none, more}
use Rattle.meaning.specs.Statements.{any_using}
use Rattle.meaning.specs.Charges.{wraps}

-- the rows that a part gets
abbrev pub own_rows : Head → Forest → ℕ
own_rows h k = if eqb h.tag Tag.Block && any_using k then 12 + wraps k else 0

-- those of the parts of a list
unfoldable pub part_rows : Forest → ℕ
part_rows none = 0
part_rows (more h k r) = own_rows h k + part_rows r

-- and those of a Try's children
abbrev pub child_rows : Head → Forest → ℕ
child_rows h k = if eqb h.tag Tag.Catch then part_rows k else own_rows h k

unfoldable pub try_rows : Forest → ℕ
try_rows none = 0
try_rows (more h k r) = child_rows h k + try_rows r
