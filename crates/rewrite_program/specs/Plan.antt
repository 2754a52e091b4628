-- What the items of a Program come to, counted first.
-- Assumes nothing.
use Rattle.std.specs.Prelude.{List, ℕ}
use Rattle.tables.specs.Columns.RecordTable
use Rattle.tables.specs.Loops.{turns}
use Rattle.tables.specs.Table.{capped, column_f, end_f}
use Rattle.rewrite_items.specs.Kinds.{item_f}
use Rattle.rewrite_items.specs.Names.{count_names_f}
use Rattle.rewrite_items.specs.declared.Item.{Item}
use Rattle.rewrite_items.specs.declared.Item.TheVariants.{
  Kept,
  Moved,
  Declared,
  Class,
  DefaultClass,
  DefaultValue,
  ExportedClass,
  ExportedDeclaration,
}
use Rattle.rewrite_program.specs.declared.ProgramPlan.{ProgramPlan}

-- the names that the child of the item after a row declares
unfoldable pub child_names_f : List ℕ → ℕ → ℕ
child_names_f t after = count_names_f t (capped after 2) (column_f t (capped after 1) RecordTable.N)

-- those of an exported Declaration
unfoldable pub exported_names_f : List ℕ → Item → ℕ → ℕ
exported_names_f t Kept after = 0
exported_names_f t Moved after = 0
exported_names_f t Declared after = 0
exported_names_f t Class after = 0
exported_names_f t DefaultClass after = 0
exported_names_f t DefaultValue after = 0
exported_names_f t ExportedClass after = 0
exported_names_f t ExportedDeclaration after = child_names_f t after

-- the rows of a var: Declaration, Declarator and Name; where it takes the place of an export's row, a Module line and a Specifier besides
abbrev pub var_rows : ℕ
var_rows = 3

abbrev pub exported_var_rows : ℕ
exported_var_rows = 4

-- the rows that an item adds
unfoldable pub added_f : Item → ℕ → ℕ
added_f Kept names = 0
added_f Moved names = 0
added_f Declared names = 0
added_f Class names = var_rows
added_f DefaultClass names = exported_var_rows
added_f DefaultValue names = exported_var_rows
added_f ExportedClass names = exported_var_rows
added_f ExportedDeclaration names = names

-- how many items it leaves where they were, and how many in the Block
unfoldable pub kept_f : Item → ℕ
kept_f Kept = 1
kept_f Moved = 0
kept_f Declared = 0
kept_f Class = 0
kept_f DefaultClass = 1
kept_f DefaultValue = 1
kept_f ExportedClass = 1
kept_f ExportedDeclaration = 1

unfoldable pub moved_f : Item → ℕ
moved_f Kept = 0
moved_f Moved = 1
moved_f Declared = 1
moved_f Class = 1
moved_f DefaultClass = 1
moved_f DefaultValue = 1
moved_f ExportedClass = 1
moved_f ExportedDeclaration = 1

abbrev pub plan : ℕ → ℕ → ℕ → ℕ → ProgramPlan
plan at added kept moved = record { at = record { 0 = at }; added = added; kept = kept; moved = moved }

unfoldable pub plan_item_f : List ℕ → ProgramPlan → ProgramPlan
plan_item_f t p =
    let item = item_f t p.at.0 in
    plan
    (end_f t p.at.0 1)
    (capped p.added (added_f item (exported_names_f t item p.at.0)))
    (capped p.kept (kept_f item))
    (capped p.moved (moved_f item))

unfoldable pub plan_program_f : List ℕ → ℕ → ℕ → ProgramPlan
plan_program_f t after n = turns n (plan_item_f t) (plan after 0 0 0)
