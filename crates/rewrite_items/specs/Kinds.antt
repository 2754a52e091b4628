-- What becomes of an item.
-- Assumes nothing.
use Rattle.std.specs.Prelude.{if◌then◌else◌, List, ℕ, eqb}
use Rattle.meaning.specs.Numbers.Tag
use Rattle.meaning.specs.Numbers.Form
use Rattle.tables.specs.Table.{capped, row_f}
use Rattle.tables.specs.declared.Row.{Row}
use Rattle.rewrite_items.specs.declared.Item.{Item}
use Rattle.rewrite_items.specs.declared.Item.TheVariants.{
  Kept,
  Moved,
  Declared,
  Class,
  DefaultClass,
  DefaultValue,
  ExportedClass,
  ExportedDeclaration,
}

unfoldable pub default_class_item_f : ℕ → Item
default_class_item_f symbol = if eqb symbol 0 then DefaultValue else DefaultClass

-- a default export, by its child
unfoldable pub default_item_f : Row → ℕ → Item
default_item_f r n =
    if eqb n 0 then Kept
    else if eqb r.a Form.Declaration then (
    if eqb r.tag Tag.Function then Kept
    else if eqb r.tag Tag.Class then default_class_item_f r.c
    else DefaultValue)
    else DefaultValue

-- an exported declaration, by its child's tag
unfoldable pub exported_item_f : ℕ → ℕ → Item
exported_item_f tag n =
    if eqb n 0 then Kept
    else if eqb tag Tag.Declaration then ExportedDeclaration
    else if eqb tag Tag.Class then ExportedClass
    else Kept

-- the item after a row
unfoldable pub item_f : List ℕ → ℕ → Item
item_f t after =
    let r = row_f t after in
    let child = row_f t (capped after 1) in
    if eqb r.tag Tag.Declaration then Declared
    else if eqb r.tag Tag.Function then Kept
    else if eqb r.tag Tag.Class then Class
    else if eqb r.tag Tag.ModuleLine then Kept
    else if eqb r.tag Tag.DefaultExport then default_item_f child r.n
    else if eqb r.tag Tag.ExportedDeclaration then exported_item_f child.tag r.n
    else Moved
