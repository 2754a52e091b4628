-- The items of a Program that is lowered.
-- Assumes nothing.
use Rattle.std.specs.Prelude.{if◌then◌else◌, List, ℕ, eqb}
use Rattle.meaning.specs.Numbers.Tag
use Rattle.meaning.specs.Numbers.Kind
use Rattle.meaning.specs.Numbers.Form
use Rattle.meaning.specs.Numbers.LineForm
use Rattle.meaning.specs.Numbers.SymbolFlag
use Rattle.meaning.specs.Numbers.KnownName
use Rattle.meaning.specs.Statements.{is_using}
use Rattle.tables.specs.Columns.RecordTable
use Rattle.tables.specs.Columns.SymbolTable
use Rattle.tables.specs.Table.{capped, column_f, row_f, set_row_f, closed_row_f, head_f}
use Rattle.tables.specs.Stream.{Buf, buf, emit_f, replace_row_f, copy_f}
use Rattle.tables.specs.declared.Row.{Row}
use Rattle.scoping.specs.Rows.{root_scope, symbol_number}
use Rattle.scoping.specs.Changes.{SymbolRows, in_symbols, create_symbol_f, set_symbol_flags_f}
use Rattle.scoping.specs.declared.Ctx.{Ctx}
use Rattle.statements.specs.Try.{declare_f}
use Rattle.rewrite_items.specs.Kinds.{item_f}
use Rattle.rewrite_items.specs.Names.{count_names_f, flag_names_f, specifiers_f}
use Rattle.scoping.specs.declared.Rewriting.{Rewriting}
use Rattle.rewrite_items.specs.declared.Item.{Item}
use Rattle.rewrite_items.specs.declared.Item.TheVariants.{
  Kept,
  Moved,
  Declared,
  Class,
  DefaultClass,
  DefaultValue,
  ExportedClass,
  ExportedDeclaration,
}

-- ---- rows

-- the next row is left out
unfoldable pub drop_f : Buf → Buf
drop_f b = record { t = set_row_f b.t b.read (closed_row_f 0 0 0 0 0); read = capped b.read 1; written = b.written }

-- `export { y as name }`
unfoldable pub export_rows_f : ℕ → ℕ → Buf → Buf
export_rows_f y name b = emit_f (emit_f b (closed_row_f Tag.ModuleLine LineForm.ExportNamed 0 0 1)) (closed_row_f Tag.Specifier y name 0 0)

-- `var y = ` and the next record, with another row
unfoldable pub value_rows_f : ℕ → Row → Buf → Buf
value_rows_f y row b = copy_f (replace_row_f (declare_f Kind.Var y b) row) row.n

unfoldable pub preserve_name_f : SymbolRows → Row → SymbolRows
preserve_name_f q r =
    let n = q.ctx.symbols in
    let q₁ = create_symbol_f q (symbol_number q.t n r.c SymbolTable.Name) SymbolFlag.Class r.b (symbol_number q.t n r.c SymbolTable.Made) in
    in_symbols (set_symbol_flags_f q₁ r.c SymbolFlag.FunctionScoped) q₁.ctx

-- ---- items

-- items on their way, with the symbols and the counters
pub record PassingF : Type 0 where
  pub buf : Buf
  pub symbols : List ℕ
  pub ctx : Ctx

abbrev pub passing_f : Buf → List ℕ → Ctx → PassingF
passing_f b y x = record { buf = b; symbols = y; ctx = x }

abbrev pub passing : List ℕ → List ℕ → Rewriting → PassingF
passing t y s = passing_f (buf t s.at) y s.ctx

unfoldable pub copied_f : PassingF → PassingF
copied_f s = passing_f (copy_f s.buf 1) s.symbols s.ctx

unfoldable pub class_f : PassingF → PassingF
class_f s =
    let r = row_f s.buf.t s.buf.read in
    let y = preserve_name_f (in_symbols s.symbols s.ctx) r in
    passing_f (value_rows_f r.c (closed_row_f Tag.Class Form.Expression r.b y.ctx.symbols r.n) s.buf) y.t y.ctx

-- a Declaration becomes var; a using is recorded
unfoldable pub recorded_f : Row → Row
recorded_f r = if is_using (head_f r) then closed_row_f Tag.Declaration Kind.Var r.a 0 r.n else closed_row_f Tag.Declaration Kind.Var 0 0 r.n

unfoldable pub declared_f : PassingF → PassingF
declared_f s =
    let r = row_f s.buf.t s.buf.read in
    let ys = flag_names_f s.buf.t (in_symbols s.symbols s.ctx) (capped s.buf.read 1) r.n in
    passing_f (copy_f (replace_row_f s.buf (recorded_f r)) r.n) ys s.ctx

unfoldable pub exported_class_f : PassingF → PassingF
exported_class_f s =
    let b = drop_f s.buf in
    let y = column_f b.t b.read RecordTable.C in
    let name = symbol_number s.symbols s.ctx.symbols y SymbolTable.Name in
    class_f (passing_f (export_rows_f y name b) s.symbols s.ctx)

unfoldable pub exported_declaration_f : PassingF → PassingF
exported_declaration_f s =
    let b = drop_f s.buf in
    let n = column_f b.t b.read RecordTable.N in
    let list = capped b.read 1 in
    let ys = flag_names_f b.t (in_symbols s.symbols s.ctx) list n in
    let b₁ = emit_f b (closed_row_f Tag.ModuleLine LineForm.ExportNamed 0 0 (count_names_f b.t list n)) in
    let b₂ = specifiers_f (in_symbols ys s.ctx) n b₁ in
    let b₃ = replace_row_f b₂ (closed_row_f Tag.Declaration Kind.Var 0 0 n) in
    passing_f (copy_f b₃ n) ys s.ctx

unfoldable pub default_class_f : PassingF → PassingF
default_class_f s =
    let b = drop_f s.buf in
    class_f (passing_f (export_rows_f (column_f b.t b.read RecordTable.C) KnownName.Default b) s.symbols s.ctx)

unfoldable pub as_expression_f : Row → Row
as_expression_f r = if eqb r.tag Tag.Class then closed_row_f Tag.Class Form.Expression r.b r.c r.n else closed_row_f r.tag r.a r.b r.c r.n

unfoldable pub default_value_f : PassingF → PassingF
default_value_f s =
    let y = create_symbol_f (in_symbols s.symbols s.ctx) KnownName.DefaultValue SymbolFlag.FunctionScoped root_scope 0 in
    let b = drop_f s.buf in
    let r = row_f b.t b.read in
    let b₁ = export_rows_f y.ctx.symbols KnownName.Default b in
    passing_f (value_rows_f y.ctx.symbols (as_expression_f r) b₁) y.t y.ctx

-- by what it is
abbrev pub transform_as : Item → PassingF → PassingF
transform_as Kept s = copied_f s
transform_as Moved s = copied_f s
transform_as Declared s = declared_f s
transform_as Class s = class_f s
transform_as DefaultClass s = default_class_f s
transform_as DefaultValue s = default_value_f s
transform_as ExportedClass s = exported_class_f s
transform_as ExportedDeclaration s = exported_declaration_f s

unfoldable pub transform_item_f : PassingF → PassingF
transform_item_f s = transform_as (item_f s.buf.t s.buf.read) s
