-- The import line on tables, for any numbers in them.
-- Assumes nothing.
use Rattle.std.specs.Prelude.{if◌then◌else◌, Bool, not, ◌&&◌, List, ℕ, ◌-◌, eqb}
use Rattle.meaning.specs.Numbers.Tag
use Rattle.meaning.specs.Numbers.LineForm
use Rattle.meaning.specs.Numbers.KnownName
use Rattle.meaning.specs.Numbers.Mode
use Rattle.tables.specs.Columns.RecordTable
use Rattle.tables.specs.Table.{capped, column_f, set_column_f, closed_row_f}
use Rattle.tables.specs.Stream.{Buf, emit_f, take_back_f}
use Rattle.scoping.specs.declared.Ctx.{Ctx}
use Rattle.path.specs.Path.{Tables, tables, OnRecords, on_records, with_cursor_f}

-- a module in runtime mode in which a helper was loaded
unfoldable pub import_due_f : Ctx → Bool
import_due_f x = eqb x.mode Mode.Runtime && eqb x.esm 1 && not (eqb x.helper.0 0)

-- the first row has a child more
unfoldable pub count_child_f : List ℕ → List ℕ
count_child_f t = set_column_f t 0 RecordTable.N (capped (column_f t 0 RecordTable.N) 1)

unfoldable pub write_import_f : ℕ → Buf → Buf
write_import_f y b =
    emit_f (emit_f b (closed_row_f Tag.ModuleLine LineForm.ImportHelper 0 0 1)) (closed_row_f Tag.Specifier y KnownName.Default 0 0)

-- the rows behind the first go two rows on, and the line stands there
unfoldable pub add_import_f : OnRecords → OnRecords
add_import_f q =
    let w = q.walk in
    let visited = w.visited.0 in
    let last = capped visited 2 in
    let b = take_back_f (visited - 1) (record { t = count_child_f q.records; read = last; written = visited }) in
    on_records (write_import_f w.ctx.helper.0 b).t (with_cursor_f w w.gap.0 last)

unfoldable pub complete_f : OnRecords → OnRecords
complete_f q = if import_due_f q.walk.ctx then add_import_f q else q

-- with the other tables
abbrev pub complete_in : Tables → Tables
complete_in q =
    let c = complete_f (on_records q.records q.walk) in
    tables c.records q.scopes q.symbols c.walk
