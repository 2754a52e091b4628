-- Block, function body and static block.
-- Assumes nothing.
use Rattle.std.specs.Prelude.{ℕ, ◌-◌}
use Rattle.meaning.specs.Numbers.Parts as TryParts
use Rattle.meaning.specs.Numbers.Tag
use Rattle.tables.specs.Columns.RecordTable
use Rattle.tables.specs.Table.{capped, column_f, row_f, closed_row_f}
use Rattle.tables.specs.Stream.{Buf, emit_f, replace_row_f}
use Rattle.tables.specs.declared.Row.{Row}
use Rattle.statements.specs.Try.{context_rows, wrapped_context_rows, open_try_f, transform_list_f}
use Rattle.statements.specs.declared.Parts.{Parts}
use Rattle.statements.specs.declared.Plan.{Plan}
use Rattle.creation.specs.Creation.{in_rows}
use Rattle.creation.specs.Kinds.{for_block_f, for_body_f, for_static_block_f}
use Rattle.path.specs.Path.{Tables, tables, charged_f, with_cursor_f, with_ctx_f, current_scope_f, hoist_scope_f}

-- the scope made last before the Catch's
abbrev pub list_scope : Parts → ℕ
list_scope p = p.scope.0 - 1

-- the current scope and the hoist scope of the record to enter
abbrev pub current_in : Tables → ℕ
current_in q = current_scope_f q.records q.walk.inner.0 q.walk.visited.0

abbrev pub hoist_in : Tables → ℕ
hoist_in q = hoist_scope_f q.records q.walk.inner.0 q.walk.visited.0

-- a Block's rows become those of a Try
unfoldable pub block_rows_f : Parts → Buf → Buf
block_rows_f p b =
    let r = row_f b.t b.read in
    let b₁ = emit_f b (closed_row_f Tag.Try TryParts.Both 0 0 3) in
    let b₂ = replace_row_f b₁ (closed_row_f Tag.Block r.a 0 0 (capped r.n 1)) in
    transform_list_f r.n p b₂

unfoldable pub transform_block_statement_f : Plan → Tables → Tables
transform_block_statement_f plan q =
    let w = q.walk in
    let c = for_block_f (in_rows q.scopes q.symbols w.ctx) (current_in q) (hoist_in q) plan.awaits in
    let v = charged_f w (capped plan.wraps context_rows) in
    let b = block_rows_f c.created.parts (record { t = q.records; read = w.gap.0; written = v.gap.0 }) in
    tables b.t c.scopes c.symbols (with_ctx_f v c.created.ctx)

-- a record keeps its row, as given, and gets one child: a Try around its list
unfoldable pub wrapped_rows_f : Row → ℕ → Parts → Buf → Buf
wrapped_rows_f row scope p b =
    let n = column_f b.t b.read RecordTable.N in
    let b₁ = replace_row_f b row in
    let b₂ = open_try_f scope (capped n 1) b₁ in
    transform_list_f n p b₂

unfoldable pub enter_function_body_f : Plan → Tables → Tables
enter_function_body_f plan q =
    let w = q.walk in
    let n = column_f q.records w.gap.0 RecordTable.N in
    let c =
    for_body_f q.records (in_rows q.scopes q.symbols w.ctx) (current_in q) (hoist_in q) (capped w.gap.0 1) n
    plan.awaits
    in
    let v = charged_f w (capped plan.wraps wrapped_context_rows) in
    let p = c.created.parts in
    let b = wrapped_rows_f (closed_row_f Tag.Body 0 0 0 1) (list_scope p) p (record { t = q.records; read = w.gap.0; written = v.gap.0 }) in
    tables b.t c.scopes c.symbols (with_ctx_f v c.created.ctx)

unfoldable pub exit_static_block_f : Plan → Tables → Tables
exit_static_block_f plan q =
    let w = q.walk in
    let old = column_f q.records w.gap.0 RecordTable.A in
    let c = for_static_block_f (in_rows q.scopes q.symbols w.ctx) old plan.awaits in
    let p = c.created.parts in
    let b =
    wrapped_rows_f (closed_row_f Tag.StaticBlock (list_scope p) 0 0 1) old p (record { t = q.records; read = w.gap.0; written = w.visited.0 })
    in
    tables b.t c.scopes c.symbols (with_ctx_f (with_cursor_f w b.read b.written) c.created.ctx)
