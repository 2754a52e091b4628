-- Try parts.
-- Assumes nothing.
use Rattle.std.specs.Prelude.{if◌then◌else◌, List, Bool, not, ◌&&◌, ℕ, eqb}
use Rattle.meaning.specs.Numbers.Tag
use Rattle.tables.specs.Columns.RecordTable
use Rattle.tables.specs.Loops.{turns}
use Rattle.tables.specs.Table.{capped, column_f, row_f, closed_row_f, end_f}
use Rattle.tables.specs.Stream.{Buf, buf, copy_row_f, copy_f}
use Rattle.tables.specs.declared.Row.{Row}
use Rattle.scoping.specs.Changes.{in_symbols, move_binding_f}
use Rattle.scoping.specs.declared.Ctx.{Ctx}
use Rattle.statements.specs.Plan.{counting, no_plan, plan_f}
use Rattle.statements.specs.Try.{wrapped_context_rows}
use Rattle.statements.specs.declared.Counting.{Counting}
use Rattle.statements.specs.declared.Plan.{Plan}
use Rattle.creation.specs.Creation.{in_rows}
use Rattle.creation.specs.Kinds.{for_try_part_f}
use Rattle.path.specs.Path.{Tables, tables, charged_f, with_ctx_f}
use Rattle.rewrite_contexts.specs.Lists.{list_scope, current_in, hoist_in, wrapped_rows_f}
use Rattle.rewrite_contexts.specs.declared.LastChild.{LastChild}
use Rattle.scoping.specs.declared.Rewriting.{Rewriting}

-- a Try's rows on their way, with the scopes, the symbols and the counters
pub record PartingF : Type 0 where
  pub buf : Buf
  pub scopes : List ℕ
  pub symbols : List ℕ
  pub ctx : Ctx

abbrev pub parting_f : Buf → List ℕ → List ℕ → Ctx → PartingF
parting_f b s y x = record { buf = b; scopes = s; symbols = y; ctx = x }

abbrev pub parting : List ℕ → List ℕ → List ℕ → Rewriting → PartingF
parting t s y p = parting_f (buf t p.at) s y p.ctx

-- ---- one part

unfoldable pub transform_try_block_f : ℕ → ℕ → ℕ → PartingF → PartingF
transform_try_block_f cur hoist awaits s =
    let old = column_f s.buf.t s.buf.read RecordTable.A in
    let c = for_try_part_f (in_rows s.scopes s.symbols s.ctx) cur hoist old awaits in
    let p = c.created.parts in
    parting_f (wrapped_rows_f (closed_row_f Tag.Block (list_scope p) 0 0 1) old p s.buf) c.scopes c.symbols c.created.ctx

-- a Block with a using directly in it, by the plan of its list
unfoldable pub is_part_f : Row → Plan → Bool
is_part_f r plan = eqb r.tag Tag.Block && not (eqb plan.usings 0)

unfoldable pub transform_part_f : ℕ → ℕ → PartingF → PartingF
transform_part_f cur hoist s =
    let r = row_f s.buf.t s.buf.read in
    let plan = plan_f s.buf.t (no_plan (capped s.buf.read 1)) r.n in
    if is_part_f r plan then transform_try_block_f cur hoist plan.awaits s
    else parting_f (copy_f s.buf 1) s.scopes s.symbols s.ctx

unfoldable pub transform_parts_f : ℕ → ℕ → ℕ → PartingF → PartingF
transform_parts_f cur hoist n s = turns n (transform_part_f cur hoist) s

-- ---- how many rows are added

unfoldable pub part_rows_f : Row → Plan → ℕ
part_rows_f r plan = if is_part_f r plan then capped plan.wraps wrapped_context_rows else 0

unfoldable pub plan_part_f : List ℕ → Counting → Counting
plan_part_f t s =
    let r = row_f t s.at.0 in
    let plan = plan_f t (no_plan (capped s.at.0 1)) r.n in
    counting (end_f t s.at.0 1) (capped s.sum (part_rows_f r plan))

unfoldable pub plan_parts_f : List ℕ → ℕ → ℕ → ℕ
plan_parts_f t after n = (turns n (plan_part_f t) (counting after 0)).sum

unfoldable pub plan_child_f : List ℕ → Counting → Counting
plan_child_f t s =
    let r = row_f t s.at.0 in
    if eqb r.tag Tag.Catch then counting (end_f t s.at.0 1) (capped s.sum (plan_parts_f t (capped s.at.0 1) r.n))
    else plan_part_f t s

unfoldable pub plan_try_f : List ℕ → ℕ → ℕ → ℕ
plan_try_f t after n = (turns n (plan_child_f t) (counting after 0)).sum

-- ---- the handler

unfoldable pub if_block_f : Row → ℕ
if_block_f r = if eqb r.tag Tag.Block then r.a else 0

abbrev pub last_child : ℕ → ℕ → LastChild
last_child at scope = record { at = record { 0 = at }; scope = record { 0 = scope } }

unfoldable pub block_scope_f : List ℕ → LastChild → LastChild
block_scope_f t s = last_child (end_f t s.at.0 1) (if_block_f (row_f t s.at.0))

-- the scope of the last Block of a list, or 0
unfoldable pub last_block_scope_f : List ℕ → ℕ → ℕ → ℕ
last_block_scope_f t after n = (turns n (block_scope_f t) (last_child after 0)).scope.0

-- the symbol rows, and a place in the record table
pub record Naming : Type 0 where
  pub t : List ℕ
  pub at : ℕ

abbrev pub naming : List ℕ → ℕ → Naming
naming t at = record { t = t; at = at }

unfoldable pub move_name_f : List ℕ → Ctx → ℕ → Naming → Naming
move_name_f records x scope s =
    let r = row_f records s.at in
    naming (if eqb r.tag Tag.Name then move_binding_f (in_symbols s.t x) r.a scope else s.t) (end_f records s.at 1)

-- the Names of a list move to the scope
unfoldable pub move_names_f : List ℕ → Ctx → ℕ → ℕ → ℕ → List ℕ → List ℕ
move_names_f records x scope after n t = (turns n (move_name_f records x scope) (naming t after)).t

unfoldable pub transform_handler_f : ℕ → ℕ → PartingF → PartingF
transform_handler_f cur hoist s =
    let n = column_f s.buf.t s.buf.read RecordTable.N in
    let added = plan_parts_f s.buf.t (capped s.buf.read 1) n in
    let list = capped s.buf.written 1 in
    let o = transform_parts_f cur hoist n (parting_f (copy_row_f s.buf) s.scopes s.symbols s.ctx) in
    let ys = move_names_f o.buf.t o.ctx (last_block_scope_f o.buf.t list n) list n o.symbols in
    if eqb added 0 then o else parting_f o.buf o.scopes ys o.ctx

-- ---- the Try

unfoldable pub transform_child_f : ℕ → ℕ → PartingF → PartingF
transform_child_f cur hoist s =
    if eqb (column_f s.buf.t s.buf.read RecordTable.Tag) Tag.Catch then transform_handler_f cur hoist s else transform_part_f cur hoist s

unfoldable pub transform_children_f : ℕ → ℕ → ℕ → PartingF → PartingF
transform_children_f cur hoist n s = turns n (transform_child_f cur hoist) s

unfoldable pub enter_try_statement_f : ℕ → Tables → Tables
enter_try_statement_f added q =
    let w = q.walk in
    let n = column_f q.records w.gap.0 RecordTable.N in
    let v = charged_f w added in
    let b = copy_row_f (record { t = q.records; read = w.gap.0; written = v.gap.0 }) in
    let o = transform_children_f (current_in q) (hoist_in q) n (parting_f b q.scopes q.symbols w.ctx) in
    tables o.buf.t o.scopes o.symbols (with_ctx_f v o.ctx)
