-- One visit on the lent tables, for any numbers in them.
-- Assumes nothing.
use Rattle.std.specs.Prelude.{if◌then◌else◌, List, Bool, not, ◌&&◌, ℕ, ◌-◌, eqb, leb, ltb}
use Rattle.meaning.specs.Numbers.Tag
use Rattle.tables.specs.Columns.RecordTable
use Rattle.tables.specs.Table.{capped, column_f}
use Rattle.tables.specs.Stream.{take_back_f}
use Rattle.scoping.specs.Changes.{in_symbols}
use Rattle.statements.specs.Plan.{no_plan, plan_f}
use Rattle.statements.specs.declared.Plan.{Plan}
use Rattle.path.specs.Path.{Tables, tables, on_records, open_rows, with_cursor_f, with_inner_f, close_f, settle_f, enter_f}
use Rattle.path.specs.declared.Walk.{Walk}
use Rattle.rewrite_contexts.specs.Lists.{transform_block_statement_f, enter_function_body_f, exit_static_block_f}
use Rattle.rewrite_contexts.specs.Tries.{plan_try_f, enter_try_statement_f}
use Rattle.rewrite_for_switch.specs.For.{plan_for_f, transform_for_statement_f}
use Rattle.rewrite_for_switch.specs.Switch.{plan_cases_f, transform_switch_statement_f}
use Rattle.rewrite_for_of.specs.ForOf.{takes_using_f, inserts_f, insert_using_f, wrap_body_f}
use Rattle.rewrite_program.specs.Program.{enter_program_f}

-- ---- what entering a record rewrites

-- the list of the first record to visit
unfoldable pub plan_next_f : List ℕ → Walk → Plan
plan_next_f t w = plan_f t (no_plan (capped w.gap.0 1)) (column_f t w.gap.0 RecordTable.N)

unfoldable pub rewrite_program_f : Tables → Tables
rewrite_program_f q = if eqb (plan_next_f q.records q.walk).usings 0 then q else enter_program_f q

unfoldable pub rewrite_block_f : Tables → Tables
rewrite_block_f q =
    let plan = plan_next_f q.records q.walk in
    if eqb plan.usings 0 then q else transform_block_statement_f plan q

unfoldable pub rewrite_body_f : Tables → Tables
rewrite_body_f q =
    let plan = plan_next_f q.records q.walk in
    if eqb plan.usings 0 then q else enter_function_body_f plan q

unfoldable pub rewrite_for_f : Tables → Tables
rewrite_for_f q =
    let plan = plan_for_f q.records q.walk.gap.0 in
    if eqb plan.usings 0 then q else transform_for_statement_f plan q

unfoldable pub rewrite_switch_f : Tables → Tables
rewrite_switch_f q =
    let gap = q.walk.gap.0 in
    let plan = plan_cases_f q.records (capped gap 1) (column_f q.records gap RecordTable.N) in
    if eqb plan.usings 0 then q else transform_switch_statement_f plan q

unfoldable pub rewrite_try_f : Tables → Tables
rewrite_try_f q =
    let gap = q.walk.gap.0 in
    let added = plan_try_f q.records (capped gap 1) (column_f q.records gap RecordTable.N) in
    if eqb added 0 then q else enter_try_statement_f added q

unfoldable pub rewrite_for_of_f : Tables → Tables
rewrite_for_of_f q =
    let gap = q.walk.gap.0 in
    if takes_using_f q.records gap then (
    if inserts_f q.records (in_symbols q.symbols q.walk.ctx) gap then insert_using_f q else wrap_body_f q)
    else q

-- by its tag
unfoldable pub rewrite_f : Tables → Tables
rewrite_f q =
    let tag = column_f q.records q.walk.gap.0 RecordTable.Tag in
    if eqb tag Tag.Program then rewrite_program_f q
    else if eqb tag Tag.Block then rewrite_block_f q
    else if eqb tag Tag.Label then rewrite_for_f q
    else if eqb tag Tag.For then rewrite_for_f q
    else if eqb tag Tag.ForOf then rewrite_for_of_f q
    else if eqb tag Tag.Switch then rewrite_switch_f q
    else if eqb tag Tag.Try then rewrite_try_f q
    else if eqb tag Tag.Body then rewrite_body_f q
    else q

-- ---- leaving a StaticBlock

unfoldable pub leave_block_f : Tables → Tables
leave_block_f q =
    let w = q.walk in
    let inner = w.inner.0 in
    let plan = plan_f q.records (no_plan inner) (column_f q.records (inner - 1) RecordTable.N) in
    let rows = capped w.visited.0 1 - inner in
    let b = take_back_f rows (record { t = q.records; read = w.gap.0; written = w.visited.0 }) in
    if eqb plan.usings 0 then q
    else exit_static_block_f plan (tables b.t q.scopes q.symbols (with_cursor_f w b.read b.written))

unfoldable pub leave_f : Tables → Tables
leave_f q =
    let o = close_f (open_rows q.records q.walk.inner.0) in
    let q₁ = leave_block_f (tables o.t q.scopes q.symbols q.walk) in
    let p = settle_f q₁.walk.visited.0 (open_rows q₁.records o.at) in
    tables p.t q₁.scopes q₁.symbols (with_inner_f q₁.walk p.at)

-- ---- the visit

-- the children of the innermost open record are all entered
unfoldable pub is_leaving_f : List ℕ → Walk → Bool
is_leaving_f t w = not (eqb w.inner.0 0) && eqb (column_f t (w.inner.0 - 1) RecordTable.Left) 0

-- no visit is left
unfoldable pub is_over_f : List ℕ → Walk → Bool
is_over_f t w = not (is_leaving_f t w) && leb w.end.0 w.gap.0

-- THE NEXT VISIT, on any tables.
unfoldable pub visit_f : Tables → Tables
visit_f q =
    let q₁ = rewrite_f q in
    let e = enter_f (on_records q₁.records q₁.walk) in
    if is_leaving_f q.records q.walk then leave_f q
    else if ltb q.walk.gap.0 q.walk.end.0 then tables e.records q₁.scopes q₁.symbols e.walk
    else q
