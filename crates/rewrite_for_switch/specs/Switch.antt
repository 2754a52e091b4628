-- The Switch.
-- Assumes nothing.
use Rattle.std.specs.Prelude.{if◌then◌else◌, List, ℕ, eqb}
use Rattle.meaning.specs.Numbers.Tag
use Rattle.tables.specs.Columns.RecordTable
use Rattle.tables.specs.Loops.{turns}
use Rattle.tables.specs.Table.{capped, column_f, row_f, end_f}
use Rattle.tables.specs.Stream.{Buf, copy_row_f, copy_f}
use Rattle.statements.specs.TakeUp.{take_up_f}
use Rattle.statements.specs.Plan.{plan, no_plan, plan_f}
use Rattle.statements.specs.Try.{wrapped_context_rows, declare_context_f, handlers_f, open_try_f}
use Rattle.statements.specs.declared.Parts.{Parts}
use Rattle.statements.specs.declared.Plan.{Plan}
use Rattle.creation.specs.Creation.{in_rows}
use Rattle.creation.specs.Kinds.{for_switch_f}
use Rattle.path.specs.Path.{Tables, tables, charged_f, with_ctx_f}
use Rattle.rewrite_contexts.specs.Lists.{list_scope, current_in}

-- a child of a Switch: the usings of a Case are taken up
unfoldable pub take_up_case_f : ℕ → Buf → Buf
take_up_case_f context b =
    let r = row_f b.t b.read in
    if eqb r.tag Tag.Case then take_up_f r.n context (copy_row_f b) else copy_f b 1

unfoldable pub take_up_cases_f : ℕ → ℕ → Buf → Buf
take_up_cases_f n context b = turns n (take_up_case_f context) b

unfoldable pub plan_case_f : List ℕ → Plan → Plan
plan_case_f t p =
    let r = row_f t p.at.0 in
    if eqb r.tag Tag.Case then plan_f t (plan (capped p.at.0 1) p.usings p.awaits p.wraps) r.n
    else plan (end_f t p.at.0 1) p.usings p.awaits p.wraps

-- what the Cases among n children have to take up
unfoldable pub plan_cases_f : List ℕ → ℕ → ℕ → Plan
plan_cases_f t after n = turns n (plan_case_f t) (no_plan after)

unfoldable pub switch_rows_f : Parts → Buf → Buf
switch_rows_f p b =
    let n = column_f b.t b.read RecordTable.N in
    let b₁ = open_try_f (list_scope p) 2 b in
    let b₂ = declare_context_f p b₁ in
    let b₃ = copy_row_f b₂ in
    let b₄ = take_up_cases_f n p.context.0 b₃ in
    handlers_f p b₄

unfoldable pub transform_switch_statement_f : Plan → Tables → Tables
transform_switch_statement_f plan q =
    let w = q.walk in
    let old = column_f q.records w.gap.0 RecordTable.A in
    let c = for_switch_f (in_rows q.scopes q.symbols w.ctx) (current_in q) old plan.awaits in
    let v = charged_f w (capped plan.wraps wrapped_context_rows) in
    let b = switch_rows_f c.created.parts (record { t = q.records; read = w.gap.0; written = v.gap.0 }) in
    tables b.t c.scopes c.symbols (with_ctx_f v c.created.ctx)
