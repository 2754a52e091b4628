-- The For, with its Labels.
-- Assumes nothing.
use Rattle.std.specs.Prelude.{if◌then◌else◌, List, Bool, not, ℕ, ◌+◌, ◌-◌, eqb}
use Rattle.meaning.specs.Numbers.Tag
use Rattle.tables.specs.Columns.RecordTable
use Rattle.tables.specs.Loops.{turns, until}
use Rattle.tables.specs.Table.{largest, capped, column_f, row_f}
use Rattle.tables.specs.Stream.{Buf, copy_row_f}
use Rattle.statements.specs.TakeUp.{take_up_f}
use Rattle.statements.specs.Plan.{no_plan, plan_f}
use Rattle.statements.specs.Try.{wrapped_context_rows, declare_context_f, handlers_f, open_try_f}
use Rattle.statements.specs.declared.Parts.{Parts}
use Rattle.statements.specs.declared.Plan.{Plan}
use Rattle.creation.specs.Creation.{in_rows}
use Rattle.creation.specs.Kinds.{for_loop_f}
use Rattle.path.specs.Path.{Tables, tables, charged_f, with_ctx_f}
use Rattle.rewrite_contexts.specs.Lists.{list_scope, current_in, hoist_in}

-- the row after another is no Label
unfoldable pub is_loop_f : List ℕ → ℕ → Bool
is_loop_f t after = not (eqb (column_f t after RecordTable.Tag) Tag.Label)

abbrev pub next_row : ℕ → ℕ
next_row at = at + 1

-- the last of the Labels after a row
unfoldable pub labels_end_f : List ℕ → ℕ → ℕ
labels_end_f t after = until (largest - after) (is_loop_f t) next_row after

-- what the For below the Labels has to take up
unfoldable pub plan_for_f : List ℕ → ℕ → Plan
plan_for_f t after =
    let at = labels_end_f t after in
    let r = row_f t at in
    if eqb r.tag Tag.For then plan_f t (no_plan (capped at 1)) r.n else no_plan at

unfoldable pub pass_rows_f : ℕ → Buf → Buf
pass_rows_f n b = turns n copy_row_f b

unfoldable pub for_rows_f : Parts → Buf → Buf
for_rows_f p b =
    let labels = labels_end_f b.t b.read - b.read in
    let b₁ = open_try_f (list_scope p) 2 b in
    let b₂ = declare_context_f p b₁ in
    let b₃ = pass_rows_f labels b₂ in
    let n = column_f b₃.t b₃.read RecordTable.N in
    let b₄ = copy_row_f b₃ in
    let b₅ = take_up_f n p.context.0 b₄ in
    handlers_f p b₅

unfoldable pub transform_for_statement_f : Plan → Tables → Tables
transform_for_statement_f plan q =
    let w = q.walk in
    let c =
    for_loop_f q.records (in_rows q.scopes q.symbols w.ctx) (current_in q) (hoist_in q) w.gap.0 plan.awaits
    in
    let v = charged_f w (capped plan.wraps wrapped_context_rows) in
    let b = for_rows_f c.created.parts (record { t = q.records; read = w.gap.0; written = v.gap.0 }) in
    tables b.t c.scopes c.symbols (with_ctx_f v c.created.ctx)
