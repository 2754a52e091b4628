-- `enter_program` on tables.
-- Assumes nothing.
use Rattle.std.specs.Prelude.{List, ℕ}
use Rattle.meaning.specs.Numbers.Tag
use Rattle.tables.specs.Loops.{turns}
use Rattle.tables.specs.Table.{capped, row_f, closed_row_f}
use Rattle.tables.specs.Stream.{emit_f, replace_row_f}
use Rattle.scoping.specs.Changes.{in_scopes}
use Rattle.scoping.specs.declared.Ctx.{Ctx}
use Rattle.creation.specs.Scopes.{insert_scope_below_f}
use Rattle.path.specs.Path.{Tables, tables, charged_f, with_ctx_f}
use Rattle.rewrite_items.specs.Items.{PassingF, passing_f, transform_item_f}
use Rattle.rewrite_program.specs.Plan.{plan_program_f}
use Rattle.rewrite_program.specs.Arrange.{kept_rows_f, arrange_f}
use Rattle.rewrite_program.specs.declared.ProgramPlan.{ProgramPlan}
use Rattle.rewrite_program.specs.declared.Rewritten.{Rewritten}

unfoldable pub transform_items_f : ℕ → PassingF → PassingF
transform_items_f n s = turns n transform_item_f s

-- the records and the symbols, with the counters and the Block's row
pub record Rewriting : Type 0 where
  pub records : List ℕ
  pub symbols : List ℕ
  pub ctx : Ctx
  pub block : ℕ

abbrev pub rewriting : List ℕ → List ℕ → Rewritten → Rewriting
rewriting t y o = record { records = t; symbols = y; ctx = o.ctx; block = o.block.0 }

unfoldable pub rewrite_items_f : ℕ → ProgramPlan → PassingF → Rewriting
rewrite_items_f n plan start =
    let after = start.buf.written in
    let s = transform_items_f n start in
    let b = emit_f s.buf (closed_row_f Tag.Block (capped s.ctx.scopes 1) 0 0 plan.moved) in
    let items = capped plan.kept plan.moved in
    let rows = kept_rows_f b.t after items in
    record {
      records = arrange_f b.t after items rows;
      symbols = s.symbols;
      ctx = s.ctx;
      block = capped (capped after rows) 1;
    }

-- the Block that takes what moves
abbrev pub block_rows : ℕ
block_rows = 1

unfoldable pub enter_program_f : Tables → Tables
enter_program_f q =
    let w = q.walk in
    let read = w.gap.0 in
    let r = row_f q.records read in
    let plan = plan_program_f q.records (capped read 1) r.n in
    let v = charged_f w (capped plan.added block_rows) in
    let b =
    replace_row_f (record { t = q.records; read = read; written = v.gap.0 })
    (closed_row_f r.tag r.a r.b r.c (capped plan.kept 1))
    in
    let o = rewrite_items_f r.n plan (passing_f b q.symbols w.ctx) in
    let s = insert_scope_below_f o.records (in_scopes q.scopes o.ctx) r.a o.block plan.moved in
    tables o.records s.t o.symbols (with_ctx_f v s.ctx)
