-- Where the walk stands, and the open records around it. Rows are numbered from 1.
-- Assumes nothing.
use Rattle.std.specs.Prelude.{if◌then◌else◌, List, [], ◌∷◌, Bool, not, ◌||◌, ℕ, ◌-◌, eqb}
use Rattle.meaning.specs.Numbers.Tag
use Rattle.meaning.specs.Tree.{one_of}
use Rattle.meaning.specs.Grammar.{scope_of}
use Rattle.tables.specs.Columns.RecordTable
use Rattle.tables.specs.Loops.{until}
use Rattle.tables.specs.Table.{capped, column_f, row_f, set_column_f, move_row_f, head_f}
use Rattle.tables.specs.declared.Row.{Row}
use Rattle.scoping.specs.declared.Ctx.{Ctx}
use Rattle.path.specs.declared.Walk.{Walk}

-- ---- the state

unfoldable pub charged_f : Walk → ℕ → Walk
charged_f w n =
    record { visited = w.visited; gap = record { 0 = w.gap.0 - n }; end = w.end; inner = w.inner; ctx = w.ctx }

unfoldable pub stepped_f : Walk → Walk
stepped_f w =
    record {
      visited = record { 0 = capped w.visited.0 1 };
      gap = record { 0 = capped w.gap.0 1 };
      end = w.end;
      inner = record { 0 = capped w.visited.0 1 };
      ctx = w.ctx;
    }

unfoldable pub with_inner_f : Walk → ℕ → Walk
with_inner_f w n = record { visited = w.visited; gap = w.gap; end = w.end; inner = record { 0 = n }; ctx = w.ctx }

unfoldable pub with_cursor_f : Walk → ℕ → ℕ → Walk
with_cursor_f w read written =
    record {
      visited = record { 0 = written };
      gap = record { 0 = read };
      end = w.end;
      inner = w.inner;
      ctx = w.ctx;
    }

unfoldable pub with_ctx_f : Walk → Ctx → Walk
with_ctx_f w x = record { visited = w.visited; gap = w.gap; end = w.end; inner = w.inner; ctx = x }

-- the lent tables and the walk
pub record Tables : Type 0 where
  pub records : List ℕ
  pub scopes : List ℕ
  pub symbols : List ℕ
  pub walk : Walk

abbrev pub tables : List ℕ → List ℕ → List ℕ → Walk → Tables
tables r s y w = record { records = r; scopes = s; symbols = y; walk = w }

-- the record table and the walk; the record table and an open row
pub record OnRecords : Type 0 where
  pub records : List ℕ
  pub walk : Walk

abbrev pub on_records : List ℕ → Walk → OnRecords
on_records t w = record { records = t; walk = w }

pub record OpenRows : Type 0 where
  pub t : List ℕ
  pub at : ℕ

abbrev pub open_rows : List ℕ → ℕ → OpenRows
open_rows t at = record { t = t; at = at }

-- ---- scopes of open rows

unfoldable pub scope_at_f : List ℕ → ℕ → ℕ
scope_at_f t at = if eqb at 0 then 0 else scope_of (head_f (row_f t (at - 1)))

unfoldable pub has_scope_f : List ℕ → ℕ → Bool
has_scope_f t at = eqb at 0 || not (eqb (scope_at_f t at) 0)

unfoldable pub up_f : List ℕ → ℕ → ℕ
up_f t at = column_f t (at - 1) RecordTable.Up

unfoldable pub current_scope_f : List ℕ → ℕ → ℕ → ℕ
current_scope_f t inner n = scope_at_f t (until n (has_scope_f t) (up_f t) inner)

unfoldable pub is_hoist_f : List ℕ → ℕ → Bool
is_hoist_f t at = eqb at 0 || one_of (Tag.Program ∷ Tag.Function ∷ Tag.StaticBlock ∷ []) (column_f t (at - 1) RecordTable.Tag)

unfoldable pub hoist_scope_f : List ℕ → ℕ → ℕ → ℕ
hoist_scope_f t inner n = scope_at_f t (until n (is_hoist_f t) (up_f t) inner)

-- ---- entering and leaving

unfoldable pub close_f : OpenRows → OpenRows
close_f o = open_rows (set_column_f o.t (o.at - 1) RecordTable.Up 0) (up_f o.t o.at)

unfoldable pub stays_f : List ℕ → ℕ → Bool
stays_f t at =
    eqb at 0
    || (not (eqb (column_f t (at - 1) RecordTable.Left) 0) || eqb (column_f t (at - 1) RecordTable.Tag) Tag.StaticBlock)

unfoldable pub settle_f : ℕ → OpenRows → OpenRows
settle_f n o = until n (λ p. stays_f p.t p.at) close_f o

unfoldable pub count_down_f : List ℕ → ℕ → List ℕ
count_down_f t at = if eqb at 0 then t else set_column_f t (at - 1) RecordTable.Left (column_f t (at - 1) RecordTable.Left - 1)

abbrev pub open_row_f : Row → ℕ → Row
open_row_f r around = record { tag = r.tag; a = r.a; b = r.b; c = r.c; n = r.n; up = around; left = r.n }

unfoldable pub enter_f : OnRecords → OnRecords
enter_f q =
    let around = q.walk.inner.0 in
    let t₁ = count_down_f q.records around in
    let t₂ = move_row_f t₁ q.walk.gap.0 q.walk.visited.0 (open_row_f (row_f t₁ q.walk.gap.0) around) in
    let w = stepped_f q.walk in
    let o = settle_f w.visited.0 (open_rows t₂ w.inner.0) in
    on_records o.t (with_inner_f w o.at)
