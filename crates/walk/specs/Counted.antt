-- Visits that keep the counts of symbols true (02, request 7), for any numbers in the tables: the mentions of the rows that a visit may change are
-- taken off the counts before it, and added after it.
-- Assumes nothing.
use Rattle.std.specs.Prelude.{if◌then◌else◌, ◌≡◌, Bool, List, ℕ, ◌-◌}
use Rattle.meaning.specs.Tree.{one_of}
use Rattle.tables.specs.Columns.RecordTable
use Rattle.tables.specs.Table.{capped, column_f, end_f}
use Rattle.mentions.specs.Counters.{add_rows_f, take_rows_f, on_counts}
use Rattle.path.specs.declared.Walk.{Walk}
use Rattle.path.specs.Path.{Tables, tables, OnRecords, on_records}
use Rattle.import_line.specs.Import.{import_due_f, complete_f}
use Rattle.walk.specs.Plain.{rewritten}
use Rattle.walk.specs.Visit.{is_leaving_f, visit_f}
use Rattle.walk.specs.declared.Part.{Part}

-- ---- the rows that a visit may change

abbrev pub part : ℕ → ℕ → Part
part from end = record { from = record { 0 = from }; end = record { 0 = end } }

unfoldable pub part_f : List ℕ → Walk → Part
part_f t w =
    let gap = w.gap.0 in
    if is_leaving_f t w then part (w.inner.0 - 1) gap
    else if one_of rewritten (column_f t gap RecordTable.Tag) then part w.visited.0 (end_f t gap 1)
    else part w.visited.0 (capped gap 1)

unfoldable pub discount_part_f : List ℕ → Part → Walk → List ℕ → List ℕ
discount_part_f t p w y = on_counts (take_rows_f t w.gap.0 p.end.0) (on_counts (take_rows_f t p.from.0 w.visited.0) y)

unfoldable pub count_part_f : List ℕ → Part → Walk → List ℕ → List ℕ
count_part_f t p w y = on_counts (add_rows_f t w.gap.0 p.end.0) (on_counts (add_rows_f t p.from.0 w.visited.0) y)

-- ---- the visit, and the import line

unfoldable pub visit_counted_f : Tables → Tables
visit_counted_f q =
    let p = part_f q.records q.walk in
    let q₁ = visit_f (tables q.records q.scopes (discount_part_f q.records p q.walk q.symbols) q.walk) in
    tables q₁.records q₁.scopes (count_part_f q₁.records p q₁.walk q₁.symbols) q₁.walk

-- step by step
pub visit_steps : (q q₁ : Tables) (p : Part) (y y₁ : List ℕ) → p ≡ part_f q.records q.walk
    → y ≡ discount_part_f q.records p q.walk q.symbols → q₁ ≡ visit_f (tables q.records q.scopes y q.walk)
    → y₁ ≡ count_part_f q₁.records p q₁.walk q₁.symbols → tables q₁.records q₁.scopes y₁ q₁.walk ≡ visit_counted_f q
unfolding visit_counted_f
visit_steps q q₁ p y y₁ ep ey eq e = rw (← ep, ← ey, ← eq, ← e)

-- the record table, the symbol table and the walk
pub record Counted : Type 0 where
  pub records : List ℕ
  pub symbols : List ℕ
  pub walk : Walk

abbrev pub counted : List ℕ → List ℕ → Walk → Counted
counted r y w = record { records = r; symbols = y; walk = w }

unfoldable pub complete_counted_f : Counted → Counted
complete_counted_f q =
    let c = complete_f (on_records q.records q.walk) in
    counted c.records (if import_due_f q.walk.ctx then on_counts (add_rows_f c.records 1 3) q.symbols else q.symbols) c.walk

-- with the scope table
abbrev pub complete_counted_in : Tables → Tables
complete_counted_in q =
    let c = complete_counted_f (counted q.records q.symbols q.walk) in
    tables c.records q.scopes c.symbols c.walk

-- by whether the line is due
pub complete_steps : (q : Counted) (due : Bool) (c : OnRecords) (y : List ℕ) → import_due_f q.walk.ctx ≡ due
    → c ≡ complete_f (on_records q.records q.walk) → y ≡ (if due then on_counts (add_rows_f c.records 1 3) q.symbols else q.symbols)
    → counted c.records y c.walk ≡ complete_counted_f q
unfolding complete_counted_f
complete_steps q due c y d e f = rw (← e, d, ← f)
