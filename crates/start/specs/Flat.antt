-- What the code of this crate computes.
-- Assumes nothing.
use Rattle.meaning.specs.declared.Reason.TheVariants as Reason
use Rattle.std.specs.Prelude.{Ok, Err, if◌then◌else◌, List, ℕ, ◌+◌, ◌*◌, ◌-◌, ◌/◌, min, leb, length, set, replicate}
use Rattle.meaning.specs.File.{scope_bytes, symbol_bytes}
use Rattle.meaning.specs.Grammar.{two, field_of}
use Rattle.meaning.specs.Refusals.{Outcome, refused}
use Rattle.checking.specs.declared.Layout.{Layout}
use Rattle.checking.specs.declared.Surveyed.{Surveyed}
use Rattle.checking.specs.Survey.{fine}
use Rattle.tables.specs.Columns.RecordTable
use Rattle.tables.specs.Columns.ScopeTable
use Rattle.tables.specs.Columns.SymbolTable
use Rattle.tables.specs.Loops.{turns}
use Rattle.tables.specs.Table.{set_row_f}
use Rattle.representation.specs.Run.{record_row}
use Rattle.mentions.specs.Counters.{add_rows_f, on_counts}
use Rattle.path.specs.declared.Walk.{Walk}
use Rattle.path.specs.Path.{Tables, tables}
use Rattle.start.specs.Start.{Begun, begun, ready}

-- ---- scope and symbol rows

abbrev pub cleared : List ℕ → List ℕ
cleared t = replicate (length t) 0

-- a table, and the next row to store
pub record Storing : Type 0 where
  pub t : List ℕ
  pub k : ℕ

abbrev pub storing : List ℕ → ℕ → Storing
storing t k = record { t = t; k = k }

-- row k, counted from 0
unfoldable pub scope_into_f : List ℕ → List ℕ → ℕ → List ℕ
scope_into_f f t k =
    let at = scope_bytes * (k + 1) in
    let to = k * ScopeTable.Numbers in
    set (set t to (two f (at + 3))) (to + 1) (two f (at + 5))

unfoldable pub next_scope : List ℕ → Storing → Storing
next_scope f s = storing (scope_into_f f s.t s.k) (s.k + 1)

unfoldable pub scopes_f : List ℕ → ℕ → List ℕ → List ℕ
scopes_f f n t = (turns n (next_scope f) (storing t 0)).t

unfoldable pub symbol_into_f : List ℕ → ℕ → List ℕ → ℕ → List ℕ
symbol_into_f f first t k =
    let at = first + symbol_bytes * k in
    let to = k * SymbolTable.Numbers in
    let t₀ = set t to (two f (at + 3)) in
    let t₁ = set t₀ (to + 1) (two f (at + 5)) in
    let t₂ = set t₁ (to + 2) (two f (at + 7)) in
    let t₃ = set t₂ (to + 3) (two f (at + 9)) in
    set t₃ (to + 4) (two f (at + 7))

unfoldable pub next_symbol : List ℕ → ℕ → Storing → Storing
next_symbol f first s = storing (symbol_into_f f first s.t s.k) (s.k + 1)

unfoldable pub symbols_f : List ℕ → ℕ → ℕ → List ℕ → List ℕ
symbols_f f first n t = (turns n (next_symbol f first) (storing t 0)).t

-- ---- records

-- a table, the offset of the next record, and its row
pub record Filling : Type 0 where
  pub t : List ℕ
  pub at : ℕ
  pub k : ℕ

abbrev pub filling : List ℕ → ℕ → ℕ → Filling
filling t at k = record { t = t; at = at; k = k }

unfoldable pub next_record : List ℕ → Filling → Filling
next_record f s = let x = field_of f s.at in filling (set_row_f s.t s.k (record_row x)) x.next (s.k + 1)

unfoldable pub records_f : List ℕ → ℕ → ℕ → ℕ → List ℕ → List ℕ
records_f f free end tree t = (turns (end - free) (next_record f) (filling t tree free)).t

-- ---- the tables

-- before the first visit
unfoldable pub walk_f : Layout → ℕ → ℕ → Walk
walk_f l free end =
    record {
      visited = record { 0 = 0 };
      gap = record { 0 = free };
      end = record { 0 = end };
      inner = record { 0 = 0 };
      ctx =
          record {
            mode = l.mode;
            esm = l.esm;
            scopes = l.scopes;
            symbols = l.symbols;
            read = l.symbols;
            helper = record { 0 = 0 };
            contexts = 0;
          };
    }

unfoldable pub fill_f : List ℕ → Layout → ℕ → List ℕ → List ℕ → List ℕ → Tables
fill_f f l end r s y =
    let free = end - l.records in
    tables
    (records_f f free end l.tree (cleared r))
    (scopes_f f l.scopes (cleared s))
    (symbols_f f l.first l.symbols (cleared y))
    (walk_f l free end)

-- by the survey of a file: the rows that are lent
unfoldable pub admit_by : Outcome Surveyed → List ℕ → List ℕ → List ℕ → Outcome Surveyed
admit_by (Ok q) r s y =
    if leb q.figures.records (length r / RecordTable.Numbers)
    then (if leb q.figures.scopes (length s / ScopeTable.Lent)
    then (if leb q.figures.symbols (length y / SymbolTable.Lent) then fine q.layout q.figures else refused Reason.FewRows 2)
    else refused Reason.FewRows 1)
    else refused Reason.FewRows 0
admit_by (Err why) r s y = Err why

-- the counts of the symbols, of all rows to visit
unfoldable pub counted_f : Tables → Tables
counted_f q =
    let w = q.walk in
    tables q.records q.scopes (on_counts (add_rows_f q.records w.gap.0 w.end.0) q.symbols) w

-- and the tables
unfoldable pub start_by : Outcome Surveyed → List ℕ → List ℕ → List ℕ → List ℕ → Begun
start_by (Ok q) bytes r s y = ready (counted_f (fill_f bytes q.layout (min q.figures.records 65535) r s y))
start_by (Err why) bytes r s y = begun (Err why) r s y
