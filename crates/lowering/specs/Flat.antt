-- What the code of this crate computes.
-- Assumes nothing.
use Rattle.meaning.specs.declared.Reason.TheVariants as Reason
use Rattle.std.specs.Prelude.{Ok, Err, if◌then◌else◌, List, ℕ, ◌*◌, min, leb, length}
use Rattle.std.proofs.lemmas.List.Edits.{sets}
use Rattle.tables.specs.Loops.{until}
use Rattle.mentions.specs.Counters.{add_rows_f, on_counts}
use Rattle.path.specs.Path.{Tables, tables}
use Rattle.import_line.specs.Import.{complete_in}
use Rattle.meaning.specs.Refusals.{Outcome, refused}
use Rattle.checking.specs.declared.Surveyed.{Surveyed}
use Rattle.checking.specs.Survey.{fine}
use Rattle.start.specs.Flat.{fill_f}
use Rattle.walk.specs.Visit.{visit_f}
use Rattle.walk.specs.Over.{is_over_in}
use Rattle.renumbering.specs.Numbers.{numbered_f}
use Rattle.writing.specs.Writing.{file_bytes}
use Rattle.lowering.specs.Lower.{Finished, finished, zeros_for}

-- the output, by the answer of start's admission
unfoldable pub admit_by : Outcome Surveyed → List ℕ → Outcome Surveyed
admit_by (Ok q) o = if leb q.figures.bytes (length o) then fine q.layout q.figures else refused Reason.ShortOutput (length o)
admit_by (Err r) o = Err r

-- visits until the walk is over, so many at most
unfoldable pub run_f : ℕ → Tables → Tables
run_f n q = until n is_over_in visit_f q

-- the counts of the symbols, of all rows visited
unfoldable pub count_visited_f : Tables → Tables
count_visited_f q =
    tables q.records q.scopes (on_counts (add_rows_f q.records 0 q.walk.visited.0) q.symbols) q.walk

-- the bytes that tables say, their scopes numbered in the order in which the records name them
unfoldable pub bytes_in : Tables → List ℕ
bytes_in q = file_bytes q.records (numbered_f q.records q.walk.visited.0 q.scopes) q.symbols q.walk

-- the file in the tables, with the import line if it is due and the counts, at the front of the output
unfoldable pub finish_f : Tables → List ℕ → List ℕ
finish_f q o = sets o 0 (bytes_in (count_visited_f (complete_in q)))

-- by the answer of admission: the tables filled, visited, written and cleared
unfoldable pub lower_by : Outcome Surveyed → List ℕ → List ℕ → List ℕ → List ℕ → List ℕ → Finished
lower_by (Ok q) bytes r s y o =
    let rows = min q.figures.records 65535 in
    finished (Ok q.figures) (zeros_for r) (zeros_for s) (zeros_for y) (finish_f (run_f (2 * rows) (fill_f bytes q.layout rows r s y)) o)
lower_by (Err why) bytes r s y o = finished (Err why) r s y o
