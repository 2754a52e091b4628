-- Rows put in the places that they carry in the column Up: the number of rows that must stand before them.
-- Assumes nothing.
use Rattle.std.specs.Prelude.{if◌then◌else◌, List, Bool, ℕ, eqb, leb}
use Rattle.tables.specs.Columns.RecordTable
use Rattle.tables.specs.Loops.{turns, until}
use Rattle.tables.specs.Table.{capped, column_f, row_f, set_column_f, set_row_f}

-- a table, and how many of its rows are passed
pub record RowsAt : Type 0 where
  pub t : List ℕ
  pub at : ℕ

abbrev pub rows_at : List ℕ → ℕ → RowsAt
rows_at t i = record { t = t; at = i }

-- two rows change places
unfoldable pub exchange_f : List ℕ → ℕ → ℕ → List ℕ
exchange_f t i j = set_row_f (set_row_f t i (row_f t j)) j (row_f t i)

-- the next row: passed in its place, else put there
unfoldable pub place_one_f : RowsAt → RowsAt
place_one_f s =
    let p = column_f s.t s.at RecordTable.Up in
    if eqb p s.at then rows_at s.t (capped s.at 1) else rows_at (exchange_f s.t s.at p) s.at

-- the rows up to a place
abbrev pub passed_to : ℕ → RowsAt → Bool
passed_to to s = leb to s.at

-- two turns for each row of the largest table
abbrev pub turns_of_all : ℕ
turns_of_all = 131070

unfoldable pub place_f : List ℕ → ℕ → ℕ → List ℕ
place_f t from to = (until turns_of_all (passed_to to) place_one_f (rows_at t from)).t

-- the next row loses its place; n of them
unfoldable pub clear_one_f : RowsAt → RowsAt
clear_one_f s = rows_at (set_column_f s.t s.at RecordTable.Up 0) (capped s.at 1)

unfoldable pub clear_places_f : List ℕ → ℕ → ℕ → List ℕ
clear_places_f t from n = (turns n clear_one_f (rows_at t from)).t

-- the next row gets the next place; n of them
pub record Numbering : Type 0 where
  pub rows : RowsAt
  pub next : ℕ

abbrev pub numbering : List ℕ → ℕ → ℕ → Numbering
numbering t i p = record { rows = rows_at t i; next = p }

unfoldable pub number_one_f : Numbering → Numbering
number_one_f s = numbering (set_column_f s.rows.t s.rows.at RecordTable.Up s.next) (capped s.rows.at 1) (capped s.next 1)

unfoldable pub number_rows_f : List ℕ → ℕ → ℕ → ℕ → List ℕ
number_rows_f t from n first = (turns n number_one_f (numbering t from first)).rows.t
