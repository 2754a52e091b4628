-- Rows streamed through the gap: the next row is read after `read` others and written after `written` others; the rows between are 0.
-- Assumes nothing.
use Rattle.std.specs.Prelude.{List, Bool, ℕ, ◌+◌, ◌-◌, eqb}
use Rattle.tables.specs.Columns.RecordTable
use Rattle.tables.specs.Loops.{turns, until}
use Rattle.tables.specs.Table.{largest, capped, column_f, row_f, set_row_f, move_row_f}
use Rattle.tables.specs.declared.Row.{Row}
use Rattle.tables.specs.declared.Cursor.{Cursor}

-- a table with a cursor
pub record Buf : Type 0 where
  pub t : List ℕ
  pub read : ℕ
  pub written : ℕ

abbrev pub buf : List ℕ → Cursor → Buf
buf t q = record { t = t; read = q.read.0; written = q.written.0 }

-- a new row; a row in the place of the next one; the next row
unfoldable pub emit_f : Buf → Row → Buf
emit_f b r = record { t = set_row_f b.t b.written r; read = b.read; written = capped b.written 1 }

unfoldable pub replace_row_f : Buf → Row → Buf
replace_row_f b r =
    record {
      t = move_row_f b.t b.read b.written r;
      read = capped b.read 1;
      written = capped b.written 1;
    }

unfoldable pub copy_row_f : Buf → Buf
copy_row_f b = replace_row_f b (row_f b.t b.read)

-- c subtrees
pub record Copying : Type 0 where
  pub buf : Buf
  pub pending : ℕ

abbrev pub copying : Buf → ℕ → Copying
copying b c = record { buf = b; pending = c }

abbrev pub copied : Copying → Bool
copied s = eqb s.pending 0

unfoldable pub copy_one : Copying → Copying
copy_one s = copying (copy_row_f s.buf) (s.pending - 1 + column_f s.buf.t s.buf.read RecordTable.N)

unfoldable pub copy_f : Buf → ℕ → Buf
copy_f b c = (until (largest - b.read) copied copy_one (copying b c)).buf

-- the last row written goes behind the gap again; the last n of them
unfoldable pub unread_row_f : Buf → Buf
unread_row_f b =
    record {
      t = move_row_f b.t (b.written - 1) (b.read - 1) (row_f b.t (b.written - 1));
      read = b.read - 1;
      written = b.written - 1;
    }

unfoldable pub take_back_f : ℕ → Buf → Buf
take_back_f n b = turns n unread_row_f b
