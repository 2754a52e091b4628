-- Mentions added to counters and taken off, for any numbers in them. The counter of symbol row y is behind y - 1 others.
-- Assumes nothing.
use Rattle.std.specs.Prelude.{if◌then◌else◌, List, ◌++◌, ℕ, ◌+◌, ◌-◌, eqb, take, drop, get_or, set}
use Rattle.meaning.specs.Tree.{Head}
use Rattle.meaning.specs.Mentions.{first_named, second_named}
use Rattle.tables.specs.Loops.{turns}
use Rattle.tables.specs.Table.{capped, row_f, head_f, counts_at}

-- ---- one symbol

-- its counter changes
abbrev pub change_f : (ℕ → ℕ) → List ℕ → ℕ → List ℕ
change_f by t y = if eqb y 0 then t else set t (y - 1) (by (get_or t (y - 1) 0))

unfoldable pub add_f : List ℕ → ℕ → List ℕ
add_f t y = change_f (λ n. capped n 1) t y

unfoldable pub take_f : List ℕ → ℕ → List ℕ
take_f t y = change_f (λ n. n - 1) t y

-- ---- one record

-- by what one mention does to the counters
abbrev pub record_f : (List ℕ → ℕ → List ℕ) → List ℕ → Head → List ℕ
record_f one t h = one (one t (first_named h)) (second_named h)

unfoldable pub add_record_f : List ℕ → Head → List ℕ
add_record_f t h = record_f add_f t h

unfoldable pub take_record_f : List ℕ → Head → List ℕ
take_record_f t h = record_f take_f t h

-- ---- rows of the record table

-- the counters, and the next row
pub record Counting : Type 0 where
  pub t : List ℕ
  pub k : ℕ

abbrev pub counting : List ℕ → ℕ → Counting
counting t k = record { t = t; k = k }

-- what a record does to the counters, for the next row
unfoldable pub next_row : (List ℕ → Head → List ℕ) → List ℕ → Counting → Counting
next_row one r s = counting (one s.t (head_f (row_f r s.k))) (s.k + 1)

-- the rows behind one up to another
abbrev pub rows_f : (List ℕ → Head → List ℕ) → List ℕ → ℕ → ℕ → List ℕ → List ℕ
rows_f one r from to t = (turns (to - from) (next_row one r) (counting t from)).t

unfoldable pub add_rows_f : List ℕ → ℕ → ℕ → List ℕ → List ℕ
add_rows_f r from to t = rows_f add_record_f r from to t

unfoldable pub take_rows_f : List ℕ → ℕ → ℕ → List ℕ → List ℕ
take_rows_f r from to t = rows_f take_record_f r from to t

-- ---- the counts in a symbol table

-- they stand behind its rows
unfoldable pub on_counts : (List ℕ → List ℕ) → List ℕ → List ℕ
on_counts f y = take (counts_at y) y ++ f (drop (counts_at y) y)
