-- The record table as a list of numbers, seven to a row. Places are counted by the rows before them.
-- Assumes nothing.
use Rattle.std.specs.Prelude.{◌≡◌, List, Bool, ℕ, ◌+◌, ◌*◌, ◌-◌, ◌/◌, ◌≤◌, ◌<◌, min, length, get_or, set, eqb}
use Rattle.std.proofs.Common.{arith}
use Rattle.meaning.specs.Tree.{Head, hd}
use Rattle.tables.specs.Columns.RecordTable
use Rattle.tables.specs.Columns.ScopeTable
use Rattle.tables.specs.Columns.SymbolTable
use Rattle.tables.specs.Loops.{until}
use Rattle.tables.specs.declared.Row.{Row}

-- the largest number of a table, and the most rows that it can have
abbrev pub largest : ℕ
largest = 65535

-- the sum, at most the largest number
abbrev pub capped : ℕ → ℕ → ℕ
capped x k = min (x + k) largest

pub cap_one : (x : ℕ) → x < largest → capped x 1 ≡ x + 1
cap_one x h = omega arith

-- column f of the row after i others, or 0 past the end
unfoldable pub column_f : List ℕ → ℕ → ℕ → ℕ
column_f t i f = get_or t (i * RecordTable.Numbers + f) 0

unfoldable pub row_f : List ℕ → ℕ → Row
row_f t i =
    record {
      tag = column_f t i RecordTable.Tag;
      a = column_f t i RecordTable.A;
      b = column_f t i RecordTable.B;
      c = column_f t i RecordTable.C;
      n = column_f t i RecordTable.N;
      up = column_f t i RecordTable.Up;
      left = column_f t i RecordTable.Left;
    }

unfoldable pub set_column_f : List ℕ → ℕ → ℕ → ℕ → List ℕ
set_column_f t i f v = set t (i * RecordTable.Numbers + f) v

unfoldable pub set_row_f : List ℕ → ℕ → Row → List ℕ
set_row_f t i r =
    let t₀ = set_column_f t i RecordTable.Tag r.tag in
    let t₁ = set_column_f t₀ i RecordTable.A r.a in
    let t₂ = set_column_f t₁ i RecordTable.B r.b in
    let t₃ = set_column_f t₂ i RecordTable.C r.c in
    let t₄ = set_column_f t₃ i RecordTable.N r.n in
    let t₅ = set_column_f t₄ i RecordTable.Up r.up in
    set_column_f t₅ i RecordTable.Left r.left

-- a row that is not open
abbrev pub closed_row_f : ℕ → ℕ → ℕ → ℕ → ℕ → Row
closed_row_f t a b c n = record { tag = t; a = a; b = b; c = c; n = n; up = 0; left = 0 }

abbrev pub head_f : Row → Head
head_f r = hd r.tag r.a r.b r.c

-- one place is cleared, and a row is stored at another
unfoldable pub move_row_f : List ℕ → ℕ → ℕ → Row → List ℕ
move_row_f t from to r = set_row_f (set_row_f t from (closed_row_f 0 0 0 0 0)) to r

pub moved : (t t₁ t₂ : List ℕ) (from to : ℕ) (r : Row)
    → t₁ ≡ set_row_f t from (closed_row_f 0 0 0 0 0) → t₂ ≡ set_row_f t₁ to r → t₂ ≡ move_row_f t from to r
unfolding move_row_f
moved t t₁ t₂ from to r e f = rw e at f

-- the last row of c subtrees after a row
pub record Skipping : Type 0 where
  pub at : ℕ
  pub pending : ℕ

abbrev pub skipping : ℕ → ℕ → Skipping
skipping at c = record { at = at; pending = c }

abbrev pub skipped : Skipping → Bool
skipped s = eqb s.pending 0

unfoldable pub skip_one : List ℕ → Skipping → Skipping
skip_one t s = skipping (s.at + 1) (s.pending - 1 + column_f t s.at RecordTable.N)

unfoldable pub end_f : List ℕ → ℕ → ℕ → ℕ
end_f t at c = (until (largest - at) skipped (skip_one t) (skipping at c)).at

-- ---- behind the rows of the other tables

-- where the new numbers of scopes stand: behind the rows for which the table has numbers
unfoldable pub new_numbers_at : List ℕ → ℕ
new_numbers_at t = length t / ScopeTable.Lent * ScopeTable.Numbers

-- within the table
pub numbers_few : (t : List ℕ) (n : ℕ) → n ≡ new_numbers_at t → n ≤ length t
unfolding new_numbers_at
numbers_few t n e = omega arith

-- where the counts of symbols stand: behind the rows for which it has numbers
unfoldable pub counts_at : List ℕ → ℕ
counts_at t = length t / SymbolTable.Lent * SymbolTable.Numbers

-- within the table
pub counts_few : (t : List ℕ) (n : ℕ) → n ≡ counts_at t → n ≤ length t
unfolding counts_at
counts_few t n e = omega arith
