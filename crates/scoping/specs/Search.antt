-- The next row that has a number in a column, and the last row that binds a name from some row on. Rows are counted from 0.
-- Assumes nothing.
use Rattle.std.specs.Prelude.{if◌then◌else◌, ◌≡◌, List, Option, MatchOption, ℕ, zero, suc, ◌+◌, ◌*◌, ◌-◌, ◌≤◌, ◌<◌, get_or, eqb}
use Rattle.meaning.specs.Scoping.{last_binding}
use Rattle.tables.specs.Columns.SymbolTable
use Rattle.scoping.specs.Rows.{symbols_f}

-- the first of n rows from row i on that has the number in column f, or the row behind them
unfoldable pub next_row_f : List ℕ → ℕ → ℕ → ℕ → ℕ → ℕ
next_row_f t f want zero i = i
next_row_f t f want (suc n) i = if eqb (get_or t (i * SymbolTable.Numbers + f) 0) want then i else next_row_f t f want n (suc i)

-- what a search gives whose first row is row r, if only those before row n are looked at
abbrev pub Finds : ℕ → ℕ → Option ℕ → Type 0
Finds n r found = MatchOption found (n ≤ r) (λ k. (k < n) × (k ≡ r))

-- the last of n rows that binds a name, by 1, where `found` is the last one before row i; column f has the scope
abbrev pub binding_from : List ℕ → ℕ → ℕ → ℕ → ℕ → ℕ → ℕ → ℕ
binding_from t f n scope name i found = last_binding (symbols_f t f (n - i) i) scope name (suc i) found
