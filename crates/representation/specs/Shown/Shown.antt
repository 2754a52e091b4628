-- What a reader of the tables finds in them: the records of the tree in file order, the scope rows, the symbol rows, and how often these are named.
-- Assumes nothing.
use Rattle.std.specs.Prelude.{List, [], ◌∷◌, ◌++◌, ℕ, zero, suc, ◌+◌, ◌*◌, ◌-◌, get_or}
use Rattle.tables.specs.Columns.SymbolTable
use Rattle.meaning.specs.Tree.{Row, row}
use Rattle.meaning.specs.File.{Scope, scope_row, Symbol, symbol_row}
use Rattle.tables.specs.Table.{row_f, head_f, counts_at}
use Rattle.path.specs.Path.{Tables}

-- so many of something, from the number i on
unfoldable pub list_from : {A : Type 0} → (ℕ → A) → ℕ → ℕ → List A
list_from f i zero = []
list_from f i (suc n) = f i ∷ list_from f (i + 1) n

-- the record in the row after i others
abbrev pub record_in : List ℕ → ℕ → Row
record_in t i = row (head_f (row_f t i)) (row_f t i).n

-- the rows visited and those still to visit; between them are free rows
unfoldable pub records_in : Tables → List Row
records_in q =
    let w = q.walk in
    list_from (record_in q.records) 0 w.visited.0
    ++ list_from (record_in q.records) w.gap.0 (w.end.0 - w.gap.0)

abbrev pub scope_in : List ℕ → ℕ → Scope
scope_in t i = scope_row (get_or t (i * 2) 0) (get_or t (i * 2 + 1) 0)

unfoldable pub scopes_in : Tables → List Scope
scopes_in q = list_from (scope_in q.scopes) 0 q.walk.ctx.scopes

-- the fifth number of a symbol row in the table is its scope as read
abbrev pub symbol_in : List ℕ → ℕ → Symbol
symbol_in t i = symbol_row (get_or t (i * SymbolTable.Numbers) 0) (get_or t (i * SymbolTable.Numbers + 1) 0) (get_or t (i * SymbolTable.Numbers + 2) 0) (get_or t (i * SymbolTable.Numbers + 3) 0)

unfoldable pub symbols_in : Tables → List Symbol
symbols_in q = list_from (symbol_in q.symbols) 0 q.walk.ctx.symbols

-- the counts of the symbol rows, which stand behind the rows for which the table has numbers
unfoldable pub counts_in : Tables → List ℕ
counts_in q = list_from (λ i. get_or q.symbols (counts_at q.symbols + i) 0) 0 q.walk.ctx.symbols
