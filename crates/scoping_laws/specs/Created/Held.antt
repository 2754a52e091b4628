-- The rows of a store in the tables, with free rows behind them, as a context takes and leaves them.
-- Assumes nothing.
use Rattle.std.specs.Prelude.{◌≡◌, refl, Bool, true, false, List, ◌∷◌, ℕ, zero, suc, ◌+◌, ◌≤◌, length}
use Rattle.std.proofs.Common.{arith}
use Rattle.meaning.specs.Scoping.{Store}
use Rattle.charge_laws.proofs.Growth.Rows.{Grown, one_if}
use Rattle.representation.specs.Store.Held.{scope_cells, symbol_cells, ctx_of}
use Rattle.statements.specs.declared.Parts.{Parts}
use Rattle.creation.specs.Creation.{InRows, in_rows, Creating, creating}

-- free rows, and then the rest of a table
unfoldable pub free_scopes : ℕ → List ℕ → List ℕ
free_scopes zero z = z
free_scopes (suc n) z = 0 ∷ 0 ∷ free_scopes n z

unfoldable pub free_symbols : ℕ → List ℕ → List ℕ
free_symbols zero z = z
free_symbols (suc n) z = 0 ∷ 0 ∷ 0 ∷ 0 ∷ 0 ∷ free_symbols n z

-- those for a context: the first of them is its symbol, the last the error's
pub free_first : (b : Bool) (z : List ℕ) → free_symbols (1 + one_if b) z ≡ free_symbols 1 (free_symbols (one_if b) z)
unfolding free_symbols
free_first true z = refl
free_first false z = refl

pub free_last : (b : Bool) (z : List ℕ) → free_symbols (2 + one_if b) z ≡ free_symbols (1 + one_if b) (free_symbols 1 z)
unfolding free_symbols
free_last true z = refl
free_last false z = refl

-- both tables with the counters; and with the numbers of a Try
abbrev pub rows_held : Store → List ℕ → List ℕ → InRows
rows_held st zs zy = in_rows (scope_cells st.scopes zs) (symbol_cells st.symbols st.as_read zy) (ctx_of st)

abbrev pub created_as : Store → List ℕ → List ℕ → Parts → Creating
created_as st zs zy p =
    creating (scope_cells st.scopes zs) (symbol_cells st.symbols st.as_read zy) (record { ctx = ctx_of st; parts = p })

-- the number of the next symbol
abbrev pub next_symbol : Store → ℕ
next_symbol st = suc (length st.symbols)

-- what the store counts has 16 bits
abbrev pub Room : Store → Type 0
Room st = (length st.scopes ≤ 65535) × (length st.symbols ≤ 65535) × (st.contexts ≤ 65535)

-- and so before rows were added
pub room_before : {used : Bool} {s y c : ℕ} {st st' : Store} → Grown used s y c st st' → Room st' → Room st
room_before g r = omega (arith, g.scopes, g.symbols, g.contexts)
