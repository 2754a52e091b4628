-- The rows of a store, and what a change adds to them, at most.
-- Assumes nothing.
use Rattle.std.specs.Prelude.{if◌then◌else◌, Bool, true, false, not, ◌&&◌, ℕ, ◌+◌, ◌*◌, ◌≤◌, length, eqb}
use Rattle.std.proofs.Common.{arith}
use Rattle.meaning.specs.Scoping.{Store}
use Rattle.charge_laws.proofs.Growth.Rows.{Grown}

abbrev pub given : Bool → ℕ → ℕ
given b n = if b then n else 0

-- what is counted: records, scopes, symbols, or what records mention

pub data RowKind : Type 0 where
  records scopes symbols mentioned : RowKind

unfoldable pub per_record : RowKind → ℕ
per_record records = 1
per_record scopes = 0
per_record symbols = 0
per_record mentioned = 0

unfoldable pub per_scope : RowKind → ℕ
per_scope records = 0
per_scope scopes = 1
per_scope symbols = 0
per_scope mentioned = 0

unfoldable pub per_symbol : RowKind → ℕ
per_symbol records = 0
per_symbol scopes = 0
per_symbol symbols = 1
per_symbol mentioned = 0

unfoldable pub per_mention : RowKind → ℕ
per_mention records = 0
per_mention scopes = 0
per_mention symbols = 0
per_mention mentioned = 1

-- the store's rows, with the helper's symbol while it may still come
unfoldable pub rows : RowKind → Store → ℕ
rows records st = 0
rows scopes st = length st.scopes
rows symbols st = length st.symbols + given (eqb st.helper 0) 1
rows mentioned st = 0

-- the helper's symbol comes once
helper_most : (m h u : Bool) → given ((m && h) && u) 1 + given (h && not (m && u)) 1 ≤ given h 1
helper_most true true true = omega arith
helper_most true true false = omega arith
helper_most true false u = omega arith
helper_most false true u = omega arith
helper_most false false u = omega arith

pub rows_most : (K : RowKind) {u : Bool} {s y c : ℕ} {a b : Store} → Grown u s y c a b
    → rows K b ≤ rows K a + (s * per_scope K + y * per_symbol K)
unfolding rows per_scope per_symbol
rows_most records p = omega arith
rows_most scopes p = omega (arith, p.scopes)
rows_most symbols {u} {a = a} p = rw p.helper (omega (arith, p.symbols, helper_most (eqb a.mode 0) (eqb a.helper 0) u))
rows_most mentioned p = omega arith
