-- Scope and symbol rows in tables of numbers, two and five to a row.
-- Assumes nothing.
use Rattle.std.specs.Prelude.{if◌then◌else◌, List, [], ◌∷◌, Bool, ◌||◌, ℕ, zero, suc, ◌+◌, ◌*◌, ◌-◌, ◌/◌, ◌%◌, get_or, set, eqb, leb}
use Rattle.meaning.specs.Numbers.SymbolFlag
use Rattle.meaning.specs.File.{Scope, scope_row, Symbol, symbol_row}
use Rattle.meaning.specs.Scoping.{Store}
use Rattle.tables.specs.Columns.ScopeTable
use Rattle.tables.specs.Columns.SymbolTable
use Rattle.tables.specs.Table.{capped}
use Rattle.scoping.specs.declared.Ctx.{Ctx}

-- the first scope row: the root scope
abbrev pub root_scope : ℕ
root_scope = 1

-- ---- the counters

unfoldable pub with_scope : Ctx → Ctx
with_scope x =
    record {
      mode = x.mode;
      esm = x.esm;
      scopes = capped x.scopes 1;
      symbols = x.symbols;
      read = x.read;
      helper = x.helper;
      contexts = x.contexts;
    }

unfoldable pub with_symbol : Ctx → Ctx
with_symbol x =
    record {
      mode = x.mode;
      esm = x.esm;
      scopes = x.scopes;
      symbols = capped x.symbols 1;
      read = x.read;
      helper = x.helper;
      contexts = x.contexts;
    }

unfoldable pub with_context : Ctx → Ctx
with_context x =
    record {
      mode = x.mode;
      esm = x.esm;
      scopes = x.scopes;
      symbols = x.symbols;
      read = x.read;
      helper = x.helper;
      contexts = capped x.contexts 1;
    }

unfoldable pub with_helper : Ctx → ℕ → Ctx
with_helper x y =
    record {
      mode = x.mode;
      esm = x.esm;
      scopes = x.scopes;
      symbols = x.symbols;
      read = x.read;
      helper = record { 0 = y };
      contexts = x.contexts;
    }

-- ---- numbers of the first n rows, numbered from 1

-- w numbers to a row
abbrev pub number_f : ℕ → List ℕ → ℕ → ℕ → ℕ → ℕ
number_f w t n i f = if eqb i 0 then 0 else if leb i n then get_or t ((i - 1) * w + f) 0 else 0

unfoldable pub scope_number : List ℕ → ℕ → ℕ → ℕ → ℕ
scope_number t n s f = number_f ScopeTable.Numbers t n s f

unfoldable pub symbol_number : List ℕ → ℕ → ℕ → ℕ → ℕ
symbol_number t n y f = number_f SymbolTable.Numbers t n y f

abbrev pub set_number_f : ℕ → List ℕ → ℕ → ℕ → ℕ → ℕ → List ℕ
set_number_f w t n i f v = if eqb i 0 then t else if leb i n then set t ((i - 1) * w + f) v else t

unfoldable pub set_scope_f : List ℕ → ℕ → ℕ → ℕ → ℕ → List ℕ
set_scope_f t n s f v = set_number_f ScopeTable.Numbers t n s f v

unfoldable pub set_symbol_f : List ℕ → ℕ → ℕ → ℕ → ℕ → List ℕ
set_symbol_f t n y f v = set_number_f SymbolTable.Numbers t n y f v

-- ---- rows

-- scope row i, counted from 0; n rows from row i on
unfoldable pub scope_at : List ℕ → ℕ → Scope
scope_at t i = scope_row (get_or t (i * ScopeTable.Numbers) 0) (get_or t (i * ScopeTable.Numbers + ScopeTable.Flags) 0)

unfoldable pub scopes_f : List ℕ → ℕ → ℕ → List Scope
scopes_f t zero i = []
scopes_f t (suc n) i = scope_at t i ∷ scopes_f t n (suc i)

-- symbol row i, its scope being in column f: SymbolTable.Scope as it stands, SymbolTable.ReadScope as read
unfoldable pub symbol_at : List ℕ → ℕ → ℕ → Symbol
symbol_at t f i =
    let at = i * SymbolTable.Numbers in
    symbol_row (get_or t at 0) (get_or t (at + SymbolTable.Flags) 0) (get_or t (at + f) 0) (get_or t (at + SymbolTable.Made) 0)

unfoldable pub symbols_f : List ℕ → ℕ → ℕ → ℕ → List Symbol
symbols_f t f zero i = []
symbols_f t f (suc n) i = symbol_at t f i ∷ symbols_f t f n (suc i)

-- all that the tables hold
unfoldable pub store_f : List ℕ → List ℕ → Ctx → Store
store_f ss ys x =
    record {
      mode = x.mode;
      is_module = x.esm;
      scopes = scopes_f ss x.scopes 0;
      symbols = symbols_f ys SymbolTable.Scope x.symbols 0;
      as_read = symbols_f ys SymbolTable.ReadScope x.read 0;
      helper = x.helper.0;
      contexts = x.contexts;
    }

-- block-scoped, or a class
unfoldable pub block_scoped : ℕ → Bool
block_scoped f = eqb (f / SymbolFlag.BlockScoped % 2) 1 || eqb (f / SymbolFlag.Class % 2) 1
