-- The rows of a store as the numbers of tables, with free numbers behind them.
-- Assumes nothing.
use Rattle.std.specs.Prelude.{◌≡◌, List, [], ◌∷◌, ℕ, length, get_or, drop}
use Rattle.meaning.specs.File.{Scope, Symbol}
use Rattle.meaning.specs.Scoping.{Store, no_symbol}
use Rattle.scoping.specs.Changes.{ScopeRows, SymbolRows, in_scopes, in_symbols}
use Rattle.scoping.specs.declared.Ctx.{Ctx}

unfoldable pub scope_cells : List Scope → List ℕ → List ℕ
scope_cells [] z = z
scope_cells (s ∷ ss) z = s.parent ∷ s.flags ∷ scope_cells ss z

-- the second list are the rows as read
unfoldable pub symbol_cells : List Symbol → List Symbol → List ℕ → List ℕ
symbol_cells [] rs z = z
symbol_cells (y ∷ ys) rs z =
    y.name ∷ y.flags ∷ y.scope ∷ y.made ∷ (get_or rs 0 no_symbol).scope ∷ symbol_cells ys (drop 1 rs) z

abbrev pub ctx_of : Store → Ctx
ctx_of st =
    record {
      mode = st.mode;
      esm = st.is_module;
      scopes = length st.scopes;
      symbols = length st.symbols;
      read = length st.as_read;
      helper = record { 0 = st.helper };
      contexts = st.contexts;
    }

abbrev pub scopes_held : Store → List ℕ → ScopeRows
scopes_held st z = in_scopes (scope_cells st.scopes z) (ctx_of st)

abbrev pub symbols_held : Store → List ℕ → SymbolRows
symbols_held st z = in_symbols (symbol_cells st.symbols st.as_read z) (ctx_of st)

-- The rows as read have the names and the `made` of the rows as they stand, of which there may be more.
abbrev pub Agrees : List Symbol → List Symbol → Type 0
Agrees [] ys = Unit {0}
Agrees (x ∷ xs) [] = ⊥
Agrees (x ∷ xs) (y ∷ ys) = (x.name ≡ y.name) × (x.made ≡ y.made) × Agrees xs ys
