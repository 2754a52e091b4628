-- Searches of names: the same in the tables as in the store.
-- Assumes nothing.
use Rattle.std.specs.Prelude.{◌≡◌, refl, List, [], ◌∷◌, ℕ, zero, suc, length, get_or}
use Rattle.std.proofs.Common.{sym}
use Rattle.meaning.specs.File.{Symbol}
use Rattle.meaning.specs.Scoping.{Store, no_symbol, scope_in, binds, last_binding, get_binding, find_binding}
use Rattle.meaning.specs.ForOf.{binds_name}
use Rattle.scoping.specs.Rows.{symbol_at, symbols_f, store_f}
use Rattle.representation.specs.Store.Held.{scope_cells, symbol_cells, ctx_of, Agrees}
use Rattle.representation.proofs.Store.Scopes.{scopes_are}
use Rattle.representation.proofs.Store.Symbols.{row_of, symbols_later, symbols_are}

-- ---- rows that differ in flags only

abbrev pub Alike : List Symbol → List Symbol → Type 0
Alike [] [] = Unit {0}
Alike [] (y ∷ ys) = ⊥
Alike (x ∷ xs) [] = ⊥
Alike (x ∷ xs) (y ∷ ys) = (x.name ≡ y.name) × (x.scope ≡ y.scope) × (x.made ≡ y.made) × Alike xs ys

last_alike : (xs ys : List Symbol) (scope name i found : ℕ) → Alike xs ys
    → last_binding xs scope name i found ≡ last_binding ys scope name i found
unfolding last_binding binds
last_alike [] [] scope name i found a = refl
last_alike [] (y ∷ ys) scope name i found a = absurd a
last_alike (x ∷ xs) [] scope name i found a = absurd a
last_alike (x ∷ xs) (y ∷ ys) scope name i found a = rw (a.0, a.1, a.2) (last_alike xs ys scope name (suc i) _ a.3)

row_alike : (xs ys : List Symbol) (i : ℕ) → Alike xs ys
    → ((get_or xs i no_symbol).name ≡ (get_or ys i no_symbol).name) × ((get_or xs i no_symbol).made ≡ (get_or ys i no_symbol).made)
row_alike [] [] i a = (refl, refl)
row_alike [] (y ∷ ys) i a = absurd a
row_alike (x ∷ xs) [] i a = absurd a
row_alike (x ∷ xs) (y ∷ ys) zero a = (a.0, a.2)
row_alike (x ∷ xs) (y ∷ ys) (suc i) a = row_alike xs ys i a.3

pub binding_alike : (xs ys : List Symbol) (scope name : ℕ) → Alike xs ys → get_binding xs scope name ≡ get_binding ys scope name
binding_alike xs ys scope name a = last_alike xs ys scope name 1 0 a

pub name_alike : (xs ys : List Symbol) (scope y : ℕ) → Alike xs ys → binds_name xs scope y ≡ binds_name ys scope y
unfolding binds_name
name_alike xs ys scope zero a = rw (binding_alike xs ys scope 0 a)
name_alike xs ys scope (suc i) a =
    let e = row_alike xs ys i a in
    rw (e.0, e.1, binding_alike xs ys scope (get_or ys i no_symbol).name a)

-- ---- the rows as read

pub read_are : (rs ys : List Symbol) (z : List ℕ) → Agrees rs ys → Alike (symbols_f (symbol_cells ys rs z) 4 (length rs) 0) rs
unfolding symbols_f symbol_at symbol_cells
read_are [] ys z a = tt
read_are (r ∷ rs) [] z a = absurd a
read_are (r ∷ rs) (y ∷ ys) z a =
    let e = symbols_later 4 (row_of y (r ∷ rs)) (symbol_cells ys rs z) (length rs) refl in
    (sym a.0, refl, sym a.1, rw e (read_are rs ys z a.2))

pub binds_name_is : (st : Store) (z : List ℕ) (scope y : ℕ) → Agrees st.as_read st.symbols
    → binds_name (symbols_f (symbol_cells st.symbols st.as_read z) 4 (length st.as_read) 0) scope y ≡ binds_name st.as_read scope y
binds_name_is st z scope y a = name_alike _ st.as_read scope y (read_are st.as_read st.symbols z a)

-- ---- a name seen from a scope

abbrev with_read : Store → List Symbol → Store
with_read st rs =
    record {
      mode = st.mode;
      is_module = st.is_module;
      scopes = st.scopes;
      symbols = st.symbols;
      as_read = rs;
      helper = st.helper;
      contexts = st.contexts;
    }

find_read : (n : ℕ) (st : Store) (rs : List Symbol) (scope name : ℕ)
    → find_binding n (with_read st rs) scope name ≡ find_binding n st scope name
unfolding find_binding
find_read zero st rs scope name = refl
find_read (suc n) st rs scope name = rw (find_read n st rs (scope_in st scope).parent name)

pub find_is : (st : Store) (z u : List ℕ) (n scope name : ℕ)
    → find_binding n (store_f (scope_cells st.scopes z) (symbol_cells st.symbols st.as_read u) (ctx_of st)) scope name
    ≡ find_binding n st scope name
unfolding store_f
find_is st z u n scope name =
    rw (scopes_are st.scopes z, symbols_are st.symbols st.as_read u) (find_read n st _ scope name)
