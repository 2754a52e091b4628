-- Symbol rows in a table: what is read there, and what changes.
-- Assumes nothing.
use Rattle.std.specs.Prelude.{◌≡◌, List, [], ◌∷◌, ◌++◌, ℕ, suc, ◌*◌, ◌≤◌, length, get_or, drop}
use Rattle.std.proofs.Math.Path.{refl}
use Rattle.std.proofs.Common.{ap, ◌∙◌, add-zero, arith, length-append, length-drop}
use Rattle.tables.specs.Columns.SymbolTable
use Rattle.meaning.specs.File.{Symbol, symbol_row}
use Rattle.meaning.specs.Scoping.{
  Store,
  no_symbol,
  row_at,
  symbol_in,
  in_scope,
  with_flags,
  create_symbol,
  move_binding,
  set_symbol_flags,
  move_bindings,
}
use Rattle.tables.specs.Table.{capped}
use Rattle.scoping.specs.Rows.{with_symbol, symbol_number, set_symbol_f, symbol_at, symbols_f}
use Rattle.scoping.specs.Changes.{create_symbol_f, move_binding_f, set_symbol_flags_f}
use Rattle.representation.specs.Store.Held.{symbol_cells, ctx_of, symbols_held}
use Rattle.representation.proofs.Store.Cells.{Layout, get_next, number_is, put_is, set_behind, rows_next, rows_are}
use Rattle.spec_laws.specs.Trees.{length_set_row}

-- ---- the layout; the state are the rows as read that are left

abbrev pub row_of : Symbol → List Symbol → List ℕ
row_of y rs = y.name ∷ y.flags ∷ y.scope ∷ y.made ∷ (get_or rs 0 no_symbol).scope ∷ []

more : (y : Symbol) (ys rs : List Symbol) (z : List ℕ) → symbol_cells (y ∷ ys) rs z ≡ row_of y rs ++ symbol_cells ys (drop 1 rs) z
unfolding symbol_cells
more y ys rs z = refl

last : (rs : List Symbol) (z : List ℕ) → symbol_cells [] rs z ≡ z
unfolding symbol_cells
last rs z = refl

abbrev layout : Layout Symbol (List Symbol)
layout =
    record {
      w = 5;
      cells = symbol_cells;
      row = row_of;
      next = drop 1;
      long = λ y rs. refl;
      last = last;
      more = more;
    }

-- ---- what is read

pub symbol_later : (f : ℕ) (r t : List ℕ) (i : ℕ) → length r ≡ 5 → symbol_at (r ++ t) f (suc i) ≡ symbol_at t f i
unfolding symbol_at
symbol_later f r t i long =
    let get = get_next 5 r t long i in
    rw (get 1, get f, get 3, ← add-zero (suc i * SymbolTable.Numbers), get 0, add-zero (i * SymbolTable.Numbers))

pub symbols_later : (f : ℕ) (r t : List ℕ) (n : ℕ) → length r ≡ 5 → symbols_f (r ++ t) f n 1 ≡ symbols_f t f n 0
unfolding symbols_f
symbols_later f r t n long =
    rows_next layout (λ u. symbol_at u f) (λ u. symbols_f u f) (λ u i. refl) (λ u m i. refl) (symbol_later f) r t n 0 long

pub symbols_are : (ys rs : List Symbol) (z : List ℕ) → symbols_f (symbol_cells ys rs z) 2 (length ys) 0 ≡ ys
unfolding symbols_f symbol_at
symbols_are ys rs z =
    rows_are layout (λ u. symbol_at u 2) (λ u. symbols_f u 2) (λ u i. refl) (λ u n i. refl) (symbol_later 2) (λ y a t. refl) ys rs z

module _ (ys rs : List Symbol) (z : List ℕ) (y : ℕ) where
  pub name_is : symbol_number (symbol_cells ys rs z) (length ys) y 0 ≡ (row_at no_symbol ys y).name
  unfolding symbol_number
  name_is = number_is layout no_symbol 0 (λ x. x.name) refl (λ x a t. refl) ys rs z y

  pub scope_is : symbol_number (symbol_cells ys rs z) (length ys) y 2 ≡ (row_at no_symbol ys y).scope
  unfolding symbol_number
  scope_is = number_is layout no_symbol 2 (λ x. x.scope) refl (λ x a t. refl) ys rs z y

  pub made_is : symbol_number (symbol_cells ys rs z) (length ys) y 3 ≡ (row_at no_symbol ys y).made
  unfolding symbol_number
  made_is = number_is layout no_symbol 3 (λ x. x.made) refl (λ x a t. refl) ys rs z y

-- ---- changes

module _ (st : Store) (y : ℕ) where
  pub binding_moved : (z : List ℕ) (scope : ℕ)
      → move_binding_f (symbols_held st z) y scope ≡ symbol_cells (move_binding y scope st).1.symbols st.as_read z
  unfolding move_binding_f set_symbol_f move_binding
  binding_moved z scope = put_is layout no_symbol 2 scope (λ x. in_scope x scope) (λ x a t. refl) st.symbols st.as_read z y

  pub symbol_flags_set : (z : List ℕ) (flags : ℕ)
      → set_symbol_flags_f (symbols_held st z) y flags ≡ symbol_cells (set_symbol_flags y flags st).1.symbols st.as_read z
  unfolding set_symbol_flags_f set_symbol_f set_symbol_flags
  symbol_flags_set z flags = put_is layout no_symbol 1 flags (λ x. with_flags x flags) (λ x a t. refl) st.symbols st.as_read z y

  -- no row is new
  pub binding_ctx : (scope : ℕ) → ctx_of (move_binding y scope st).1 ≡ ctx_of st
  unfolding move_binding
  binding_ctx scope = rw (length_set_row st.symbols y (in_scope (symbol_in st y) scope))

  pub symbol_flags_ctx : (flags : ℕ) → ctx_of (set_symbol_flags y flags st).1 ≡ ctx_of st
  unfolding set_symbol_flags
  symbol_flags_ctx flags = rw (length_set_row st.symbols y (with_flags (symbol_in st y) flags))

pub bindings_ctx : (st : Store) (ys : List ℕ) (scope : ℕ) → ctx_of (move_bindings ys scope st).1 ≡ ctx_of st
unfolding move_bindings
bindings_ctx st [] scope = refl
bindings_ctx st (y ∷ ys) scope = bindings_ctx (move_binding y scope st).1 ys scope ∙ binding_ctx st y scope

-- ---- a new row; its last number is 0 since it was not read

new_row : (ys rs : List Symbol) (y : Symbol) (z : List ℕ) → length rs ≤ length ys
    → symbol_cells ys rs (y.name ∷ y.flags ∷ y.scope ∷ y.made ∷ 0 ∷ z) ≡ symbol_cells (ys ++ y ∷ []) rs z
unfolding symbol_cells
new_row [] [] y z l = refl
new_row [] (r ∷ rs) y z l = absurd (omega arith)
new_row (x ∷ ys) rs y z l =
    ap (λ (t : List ℕ). row_of x rs ++ t) (new_row ys (drop 1 rs) y z (omega (arith, length-drop 1 rs)))

pub symbol_number_lem : (st : Store) (name flags scope made : ℕ)
    → (create_symbol name flags scope made st).0 ≡ length (create_symbol name flags scope made st).1.symbols
unfolding create_symbol
symbol_number_lem st name flags scope made = omega (arith, length-append st.symbols (symbol_row name flags scope made ∷ []))

pub symbol_made : (st : Store) (name flags scope made p q r u : ℕ) (z : List ℕ)
    → suc (length st.symbols) ≤ 65535 → length st.as_read ≤ length st.symbols
    → create_symbol_f (symbols_held st (p ∷ q ∷ r ∷ u ∷ 0 ∷ z)) name flags scope made
    ≡ symbols_held (create_symbol name flags scope made st).1 z
unfolding create_symbol_f create_symbol with_symbol
symbol_made st name flags scope made p q r u z room longer =
    let ys = st.symbols in
    let new = symbol_row name flags scope made in
    let e = add-zero (length ys * SymbolTable.Numbers) in
    let n : capped (length ys) 1 ≡ length (ys ++ new ∷ []) = omega (arith, length-append ys (new ∷ [])) in
    let put = set_behind layout ys st.as_read in
    rw (
      ← e,
      put (p ∷ q ∷ r ∷ u ∷ 0 ∷ z) 0 name,
      e,
      put (name ∷ q ∷ r ∷ u ∷ 0 ∷ z) 1 flags,
      put (name ∷ flags ∷ r ∷ u ∷ 0 ∷ z) 2 scope,
      put (name ∷ flags ∷ scope ∷ u ∷ 0 ∷ z) 3 made,
      new_row ys st.as_read new z longer,
      n,
    )
