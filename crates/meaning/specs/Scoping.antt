-- The scope and symbol rows while they are rewritten: what the Rust calls `ctx.scoping()`.
-- Assumes nothing.
use Rattle.std.specs.Prelude.{if◌then◌else◌, List, [], ◌∷◌, ◌++◌, Bool, not, ◌||◌, ◌&&◌, ℕ, zero, suc, ◌+◌, ◌/◌, ◌%◌, length, get_or, set, eqb}
use Rattle.meaning.specs.Tree.{Forest, none, more}
use Rattle.meaning.specs.File.{Scope, scope_row, Symbol, symbol_row}
use Rattle.meaning.specs.Grammar.{scope_of}

-- The settings, the rows as they stand, the symbol rows as read, the runtime helper's symbol or 0, and how many contexts were made.
pub record Store : Type 0 where
  pub mode : ℕ
  pub is_module : ℕ
  pub scopes : List Scope
  pub symbols : List Symbol
  pub as_read : List Symbol
  pub helper : ℕ
  pub contexts : ℕ

-- ---- a step that changes the store and hands out a value

abbrev pub Change : Type 0 → Type 0
Change A = Store → A × Store

infixl 5 ◌>>=◌
abbrev pub ◌>>=◌ : {A B : Type 0} → Change A → (A → Change B) → Change B
◌>>=◌ m g = λ st. let (a, st') = m st in g a st'

infixl 5 ◌>>◌
abbrev pub ◌>>◌ : {A B : Type 0} → Change A → Change B → Change B
◌>>◌ m n = m >>= (λ _. n)

abbrev pub return : {A : Type 0} → A → Change A
return a = λ st. (a, st)

abbrev pub get : Change Store
get = λ st. (st, st)

abbrev pub put : Store → Change (Unit {0})
put st = λ _. (tt, st)

abbrev pub with_scopes : Store → List Scope → Store
with_scopes st ss =
    record {
      mode = st.mode;
      is_module = st.is_module;
      scopes = ss;
      symbols = st.symbols;
      as_read = st.as_read;
      helper = st.helper;
      contexts = st.contexts;
    }

abbrev pub with_symbols : Store → List Symbol → Store
with_symbols st ys =
    record {
      mode = st.mode;
      is_module = st.is_module;
      scopes = st.scopes;
      symbols = ys;
      as_read = st.as_read;
      helper = st.helper;
      contexts = st.contexts;
    }

abbrev pub with_helper : Store → ℕ → Store
with_helper st y =
    record {
      mode = st.mode;
      is_module = st.is_module;
      scopes = st.scopes;
      symbols = st.symbols;
      as_read = st.as_read;
      helper = y;
      contexts = st.contexts;
    }

abbrev pub with_context : Store → Store
with_context st =
    record {
      mode = st.mode;
      is_module = st.is_module;
      scopes = st.scopes;
      symbols = st.symbols;
      as_read = st.as_read;
      helper = st.helper;
      contexts = suc st.contexts;
    }

-- ---- rows, numbered from 1

abbrev pub no_scope : Scope
no_scope = scope_row 0 0

abbrev pub no_symbol : Symbol
no_symbol = symbol_row 0 0 0 0

abbrev pub row_at {ℓ} : {X : Type ℓ} → X → List X → ℕ → X
row_at d xs zero = d
row_at d xs (suc i) = get_or xs i d

abbrev pub set_row {ℓ} : {X : Type ℓ} → List X → ℕ → X → List X
set_row xs zero x = xs
set_row xs (suc i) x = set xs i x

abbrev pub scope_in : Store → ℕ → Scope
scope_in st s = row_at no_scope st.scopes s

abbrev pub symbol_in : Store → ℕ → Symbol
symbol_in st y = row_at no_symbol st.symbols y

-- ---- scopes

-- `create_child_scope`: a new scope takes strict from its parent besides its flags
unfoldable pub create_child_scope : ℕ → ℕ → Change ℕ
create_child_scope parent flags = do
  st ← get
  put (with_scopes st (st.scopes ++ scope_row parent (flags + (scope_in st parent).flags % 2) ∷ []))
  return (suc (length st.scopes))

-- `change_scope_parent_id`
unfoldable pub change_scope_parent : ℕ → ℕ → Change (Unit {0})
change_scope_parent s parent = do
  st ← get
  put (with_scopes st (set_row st.scopes s (scope_row parent (scope_in st s).flags)))

-- `scope_flags_mut`
unfoldable pub set_scope_flags : ℕ → ℕ → Change (Unit {0})
set_scope_flags s flags = do
  st ← get
  put (with_scopes st (set_row st.scopes s (scope_row (scope_in st s).parent flags)))

-- `insert_scope_between`: a new scope above the scope s, below the one that s was below
unfoldable pub insert_scope_between : ℕ → ℕ → Change ℕ
insert_scope_between s flags = do
  st ← get
  new ← create_child_scope (scope_in st s).parent flags
  change_scope_parent s new
  return new

-- the outermost scopes of some records get a parent
unfoldable pub move_scopes : Forest → ℕ → Change (Unit {0})
move_scopes none parent = return tt
move_scopes (more h k r) parent = do
  if eqb (scope_of h) 0 then move_scopes k parent else change_scope_parent (scope_of h) parent
  move_scopes r parent

-- `insert_scope_below_statement`, `insert_scope_below_statements` and `insert_scope_below_statement_from_scope_id`: a new scope below the scope
-- s, above the statements
unfoldable pub insert_scope_below : ℕ → Forest → Change ℕ
insert_scope_below s list = do
  new ← create_child_scope s 0
  move_scopes list new
  return new

-- ---- symbols

unfoldable pub create_symbol : ℕ → ℕ → ℕ → ℕ → Change ℕ
create_symbol name flags scope made = do
  st ← get
  put (with_symbols st (st.symbols ++ symbol_row name flags scope made ∷ []))
  return (suc (length st.symbols))

-- `generate_uid`: a unique name built on a base; `generate_binding`: the name itself. Scope and flags stand in the Rust's order.
abbrev pub generate_uid : ℕ → ℕ → ℕ → Change ℕ
generate_uid base scope flags = create_symbol base flags scope 1

abbrev pub generate_binding : ℕ → ℕ → ℕ → Change ℕ
generate_binding name scope flags = create_symbol name flags scope 0

abbrev pub in_scope : Symbol → ℕ → Symbol
in_scope y s = symbol_row y.name y.flags s y.made

abbrev pub with_flags : Symbol → ℕ → Symbol
with_flags y f = symbol_row y.name f y.scope y.made

-- `move_binding_by_symbol_id`: the row's scope is set, whatever it was
unfoldable pub move_binding : ℕ → ℕ → Change (Unit {0})
move_binding y scope = do
  st ← get
  put (with_symbols st (set_row st.symbols y (in_scope (symbol_in st y) scope)))

-- `symbol_flags_mut`
unfoldable pub set_symbol_flags : ℕ → ℕ → Change (Unit {0})
set_symbol_flags y flags = do
  st ← get
  put (with_symbols st (set_row st.symbols y (with_flags (symbol_in st y) flags)))

-- the same for several symbols
unfoldable pub move_bindings : List ℕ → ℕ → Change (Unit {0})
move_bindings [] scope = return tt
move_bindings (y ∷ ys) scope = do
  move_binding y scope
  move_bindings ys scope

unfoldable pub set_flags_of : List ℕ → ℕ → Change (Unit {0})
set_flags_of [] flags = return tt
set_flags_of (y ∷ ys) flags = do
  set_symbol_flags y flags
  set_flags_of ys flags

-- ---- bindings

-- A scope binds a name if a row with made 0 has both.
unfoldable pub binds : Symbol → ℕ → ℕ → Bool
binds y scope name = eqb y.made 0 && eqb y.scope scope && eqb y.name name

-- `get_binding`: the last such row counts; rows are numbered from i on, and `found` is the last one before them
unfoldable pub last_binding : List Symbol → ℕ → ℕ → ℕ → ℕ → ℕ
last_binding [] scope name i found = found
last_binding (y ∷ ys) scope name i found = last_binding ys scope name (suc i) (if binds y scope name then i else found)

abbrev pub get_binding : List Symbol → ℕ → ℕ → ℕ
get_binding ys scope name = last_binding ys scope name 1 0

-- `find_binding`: the name seen from a scope, or 0; the first number counts the scopes that are left
unfoldable pub find_binding : ℕ → Store → ℕ → ℕ → ℕ
find_binding zero st scope name = 0
find_binding (suc n) st scope name =
    let here = get_binding st.symbols scope name in
    if not (eqb here 0) then here
    else if eqb scope 0 then 0
    else find_binding n st (scope_in st scope).parent name

-- the test of a row's flags for `iter_bindings_in`: block-scoped (2) or class (8)
unfoldable pub is_block_scoped_or_class : Symbol → Bool
is_block_scoped_or_class y = eqb (y.flags / 2 % 2) 1 || eqb (y.flags / 8 % 2) 1

-- the row i is among the bindings of the scope: a unique name, or the last row of its name
unfoldable pub is_among_bindings : List Symbol → ℕ → ℕ → Symbol → Bool
is_among_bindings ys scope i y =
    eqb y.scope scope && (not (eqb y.made 0) || eqb (get_binding ys scope y.name) i)

-- `all` are the rows, the list those from i on
unfoldable pub block_scoped_in : List Symbol → ℕ → List Symbol → ℕ → List ℕ
block_scoped_in all scope [] i = []
block_scoped_in all scope (y ∷ ys) i =
    let rest = block_scoped_in all scope ys (suc i) in
    if is_among_bindings all scope i y && is_block_scoped_or_class y then i ∷ rest else rest
