-- All block-scoped rows of a scope move: one by one, in place, as if they were found first.
-- Assumes nothing.
use Rattle.std.specs.Prelude.{if◌then◌else◌, ◌≡◌, refl, Bool, not, ◌||◌, ◌&&◌, List, [], ◌∷◌, ◌++◌, ℕ, suc, ◌+◌, ◌*◌, ◌≤◌, get_or, drop, eqb}
use Rattle.std.proofs.Math.Path.{sym, ap}
use Rattle.std.proofs.Common.{◌∙◌, add-zero, arith, eq-eqb}
use Rattle.std.proofs.Math.Bool.{true, false}
use Rattle.std.proofs.Math.Numerals.{add-one}
use Rattle.std.proofs.Math.ListN.{length, length-append}
use Rattle.std.proofs.Math.Seq.{append_snoc, set_at, get_or_at}
use Rattle.tables.specs.Columns.SymbolTable
use Rattle.meaning.specs.File.{Symbol}
use Rattle.meaning.specs.Scoping.{
  Store,
  no_symbol,
  set_row,
  symbol_in,
  in_scope,
  move_binding,
  move_bindings,
  binds,
  last_binding,
  is_block_scoped_or_class,
  is_among_bindings,
  block_scoped_in,
}
use Rattle.tables.specs.Loops.{turns}
use Rattle.tables.specs.Table.{capped}
use Rattle.scoping.specs.Rows.{symbol_at, block_scoped}
use Rattle.scoping.specs.Changes.{move_binding_f, moves_f, move_bound_f, Moving, moving, move_one, move_block_scoped_f}
use Rattle.scoping.specs.declared.Ctx.{Ctx}
use Rattle.representation.specs.Store.Held.{symbol_cells, ctx_of, symbols_held}
use Rattle.representation.proofs.Store.Symbols.{row_of, symbol_later, symbols_are, binding_moved, binding_ctx}

-- ---- what is bound in a scope, by the rows from one on

-- the row i is the last of its name, going by the rows after it
bound_by : List Symbol → ℕ → ℕ → Symbol → Bool
bound_by ys scope i y = eqb y.scope scope && (not (eqb y.made 0) || eqb (last_binding ys scope y.name (suc i) i) i)

moves : List Symbol → ℕ → ℕ → Symbol → Bool
moves ys scope i y = bound_by ys scope i y && is_block_scoped_or_class y

-- the block-scoped rows, the list being those from i on
block_scoped_from : ℕ → List Symbol → ℕ → List ℕ
block_scoped_from scope [] i = []
block_scoped_from scope (y ∷ ys) i =
    let rest = block_scoped_from scope ys (suc i) in
    if moves ys scope i y then i ∷ rest else rest

last_more : (y : Symbol) (ys : List Symbol) (scope name i found : ℕ)
    → last_binding (y ∷ ys) scope name i found ≡ last_binding ys scope name (suc i) (if binds y scope name then i else found)
unfolding last_binding
last_more y ys scope name i found = refl

last_from : (xs ys : List Symbol) (y : Symbol) (scope name i found : ℕ) → binds y scope name ≡ true
    → last_binding (xs ++ y ∷ ys) scope name i found ≡ last_binding ys scope name (suc (i + length xs)) (i + length xs)
last_from [] ys y scope name i found b = rw (last_more y ys scope name i found, b, add-zero i)
last_from (x ∷ xs) ys y scope name i found b =
    let e : i + suc (length xs) ≡ suc i + length xs = omega arith in
    rw (last_more x (xs ++ y ∷ ys) scope name i found, e) (last_from xs ys y scope name (suc i) _ b)

bound_if : (b c : Bool) (xs ys : List Symbol) (y : Symbol) (scope : ℕ) → eqb y.scope scope ≡ b → eqb y.made 0 ≡ c
    → is_among_bindings (xs ++ y ∷ ys) scope (suc (length xs)) y ≡ bound_by ys scope (suc (length xs)) y
unfolding is_among_bindings bound_by binds
bound_if false c xs ys y scope p q = rw p
bound_if true false xs ys y scope p q = rw (p, q)
bound_if true true xs ys y scope p q =
    let b : binds y scope y.name ≡ true = rw (p, q, eq-eqb y.name y.name refl) in
    let e : 1 + length xs ≡ suc (length xs) = omega arith in
    rw (rw e at (last_from xs ys y scope y.name 1 0 b))

bound_from : (all xs ys : List Symbol) (y : Symbol) (scope i : ℕ) → all ≡ xs ++ y ∷ ys → i ≡ length xs
    → is_among_bindings all scope (suc i) y ≡ bound_by ys scope (suc i) y
bound_from all xs ys y scope i e l = rw (e, l) (bound_if _ _ xs ys y scope refl refl)

block_from : (all xs ys : List Symbol) (scope i : ℕ) → all ≡ xs ++ ys → i ≡ length xs
    → block_scoped_in all scope ys (suc i) ≡ block_scoped_from scope ys (suc i)
unfolding block_scoped_in block_scoped_from moves
block_from all xs [] scope i e l = refl
block_from all xs (y ∷ ys) scope i e l =
    rw (
      bound_from all xs ys y scope i e l,
      block_from all (xs ++ y ∷ []) ys scope (suc i) (e ∙ sym (append_snoc xs y ys)) (omega (arith, length-append xs (y ∷ []))),
    )

-- ---- one row

-- the rows move from row i on
abbrev Moves : ℕ → ℕ → List ℕ → List Symbol → Type 0
Moves from to z ys =
    (st : Store) (xs : List Symbol) (i : ℕ) → st.symbols ≡ xs ++ ys → i ≡ length xs → length st.symbols ≤ 65535
    → (turns (length ys) (move_one (ctx_of st) from to) (moving (symbol_cells st.symbols st.as_read z) i)).t
    ≡ symbol_cells (move_bindings (block_scoped_from from ys (suc i)) to st).1.symbols st.as_read z

at_is : (xs ys rs : List Symbol) (y : Symbol) (z : List ℕ) → symbol_at (symbol_cells (xs ++ y ∷ ys) rs z) 2 (length xs) ≡ y
unfolding symbol_at symbol_cells
at_is [] ys rs y z = refl
at_is (x ∷ xs) ys rs y z =
    symbol_later 2 (row_of x rs) (symbol_cells (xs ++ y ∷ ys) (drop 1 rs) z) (length xs) refl ∙ at_is xs ys (drop 1 rs) y z

-- a store with the row y after i others
module _ (from to : ℕ) (z : List ℕ) (st : Store) (xs ys : List Symbol) (y : Symbol) (i : ℕ)
    (cut : st.symbols ≡ xs ++ y ∷ ys) (before : i ≡ length xs) (small : length st.symbols ≤ 65535) where
  row_is : symbol_at (symbol_cells st.symbols st.as_read z) 2 i ≡ y
  row_is = rw (cut, before) (at_is xs ys st.as_read y z)

  flags_are : get_or (symbol_cells st.symbols st.as_read z) (i * SymbolTable.Numbers + 1) 0 ≡ y.flags
  unfolding symbol_at
  flags_are = ap (λ (r : Symbol). r.flags) row_is

  next_is : capped i 1 ≡ suc i
  next_is = omega (arith, ap length cut, length-append xs (y ∷ ys))

  moves_is : moves_f (symbols_held st z) from i ≡ moves ys from (suc i) y
  unfolding moves_f moves is_block_scoped_or_class block_scoped
  moves_is =
      rw (symbols_are st.symbols st.as_read z, next_is, row_is, flags_are, bound_from st.symbols xs ys y from i cut before)

  abbrev after : Bool → Store
  after b = if b then (move_binding (suc i) to st).1 else st

  after_is : (b : Bool)
      → (if b then move_binding_f (symbols_held st z) (suc i) to else symbol_cells st.symbols st.as_read z)
      ≡ symbol_cells (after b).symbols st.as_read z
  after_is true = binding_moved st (suc i) z to
  after_is false = refl

  one_moved : move_one (ctx_of st) from to (moving (symbol_cells st.symbols st.as_read z) i)
      ≡ moving (symbol_cells (after (moves ys from (suc i) y)).symbols st.as_read z) (suc i)
  unfolding move_one move_bound_f
  one_moved = rw (moves_is, next_is, add-one i, after_is (moves ys from (suc i) y))

  rest_moved : (b : Bool) → Moves from to z ys
      → (turns (length ys) (move_one (ctx_of st) from to) (moving (symbol_cells (after b).symbols st.as_read z) (suc i))).t
      ≡ symbol_cells (move_bindings (block_scoped_from from ys (suc (suc i))) to (after b)).1.symbols st.as_read z
  unfolding move_binding
  rest_moved true rest =
      let new = in_scope y to in
      let e = binding_ctx st (suc i) to in
      let n = ap (λ (x : Ctx). x.symbols) e in
      let c : set_row st.symbols (suc i) (in_scope (symbol_in st (suc i)) to) ≡ (xs ++ new ∷ []) ++ ys =
      rw (cut, get_or_at xs y ys no_symbol i (sym before), set_at xs y ys new i (sym before), append_snoc xs new ys) in
      rw (← e) (rest (after true) (xs ++ new ∷ []) (suc i) c (omega (arith, length-append xs (new ∷ []))) (omega (arith, n)))
  rest_moved false rest =
      rest st (xs ++ y ∷ []) (suc i) (cut ∙ sym (append_snoc xs y ys)) (omega (arith, length-append xs (y ∷ []))) small

-- ---- all rows

bindings_if : (b : Bool) (i to : ℕ) (ys : List ℕ) (st : Store)
    → move_bindings ys to (if b then (move_binding i to st).1 else st) ≡ move_bindings (if b then i ∷ ys else ys) to st
unfolding move_bindings
bindings_if true i to ys st = refl
bindings_if false i to ys st = refl

all_moved : (from to : ℕ) (z : List ℕ) (ys : List Symbol) → Moves from to z ys
unfolding turns block_scoped_from move_bindings
all_moved from to z [] st xs i cut before small = refl
all_moved from to z (y ∷ ys) st xs i cut before small =
    let b = moves ys from (suc i) y in
    let more = block_scoped_from from ys (suc (suc i)) in
    ap (λ (s : Moving). (turns (length ys) (move_one (ctx_of st) from to) s).t) (one_moved from to z st xs ys y i cut before small)
    ∙ rest_moved from to z st xs ys y i cut before small b (all_moved from to z ys)
    ∙ ap (λ (e : Unit {0} × Store). symbol_cells e.1.symbols st.as_read z) (bindings_if b (suc i) to more st)

pub block_scoped_moved : (st : Store) (z : List ℕ) (from to : ℕ) → length st.symbols ≤ 65535
    → move_block_scoped_f (symbols_held st z) from to
    ≡ symbol_cells (move_bindings (block_scoped_in st.symbols from st.symbols 1) to st).1.symbols st.as_read z
unfolding move_block_scoped_f
block_scoped_moved st z from to small =
    rw (block_from st.symbols [] st.symbols from 0 refl refl) (all_moved from to z st.symbols st [] 0 refl refl small)
