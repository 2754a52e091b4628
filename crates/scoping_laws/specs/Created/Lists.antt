-- A list with its context: Blocks and function bodies.
-- Assumes nothing.
use Rattle.std.specs.Prelude.{◌≡◌, List, [], ◌∷◌, ◌++◌, ℕ, ◌+◌, ◌-◌, ◌≤◌, length}
use Rattle.std.proofs.Math.Path.{refl, ap}
use Rattle.std.proofs.Common.{sym, ◌∙◌, arith}
use Rattle.meaning.specs.Numbers.Tag
use Rattle.meaning.specs.Numbers.Parts
use Rattle.meaning.specs.Tree.{Head, hd, Forest, Node, node, single, count, size, ◌&◌}
use Rattle.meaning.specs.File.{Scope, Symbol}
use Rattle.meaning.specs.Scoping.{Store, create_symbol, insert_scope_below, move_binding, move_bindings, block_scoped_in}
use Rattle.meaning.specs.Shapes.{block, try_statement}
use Rattle.meaning.specs.Statements.{take_up, make_context, transform_statements, create_try_stmt}
use Rattle.meaning.specs.Contexts.{transform_block_statement, enter_function_body}
use Rattle.meaning.specs.Due.{missing}
use Rattle.charge_laws.proofs.Growth.Rows.{one_if, scope_below, bindings_moved}
use Rattle.charge_laws.proofs.Growth.Made.{try_grows}
use Rattle.tables.specs.declared.Row.{Row}
use Rattle.representation.specs.Gap.Cells.{table, rows_of}
use Rattle.scoping.specs.Changes.{move_block_scoped_f}
use Rattle.representation.specs.Store.Held.{scope_cells, symbol_cells, ctx_of, symbols_held}
use Rattle.representation.proofs.Store.Symbols.{bindings_ctx}
use Rattle.representation.proofs.Store.Moved.{block_scoped_moved}
use Rattle.representation.proofs.Store.Agreed.{Agreed, below_agreed, bindings_agreed}
use Rattle.statements.specs.declared.Parts.{Parts}
use Rattle.table_laws.specs.Lists.Plan.{awaits, any_awaits}
use Rattle.table_laws.specs.Lists.Try.{context_of, handlers_of}
use Rattle.creation.specs.Creation.{with_ctx_f}
use Rattle.creation.specs.Kinds.{for_block_f, for_body_f}
use Rattle.scoping_laws.specs.Created.Held.{free_scopes, free_symbols, free_last, next_symbol, rows_held, created_as, Room, room_before}
use Rattle.scoping_laws.specs.Created.Scopes.{below_symbols, below_number, insert_below_law}
use Rattle.scoping_laws.specs.Created.Loads.{load_form, load_symbol, context_agreed, load_is, load_scopes, load_agreed, statements_law}
use Rattle.scoping_laws.specs.Created.Try.{parts_of, try_law, try_node, try_room, try_agreed}

-- ---- after `transform_statements`

-- the numbers of a context, its Try being made in the store `tried`
abbrev pub list_parts : ℕ → ℕ → Store → Store → ℕ → Parts
list_parts cur hoist st tried n =
    let made = (make_context hoist st).1 in
    parts_of tried (next_symbol st) (load_form made) (load_symbol cur made) n

module _ (cur hoist : ℕ) (list : Forest) (st : Store) where
  -- the scopes stay
  pub list_scopes : (zs : List ℕ) → scope_cells st.scopes zs ≡ scope_cells (transform_statements cur hoist list st).1.scopes zs
  unfolding transform_statements make_context create_symbol
  list_scopes zs = load_scopes (make_context hoist st).1 cur zs

  pub list_agreed : Agreed st → Agreed (transform_statements cur hoist list st).1
  unfolding transform_statements
  list_agreed a = load_agreed (make_context hoist st).1 cur (context_agreed hoist st a)

  -- the Try around the list
  pub list_node : (tried : Store) (scope parent n : ℕ) → n ≡ awaits list
      → (let p = list_parts cur hoist st tried n in
      let t = (transform_statements cur hoist list st).0 in
      (create_try_stmt scope t.statements t.using_ctx parent t.needs_await tried).0
      ≡ try_statement (block scope (context_of p & take_up p.context.0 list) & handlers_of p))
  unfolding transform_statements make_context create_symbol context_of
  list_node tried scope parent n e =
      rw (load_is (make_context hoist st).1 cur) (try_node tried parent scope _ _ _ _ _ n (rw e (any_awaits list)))

-- ---- a Block

abbrev pub block_parts : ℕ → ℕ → Forest → Store → ℕ → Parts
block_parts cur hoist list st n = list_parts cur hoist st (transform_statements cur hoist list st).1 n

module _ (cur hoist : ℕ) (h : Head) (list : Forest) (st : Store) where
  abbrev listed : Store
  listed = (transform_statements cur hoist list st).1

  -- THE ROWS of its context
  pub block_held : (zs zy : List ℕ) (n : ℕ) → Agreed st → Room (transform_block_statement cur hoist h list st).1
      → for_block_f (rows_held st (free_scopes 3 zs) (free_symbols (2 + one_if (missing st)) zy)) cur hoist n
      ≡ created_as (transform_block_statement cur hoist h list st).1 zs zy (block_parts cur hoist list st n)
  unfolding for_block_f transform_block_statement transform_statements make_context create_symbol
  block_held zs zy n a r =
      let r₁ = room_before (try_grows _ _ _ cur _ listed) r in
      rw (
        free_last (missing st) zy,
        statements_law st (free_scopes 3 zs) (free_symbols 1 zy) cur hoist list a r₁,
        list_scopes cur hoist list st (free_scopes 3 zs),
      )
      (try_law listed cur h.a (next_symbol st) _ _ _ _ n cur zs zy refl (list_agreed cur hoist list st a) r)

  -- AND WHAT IS PUT IN ITS PLACE
  pub block_node : (n : ℕ) → n ≡ awaits list
      → (let p = block_parts cur hoist list st n in
      (transform_block_statement cur hoist h list st).0
      ≡ node (hd Tag.Try Parts.Both 0 0) (block h.a (context_of p & take_up p.context.0 list) & handlers_of p))
  unfolding transform_block_statement
  block_node n e = list_node cur hoist list st listed h.a cur n e

  pub block_room : (n : ℕ) → Room (transform_block_statement cur hoist h list st).1 → (block_parts cur hoist list st n).scope.0 + 2 ≤ 65535
  unfolding transform_block_statement
  block_room n r = try_room listed cur _ _ _ _ r

  pub block_agreed : Agreed st → Agreed (transform_block_statement cur hoist h list st).1
  unfolding transform_block_statement
  block_agreed a = try_agreed listed cur _ _ _ _ (list_agreed cur hoist list st a)

-- ---- a function body

-- the block-scoped bindings of a scope in another
abbrev pub moved_to : ℕ → Store → ℕ → Store
moved_to from st to = (move_bindings (block_scoped_in st.symbols from st.symbols 1) to st).1

bindings_kept : (ys : List ℕ) (scope : ℕ) (st : Store)
    → (let st' = (move_bindings ys scope st).1 in
    (st'.scopes ≡ st.scopes) × (st'.as_read ≡ st.as_read))
unfolding move_bindings move_binding
bindings_kept [] scope st = (refl, refl)
bindings_kept (y ∷ ys) scope st = bindings_kept ys scope (move_binding y scope st).1

moved_held : (from : ℕ) (st : Store) (zs zy : List ℕ) (to : ℕ) → length st.symbols ≤ 65535
    → (let st' = moved_to from st to in
    (move_block_scoped_f (symbols_held st zy) from to ≡ symbol_cells st'.symbols st'.as_read zy)
    × (scope_cells st.scopes zs ≡ scope_cells st'.scopes zs) × (ctx_of st ≡ ctx_of st'))
moved_held from st zs zy to small =
    let ys = block_scoped_in st.symbols from st.symbols 1 in
    let st' = moved_to from st to in
    let k = bindings_kept ys to st in (
      block_scoped_moved st zy from to small ∙ ap (λ (rs : List Symbol). symbol_cells st'.symbols rs zy) (sym k.1),
      ap (λ (ss : List Scope). scope_cells ss zs) (sym k.0),
      sym (bindings_ctx st ys to),
    )

abbrev pub body_parts : ℕ → ℕ → Forest → Store → ℕ → Parts
body_parts cur hoist list st n =
    let below = insert_scope_below cur list (transform_statements cur hoist list st).1 in
    list_parts cur hoist st (moved_to cur below.1 below.0) n

module _ (cur hoist : ℕ) (list : Forest) (st : Store) where
  abbrev body_listed : Store
  body_listed = (transform_statements cur hoist list st).1

  abbrev scope : ℕ
  scope = (insert_scope_below cur list body_listed).0

  abbrev below : Store
  below = (insert_scope_below cur list body_listed).1

  abbrev moved : Store
  moved = moved_to cur below scope

  moved_agreed : Agreed st → Agreed moved
  moved_agreed a = bindings_agreed below (below_agreed body_listed (list_agreed cur hoist list st a) cur list) _ scope

  -- THE ROWS of its context, the list standing after others in the table
  pub body_held : (zs zy z : List ℕ) (a v : List Row) (t : List ℕ) (n : ℕ) → t ≡ table (a ++ (rows_of list ++ v)) z
      → length a + size list ≤ 65535 → Agreed st → Room (enter_function_body cur hoist list st).1
      → for_body_f t (rows_held st (free_scopes 4 zs) (free_symbols (2 + one_if (missing st)) zy)) cur hoist (length a) (count list) n
      ≡ created_as (enter_function_body cur hoist list st).1 zs zy (body_parts cur hoist list st n)
  unfolding for_body_f with_ctx_f enter_function_body transform_statements make_context create_symbol free_scopes
  body_held zs zy z a v t n e q ag r =
      let g = scope_below cur list body_listed in
      let r₁ = room_before (bindings_moved _ scope below) (room_before (try_grows _ _ _ cur _ moved) r) in
      let k = moved_held cur below (free_scopes 3 zs) (free_symbols 1 zy) scope r₁.1 in
      rw (
        free_last (missing st) zy,
        statements_law st (free_scopes 4 zs) (free_symbols 1 zy) cur hoist list ag (room_before g r₁),
        list_scopes cur hoist list st (free_scopes 4 zs),
        insert_below_law (free_scopes 3 zs) z list a v t e q body_listed cur (omega (arith, g.scopes, r₁)),
        below_symbols cur list body_listed (free_symbols 1 zy),
        ap (move_block_scoped_f (symbols_held below (free_symbols 1 zy)) cur) (sym (below_number cur list body_listed)) ∙ k.0,
        k.1,
        k.2,
      )
      (try_law moved cur scope (next_symbol st) _ _ _ _ n cur zs zy refl (moved_agreed ag) r)

  -- AND WHAT IS PUT IN ITS PLACE
  pub body_node : (n : ℕ) → n ≡ awaits list
      → (let p = body_parts cur hoist list st n in
      (enter_function_body cur hoist list st).0
      ≡ node (hd Tag.Body 0 0 0)
      (single (try_statement (block (p.scope.0 - 1) (context_of p & take_up p.context.0 list) & handlers_of p))))
  unfolding enter_function_body
  body_node n e =
      let p = body_parts cur hoist list st n in
      let list' = context_of p & take_up p.context.0 list in
      let ys = block_scoped_in below.symbols cur below.symbols 1 in
      let s : scope ≡ p.scope.0 - 1 = omega (arith, below_number cur list body_listed, (bindings_moved ys scope below).scopes) in
      ap (λ (try : Node). node (hd Tag.Body 0 0 0) (single try))
      (list_node cur hoist list st moved scope cur n e ∙ ap (λ (x : ℕ). try_statement (block x list' & handlers_of p)) s)

  pub body_room : (n : ℕ) → Room (enter_function_body cur hoist list st).1 → (body_parts cur hoist list st n).scope.0 + 2 ≤ 65535
  unfolding enter_function_body
  body_room n r = try_room moved cur _ _ _ _ r

  pub body_agreed : Agreed st → Agreed (enter_function_body cur hoist list st).1
  unfolding enter_function_body
  body_agreed a = try_agreed moved cur _ _ _ _ (moved_agreed a)
