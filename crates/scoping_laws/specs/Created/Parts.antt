-- A list with its context below a new scope: static blocks and try parts.
-- Assumes nothing.
use Rattle.std.specs.Prelude.{◌≡◌, refl, List, ℕ, ◌+◌, ◌-◌, ◌≤◌, length}
use Rattle.std.proofs.Math.Path.{sym, ap, ap₂}
use Rattle.std.proofs.Common.{◌∙◌}
use native.Mathlib.Omega.{arith}
use Rattle.meaning.specs.Numbers.Tag
use Rattle.meaning.specs.Tree.{Head, hd, Forest, Node, node, single, ◌&◌}
use Rattle.meaning.specs.Scoping.{
  Store,
  create_symbol,
  create_child_scope,
  change_scope_parent,
  set_scope_flags,
  insert_scope_between,
  move_binding,
}
use Rattle.meaning.specs.Shapes.{block, try_statement}
use Rattle.meaning.specs.Statements.{take_up, make_context, transform_statements, create_try_stmt}
use Rattle.meaning.specs.Contexts.{exit_static_block, transform_try_block}
use Rattle.meaning.specs.Due.{missing}
use Rattle.charge_laws.proofs.Growth.Rows.{one_if, scope_between, scope_flags, binding_moved as binding_grows}
use Rattle.charge_laws.proofs.Growth.Made.{try_grows}
use Rattle.scoping.specs.Changes.{move_binding_f, set_scope_flags_f}
use Rattle.representation.specs.Store.Held.{scope_cells, symbol_cells, ctx_of, scopes_held, symbols_held}
use Rattle.representation.proofs.Store.Scopes.{scope_inserted, inserted_number, scope_flags_set, scope_flags_ctx}
use Rattle.representation.proofs.Store.Symbols.{binding_moved, binding_ctx}
use Rattle.representation.proofs.Store.Agreed.{Agreed, inserted_agreed, binding_agreed, scope_flags_agreed}
use Rattle.statements.specs.declared.Parts.{Parts}
use Rattle.table_laws.specs.Lists.Plan.{awaits}
use Rattle.table_laws.specs.Lists.Try.{context_of, handlers_of}
use Rattle.creation.specs.Creation.{with_ctx_f}
use Rattle.creation.specs.Kinds.{for_static_block_f, for_try_part_f}
use Rattle.scoping_laws.specs.Created.Held.{free_scopes, free_symbols, free_last, next_symbol, rows_held, created_as, Room, room_before}
use Rattle.scoping_laws.specs.Created.Loads.{statements_law}
use Rattle.scoping_laws.specs.Created.Try.{try_law, try_room, try_agreed}
use Rattle.scoping_laws.specs.Created.Lists.{list_parts, list_scopes, list_agreed, list_node}

-- the new scope: the symbols stay
between_symbols : (s flags : ℕ) (st : Store) (z : List ℕ)
    → (let st' = (insert_scope_between s flags st).1 in
    symbol_cells st.symbols st.as_read z ≡ symbol_cells st'.symbols st'.as_read z)
unfolding insert_scope_between create_child_scope change_scope_parent
between_symbols s flags st z = refl

-- ---- a static block

-- the context is in the new scope, and the old one is strict and no static block any more
abbrev pub unblocked : ℕ → ℕ → Store → ℕ → Store
unblocked old context st scope = (set_scope_flags old 1 (move_binding context scope st).1).1

unblocked_held : (old context : ℕ) (st : Store) (zs zy : List ℕ) (scope : ℕ)
    → (let st' = unblocked old context st scope in
    (move_binding_f (symbols_held st zy) context scope ≡ symbol_cells st'.symbols st'.as_read zy)
    × (set_scope_flags_f (scopes_held st zs) old 1 ≡ scope_cells st'.scopes zs) × (ctx_of st ≡ ctx_of st'))
unfolding move_binding set_scope_flags
unblocked_held old context st zs zy scope = (
  binding_moved st context zy scope,
  scope_flags_set st old zs 1,
  sym (scope_flags_ctx (move_binding context scope st).1 old 1 ∙ binding_ctx st context scope),
)

abbrev pub static_parts : Head → Forest → Store → ℕ → Parts
static_parts h list st n =
    let between = insert_scope_between h.a 4 (transform_statements h.a h.a list st).1 in
    list_parts h.a h.a st (unblocked h.a (next_symbol st) between.1 between.0) n

module _ (h : Head) (list : Forest) (st : Store) where
  abbrev listed : Store
  listed = (transform_statements h.a h.a list st).1

  abbrev scope : ℕ
  scope = (insert_scope_between h.a 4 listed).0

  abbrev between : Store
  between = (insert_scope_between h.a 4 listed).1

  abbrev changed : Store
  changed = unblocked h.a (next_symbol st) between scope

  changed_agreed : Agreed st → Agreed changed
  changed_agreed a =
      let a₁ = inserted_agreed listed (list_agreed h.a h.a list st a) h.a 4 in
      scope_flags_agreed _ (binding_agreed between a₁ (next_symbol st) scope) h.a 1

  -- THE ROWS of its context
  pub static_held : (zs zy : List ℕ) (n : ℕ) → Agreed st → Room (exit_static_block h list st).1
      → for_static_block_f (rows_held st (free_scopes 4 zs) (free_symbols (2 + one_if (missing st)) zy)) h.a n
      ≡ created_as (exit_static_block h list st).1 zs zy (static_parts h list st n)
  unfolding for_static_block_f with_ctx_f exit_static_block transform_statements make_context create_symbol free_scopes
  static_held zs zy n ag r =
      let y = next_symbol st in
      let o = sym (inserted_number listed h.a 4) in
      let g = scope_between h.a 4 listed in
      let r₂ = room_before (scope_flags h.a 1 _) (room_before (try_grows _ _ _ scope _ changed) r) in
      let r₁ = room_before (binding_grows y scope between) r₂ in
      let k = unblocked_held h.a y between (free_scopes 3 zs) (free_symbols 1 zy) scope in
      rw (
        free_last (missing st) zy,
        statements_law st (free_scopes 4 zs) (free_symbols 1 zy) h.a h.a list ag (room_before g r₁),
        list_scopes h.a h.a list st (free_scopes 4 zs),
        scope_inserted listed 4 (omega (arith, g.scopes, r₁)) (omega arith) h.a 0 0 (free_scopes 3 zs),
        between_symbols h.a 4 listed (free_symbols 1 zy),
        ap (move_binding_f (symbols_held between (free_symbols 1 zy)) y) o ∙ k.0,
        k.1,
        k.2,
      )
      (try_law changed scope h.a y _ _ _ _ n (length between.scopes) zs zy o (changed_agreed ag) r)

  -- AND WHAT IS PUT IN ITS PLACE
  pub static_node : (n : ℕ) → n ≡ awaits list
      → (let p = static_parts h list st n in
      (exit_static_block h list st).0
      ≡ node (hd Tag.StaticBlock (p.scope.0 - 1) 0 0)
      (single (try_statement (block h.a (context_of p & take_up p.context.0 list) & handlers_of p))))
  unfolding exit_static_block transform_statements make_context create_symbol
  static_node n e =
      let y = next_symbol st in
      let s : scope ≡ (static_parts h list st n).scope.0 - 1 =
      omega (
        arith,
        inserted_number listed h.a 4,
        (binding_grows y scope between).scopes,
        (scope_flags h.a 1 (move_binding y scope between).1).scopes,
      ) in
      ap₂ (λ (x : ℕ) (try : Node). node (hd Tag.StaticBlock x 0 0) (single try)) s (list_node h.a h.a list st changed h.a scope n e)

  pub static_room : (n : ℕ) → Room (exit_static_block h list st).1 → (static_parts h list st n).scope.0 + 2 ≤ 65535
  unfolding exit_static_block transform_statements make_context create_symbol
  static_room n r = try_room changed scope _ _ _ _ r

  pub static_agreed : Agreed st → Agreed (exit_static_block h list st).1
  unfolding exit_static_block transform_statements make_context create_symbol
  static_agreed a = try_agreed changed scope _ _ _ _ (changed_agreed a)

-- ---- a try part

abbrev pub part_parts : ℕ → Head → Forest → Store → ℕ → Parts
part_parts cur h list st n =
    list_parts cur h.a st (insert_scope_between h.a 0 (transform_statements cur h.a list st).1).1 n

module _ (cur hoist : ℕ) (h : Head) (list : Forest) (st : Store) where
  abbrev part_listed : Store
  part_listed = (transform_statements cur h.a list st).1

  abbrev part_scope : ℕ
  part_scope = (insert_scope_between h.a 0 part_listed).0

  abbrev part : Store
  part = (insert_scope_between h.a 0 part_listed).1

  in_part_agreed : Agreed st → Agreed part
  in_part_agreed a = inserted_agreed part_listed (list_agreed cur h.a list st a) h.a 0

  -- THE ROWS of its context
  pub part_held : (zs zy : List ℕ) (n : ℕ) → Agreed st → Room (transform_try_block cur hoist h list st).1
      → for_try_part_f (rows_held st (free_scopes 4 zs) (free_symbols (2 + one_if (missing st)) zy)) cur hoist h.a n
      ≡ created_as (transform_try_block cur hoist h list st).1 zs zy (part_parts cur h list st n)
  unfolding for_try_part_f with_ctx_f transform_try_block transform_statements make_context create_symbol move_binding free_scopes
  part_held zs zy n ag r =
      let y = next_symbol st in
      let o = sym (inserted_number part_listed h.a 0) in
      let t = (transform_statements cur h.a list st).0 in
      let tried = (create_try_stmt h.a t.statements y part_scope t.needs_await part).1 in
      let g = scope_between h.a 0 part_listed in
      let r₂ = room_before (binding_grows y hoist tried) r in
      let r₁ = room_before (try_grows _ _ _ part_scope _ part) r₂ in
      rw (
        free_last (missing st) zy,
        statements_law st (free_scopes 4 zs) (free_symbols 1 zy) cur h.a list ag (room_before g r₁),
        list_scopes cur h.a list st (free_scopes 4 zs),
        scope_inserted part_listed 0 (omega (arith, g.scopes, r₁)) (omega arith) h.a 0 0 (free_scopes 3 zs),
        between_symbols h.a 0 part_listed (free_symbols 1 zy),
        try_law part part_scope h.a y _ _ _ _ n (length part.scopes) zs zy o (in_part_agreed ag) r₂,
        binding_moved tried y zy hoist,
        ← binding_ctx tried y hoist,
      )

  -- AND WHAT IS PUT IN ITS PLACE
  pub part_node : (n : ℕ) → n ≡ awaits list
      → (let p = part_parts cur h list st n in
      (transform_try_block cur hoist h list st).0
      ≡ node (hd Tag.Block (p.scope.0 - 1) 0 0)
      (single (try_statement (block h.a (context_of p & take_up p.context.0 list) & handlers_of p))))
  unfolding transform_try_block
  part_node n e =
      let s : part_scope ≡ (part_parts cur h list st n).scope.0 - 1 = omega (arith, inserted_number part_listed h.a 0) in
      ap₂ (λ (x : ℕ) (try : Node). node (hd Tag.Block x 0 0) (single try)) s (list_node cur h.a list st part h.a part_scope n e)

  pub part_room : (n : ℕ) → Room (transform_try_block cur hoist h list st).1 → (part_parts cur h list st n).scope.0 + 2 ≤ 65535
  unfolding transform_try_block
  part_room n r = try_room part part_scope _ _ _ _ (room_before (binding_grows _ hoist _) r)

  pub part_agreed : Agreed st → Agreed (transform_try_block cur hoist h list st).1
  unfolding transform_try_block
  part_agreed a = binding_agreed _ (try_agreed part part_scope _ _ _ _ (in_part_agreed a)) _ hoist
