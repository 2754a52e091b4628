-- A statement that goes into its Try: For and Switch.
-- Assumes nothing.
use Rattle.std.specs.Prelude.{◌≡◌, refl, Bool, false, not, List, ◌++◌, ℕ, ◌+◌, ◌-◌, ◌≤◌, eqb, length}
use Rattle.std.proofs.Common.{sym, ap, ◌∙◌}
use native.Mathlib.Omega.{arith}
use Rattle.meaning.specs.Numbers.Tag
use Rattle.meaning.specs.Numbers.Kind
use Rattle.meaning.specs.Numbers.Parts
use Rattle.meaning.specs.Tree.{Head, hd, Forest, node, one, count, size, ◌&◌}
use Rattle.meaning.specs.Scoping.{Store, create_symbol, create_child_scope, change_scope_parent, insert_scope_below}
use Rattle.meaning.specs.Shapes.{block, declaration, try_statement}
use Rattle.meaning.specs.HelperLoader.{helper_load}
use Rattle.meaning.specs.Statements.{make_context, create_try_stmt}
use Rattle.meaning.specs.Contexts.{
  for_list,
  take_up_for,
  transform_for_statement,
  any_case_await_using,
  take_up_cases,
  transform_switch_statement,
}
use Rattle.meaning.specs.Due.{missing}
use Rattle.charge_laws.proofs.Growth.Rows.{Grown, one_if, both, child_scope, scope_parent, scope_below}
use Rattle.charge_laws.proofs.Growth.Loading.{load_grows}
use Rattle.charge_laws.proofs.Growth.Made.{try_grows}
use Rattle.tables.specs.declared.Row.{Row}
use Rattle.representation.specs.Gap.Cells.{table, rows_of}
use Rattle.scoping.specs.Changes.{create_child_scope_f, change_scope_parent_f}
use Rattle.representation.specs.Store.Held.{scope_cells, ctx_of, scopes_held, symbols_held}
use Rattle.representation.proofs.Store.Scopes.{child_scope_made, child_scope_number, parent_changed, parent_ctx}
use Rattle.representation.proofs.Store.Agreed.{Agreed, child_scope_agreed, parent_agreed, below_agreed}
use Rattle.statements.specs.declared.Parts.{Parts}
use Rattle.table_laws.specs.Lists.Plan.{awaits, any_awaits}
use Rattle.table_laws.specs.Lists.Try.{context_of, handlers_of}
use Rattle.creation.specs.Creation.{load_context_f, create_try_stmt_f}
use Rattle.creation.specs.Kinds.{for_loop_f, for_switch_f}
use Rattle.scoping_laws.specs.Created.Held.{
  free_scopes,
  free_symbols,
  free_first,
  free_last,
  next_symbol,
  rows_held,
  created_as,
  Room,
  room_before,
}
use Rattle.scoping_laws.specs.Created.Scopes.{below_symbols, below_missing, below_number, insert_below_law}
use Rattle.scoping_laws.specs.Created.Loads.{
  load_form,
  load_symbol,
  context_law,
  context_number,
  context_agreed,
  load_context_law,
  load_is,
  load_scopes,
  load_agreed,
}
use Rattle.scoping_laws.specs.Created.Try.{parts_of, try_law, try_node, try_room, try_agreed}

-- ---- the helper and the Try, the context and the new scope being made

-- the numbers of a context, its helper being loaded in a store
abbrev pub load_parts : ℕ → ℕ → Store → ℕ → Parts
load_parts context cur st n = parts_of (helper_load cur st).1 context (load_form st) (load_symbol cur st) n

module _ (st : Store) (cur context scope : ℕ) (list : Forest) (needs : Bool) where
  abbrev tried : Store
  tried = (create_try_stmt scope list context cur needs (helper_load cur st).1).1

  before_try : Room tried → Room (helper_load cur st).1
  before_try r = room_before (try_grows scope list context cur needs (helper_load cur st).1) r

  before_load : Room tried → Room st
  before_load r = room_before (load_grows cur st) (before_try r)

  load_try_held : (zs zy : List ℕ) (n c : ℕ) → c ≡ context → Agreed st → Room tried
      → (let ss = scope_cells st.scopes (free_scopes 3 zs) in
      let t = load_context_f ss (symbols_held st (free_symbols (one_if (missing st)) (free_symbols 1 zy))) c cur in
      create_try_stmt_f ss t.symbols t.transformed cur n)
      ≡ created_as tried zs zy (load_parts context cur st n)
  load_try_held zs zy n c e a r =
      rw (
        e,
        load_context_law st (free_scopes 3 zs) (free_symbols 1 zy) context cur a (before_try r).1,
        load_scopes st cur (free_scopes 3 zs),
      )
      (try_law (helper_load cur st).1 cur scope context _ _ list needs n cur zs zy refl (load_agreed st cur a) r)

  load_try_room : Room tried → (load_parts context cur st 0).scope.0 + 2 ≤ 65535
  load_try_room r = try_room (helper_load cur st).1 cur scope context list needs r

  load_try_agreed : Agreed st → Agreed tried
  load_try_agreed a = try_agreed (helper_load cur st).1 cur scope context list needs (load_agreed st cur a)

load_try_node : (st : Store) (cur context s scope : ℕ) (list : Forest) (needs : Bool) (n : ℕ) → needs ≡ not (eqb n 0) → s ≡ scope
    → (let p = load_parts context cur st n in
    (create_try_stmt s (declaration Kind.Var context (helper_load cur st).0 & list) context cur needs (helper_load cur st).1).0
    ≡ try_statement (block scope (context_of p & list) & handlers_of p))
unfolding context_of
load_try_node st cur context s scope list needs n e o =
    rw (load_is st cur, o) (try_node (helper_load cur st).1 cur scope context _ _ _ needs n e)

-- ---- a For

abbrev pub for_parts : ℕ → ℕ → Head → Forest → Store → ℕ → Parts
for_parts cur hoist h k st n =
    load_parts (next_symbol st) cur (insert_scope_below cur (one h k) (make_context hoist st).1).1 n

module _ (cur hoist : ℕ) (h : Head) (k : Forest) (st : Store) where
  abbrev made : Store
  made = (make_context hoist st).1

  abbrev above : Store
  above = (insert_scope_below cur (one h k) made).1

  above_agreed : Agreed st → Agreed above
  above_agreed a = below_agreed made (context_agreed hoist st a) cur (one h k)

  -- THE ROWS of its context, the For with its Labels standing after others in the table
  pub for_held : (zs zy z : List ℕ) (a v : List Row) (t : List ℕ) (n : ℕ) → t ≡ table (a ++ (rows_of (one h k) ++ v)) z
      → length a + size (one h k) ≤ 65535 → Agreed st → Room (transform_for_statement cur hoist h k st).1
      → for_loop_f t (rows_held st (free_scopes 4 zs) (free_symbols (2 + one_if (missing st)) zy)) cur hoist (length a) n
      ≡ created_as (transform_for_statement cur hoist h k st).1 zs zy (for_parts cur hoist h k st n)
  unfolding for_loop_f transform_for_statement make_context create_symbol free_scopes count
  for_held zs zy z a v t n e q ag r =
      let r₁ = before_load above cur _ _ _ _ r in
      let g = scope_below cur (one h k) made in
      let free = free_symbols (one_if (missing st)) (free_symbols 1 zy) in
      rw (
        free_last (missing st) zy,
        free_first (missing st) (free_symbols 1 zy),
        context_law st free hoist ag (room_before g r₁),
        insert_below_law (free_scopes 3 zs) z (one h k) a v t e q made cur (omega (arith, g.scopes, r₁)),
        below_symbols cur (one h k) made free,
        below_missing cur (one h k) made,
      )
      (load_try_held above cur (next_symbol st) _ _ _ zs zy n (length made.symbols) (context_number hoist st) (above_agreed ag) r)

  -- AND WHAT IS PUT IN ITS PLACE
  pub for_node : (n : ℕ) → n ≡ awaits (for_list (one h k))
      → (let p = for_parts cur hoist h k st n in
      (transform_for_statement cur hoist h k st).0
      ≡ node (hd Tag.Try Parts.Both 0 0) (block (p.scope.0 - 1) (context_of p & take_up_for p.context.0 (one h k)) & handlers_of p))
  unfolding transform_for_statement make_context create_symbol
  for_node n e =
      let p = for_parts cur hoist h k st n in
      let s : (insert_scope_below cur (one h k) made).0 ≡ p.scope.0 - 1 =
      omega (arith, below_number cur (one h k) made, (load_grows cur above).scopes) in
      load_try_node above cur (next_symbol st) _ _ (take_up_for p.context.0 (one h k)) _ n (rw e (any_awaits (for_list (one h k)))) s

  pub for_room : (n : ℕ) → Room (transform_for_statement cur hoist h k st).1 → (for_parts cur hoist h k st n).scope.0 + 2 ≤ 65535
  unfolding transform_for_statement
  for_room n r = load_try_room above cur _ _ _ _ r

  pub for_agreed : Agreed st → Agreed (transform_for_statement cur hoist h k st).1
  unfolding transform_for_statement
  for_agreed a = load_try_agreed above cur _ _ _ _ (above_agreed a)

-- ---- a Switch

-- a new scope below `cur`, above the scope s
abbrev pub over : ℕ → ℕ → Store → Store
over cur s st = (change_scope_parent s (create_child_scope cur 0 st).0 (create_child_scope cur 0 st).1).1

over_grows : (cur s : ℕ) (st : Store) → Grown false 1 0 0 st (over cur s st)
over_grows cur s st = both (child_scope cur 0 st) (scope_parent s _ _)

over_held : (cur s : ℕ) (st : Store) (zs : List ℕ) → Room (over cur s st)
    → (let q = create_child_scope_f (scopes_held st (free_scopes 1 zs)) cur 0 in
    (change_scope_parent_f q s q.ctx.scopes ≡ scope_cells (over cur s st).scopes zs) × (q.ctx ≡ ctx_of (over cur s st)))
unfolding free_scopes
over_held cur s st zs r =
    let child = (create_child_scope cur 0 st).1 in
    let e = child_scope_made st 0 (omega (arith, (over_grows cur s st).scopes, r)) (omega arith) cur 0 0 zs in
    let number = ap (λ (m : ℕ). scope_cells (change_scope_parent s m child).1.scopes zs) (sym (child_scope_number st cur 0)) in
    (rw e (parent_changed child s zs (length child.scopes) ∙ number), rw e (sym (parent_ctx child s _)))

abbrev pub switch_parts : ℕ → Head → Store → ℕ → Parts
switch_parts cur h st n = load_parts (next_symbol st) cur (over cur h.a (make_context cur st).1) n

module _ (cur : ℕ) (h : Head) (k : Forest) (st : Store) where
  abbrev switch_made : Store
  switch_made = (make_context cur st).1

  abbrev above_switch : Store
  above_switch = over cur h.a switch_made

  switch_above_agreed : Agreed st → Agreed above_switch
  switch_above_agreed a =
      parent_agreed (create_child_scope cur 0 switch_made).1 (child_scope_agreed switch_made (context_agreed cur st a) cur 0) h.a _

  -- THE ROWS of its context
  pub switch_held : (zs zy : List ℕ) (n : ℕ) → Agreed st → Room (transform_switch_statement cur h k st).1
      → for_switch_f (rows_held st (free_scopes 4 zs) (free_symbols (2 + one_if (missing st)) zy)) cur h.a n
      ≡ created_as (transform_switch_statement cur h k st).1 zs zy (switch_parts cur h st n)
  unfolding for_switch_f transform_switch_statement make_context create_symbol create_child_scope change_scope_parent free_scopes
  switch_held zs zy n ag r =
      let r₁ = before_load above_switch cur _ _ _ _ r in
      let e = over_held cur h.a switch_made (free_scopes 3 zs) r₁ in
      let free = free_symbols (one_if (missing st)) (free_symbols 1 zy) in
      rw (
        free_last (missing st) zy,
        free_first (missing st) (free_symbols 1 zy),
        context_law st free cur ag (room_before (over_grows cur h.a switch_made) r₁),
        e.0,
        e.1,
      )
      (load_try_held above_switch cur (next_symbol st) _ _ _ zs zy n (length switch_made.symbols) (context_number cur st)
      (switch_above_agreed ag)
      r)

  -- AND WHAT IS PUT IN ITS PLACE, n being 0 if no Case has an `await using`
  pub switch_node : (n : ℕ) → any_case_await_using k ≡ not (eqb n 0)
      → (let p = switch_parts cur h st n in
      (transform_switch_statement cur h k st).0
      ≡ node (hd Tag.Try Parts.Both 0 0) (block (p.scope.0 - 1) (context_of p & one h (take_up_cases p.context.0 k)) & handlers_of p))
  unfolding transform_switch_statement make_context create_symbol
  switch_node n e =
      let p = switch_parts cur h st n in
      let child = create_child_scope cur 0 switch_made in
      let s : child.0 ≡ p.scope.0 - 1 =
      omega (
        arith,
        child_scope_number switch_made cur 0,
        (scope_parent h.a child.0 child.1).scopes,
        (load_grows cur above_switch).scopes,
      ) in
      load_try_node above_switch cur (next_symbol st) _ _ (one h (take_up_cases p.context.0 k)) _ n e s

  pub switch_room : (n : ℕ) → Room (transform_switch_statement cur h k st).1 → (switch_parts cur h st n).scope.0 + 2 ≤ 65535
  unfolding transform_switch_statement
  switch_room n r = load_try_room above_switch cur _ _ _ _ r

  pub switch_agreed : Agreed st → Agreed (transform_switch_statement cur h k st).1
  unfolding transform_switch_statement
  switch_agreed a = load_try_agreed above_switch cur _ _ _ _ (switch_above_agreed a)
