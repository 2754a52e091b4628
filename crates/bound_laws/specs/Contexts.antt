-- A context costs no more than the using that it takes up.
-- Assumes nothing.
use Rattle.std.specs.Prelude.{if◌then◌else◌, ◌≡◌, refl, Bool, true, false, ◌&&◌, List, [], ◌∷◌, ℕ, ◌+◌, ◌*◌, ◌≤◌, eqb}
use native.Mathlib.Omega.{arith}
use Rattle.std.proofs.Common.{eqb-true}
use Rattle.meaning.specs.Numbers.Tag
use Rattle.meaning.specs.Numbers.Kind
use Rattle.meaning.specs.Tree.{one_of, Head, Forest, none, more, one, Node, node, ◌&◌}
use Rattle.meaning.specs.Shapes.{declaration}
use Rattle.meaning.specs.Scoping.{
  Store,
  Change,
  return,
  block_scoped_in,
  insert_scope_below,
  insert_scope_between,
  move_binding,
  move_bindings,
  set_scope_flags,
  create_child_scope,
  change_scope_parent,
}
use Rattle.meaning.specs.HelperLoader.{load_runtime, load_external, helper_load}
use Rattle.meaning.specs.Statements.{
  is_using,
  any_using,
  any_await_using,
  take_up,
  make_context,
  transform_statements,
  create_catch_clause,
  create_finally_block,
  create_try_stmt,
}
use Rattle.meaning.specs.Contexts.{
  transform_block_statement,
  enter_function_body,
  exit_static_block,
  transform_try_block,
  names_in,
  last_block_scope,
  any_part_using,
  move_catch_names,
  transform_try_parts,
  enter_try_statement,
  for_list,
  take_up_for,
  transform_for_statement,
  any_case_using,
  any_case_await_using,
  take_up_cases,
  transform_switch_statement,
}
use Rattle.spec_laws.specs.Trees.{transform_handler}
use Rattle.spec_laws.specs.Tags.{Seen, other, here, there, seen, clash, and_left, and_right}
use Rattle.charge_laws.proofs.Growth.Rows.{
  Grown,
  both,
  unchanged,
  scope_parent,
  scope_flags,
  child_scope,
  scope_between,
  scope_below,
  binding_moved,
  bindings_moved,
}
use Rattle.charge_laws.proofs.Growth.Loading.{load_grows}
use Rattle.charge_laws.proofs.Growth.Made.{context_grows, statements_grow, try_grows}
use Rattle.bound_laws.specs.Rows.{RowKind, per_record, per_mention, rows, rows_most}
use Rattle.bound_laws.specs.Weights.{
  Role,
  plain,
  item,
  first,
  exported,
  declarator,
  name,
  held,
  next,
  in_declaration,
  in_declarator,
  below,
  context,
  extra,
  own,
  weigh,
  weight,
  list_taken,
  for_taken,
  cases_taken,
}

-- a rewritten record weighs no more, with the rows
abbrev pub Within : RowKind → Role → Head → Forest → Store → Node × Store → Type 0
Within K r h k st e = rows K e.1 + weight K r e.0.head e.0.children ≤ rows K st + weight K r h k

-- ---- what is made

-- a Try, a body and a StaticBlock weigh the same in every role
bare : (K : RowKind) (r : Role) → (extra K r 11 false ≡ 0) × (extra K r 14 false ≡ 0) × (extra K r 16 false ≡ 0)
unfolding extra
bare K plain = (refl, refl, refl)
bare K item = (refl, refl, refl)
bare K first = (refl, refl, refl)
bare K exported = (refl, refl, refl)
bare K declarator = (refl, refl, refl)
bare K name = (refl, refl, refl)
bare K held = (refl, refl, refl)

var_weighs : (K : RowKind) (y : ℕ) (e f : Forest)
    → weigh K plain (declaration Kind.Var y e & f) ≡ 3 * per_record K + per_mention K + weigh K plain e + weigh K plain f
unfolding weigh next own extra below in_declaration in_declarator is_using ◌&◌
var_weighs K y e f = omega arith

load_if : (K : RowKind) (b : Bool) (cur : ℕ) (st : Store) → weigh K plain ((if b then load_runtime else load_external cur) st).0 ≡ per_record K + per_mention K
unfolding load_runtime load_external weigh next own extra below is_using
load_if K true cur st = omega arith
load_if K false cur st = omega arith

load_weighs : (K : RowKind) (cur : ℕ) (st : Store) → weigh K plain (helper_load cur st).0 ≡ per_record K + per_mention K
unfolding helper_load
load_weighs K cur st = load_if K (eqb st.mode 0) cur st

try_weighs : (K : RowKind) (r : Role) (scope : ℕ) (list : Forest) (ctx parent : ℕ) (needs_await : Bool) (st : Store)
    → let e = create_try_stmt scope list ctx parent needs_await st in
    weight K r e.0.head e.0.children ≡ 8 * per_record K + 5 * per_mention K + weigh K plain list
unfolding create_try_stmt create_catch_clause create_finally_block weigh next own extra below is_using ◌&◌
try_weighs K r scope list ctx parent needs_await st = omega (arith, bare K r)

-- the list with its context's declaration
statements_weigh : (K : RowKind) (cur hoist : ℕ) (list : Forest) (st : Store) → any_using list ≡ true
    → weigh K plain (transform_statements cur hoist list st).0.statements + context K ≤ weigh K plain list + 4 * per_record K + 2 * per_mention K
unfolding transform_statements
statements_weigh K cur hoist list st e =
    let c = make_context hoist st in
    omega (
      arith,
      var_weighs K c.0 (helper_load cur c.1).0 (take_up c.0 list),
      load_weighs K cur c.1,
      rw e at (list_taken K list c.0),
    )

-- ---- block, function body, static block

module _ (K : RowKind) (r : Role) (cur hoist : ℕ) (h : Head) (list : Forest) (st : Store) (any : any_using list ≡ true) where
  pub block_within : eqb h.tag Tag.Block ≡ true → Within K r h list st (transform_block_statement cur hoist h list st)
  unfolding transform_block_statement own below
  block_within e =
      let t = transform_statements cur hoist list st in
      rw (eqb-true h.tag Tag.Block e)
      (omega (
        arith,
        statements_weigh K cur hoist list st any,
        try_weighs K r h.a t.0.statements t.0.using_ctx cur t.0.needs_await t.1,
        rows_most K
            (both (statements_grow cur hoist list st) (try_grows h.a t.0.statements t.0.using_ctx cur t.0.needs_await t.1)),
      ))

  pub body_within : eqb h.tag Tag.Body ≡ true → Within K r h list st (enter_function_body cur hoist list st)
  unfolding enter_function_body weigh next own extra below is_using
  body_within e =
      let t = transform_statements cur hoist list st in
      let s = insert_scope_below cur list t.1 in
      let ys = block_scoped_in s.1.symbols cur s.1.symbols 1 in
      let m = move_bindings ys s.0 s.1 in
      rw (eqb-true h.tag Tag.Body e)
      (omega (
        arith,
        bare K r,
        statements_weigh K cur hoist list st any,
        try_weighs K plain s.0 t.0.statements t.0.using_ctx cur t.0.needs_await m.1,
        rows_most K (both (both (both (statements_grow cur hoist list st) (scope_below cur list t.1)) (bindings_moved ys s.0 s.1))
            (try_grows s.0 t.0.statements t.0.using_ctx cur t.0.needs_await m.1)),
      ))

module _ (K : RowKind) (r : Role) (h : Head) (list : Forest) (st : Store) (any : any_using list ≡ true) where
  pub static_within : eqb h.tag Tag.StaticBlock ≡ true → Within K r h list st (exit_static_block h list st)
  unfolding exit_static_block weigh next own extra below is_using
  static_within e =
      let t = transform_statements h.a h.a list st in
      let s = insert_scope_between h.a 4 t.1 in
      let m = move_binding t.0.using_ctx s.0 s.1 in
      let g = set_scope_flags h.a 1 m.1 in
      rw (eqb-true h.tag Tag.StaticBlock e)
      (omega (
        arith,
        bare K r,
        statements_weigh K h.a h.a list st any,
        try_weighs K plain h.a t.0.statements t.0.using_ctx s.0 t.0.needs_await g.1,
        rows_most K
            (both (both (statements_grow h.a h.a list st) (scope_between h.a 4 t.1))
            (both (both (binding_moved t.0.using_ctx s.0 s.1) (scope_flags h.a 1 m.1))
            (try_grows h.a t.0.statements t.0.using_ctx s.0 t.0.needs_await g.1))),
      ))

-- ---- try parts

part_within : (K : RowKind) (cur hoist : ℕ) (h : Head) (list : Forest) (st : Store) → (eqb h.tag Tag.Block && any_using list) ≡ true
    → Within K plain h list st (transform_try_block cur hoist h list st)
unfolding transform_try_block weigh next own extra below is_using
part_within K cur hoist h list st e =
    let t = transform_statements cur h.a list st in
    let s = insert_scope_between h.a 0 t.1 in
    let c = create_try_stmt h.a t.0.statements t.0.using_ctx s.0 t.0.needs_await s.1 in
    rw (eqb-true h.tag Tag.Block (and_left (eqb h.tag Tag.Block) (any_using list) e))
    (omega (
      arith,
      statements_weigh K cur h.a list st (and_right (eqb h.tag Tag.Block) (any_using list) e),
      try_weighs K plain h.a t.0.statements t.0.using_ctx s.0 t.0.needs_await s.1,
      rows_most K (both (both (both (statements_grow cur h.a list st) (scope_between h.a 0 t.1))
          (try_grows h.a t.0.statements t.0.using_ctx s.0 t.0.needs_await s.1))
          (binding_moved t.0.using_ctx hoist c.1)),
    ))

names_moved : (b : Bool) (ys : List ℕ) (scope : ℕ) (st : Store) → Grown false 0 0 0 st ((if b then move_bindings ys scope else return tt) st).1
names_moved true ys scope st = bindings_moved ys scope st
names_moved false ys scope st = unchanged st

-- a list of parts weighs no more, with the rows
abbrev PartsWithin : RowKind → Forest → Store → Forest × Store → Type 0
PartsWithin K f st e = rows K e.1 + weigh K plain e.0 ≤ rows K st + weigh K plain f

handler_within : (K : RowKind) (h : Head) (k : Forest) (inside : Change Forest) (st : Store) → eqb h.tag Tag.Catch ≡ true
    → PartsWithin K k st (inside st) → Within K plain h k st (transform_handler h k inside st)
unfolding move_catch_names below
handler_within K h k inside st e i =
    let p = inside st in
    rw (eqb-true h.tag Tag.Catch e)
    (omega (arith, rows_most K (names_moved (any_part_using k) (names_in k) (last_block_scope p.0) p.1)))

one_part_within : (K : RowKind) (b c : Bool) (cur hoist : ℕ) (h : Head) (k : Forest) (inside : Change Forest) (st : Store) → eqb h.tag Tag.Catch ≡ b
    → (eqb h.tag Tag.Block && any_using k) ≡ c → PartsWithin K k st (inside st)
    → Within K plain h k st
    ((if b then transform_handler h k inside else if c then transform_try_block cur hoist h k else return (node h k)) st)
one_part_within K true c cur hoist h k inside st d e i = handler_within K h k inside st d i
one_part_within K false true cur hoist h k inside st d e i = part_within K cur hoist h k st e
one_part_within K false false cur hoist h k inside st d e i = omega arith

parts_within : (K : RowKind) (cur hoist : ℕ) (f : Forest) (st : Store) → PartsWithin K f st (transform_try_parts cur hoist f st)
unfolding transform_try_parts weigh next ◌&◌
parts_within K cur hoist none st = omega arith
parts_within K cur hoist (more h k r) st =
    let inside = transform_try_parts cur hoist k in
    let part : Change Node =
    if eqb h.tag Tag.Catch then transform_handler h k inside
    else if eqb h.tag Tag.Block && any_using k then transform_try_block cur hoist h k
    else return (node h k) in
    omega (
      arith,
      one_part_within K (eqb h.tag Tag.Catch) (eqb h.tag Tag.Block && any_using k) cur hoist h k inside st refl refl (parts_within K cur hoist k st),
      parts_within K cur hoist r (part st).1,
    )

pub try_within : (K : RowKind) (r : Role) (cur hoist : ℕ) (h : Head) (k : Forest) (st : Store) → eqb h.tag Tag.Try ≡ true
    → Within K r h k st (enter_try_statement cur hoist h k st)
unfolding enter_try_statement below
try_within K r cur hoist h k st e = rw (eqb-true h.tag Tag.Try e) (omega (arith, parts_within K cur hoist k st))

-- ---- for

loop_role : {t : ℕ} (r : Role) (u : Bool) → Seen (Tag.Label ∷ Tag.For ∷ []) t → one_of (Tag.Label ∷ Tag.For ∷ []) t ≡ true → below r t u ≡ plain
unfolding below
loop_role r u here e = refl
loop_role r u (there e₄ here) e = refl
loop_role r u (there e₄ (there e₇ other)) e = absurd (clash (rw (e₄, e₇)) e)

pub for_within : (K : RowKind) (r : Role) (cur hoist : ℕ) (h : Head) (k : Forest) (st : Store) → one_of (Tag.Label ∷ Tag.For ∷ []) h.tag ≡ true
    → any_using (for_list (one h k)) ≡ true → Within K r h k st (transform_for_statement cur hoist h k st)
unfolding transform_for_statement weigh next own extra
for_within K r cur hoist h k st e any =
    let c = make_context hoist st in
    let s = insert_scope_below cur (one h k) c.1 in
    let l = helper_load cur s.1 in
    let list = take_up_for c.0 (one h k) in
    let awaits = any_await_using (for_list (one h k)) in
    let sight = seen (Tag.Label ∷ Tag.For ∷ []) h.tag in
    rw (loop_role r (is_using h) sight e)
    (omega (
      arith,
      var_weighs K c.0 l.0 list,
      load_weighs K cur s.1,
      rw (loop_role plain (is_using h) sight e) at (for_taken K (one h k) c.0 any),
      try_weighs K r s.0 (declaration Kind.Var c.0 l.0 & list) c.0 cur awaits l.1,
      rows_most K (both (both (both (context_grows hoist st) (scope_below cur (one h k) c.1)) (load_grows cur s.1))
          (try_grows s.0 (declaration Kind.Var c.0 l.0 & list) c.0 cur awaits l.1)),
    ))

-- ---- switch

switch_role : (t : ℕ) (r : Role) (u : Bool) → eqb t Tag.Switch ≡ true → below r t u ≡ plain
unfolding below
switch_role t r u e = rw (eqb-true t 9 e)

pub switch_within : (K : RowKind) (r : Role) (cur : ℕ) (h : Head) (k : Forest) (st : Store) → eqb h.tag Tag.Switch ≡ true
    → any_case_using k ≡ true → Within K r h k st (transform_switch_statement cur h k st)
unfolding transform_switch_statement weigh next own extra
switch_within K r cur h k st e any =
    let c = make_context cur st in
    let s = create_child_scope cur 0 c.1 in
    let m = change_scope_parent h.a s.0 s.1 in
    let l = helper_load cur m.1 in
    let list = one h (take_up_cases c.0 k) in
    let awaits = any_case_await_using k in
    rw (switch_role h.tag r (is_using h) e)
    (omega (
      arith,
      rw (switch_role h.tag plain (is_using h) e) at (var_weighs K c.0 l.0 list),
      load_weighs K cur m.1,
      rw any at (cases_taken K k c.0),
      try_weighs K r s.0 (declaration Kind.Var c.0 l.0 & list) c.0 cur awaits l.1,
      rows_most K
          (both (both (context_grows cur st) (child_scope cur 0 c.1))
          (both (both (scope_parent h.a s.0 s.1) (load_grows cur m.1))
          (try_grows s.0 (declaration Kind.Var c.0 l.0 & list) c.0 cur awaits l.1))),
    ))
