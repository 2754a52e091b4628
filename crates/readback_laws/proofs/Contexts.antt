-- The records that get a context: those without n get no children.
-- Assumes nothing.
use Rattle.std.specs.Prelude.{if◌then◌else◌, ◌≡◌, Bool, true, false, ◌&&◌, ℕ, eqb}
use Rattle.std.proofs.Common.{ap}
use Rattle.meaning.specs.Numbers.Tag
use Rattle.meaning.specs.Tree.{Head, Forest, none, more, one, node, single, ◌&◌}
use Rattle.meaning.specs.File.{has_children}
use Rattle.meaning.specs.Scoping.{
  Store,
  Change,
  return,
  create_child_scope,
  insert_scope_below,
  insert_scope_between,
  change_scope_parent,
  set_scope_flags,
  move_binding,
  move_bindings,
  block_scoped_in,
}
use Rattle.meaning.specs.HelperLoader.{helper_load}
use Rattle.meaning.specs.Statements.{any_using, any_await_using, take_up, make_context, transform_statements}
use Rattle.meaning.specs.Contexts.{
  transform_block_statement,
  enter_function_body,
  exit_static_block,
  transform_try_block,
  move_catch_names,
  transform_try_parts,
  enter_try_statement,
  for_list,
  take_up_for,
  transform_for_statement,
  any_case_await_using,
  take_up_cases,
  transform_switch_statement,
}
use Rattle.meaning.specs.Walk.{leave}
use Rattle.spec_laws.specs.Trees.{transform_handler}
use Rattle.readback_laws.proofs.Back.{Childless}
use Rattle.readback_laws.proofs.Taken.{Bare, never, list_childless, cases_childless, for_childless, try_childless}

-- ---- one list

pub block_childless : (cur hoist : ℕ) (h : Head) (k : Forest) (st : Store) → Childless k
    → Childless (single (transform_block_statement cur hoist h k st).0)
unfolding transform_block_statement transform_statements
block_childless cur hoist h k st p =
    let c = make_context hoist st in
    let l = helper_load cur c.1 in
    try_childless h.a (take_up c.0 k) c.0 cur c.0 cur (any_await_using k) c.1 l.1
    (list_childless k c.0 p)

pub body_childless : (cur hoist : ℕ) (k : Forest) (st : Store) → Childless k → Childless (single (enter_function_body cur hoist k st).0)
unfolding enter_function_body transform_statements has_children
body_childless cur hoist k st p =
    let c = make_context hoist st in
    let l = helper_load cur c.1 in
    let s = insert_scope_below cur k l.1 in
    let m = move_bindings (block_scoped_in s.1.symbols cur s.1.symbols 1) s.0 s.1 in (
      never,
      try_childless s.0 (take_up c.0 k) c.0 cur c.0 cur (any_await_using k) c.1 m.1
          (list_childless k c.0 p),
      tt,
    )

static_if : (b : Bool) (h : Head) (k : Forest) (st : Store) → Childless (one h k)
    → Childless (single ((if b then exit_static_block h k else return (node h k)) st).0)
unfolding exit_static_block transform_statements has_children
static_if true h k st p =
    let c = make_context h.a st in
    let l = helper_load h.a c.1 in
    let s = insert_scope_between h.a 4 l.1 in
    let m = move_binding c.0 s.0 s.1 in
    let f = set_scope_flags h.a 1 m.1 in (
      never,
      try_childless h.a (take_up c.0 k) c.0 h.a c.0 s.0 (any_await_using k) c.1 f.1
          (list_childless k c.0 p.1),
      tt,
    )
static_if false h k st p = p

pub leave_childless : (h : Head) (k : Forest) (st : Store) → Childless (one h k) → Childless (single (leave h k st).0)
unfolding leave
leave_childless h k st p = static_if (any_using k) h k st p

-- ---- For and Switch

pub for_statement_childless : (cur hoist : ℕ) (h : Head) (k : Forest) (st : Store) → Childless (one h k)
    → Childless (single (transform_for_statement cur hoist h k st).0)
unfolding transform_for_statement
for_statement_childless cur hoist h k st p =
    let c = make_context hoist st in
    let s = insert_scope_below cur (one h k) c.1 in
    let l = helper_load cur s.1 in
    try_childless s.0 (take_up_for c.0 (one h k)) c.0 cur c.0 cur (any_await_using (for_list (one h k))) s.1 l.1
    (for_childless (one h k) c.0 p)

pub switch_childless : (cur : ℕ) (h : Head) (k : Forest) (st : Store) → Childless (one h k)
    → Childless (single (transform_switch_statement cur h k st).0)
unfolding transform_switch_statement take_up_cases
switch_childless cur h k st p =
    let c = make_context cur st in
    let s = create_child_scope cur 0 c.1 in
    let m = change_scope_parent h.a s.0 s.1 in
    let l = helper_load cur m.1 in
    try_childless s.0 (one h (take_up_cases c.0 k)) c.0 cur c.0 cur (any_case_await_using k) m.1 l.1
    ((λ e. ap (take_up_cases c.0) (p.0 e)), cases_childless k c.0 p.1, tt)

-- ---- Try

try_block : (cur hoist : ℕ) (h : Head) (k r : Forest) (st : Store) → Childless k → Childless r
    → Childless (single (transform_try_block cur hoist h k st).0 & r)
unfolding transform_try_block transform_statements ◌&◌ has_children
try_block cur hoist h k r st p q =
    let c = make_context h.a st in
    let l = helper_load cur c.1 in
    let s = insert_scope_between h.a 0 l.1 in (
      never,
      try_childless h.a (take_up c.0 k) c.0 cur c.0 s.0 (any_await_using k) c.1 s.1
          (list_childless k c.0 p),
      q,
    )

-- no parts become no parts
no_parts : (cur hoist : ℕ) (f : Forest) (st : Store) → f ≡ none → (transform_try_parts cur hoist f st).0 ≡ none
unfolding transform_try_parts
no_parts cur hoist f st e = ap (λ (g : Forest). (transform_try_parts cur hoist g st).0) e

one_part : (x y : Bool) (cur hoist : ℕ) (h : Head) (k r : Forest) (inside : Change Forest) (st : Store) → Bare h k → Childless k
    → (k ≡ none → (inside st).0 ≡ none) → Childless (inside st).0 → Childless r
    → Childless
    (single
    ((if x then transform_handler h k inside else if y then transform_try_block cur hoist h k else return (node h k)) st).0
    & r)
unfolding move_catch_names ◌&◌
one_part true y cur hoist h k r inside st o p s i q = ((λ e. s (o e)), i, q)
one_part false true cur hoist h k r inside st o p s i q = try_block cur hoist h k r st p q
one_part false false cur hoist h k r inside st o p s i q = (o, p, q)

parts_childless : (f : Forest) (cur hoist : ℕ) (st : Store) → Childless f → Childless (transform_try_parts cur hoist f st).0
unfolding transform_try_parts
parts_childless none cur hoist st p = tt
parts_childless (more h k r) cur hoist st p =
    one_part (eqb h.tag Tag.Catch) (eqb h.tag Tag.Block && any_using k) cur hoist h k _ (transform_try_parts cur hoist k) st p.0 p.1
    (no_parts cur hoist k st)
    (parts_childless k cur hoist st p.1)
    (parts_childless r cur hoist _ p.2)

pub try_statement_childless : (cur hoist : ℕ) (h : Head) (k : Forest) (st : Store) → Childless (one h k)
    → Childless (single (enter_try_statement cur hoist h k st).0)
unfolding enter_try_statement
try_statement_childless cur hoist h k st p =
    ((λ e. no_parts cur hoist k st (p.0 e)), parts_childless k cur hoist st p.1, tt)
