-- The visits that make one context: Block, function body, StaticBlock, For, Switch.
-- Assumes nothing.
use Rattle.std.specs.Prelude.{◌≡◌, refl, true, [], ◌∷◌, ℕ, ◌+◌, ◌*◌}
use Rattle.std.proofs.Common.{arith}
use Rattle.meaning.specs.Numbers.Tag
use Rattle.meaning.specs.Numbers.Kind
use Rattle.meaning.specs.Tree.{Head, hd, Forest, one, single, size, ◌&◌}
use Rattle.meaning.specs.Scoping.{
  Store,
  create_child_scope,
  change_scope_parent,
  insert_scope_between,
  insert_scope_below,
  set_scope_flags,
  move_binding,
  move_bindings,
  block_scoped_in,
}
use Rattle.meaning.specs.HelperLoader.{helper_load}
use Rattle.meaning.specs.Shapes.{declaration}
use Rattle.meaning.specs.Statements.{any_using, any_await_using, make_context, transform_statements}
use Rattle.meaning.specs.Contexts.{
  transform_block_statement,
  enter_function_body,
  exit_static_block,
  for_list,
  take_up_for,
  transform_for_statement,
  any_case_await_using,
  take_up_cases,
  transform_switch_statement,
}
use Rattle.meaning.specs.Charges.{
  of_block,
  of_body,
  of_static_block,
  of_for,
  of_switch,
  context,
  wrapped,
  context_charge,
  line_charge,
  total,
  wraps,
  case_wraps,
  context_lines,
  record_bytes,
}
use Rattle.meaning.specs.Due.{is_context, any_context}
use Rattle.charge_laws.proofs.Growth.Rows.{
  Grown,
  both,
  child_scope,
  scope_parent,
  scope_between,
  scope_below,
  scope_flags,
  binding_moved,
  bindings_moved,
}
use Rattle.charge_laws.proofs.Growth.Loading.{load_grows}
use Rattle.charge_laws.proofs.Growth.Trees.{More, block_bytes_lem, body_bytes, static_bytes, for_taken, cases_taken}
use Rattle.charge_laws.proofs.Growth.Made.{
  context_pays,
  context_grows,
  declared,
  statements_grow,
  statements_more,
  try_grows,
  try_more,
}
use Rattle.charge_laws.proofs.Growth.Charged.{PaysFor, pays}

-- ---- Block

block_grows : (cur hoist : ℕ) (h : Head) (k : Forest) (st : Store)
    → Grown true 3 2 1 st (transform_block_statement cur hoist h k st).1
unfolding transform_block_statement
block_grows cur hoist h k st = both (statements_grow cur hoist k st) (try_grows h.a _ _ cur _ _)

block_more : (cur hoist : ℕ) (h : Head) (k : Forest) (st : Store) → h.tag ≡ Tag.Block
    → More (11 + wraps k) (83 + 9 * wraps k) (one h k) (single (transform_block_statement cur hoist h k st).0)
unfolding transform_block_statement size record_bytes
block_more cur hoist h k st e =
    let t = transform_statements cur hoist k st in
    omega (
      arith,
      block_bytes_lem h e,
      statements_more cur hoist k st,
      try_more h.a t.0.statements t.0.using_ctx cur t.0.needs_await t.1,
    )

pub block_pays : (cur hoist : ℕ) (h : Head) (k : Forest) (st : Store) → h.tag ≡ Tag.Block → any_using k ≡ true
    → PaysFor (context_lines of_block k) (one h k) st (transform_block_statement cur hoist h k st)
unfolding context_charge
block_pays cur hoist h k st e u =
    context_pays 11 3 83 of_block k (omega arith) u (block_grows cur hoist h k st) (block_more cur hoist h k st e)

-- ---- function body

body_grows : (cur hoist : ℕ) (k : Forest) (st : Store) → Grown true 4 2 1 st (enter_function_body cur hoist k st).1
unfolding enter_function_body
body_grows cur hoist k st =
    both (both (both (statements_grow cur hoist k st) (scope_below cur k _)) (bindings_moved _ _ _)) (try_grows _ _ _ cur _ _)

body_more : (cur hoist : ℕ) (h : Head) (k : Forest) (st : Store) → h.tag ≡ Tag.Body
    → More (12 + wraps k) (90 + 9 * wraps k) (one h k) (single (enter_function_body cur hoist k st).0)
unfolding enter_function_body size record_bytes
body_more cur hoist h k st e =
    let t = transform_statements cur hoist k st in
    let s = insert_scope_below cur k t.1 in
    let m = move_bindings (block_scoped_in s.1.symbols cur s.1.symbols 1) s.0 s.1 in
    omega (
      arith,
      body_bytes h e,
      body_bytes (hd Tag.Body 0 0 0) refl,
      statements_more cur hoist k st,
      try_more s.0 t.0.statements t.0.using_ctx cur t.0.needs_await m.1,
    )

pub body_pays : (cur hoist : ℕ) (h : Head) (k : Forest) (st : Store) → h.tag ≡ Tag.Body → any_using k ≡ true
    → PaysFor (context_lines of_body k) (one h k) st (enter_function_body cur hoist k st)
unfolding context_charge
body_pays cur hoist h k st e u =
    context_pays 12 4 90 of_body k (omega arith) u (body_grows cur hoist k st) (body_more cur hoist h k st e)

-- ---- StaticBlock

static_grows : (h : Head) (k : Forest) (st : Store) → Grown true 4 2 1 st (exit_static_block h k st).1
unfolding exit_static_block
static_grows h k st =
    both
    (both (both (both (statements_grow h.a h.a k st) (scope_between h.a 4 _)) (binding_moved _ _ _)) (scope_flags h.a 1 _))
    (try_grows h.a _ _ _ _ _)

static_more : (h : Head) (k : Forest) (st : Store) → h.tag ≡ Tag.StaticBlock
    → More (12 + wraps k) (90 + 9 * wraps k) (one h k) (single (exit_static_block h k st).0)
unfolding exit_static_block size record_bytes
static_more h k st e =
    let t = transform_statements h.a h.a k st in
    let s = insert_scope_between h.a 4 t.1 in
    let m = move_binding t.0.using_ctx s.0 s.1 in
    let g = set_scope_flags h.a 1 m.1 in
    omega (
      arith,
      static_bytes h e,
      static_bytes (hd Tag.StaticBlock s.0 0 0) refl,
      statements_more h.a h.a k st,
      try_more h.a t.0.statements t.0.using_ctx s.0 t.0.needs_await g.1,
    )

pub static_pays : (h : Head) (k : Forest) (st : Store) → h.tag ≡ Tag.StaticBlock → any_using k ≡ true
    → PaysFor (context_lines of_static_block k) (one h k) st (exit_static_block h k st)
unfolding context_charge
static_pays h k st e u =
    context_pays 12 4 90 of_static_block k (omega arith) u (static_grows h k st) (static_more h k st e)

-- ---- For

for_grows : (cur hoist : ℕ) (h : Head) (k : Forest) (st : Store) → Grown true 4 2 1 st (transform_for_statement cur hoist h k st).1
unfolding transform_for_statement
for_grows cur hoist h k st =
    both (both (both (context_grows hoist st) (scope_below cur (one h k) _)) (load_grows cur _)) (try_grows _ _ _ cur _ _)

for_more : (cur hoist : ℕ) (h : Head) (k : Forest) (st : Store) → any_using (for_list (one h k)) ≡ true
    → More (12 + wraps (for_list (one h k))) (90 + 9 * wraps (for_list (one h k))) (one h k)
    (single (transform_for_statement cur hoist h k st).0)
unfolding transform_for_statement
for_more cur hoist h k st u =
    let c = make_context hoist st in
    let s = insert_scope_below cur (one h k) c.1 in
    let l = helper_load cur s.1 in
    let taken = take_up_for c.0 (one h k) in
    omega (
      arith,
      for_taken (one h k) c.0 u,
      declared c.0 cur s.1 taken,
      try_more s.0 (declaration Kind.Var c.0 l.0 & taken) c.0 cur (any_await_using (for_list (one h k))) l.1,
    )

pub for_pays : (cur hoist : ℕ) (h : Head) (k : Forest) (st : Store) → any_using (for_list (one h k)) ≡ true
    → PaysFor (context_lines of_for (for_list (one h k))) (one h k) st (transform_for_statement cur hoist h k st)
unfolding context_charge
for_pays cur hoist h k st u =
    context_pays 12 4 90 of_for (for_list (one h k)) (omega arith) u (for_grows cur hoist h k st) (for_more cur hoist h k st u)

-- ---- Switch

switch_grows : (cur : ℕ) (h : Head) (k : Forest) (st : Store) → Grown true 4 2 1 st (transform_switch_statement cur h k st).1
unfolding transform_switch_statement
switch_grows cur h k st =
    both
    (both (both (both (context_grows cur st) (child_scope cur 0 _)) (scope_parent h.a _ _)) (load_grows cur _))
    (try_grows _ _ _ cur _ _)

switch_more : (cur : ℕ) (h : Head) (k : Forest) (st : Store)
    → More (12 + case_wraps k) (90 + 9 * case_wraps k) (one h k) (single (transform_switch_statement cur h k st).0)
unfolding transform_switch_statement size record_bytes
switch_more cur h k st =
    let c = make_context cur st in
    let s = create_child_scope cur 0 c.1 in
    let p = change_scope_parent h.a s.0 s.1 in
    let l = helper_load cur p.1 in
    let taken = one h (take_up_cases c.0 k) in
    omega (
      arith,
      cases_taken k c.0,
      declared c.0 cur p.1 taken,
      try_more s.0 (declaration Kind.Var c.0 l.0 & taken) c.0 cur (any_case_await_using k) l.1,
    )

pub switch_pays : (cur : ℕ) (h : Head) (k : Forest) (st : Store)
    → PaysFor (context of_switch ∷ wrapped (case_wraps k) ∷ []) (one h k) st (transform_switch_statement cur h k st)
unfolding total line_charge context_charge any_context is_context
switch_pays cur h k st =
    pays (12 + case_wraps k) (90 + 9 * case_wraps k) (context of_switch ∷ wrapped (case_wraps k) ∷ []) refl
    (omega arith)
    (switch_grows cur h k st)
    (switch_more cur h k st)
