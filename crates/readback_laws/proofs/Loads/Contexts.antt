-- The Loads of a tree: each context that is made brings one, and taking up usings makes and drops none.
-- Assumes nothing.
use Rattle.std.specs.Prelude.{if◌then◌else◌, ◌≡◌, refl, Bool, true, false, ◌&&◌, List, [], ℕ, ◌+◌, eqb}
use Rattle.std.proofs.Math.Path.{ap}
use native.Mathlib.Omega.{arith}
use Rattle.std.proofs.Common.{eqb-true}
use Rattle.meaning.specs.Numbers.Tag
use Rattle.meaning.specs.Numbers.Kind
use Rattle.meaning.specs.Tree.{Head, Forest, none, more, one, Node, node, single, ◌&◌}
use Rattle.meaning.specs.Shapes.{declaration, read}
use Rattle.meaning.specs.Scoping.{Store, Change, return, symbol_in, create_child_scope, create_symbol, change_scope_parent, insert_scope_below, insert_scope_between, set_scope_flags, move_binding, move_bindings, block_scoped_in}
use Rattle.meaning.specs.HelperLoader.{load_runtime, load_external, helper_load}
use Rattle.meaning.specs.Statements.{is_using, any_using, any_await_using, as_taken_up, take_up, make_context, transform_statements, create_catch_clause, create_finally_block, create_try_stmt}
use Rattle.meaning.specs.Contexts.{transform_block_statement, enter_function_body, exit_static_block, transform_try_block, move_catch_names, transform_try_parts, enter_try_statement, for_list, take_up_for, transform_for_statement, any_case_await_using, take_up_cases, transform_switch_statement}
use Rattle.meaning.specs.ForOf.{bound_symbol, rebind, insert_using, wrap_body, enter_for_of_statement}
use Rattle.meaning.specs.Charges.{ContextKind, of_block, of_body, of_static_block, of_try_part, of_for, of_switch, Line, context_charge, line_charge, total, context_lines}
use Rattle.meaning.specs.Due.{part_lines}
use Rattle.spec_laws.specs.Trees.{transform_handler}
use Rattle.spec_laws.specs.Figures.{total_++}
use Rattle.charge_laws.proofs.Growth.Taken.{Taken, nothing, passed, as_const, in_declarator_lem, called, taken, TakenIn, in_list_lem, around, taken_for, taken_cases}
use Rattle.charge_laws.proofs.Growth.Trees.{using_tag}
use Rattle.charge_laws.proofs.Growth.ForOf.{Named}
use Rattle.readback_laws.specs.Loads.Contexts.{load_of, loads, contexts_of}

pub loads_& : (f g : Forest) → loads (f & g) ≡ loads f + loads g
unfolding ◌&◌ loads
loads_& none g = omega arith
loads_& (more h k r) g = omega (arith, loads_& r g)

-- ---- usings that are taken up

taken_loads : {ctx n : ℕ} {f f' : Forest} → Taken ctx n f f' → loads f' ≡ loads f
unfolding loads load_of as_taken_up
taken_loads nothing = refl
taken_loads (passed t) = omega (arith, taken_loads t)
taken_loads (as_const {h = h} u s t) = omega (arith, taken_loads s, taken_loads t, ap load_of (using_tag h u))
taken_loads (in_declarator_lem e s t) = omega (arith, taken_loads s, taken_loads t)
taken_loads (called l) = omega arith

around_loads : {ctx : ℕ} {f f' : Forest} → TakenIn ctx f f' → loads f' ≡ loads f
unfolding loads
around_loads (in_list_lem t) = taken_loads t
around_loads (around s t) = omega (arith, around_loads s, around_loads t)

-- ---- what is made

load_if : (b : Bool) (cur : ℕ) (st : Store) → loads ((if b then load_runtime else load_external cur) st).0 ≡ 1
unfolding load_runtime load_external loads load_of
load_if true cur st = refl
load_if false cur st = refl

load_one : (cur : ℕ) (st : Store) → loads (helper_load cur st).0 ≡ 1
unfolding helper_load
load_one cur st = load_if (eqb st.mode 0) cur st

-- the context's declaration before a list
declared : (ctx cur : ℕ) (st : Store) (f : Forest) → loads (declaration Kind.Var ctx (helper_load cur st).0 & f) ≡ loads f + 1
unfolding ◌&◌ loads load_of
declared ctx cur st f = omega (arith, load_one cur st)

statements_loads : (cur hoist : ℕ) (list : Forest) (st : Store)
    → loads (transform_statements cur hoist list st).0.statements ≡ loads list + 1
unfolding transform_statements
statements_loads cur hoist list st =
    let c = make_context hoist st in
    omega (arith, declared c.0 cur c.1 (take_up c.0 list), taken_loads (taken c.0 list))

try_loads : (scope : ℕ) (list : Forest) (ctx parent : ℕ) (needs_await : Bool) (st : Store)
    → loads (single (create_try_stmt scope list ctx parent needs_await st).0) ≡ loads list
unfolding create_try_stmt create_catch_clause create_finally_block create_child_scope create_symbol ◌&◌ loads load_of
try_loads scope list ctx parent needs_await st = omega arith

-- ---- one context

pub kind_one : (kind : ContextKind) → (context_charge kind).contexts ≡ 1
unfolding context_charge
kind_one of_block = refl
kind_one of_body = refl
kind_one of_static_block = refl
kind_one of_try_part = refl
kind_one of_for = refl
kind_one of_switch = refl

lines_one : (kind : ContextKind) (list : Forest) → any_using list ≡ true → contexts_of (context_lines kind list) ≡ 1
unfolding context_lines total line_charge
lines_one kind list u = rw u (omega (arith, kind_one kind))

-- a record is rewritten, and these lines are charged
abbrev pub Brings : List Line → Forest → Forest → Type 0
Brings ls f f' = loads f' ≡ loads f + contexts_of ls

module _ (cur hoist : ℕ) (h : Head) (k : Forest) (st : Store) (u : any_using k ≡ true) where
  pub block_brings : h.tag ≡ Tag.Block → Brings (context_lines of_block k) (one h k) (single (transform_block_statement cur hoist h k st).0)
  unfolding transform_block_statement loads load_of
  block_brings e =
      let t = transform_statements cur hoist k st in
      omega (
        arith,
        ap load_of e,
        lines_one of_block k u,
        statements_loads cur hoist k st,
        try_loads h.a t.0.statements t.0.using_ctx cur t.0.needs_await t.1,
      )

  pub body_brings : h.tag ≡ Tag.Body → Brings (context_lines of_body k) (one h k) (single (enter_function_body cur hoist k st).0)
  unfolding enter_function_body loads load_of
  body_brings e =
      let t = transform_statements cur hoist k st in
      let s = insert_scope_below cur k t.1 in
      let m = move_bindings (block_scoped_in s.1.symbols cur s.1.symbols 1) s.0 s.1 in
      omega (
        arith,
        ap load_of e,
        lines_one of_body k u,
        statements_loads cur hoist k st,
        try_loads s.0 t.0.statements t.0.using_ctx cur t.0.needs_await m.1,
      )

  part_brings : h.tag ≡ Tag.Block → Brings (context_lines of_try_part k) (one h k) (single (transform_try_block cur hoist h k st).0)
  unfolding transform_try_block loads load_of
  part_brings e =
      let t = transform_statements cur h.a k st in
      let s = insert_scope_between h.a 0 t.1 in
      omega (
        arith,
        ap load_of e,
        lines_one of_try_part k u,
        statements_loads cur h.a k st,
        try_loads h.a t.0.statements t.0.using_ctx s.0 t.0.needs_await s.1,
      )

pub static_brings : (h : Head) (k : Forest) (st : Store) → any_using k ≡ true → h.tag ≡ Tag.StaticBlock
    → Brings (context_lines of_static_block k) (one h k) (single (exit_static_block h k st).0)
unfolding exit_static_block loads load_of
static_brings h k st u e =
    let t = transform_statements h.a h.a k st in
    let s = insert_scope_between h.a 4 t.1 in
    let m = move_binding t.0.using_ctx s.0 s.1 in
    let g = set_scope_flags h.a 1 m.1 in
    omega (
      arith,
      ap load_of e,
      lines_one of_static_block k u,
      statements_loads h.a h.a k st,
      try_loads h.a t.0.statements t.0.using_ctx s.0 t.0.needs_await g.1,
    )

pub for_brings : (cur hoist : ℕ) (h : Head) (k : Forest) (st : Store) → any_using (for_list (one h k)) ≡ true
    → Brings (context_lines of_for (for_list (one h k))) (one h k) (single (transform_for_statement cur hoist h k st).0)
unfolding transform_for_statement
for_brings cur hoist h k st u =
    let c = make_context hoist st in
    let s = insert_scope_below cur (one h k) c.1 in
    let l = helper_load cur s.1 in
    let taken = take_up_for c.0 (one h k) in
    omega (
      arith,
      lines_one of_for (for_list (one h k)) u,
      around_loads (taken_for c.0 (one h k)),
      declared c.0 cur s.1 taken,
      try_loads s.0 (declaration Kind.Var c.0 l.0 & taken) c.0 cur (any_await_using (for_list (one h k))) l.1,
    )

pub switch_brings : (cur : ℕ) (h : Head) (k : Forest) (st : Store)
    → loads (single (transform_switch_statement cur h k st).0) ≡ loads (one h k) + 1
unfolding transform_switch_statement loads
switch_brings cur h k st =
    let c = make_context cur st in
    let s = create_child_scope cur 0 c.1 in
    let p = change_scope_parent h.a s.0 s.1 in
    let l = helper_load cur p.1 in
    let taken = one h (take_up_cases c.0 k) in
    omega (
      arith,
      around_loads (taken_cases c.0 k),
      declared c.0 cur p.1 taken,
      try_loads s.0 (declaration Kind.Var c.0 l.0 & taken) c.0 cur (any_case_await_using k) l.1,
    )

-- ---- the parts of a Try

one_part : (a b u : Bool) (cur hoist : ℕ) (h : Head) (k : Forest) (inside : Change Forest) (st : Store)
    → (b ≡ true → h.tag ≡ Tag.Block) → any_using k ≡ u → Brings (part_lines k) k (inside st).0
    → Brings (if a then part_lines k else if b then context_lines of_try_part k else []) (one h k)
    (single ((if a then transform_handler h k inside else if b && u then transform_try_block cur hoist h k else return (node h k)) st).0)
unfolding move_catch_names context_lines total loads
one_part true b u cur hoist h k inside st t e i = omega arith
one_part false true true cur hoist h k inside st t e i = part_brings cur hoist h k st e (t refl)
one_part false true false cur hoist h k inside st t e i = rw e (omega arith)
one_part false false u cur hoist h k inside st t e i = omega arith

parts_bring : (f : Forest) (cur hoist : ℕ) (st : Store) → Brings (part_lines f) f (transform_try_parts cur hoist f st).0
unfolding part_lines transform_try_parts total loads ◌&◌
parts_bring none cur hoist st = omega arith
parts_bring (more h k r) cur hoist st =
    let part : Change Node =
    if eqb h.tag Tag.Catch then transform_handler h k (transform_try_parts cur hoist k)
    else if eqb h.tag Tag.Block && any_using k then transform_try_block cur hoist h k
    else return (node h k) in
    let own : List Line = if eqb h.tag Tag.Catch then part_lines k else if eqb h.tag Tag.Block then context_lines of_try_part k else [] in
    omega (
      arith,
      one_part (eqb h.tag Tag.Catch) (eqb h.tag Tag.Block) (any_using k) cur hoist h k (transform_try_parts cur hoist k) st (eqb-true h.tag Tag.Block) refl
          (parts_bring k cur hoist st),
      parts_bring r cur hoist (part st).1,
      total_++ own (part_lines r),
    )

pub try_brings : (cur hoist : ℕ) (h : Head) (k : Forest) (st : Store)
    → Brings (part_lines k) (one h k) (single (enter_try_statement cur hoist h k st).0)
unfolding enter_try_statement loads
try_brings cur hoist h k st = omega (arith, parts_bring k cur hoist st)

-- ---- ForOf

rebind_loads : (y : ℕ) (k : Forest) → Named k → loads (rebind y k) ≡ loads k
unfolding rebind loads load_of
rebind_loads y none e = refl
rebind_loads y (more h none r) e = refl
rebind_loads y (more h (more h₁ k₁ r₁) r) e = omega (arith, ap load_of e)

held_loads : (kind y temp : ℕ) (f : Forest) → loads (declaration kind y (read temp) & f) ≡ loads f
unfolding ◌&◌ loads load_of
held_loads kind y temp f = omega arith

module _ (h h₁ : Head) (k₁ : Forest) (h₂ : Head) (k₂ : Forest) (h₃ : Head) (k₃ r : Forest) (st : Store) (e : is_using h₁ ≡ true) (n : Named k₁) where
  abbrev sides : Forest
  sides = more h₁ k₁ (more h₂ k₂ (more h₃ k₃ r))

  pub insert_keeps : loads (single (enter_for_of_statement false h sides st).0) ≡ loads (one h sides)
  unfolding enter_for_of_statement insert_using loads load_of ◌&◌
  insert_keeps =
      let t = (create_symbol (symbol_in st (bound_symbol k₁)).name 6 h.a 1 st).0 in
      omega (arith, ap load_of (using_tag h₁ e), rebind_loads t k₁ n, held_loads h₁.a (bound_symbol k₁) t k₃)

  pub wrap_keeps : loads (single (enter_for_of_statement true h sides st).0) ≡ loads (one h sides)
  unfolding enter_for_of_statement wrap_body loads load_of ◌&◌
  wrap_keeps =
      let t = (create_symbol (symbol_in st (bound_symbol k₁)).name 6 h.a 1 st).0 in
      omega (arith, ap load_of (using_tag h₁ e), rebind_loads t k₁ n, held_loads h₁.a (bound_symbol k₁) t (one h₃ k₃))
