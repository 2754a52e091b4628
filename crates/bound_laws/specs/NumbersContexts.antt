-- The numbers of a context's records and rows keep to the bound.
-- Assumes nothing.
use Rattle.std.specs.Prelude.{if◌then◌else◌, Bool, not, ◌&&◌, ℕ, zero, suc, ◌+◌, ◌≤◌, List, [], ◌∷◌, length, eqb}
use native.Mathlib.Omega.{arith}
use Rattle.meaning.specs.Numbers.Tag
use Rattle.meaning.specs.Tree.{Head, Forest, none, more, one, single, ◌&◌}
use Rattle.meaning.specs.File.{Symbol}
use Rattle.meaning.specs.Shapes.{block, declaration}
use Rattle.meaning.specs.Scoping.{Store, Change, scope_in, binds, last_binding, get_binding, find_binding}
use Rattle.meaning.specs.HelperLoader.{make_helper, load_runtime, load_external, helper_load}
use Rattle.meaning.specs.Statements.{
  any_using,
  as_taken_up,
  make_context,
  Transformed,
  transform_statements,
  create_catch_clause,
  create_finally_block,
  create_try_stmt,
}
use Rattle.meaning.specs.Contexts.{
  transform_block_statement,
  enter_function_body,
  exit_static_block,
  transform_try_block,
  last_block_scope,
  any_part_using,
  move_catch_names,
  transform_try_parts,
  enter_try_statement,
  transform_for_statement,
  transform_switch_statement,
}
use Rattle.spec_laws.specs.Trees.{transform_handler}
use Rattle.charge_laws.proofs.Growth.Taken.{Taken, nothing, passed, as_const, in_declarator_lem, called, taken, TakenIn, in_list_lem, around, taken_for, taken_cases}
use Rattle.bound_laws.specs.Numbers.{
  UpTo,
  HeadWithin,
  TreeWithin,
  NodeWithin,
  Keeps,
  Rewritten,
  step,
  last,
  gives,
  got,
  branch,
  either,
  within_&,
  child_scope_kept,
  scope_parent_kept,
  scope_flags_kept,
  scope_between_kept,
  scope_below_kept,
  symbol_kept,
  binding_kept,
  bindings_kept,
}

-- a binding is a row
binding_most : (ys : List Symbol) (scope name i found n : ℕ) → found ≤ n → i + length ys ≤ suc n → last_binding ys scope name i found ≤ n
unfolding last_binding
binding_most [] scope name i found n e l = e
binding_most (y ∷ ys) scope name i found n e l =
    binding_most ys scope name (suc i) _ n (either (UpTo n) (binds y scope name) (omega arith) e) (omega arith)

found_most : (n : ℕ) (st : Store) (scope name : ℕ) → find_binding n st scope name ≤ length st.symbols
unfolding find_binding
found_most zero st scope name = omega arith
found_most (suc n) st scope name =
    let P : ℕ → Type 0 = UpTo (length st.symbols) in
    let here = get_binding st.symbols scope name in
    either P (not (eqb here 0)) (binding_most st.symbols scope name 1 0 _ (omega arith) (omega arith))
    (either P (eqb scope 0) (omega arith) (found_most n st (scope_in st scope).parent name))

module _ {B : ℕ} (big : 32 ≤ B) where
  -- ---- usings that are taken up

  const_within : (h : Head) → HeadWithin B (as_taken_up h)
  unfolding as_taken_up
  const_within h = (omega arith, either (UpTo B) (eqb h.b 0) (omega arith) (omega arith), omega arith, omega arith)

  taken_within : {ctx n : ℕ} {f f' : Forest} → ctx ≤ B → Taken ctx n f f' → TreeWithin B f → TreeWithin B f'
  taken_within c nothing w = tt
  taken_within c (passed t) w = (w.0, w.1, taken_within c t w.2)
  taken_within c (as_const {h = h} u s t) w = (const_within h, taken_within c s w.1, taken_within c t w.2)
  taken_within c (in_declarator_lem e s t) w = (w.0, taken_within c s w.1, taken_within c t w.2)
  taken_within c (called l) w = (omega arith, (w.0, w.1, tt), w.2)

  around_within : {ctx : ℕ} {f f' : Forest} → ctx ≤ B → TakenIn ctx f f' → TreeWithin B f → TreeWithin B f'
  around_within c (in_list_lem t) w = taken_within c t w
  around_within c (around s t) w = (w.0, around_within c s w.1, around_within c t w.2)

  -- ---- the helper

  helper_kept : (st : Store) → Keeps B (Unit {0}) (UpTo B) st (make_helper st)
  unfolding make_helper
  helper_kept st =
      step (symbol_kept big 5 _ 1 1 st)
      (λ _. (omega arith, either (UpTo B) (eqb st.is_module 1) (omega arith) (omega arith), omega arith, omega arith))
      record {
        longer = omega arith;
        kept = λ (_, y) m _. (y, record { scopes = m.scopes; symbols = m.symbols; helper = y });
      }

  runtime_kept : (st : Store) → Keeps B (Unit {0}) (TreeWithin B) st (load_runtime st)
  unfolding load_runtime
  runtime_kept st =
      got
      (step (branch (eqb st.helper 0) _ _ st (last (helper_kept st) (λ _. tt)) (gives (λ (_, m). m.helper))) (λ h. h)
      (gives (λ (_, y). (omega arith, tt, tt))))

  external_kept : (cur : ℕ) (st : Store) → Keeps B (Unit {0}) (TreeWithin B) st (load_external cur st)
  unfolding load_external
  external_kept cur st =
      record {
        longer = omega arith;
        kept = λ _ m r. ((omega (arith, found_most (length st.scopes) st cur 1), tt, tt), m);
      }

  load_kept : (cur : ℕ) (st : Store) → Keeps B (Unit {0}) (TreeWithin B) st (helper_load cur st)
  unfolding helper_load
  load_kept cur st = branch (eqb st.mode 0) _ _ st (runtime_kept st) (external_kept cur st)

  -- ---- the statements around a list

  context_kept : (scope : ℕ) (st : Store) → Keeps B (scope ≤ B) (UpTo B) st (make_context scope st)
  unfolding make_context
  context_kept scope st =
      step (symbol_kept big 5 1 scope 1 st) (λ l. omega arith)
      record {
        longer = omega arith;
        kept = λ (_, ctx) m _. (ctx, record { scopes = m.scopes; symbols = m.symbols; helper = m.helper });
      }

  pub declared_within : (kind y : ℕ) (e f : Forest) → kind ≤ B → y ≤ B → TreeWithin B e → TreeWithin B f
      → TreeWithin B (declaration kind y e & f)
  unfolding ◌&◌
  declared_within kind y e f l m w v = (omega arith, (omega arith, (omega arith, tt, w), tt), v)

  abbrev TransformedWithin : Transformed → Type 0
  TransformedWithin t = TreeWithin B t.statements × (t.using_ctx ≤ B)

  statements_kept : (cur hoist : ℕ) (list : Forest) (st : Store)
      → Keeps B ((hoist ≤ B) × TreeWithin B list) TransformedWithin st (transform_statements cur hoist list st)
  unfolding transform_statements
  statements_kept cur hoist list st =
      step (context_kept hoist st) (λ (d, _). d)
      (step (load_kept cur _) (λ _. tt)
      (gives (λ (((_, w), ctx), helper). (
        declared_within 0 _ _ _ (omega arith) ctx helper (taken_within ctx (taken _ list) w),
        ctx,
      ))))

  -- ---- the Try

  catch_kept : (ctx parent : ℕ) (st : Store) → Keeps B ((ctx ≤ B) × (parent ≤ B)) (TreeWithin B) st (create_catch_clause ctx parent st)
  unfolding create_catch_clause
  catch_kept ctx parent st =
      step (child_scope_kept big parent 2 st) (λ h. omega arith)
      (step (child_scope_kept big _ 0 _) (λ h. omega arith)
      (step (symbol_kept big 2 17 _ 0 _) (λ h. omega arith)
      (gives (λ h. (omega arith, (omega arith, tt, (omega arith, (omega arith, tt, tt), tt)), tt)))))

  finally_kept : (ctx parent : ℕ) (needs_await : Bool) (st : Store)
      → Keeps B ((ctx ≤ B) × (parent ≤ B)) (TreeWithin B) st (create_finally_block ctx parent needs_await st)
  unfolding create_finally_block
  finally_kept ctx parent needs_await st =
      let l : (if needs_await then 2 else 1) ≤ B = either (UpTo B) needs_await (omega arith) (omega arith) in
      step (child_scope_kept big parent 0 st) (λ h. omega arith) (gives (λ h. (omega arith, (omega arith, tt, tt), tt)))

  try_kept : (scope : ℕ) (list : Forest) (ctx parent : ℕ) (needs_await : Bool) (st : Store)
      → Keeps B ((scope ≤ B) × TreeWithin B list × (ctx ≤ B) × (parent ≤ B)) (NodeWithin B) st
      (create_try_stmt scope list ctx parent needs_await st)
  unfolding create_try_stmt
  try_kept scope list ctx parent needs_await st =
      step (catch_kept ctx parent st) (λ h. (h.2, h.3))
      (step (finally_kept ctx parent needs_await _) (λ (h, _). (h.2, h.3))
      (gives (λ ((h, handler), finalizer). (
        omega arith,
        within_& big (block scope list) _ (omega arith, h.1, tt) (within_& big _ _ handler finalizer),
      ))))

  -- ---- block, function body, static block

  pub block_kept : (cur hoist : ℕ) (h : Head) (list : Forest) (st : Store) → cur ≤ B → hoist ≤ B → HeadWithin B h → TreeWithin B list
      → Rewritten B st (transform_block_statement cur hoist h list st)
  unfolding transform_block_statement
  block_kept cur hoist h list st c d p w =
      step (statements_kept cur hoist list st) (λ _. (d, w))
      (last (try_kept h.a _ _ cur _ _) (λ (_, t). (p.1, t.0, t.1, c)))

  pub body_kept : (cur hoist : ℕ) (list : Forest) (st : Store) → cur ≤ B → hoist ≤ B → TreeWithin B list
      → Rewritten B st (enter_function_body cur hoist list st)
  unfolding enter_function_body
  body_kept cur hoist list st c d w =
      step (statements_kept cur hoist list st) (λ _. (d, w))
      (step (scope_below_kept big cur list _) (λ _. c)
      (step (bindings_kept big _ _ _) (λ (_, scope). scope)
      (step (try_kept _ _ _ cur _ _) (λ (((_, t), scope), _). (scope, t.0, t.1, c))
      (gives (λ (_, try). (omega arith, (try.0, try.1, tt)))))))

  pub static_kept : (h : Head) (list : Forest) (st : Store) → HeadWithin B h → TreeWithin B list
      → Rewritten B st (exit_static_block h list st)
  unfolding exit_static_block
  static_kept h list st p w =
      step (statements_kept h.a h.a list st) (λ _. (p.1, w))
      (step (scope_between_kept big h.a 4 _) (λ _. omega arith)
      (step (binding_kept big _ _ _) (λ (_, scope). scope)
      (step (scope_flags_kept big h.a 1 _) (λ _. omega arith)
      (step (try_kept h.a _ _ _ _ _) (λ ((((_, t), scope), _), _). (p.1, t.0, t.1, scope))
      (gives (λ ((((_, scope), _), _), try). (omega arith, (try.0, try.1, tt))))))))

  -- ---- try parts

  part_kept : (cur hoist : ℕ) (h : Head) (list : Forest) (st : Store) → hoist ≤ B → HeadWithin B h → TreeWithin B list
      → Rewritten B st (transform_try_block cur hoist h list st)
  unfolding transform_try_block
  part_kept cur hoist h list st d p w =
      step (statements_kept cur h.a list st) (λ _. (p.1, w))
      (step (scope_between_kept big h.a 0 _) (λ _. omega arith)
      (step (try_kept h.a _ _ _ _ _) (λ ((_, t), scope). (p.1, t.0, t.1, scope))
      (step (binding_kept big _ hoist _) (λ _. d)
      (gives (λ (((_, scope), try), _). (omega arith, (try.0, try.1, tt)))))))

  block_scope_most : (f : Forest) → TreeWithin B f → last_block_scope f ≤ B
  unfolding last_block_scope
  block_scope_most none w = omega arith
  block_scope_most (more h k none) w = either (UpTo B) (eqb h.tag Tag.Block) w.0.1 (omega arith)
  block_scope_most (more h k (more h' k' r)) w = block_scope_most (more h' k' r) w.2

  handler_kept : (h : Head) (k : Forest) (inside : Change Forest) (st : Store) → HeadWithin B h
      → Keeps B (Unit {0}) (TreeWithin B) st (inside st) → Rewritten B st (transform_handler h k inside st)
  unfolding move_catch_names
  handler_kept h k inside st p q =
      step q (λ _. tt)
      (step (branch (any_part_using k) _ _ _ (bindings_kept big _ _ _) (gives (λ _. tt))) (λ (_, parts). block_scope_most _ parts)
      (gives (λ ((_, parts), _). (p, parts))))

  parts_kept : (cur hoist : ℕ) (f : Forest) (st : Store) → hoist ≤ B → TreeWithin B f
      → Keeps B (Unit {0}) (TreeWithin B) st (transform_try_parts cur hoist f st)
  unfolding transform_try_parts
  parts_kept cur hoist none st d w = gives (λ _. tt)
  parts_kept cur hoist (more h k r) st d w =
      step
      (branch (eqb h.tag Tag.Catch) _ _ st (handler_kept h k (transform_try_parts cur hoist k) st w.0 (parts_kept cur hoist k st d w.1))
      (branch (eqb h.tag Tag.Block && any_using k) _ _ st (part_kept cur hoist h k st d w.0 w.1) (gives (λ _. (w.0, w.1)))))
      (λ _. tt)
      (step (parts_kept cur hoist r _ d w.2) (λ _. tt)
      (gives (λ ((_, part), rest). within_& big (single _) _ (part.0, part.1, tt) rest)))

  pub tries_kept : (cur hoist : ℕ) (h : Head) (k : Forest) (st : Store) → hoist ≤ B → HeadWithin B h → TreeWithin B k
      → Rewritten B st (enter_try_statement cur hoist h k st)
  unfolding enter_try_statement
  tries_kept cur hoist h k st d p w = step (parts_kept cur hoist k st d w) (λ _. tt) (gives (λ (_, parts). (p, parts)))

  -- ---- for and switch

  pub for_kept : (cur hoist : ℕ) (h : Head) (k : Forest) (st : Store) → cur ≤ B → hoist ≤ B → HeadWithin B h → TreeWithin B k
      → Rewritten B st (transform_for_statement cur hoist h k st)
  unfolding transform_for_statement
  for_kept cur hoist h k st c d p w =
      step (context_kept hoist st) (λ _. d)
      (step (scope_below_kept big cur (one h k) _) (λ _. c)
      (step (load_kept cur _) (λ _. tt)
      (last (try_kept _ _ _ cur _ _)
      (λ (((_, ctx), scope), helper). (
        scope,
        declared_within 0 _ _ _ (omega arith) ctx helper (around_within ctx (taken_for _ (one h k)) (p, w, tt)),
        ctx,
        c,
      )))))

  pub switch_kept : (cur : ℕ) (h : Head) (k : Forest) (st : Store) → cur ≤ B → HeadWithin B h → TreeWithin B k
      → Rewritten B st (transform_switch_statement cur h k st)
  unfolding transform_switch_statement
  switch_kept cur h k st c p w =
      step (context_kept cur st) (λ _. c)
      (step (child_scope_kept big cur 0 _) (λ _. omega arith)
      (step (scope_parent_kept big h.a _ _) (λ (_, scope). scope)
      (step (load_kept cur _) (λ _. tt)
      (last (try_kept _ _ _ cur _ _)
      (λ ((((_, ctx), scope), _), helper). (
        scope,
        declared_within 0 _ _ _ (omega arith) ctx helper (p, around_within ctx (taken_cases _ k) w, tt),
        ctx,
        c,
      ))))))
