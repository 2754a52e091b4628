-- Block, function body, StaticBlock, try parts, For and Switch: the rows offer what comes of them demands.
-- Assumes nothing.
use Rattle.std.specs.Prelude.{◌≡◌, refl, ℕ, ◌+◌}
use Rattle.std.proofs.Common.{◌∙◌, arith}
use Rattle.meaning.specs.Numbers.Tag
use Rattle.meaning.specs.Numbers.Kind
use Rattle.meaning.specs.Numbers.ScopeFlag
use Rattle.meaning.specs.Tree.{Head, hd, Forest, none, one, ◌&◌}
use Rattle.meaning.specs.Grammar.{scope_of, below}
use Rattle.meaning.specs.Scoping.{
  Store,
  create_child_scope,
  change_scope_parent,
  set_scope_flags,
  insert_scope_between,
  insert_scope_below,
  move_binding,
  move_bindings,
  block_scoped_in,
}
use Rattle.meaning.specs.HelperLoader.{helper_load}
use Rattle.meaning.specs.Shapes.{block, declaration}
use Rattle.meaning.specs.Statements.{any_await_using, make_context, transform_statements}
use Rattle.meaning.specs.Contexts.{
  transform_block_statement,
  enter_function_body,
  exit_static_block,
  transform_try_block,
  for_list,
  take_up_for,
  transform_for_statement,
  any_case_await_using,
  take_up_cases,
  transform_switch_statement,
}
use Rattle.meaning.specs.Agreement.{names_scope}
use Rattle.spec_laws.specs.SameScopes.{load_scopes, context_scopes, transformed_scopes, moved_scopes}
use Rattle.charge_laws.proofs.Growth.Taken.{taken_for, taken_cases}
use Rattle.agreement_laws.specs.Weights.{Weight, demanded, Offers, offers_same}
use Rattle.agreement_laws.specs.Rows.{never_0, child_offers, parent_offers, flags_offer}
use Rattle.agreement_laws.specs.Demands.{below_offers}
use Rattle.agreement_laws.specs.Lists.{Alike, alike_more, taken_in_alike, loaded, transformed}
use Rattle.agreement_laws.specs.Tries.{block_demands, below_row, new_row, below_new, try_offers, Keeps, between_block, between_row}

-- ---- Block

pub block_keeps : (cur hoist a b c : ℕ) (k : Forest) (st : Store) → Keeps cur (hd Tag.Block a b c) k st (transform_block_statement cur hoist (hd Tag.Block a b c) k st)
unfolding transform_block_statement demanded names_scope scope_of
block_keeps cur hoist a b c k st R o =
    let t = transform_statements cur hoist k st in
    try_offers a t.0.statements t.0.using_ctx cur t.0.needs_await t.1 R
    (offers_same (transformed_scopes cur hoist k st) (λ w. omega (arith, o w, transformed cur hoist k st w (below cur a))))

-- ---- a new scope below the current one

-- it takes the list, which goes into a Block with it
pub below_block : (cur : ℕ) (list list' : Forest) (st : Store) (R : Weight → ℕ) → Alike list' list
    → Offers st.scopes (λ w. demanded w cur list + R w)
    → let new = (insert_scope_below cur list st).0 in
    Offers (insert_scope_below cur list st).1.scopes (λ w. demanded w cur (block new list') + R w)
below_block cur list list' st R alike o =
    let new = (insert_scope_below cur list st).0 in
    let e = below_row cur new (below_new cur list st) in
    let o₁ = below_offers cur cur list st R o in
    λ w.
    let d : demanded w cur (block new list') ≡ w new cur + demanded w new list' = block_demands w cur new list' ∙ rw e in
    omega (arith, o₁ w, alike w new)

-- ---- function body

pub body_keeps : (cur hoist a b c : ℕ) (k : Forest) (st : Store) → Keeps cur (hd Tag.Body a b c) k st (enter_function_body cur hoist k st)
unfolding enter_function_body demanded names_scope scope_of
body_keeps cur hoist a b c k st R o =
    let t = transform_statements cur hoist k st in
    let new = insert_scope_below cur k t.1 in
    let ys = block_scoped_in new.1.symbols cur new.1.symbols 1 in
    let o₁ =
    below_block cur k t.0.statements t.1 R (transformed cur hoist k st)
    (offers_same (transformed_scopes cur hoist k st) (λ w. omega (arith, o w)))
    in
    let o₂ =
    try_offers new.0 t.0.statements t.0.using_ctx cur t.0.needs_await (move_bindings ys new.0 new.1).1 R
    (offers_same (moved_scopes ys new.0 new.1) o₁)
    in
    λ w. omega (arith, o₂ w)

-- ---- StaticBlock and try part

pub static_keeps : (cur a b c : ℕ) (k : Forest) (st : Store) → Keeps cur (hd Tag.StaticBlock a b c) k st (exit_static_block (hd Tag.StaticBlock a b c) k st)
unfolding exit_static_block demanded names_scope scope_of move_binding
static_keeps cur a b c k st R o =
    let t = transform_statements a a k st in
    let new = insert_scope_between a ScopeFlag.StaticBlock t.1 in
    let st₂ = (move_binding t.0.using_ctx new.0 new.1).1 in
    let o₁ =
    between_block a cur ScopeFlag.StaticBlock k t.0.statements t.1 R (transformed a a k st)
    (offers_same (transformed_scopes a a k st) (λ w. omega (arith, o w)))
    in
    let o₂ =
    try_offers a t.0.statements t.0.using_ctx new.0 t.0.needs_await (set_scope_flags a ScopeFlag.Strict st₂).1 (λ w. w new.0 cur + R w)
    (flags_offer a ScopeFlag.Strict st₂ (λ w. demanded w new.0 (block a t.0.statements) + (w new.0 cur + R w)) o₁)
    in
    let e = below_row cur new.0 (between_row a ScopeFlag.StaticBlock t.1) in
    λ w. rw e (omega (arith, o₂ w))

pub part_keeps : (cur cur' hoist a b c : ℕ) (k : Forest) (st : Store)
    → Keeps cur (hd Tag.Block a b c) k st (transform_try_block cur' hoist (hd Tag.Block a b c) k st)
unfolding transform_try_block demanded names_scope scope_of move_binding
part_keeps cur cur' hoist a b c k st R o =
    let t = transform_statements cur' a k st in
    let new = insert_scope_between a 0 t.1 in
    let o₁ =
    between_block a cur 0 k t.0.statements t.1 R (transformed cur' a k st)
    (offers_same (transformed_scopes cur' a k st) (λ w. omega (arith, o w)))
    in
    let o₂ =
    try_offers a t.0.statements t.0.using_ctx new.0 t.0.needs_await new.1 (λ w. w new.0 cur + R w) o₁
    in
    let e = below_row cur new.0 (between_row a 0 t.1) in
    λ w. rw e (omega (arith, o₂ w))

-- ---- For and Switch

pub for_keeps : (cur hoist : ℕ) (h : Head) (k : Forest) (st : Store) → Keeps cur h k st (transform_for_statement cur hoist h k st)
unfolding transform_for_statement
for_keeps cur hoist h k st R o =
    let ctx = make_context hoist st in
    let new = insert_scope_below cur (one h k) ctx.1 in
    let helper = helper_load cur new.1 in
    try_offers new.0 (declaration Kind.Var ctx.0 helper.0 & take_up_for ctx.0 (one h k)) ctx.0 cur
    (any_await_using (for_list (one h k))) helper.1 R
    (offers_same (load_scopes cur new.1)
    (below_block cur (one h k) (declaration Kind.Var ctx.0 helper.0 & take_up_for ctx.0 (one h k)) ctx.1 R
    (loaded ctx.0 cur new.1 (take_up_for ctx.0 (one h k)) (one h k) (taken_in_alike (taken_for ctx.0 (one h k))))
    (offers_same (context_scopes hoist st) o)))

pub switch_keeps : (cur a b c : ℕ) (k : Forest) (st : Store) → Keeps cur (hd Tag.Switch a b c) k st (transform_switch_statement cur (hd Tag.Switch a b c) k st)
unfolding transform_switch_statement demanded names_scope scope_of
switch_keeps cur a b c k st R o =
    let h = hd Tag.Switch a b c in
    let ctx = make_context cur st in
    let new = create_child_scope cur 0 ctx.1 in
    let s = new.0 in
    let st₂ = (change_scope_parent a s new.1).1 in
    let helper = helper_load cur st₂ in
    let cases = take_up_cases ctx.0 k in
    let list = declaration Kind.Var ctx.0 helper.0 & one h cases in
    let in_list_lem = loaded ctx.0 cur st₂ (one h cases) (one h k) (alike_more h k cases none none (taken_in_alike (taken_cases ctx.0 k)) (λ w c'. refl)) in
    let o₁ = child_offers cur 0 ctx.1 (λ w. demanded w cur (one h k) + R w) (offers_same (context_scopes cur st) o) in
    let o₂ =
    parent_offers a cur s new.1 (λ w. w s cur + (demanded w (below cur a) k + R w)) (λ w. omega (arith, o₁ w))
    in
    let n = never_0 st₂.scopes a s (λ w. w s cur + (demanded w (below cur a) k + R w)) o₂ in
    let e₁ = below_row cur a n in
    let e₂ = below_row s a n in
    let e₃ = below_row cur s (new_row cur 0 ctx.1) in
    let o₃ : Offers st₂.scopes (λ w. demanded w cur (block s list) + R w) =
    λ w.
    let d : demanded w cur (block s list) ≡ w s cur + demanded w s list = block_demands w cur s list ∙ rw e₃ in
    let d₂ : demanded w s (one h k) ≡ w a s + demanded w a k = rw e₂ (omega arith) in
    omega (arith, rw e₁ at (o₂ w), in_list_lem w s)
    in
    try_offers s list ctx.0 cur (any_case_await_using k) helper.1 R (offers_same (load_scopes cur st₂) o₃)
