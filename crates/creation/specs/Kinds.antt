-- The scopes and symbols of each kind of context.
-- Assumes nothing.
use Rattle.std.specs.Prelude.{List, ℕ}
use Rattle.meaning.specs.Numbers.ScopeFlag
use Rattle.scoping.specs.Changes.{
  in_scopes,
  in_symbols,
  create_child_scope_f,
  change_scope_parent_f,
  set_scope_flags_f,
  insert_scope_between_f,
  move_binding_f,
  move_block_scoped_f,
}
use Rattle.creation.specs.Scopes.{insert_scope_below_f}
use Rattle.creation.specs.Creation.{
  InRows,
  Creating,
  creating,
  make_context_f,
  load_context_f,
  transform_statements_f,
  with_ctx_f,
  create_try_stmt_f,
}

unfoldable pub for_block_f : InRows → ℕ → ℕ → ℕ → Creating
for_block_f q cur hoist awaits =
    let t = transform_statements_f q.scopes (in_symbols q.symbols q.ctx) cur hoist in
    create_try_stmt_f q.scopes t.symbols t.transformed cur awaits

unfoldable pub for_body_f : List ℕ → InRows → ℕ → ℕ → ℕ → ℕ → ℕ → Creating
for_body_f records q cur hoist after n awaits =
    let t = transform_statements_f q.scopes (in_symbols q.symbols q.ctx) cur hoist in
    let s = insert_scope_below_f records (in_scopes q.scopes t.transformed.ctx) cur after n in
    let ys = move_block_scoped_f (in_symbols t.symbols s.ctx) cur s.ctx.scopes in
    create_try_stmt_f s.t ys (with_ctx_f t.transformed s.ctx) cur awaits

unfoldable pub for_static_block_f : InRows → ℕ → ℕ → Creating
for_static_block_f q old awaits =
    let t = transform_statements_f q.scopes (in_symbols q.symbols q.ctx) old old in
    let s = insert_scope_between_f (in_scopes q.scopes t.transformed.ctx) old ScopeFlag.StaticBlock in
    let ys = move_binding_f (in_symbols t.symbols s.ctx) t.transformed.context.0 s.ctx.scopes in
    let ss = set_scope_flags_f s old ScopeFlag.Strict in
    create_try_stmt_f ss ys (with_ctx_f t.transformed s.ctx) s.ctx.scopes awaits

unfoldable pub for_try_part_f : InRows → ℕ → ℕ → ℕ → ℕ → Creating
for_try_part_f q cur hoist old awaits =
    let t = transform_statements_f q.scopes (in_symbols q.symbols q.ctx) cur old in
    let s = insert_scope_between_f (in_scopes q.scopes t.transformed.ctx) old 0 in
    let c = create_try_stmt_f s.t t.symbols (with_ctx_f t.transformed s.ctx) s.ctx.scopes awaits in
    creating c.scopes (move_binding_f (in_symbols c.symbols c.created.ctx) t.transformed.context.0 hoist) c.created

unfoldable pub for_loop_f : List ℕ → InRows → ℕ → ℕ → ℕ → ℕ → Creating
for_loop_f records q cur hoist after awaits =
    let y = make_context_f (in_symbols q.symbols q.ctx) hoist in
    let s = insert_scope_below_f records (in_scopes q.scopes y.ctx) cur after 1 in
    let t = load_context_f s.t (in_symbols y.t s.ctx) y.ctx.symbols cur in
    create_try_stmt_f s.t t.symbols t.transformed cur awaits

unfoldable pub for_switch_f : InRows → ℕ → ℕ → ℕ → Creating
for_switch_f q cur old awaits =
    let y = make_context_f (in_symbols q.symbols q.ctx) cur in
    let s = create_child_scope_f (in_scopes q.scopes y.ctx) cur 0 in
    let ss = change_scope_parent_f s old s.ctx.scopes in
    let t = load_context_f ss (in_symbols y.t s.ctx) y.ctx.symbols cur in
    create_try_stmt_f ss t.symbols t.transformed cur awaits
