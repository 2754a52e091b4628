-- The statements and bodies that get a context: block, function body, static block, try parts, for, switch.
-- Assumes nothing.
use Rattle.std.specs.Prelude.{if◌then◌else◌, Bool, false, ◌||◌, ◌&&◌, List, [], ◌∷◌, ℕ, eqb}
use Rattle.meaning.specs.Numbers.Tag
use Rattle.meaning.specs.Numbers.Kind
use Rattle.meaning.specs.Numbers.ScopeFlag
use Rattle.meaning.specs.Tree.{Head, hd, Forest, none, more, one, Node, node, single, ◌&◌}
use Rattle.meaning.specs.Shapes.{declaration}
use Rattle.meaning.specs.Scoping.{
  Change,
  ◌>>=◌,
  ◌>>◌,
  return,
  get,
  create_child_scope,
  change_scope_parent,
  set_scope_flags,
  insert_scope_between,
  insert_scope_below,
  move_binding,
  move_bindings,
  block_scoped_in,
}
use Rattle.meaning.specs.HelperLoader.{helper_load}
use Rattle.meaning.specs.Statements.{
  any_using,
  any_await_using,
  take_up,
  make_context,
  transform_statements,
  create_try_stmt,
}

-- `transform_block_statement`: the Block becomes a Try around its list
unfoldable pub transform_block_statement : ℕ → ℕ → Head → Forest → Change Node
transform_block_statement cur hoist h list = do
  t ← transform_statements cur hoist list
  create_try_stmt h.a t.statements t.using_ctx cur t.needs_await

-- `enter_function_body`: a new scope below the function's takes the list, and what the function's scope binds block-scoped or as a class
unfoldable pub enter_function_body : ℕ → ℕ → Forest → Change Node
enter_function_body cur hoist list = do
  t ← transform_statements cur hoist list
  scope ← insert_scope_below cur list
  st ← get
  move_bindings (block_scoped_in st.symbols cur st.symbols 1) scope
  try ← create_try_stmt scope t.statements t.using_ctx cur t.needs_await
  return (node (hd Tag.Body 0 0 0) (single try))

-- `exit_static_block`: the block gets a new scope above its old one, which is strict and no static block any more
unfoldable pub exit_static_block : Head → Forest → Change Node
exit_static_block h list = do
  t ← transform_statements h.a h.a list
  scope ← insert_scope_between h.a ScopeFlag.StaticBlock
  move_binding t.using_ctx scope
  set_scope_flags h.a ScopeFlag.Strict
  try ← create_try_stmt h.a t.statements t.using_ctx scope t.needs_await
  return (node (hd Tag.StaticBlock scope 0 0) (single try))

-- ---- try parts

-- `transform_try_block`: the part gets a new scope above its old one; its context moves to the hoist scope
unfoldable pub transform_try_block : ℕ → ℕ → Head → Forest → Change Node
transform_try_block cur hoist h list = do
  t ← transform_statements cur h.a list
  scope ← insert_scope_between h.a 0
  try ← create_try_stmt h.a t.statements t.using_ctx scope t.needs_await
  move_binding t.using_ctx hoist
  return (node (hd Tag.Block scope 0 0) (single try))

-- the Names that stand directly in a list, as symbols
unfoldable pub names_in : Forest → List ℕ
names_in none = []
names_in (more h k r) = if eqb h.tag Tag.Name then h.a ∷ names_in r else names_in r

-- the scope of the last Block of a list, or 0
unfoldable pub last_block_scope : Forest → ℕ
last_block_scope none = 0
last_block_scope (more h k none) = if eqb h.tag Tag.Block then h.a else 0
last_block_scope (more h k (more h' k' r)) = last_block_scope (more h' k' r)

-- a part of a Try or a Catch has a using
unfoldable pub any_part_using : Forest → Bool
any_part_using none = false
any_part_using (more h k r) =
    (eqb h.tag Tag.Block && any_using k) || (eqb h.tag Tag.Catch && any_part_using k) || any_part_using r

-- the names of a Catch move with its body, if that was lowered and so has another scope
unfoldable pub move_catch_names : Forest → Forest → Change (Unit {0})
move_catch_names k parts = if any_part_using k then move_bindings (names_in k) (last_block_scope parts) else return tt

-- `enter_try_statement`: block, handler and finalizer in turn; of a handler its body, then its names
unfoldable pub transform_try_parts : ℕ → ℕ → Forest → Change Forest
transform_try_parts cur hoist none = return none
transform_try_parts cur hoist (more h k r) = do
  part ←
      if eqb h.tag Tag.Catch then (do
        parts ← transform_try_parts cur hoist k
        move_catch_names k parts
        return (node h parts))
      else if eqb h.tag Tag.Block && any_using k then transform_try_block cur hoist h k
      else return (node h k)
  rest ← transform_try_parts cur hoist r
  return (single part & rest)

unfoldable pub enter_try_statement : ℕ → ℕ → Head → Forest → Change Node
enter_try_statement cur hoist h parts = do
  parts' ← transform_try_parts cur hoist parts
  return (node h parts')

-- ---- for

-- the children of the For below some Labels; of these only the first can be a Declaration
unfoldable pub for_list : Forest → Forest
for_list none = none
for_list (more h k r) = if eqb h.tag Tag.Label then for_list k else if eqb h.tag Tag.For then k else none

unfoldable pub take_up_for : ℕ → Forest → Forest
take_up_for ctx none = none
take_up_for ctx (more h k r) = more h (if eqb h.tag Tag.Label then take_up_for ctx k else take_up ctx k) r

-- `transform_for_statement`: the For with its Labels goes into the Try
unfoldable pub transform_for_statement : ℕ → ℕ → Head → Forest → Change Node
transform_for_statement cur hoist h k = do
  ctx ← make_context hoist
  scope ← insert_scope_below cur (one h k)
  helper ← helper_load cur
  create_try_stmt scope (declaration Kind.Var ctx helper & take_up_for ctx (one h k)) ctx cur (any_await_using (for_list (one h k)))

-- ---- switch

-- a using stands directly in a Case; one of them is an `await using`
unfoldable pub any_case_using : Forest → Bool
any_case_using none = false
any_case_using (more h k r) = (eqb h.tag Tag.Case && any_using k) || any_case_using r

unfoldable pub any_case_await_using : Forest → Bool
any_case_await_using none = false
any_case_await_using (more h k r) = (eqb h.tag Tag.Case && any_await_using k) || any_case_await_using r

-- the usings of the Cases
unfoldable pub take_up_cases : ℕ → Forest → Forest
take_up_cases ctx none = none
take_up_cases ctx (more h k r) = more h (if eqb h.tag Tag.Case then take_up ctx k else k) (take_up_cases ctx r)

-- `transform_switch_statement`: the context is bound in the current scope
unfoldable pub transform_switch_statement : ℕ → Head → Forest → Change Node
transform_switch_statement cur h k = do
  ctx ← make_context cur
  scope ← create_child_scope cur 0
  change_scope_parent h.a scope
  helper ← helper_load cur
  create_try_stmt scope (declaration Kind.Var ctx helper & one h (take_up_cases ctx k)) ctx cur (any_case_await_using k)
