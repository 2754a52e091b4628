-- `transform_statements` and the statements made around a list.
-- Assumes nothing.
use Rattle.std.specs.Prelude.{if◌then◌else◌, Bool, false, ◌||◌, ◌&&◌, ℕ, zero, suc, ◌+◌, eqb, [], ◌∷◌}
use Rattle.meaning.specs.Numbers.Tag
use Rattle.meaning.specs.Numbers.Kind
use Rattle.meaning.specs.Numbers.Letter
use Rattle.meaning.specs.Numbers.ScopeFlag
use Rattle.meaning.specs.Numbers.SymbolFlag
use Rattle.meaning.specs.Numbers.KnownName
use Rattle.meaning.specs.Tree.{one_of, Head, hd, Forest, none, more, one, Node, ◌&◌}
use Rattle.meaning.specs.Shapes.{
  block,
  declaration,
  call,
  keep_error,
  dispose,
  catch_clause,
  try_statement,
}
use Rattle.meaning.specs.Scoping.{
  Change,
  ◌>>=◌,
  ◌>>◌,
  return,
  get,
  put,
  with_context,
  create_child_scope,
  generate_uid,
  generate_binding,
}
use Rattle.meaning.specs.HelperLoader.{helper_load}

-- ---- usings

-- A using is a Declaration of kind 3 or 4, or one that `enter_program` has recorded.
unfoldable pub is_using : Head → Bool
is_using h = eqb h.tag Tag.Declaration && (one_of (Kind.Using ∷ Kind.AwaitUsing ∷ []) h.a || one_of (Kind.Using ∷ Kind.AwaitUsing ∷ []) h.b)

unfoldable pub is_await_using : Head → Bool
is_await_using h = eqb h.tag Tag.Declaration && (eqb h.a Kind.AwaitUsing || eqb h.b Kind.AwaitUsing)

-- a using stands directly in the list
unfoldable pub any_using : Forest → Bool
any_using none = false
any_using (more h k r) = is_using h || any_using r

-- needs_await: one of them is an `await using`
unfoldable pub any_await_using : Forest → Bool
any_await_using none = false
any_await_using (more h k r) = is_await_using h || any_await_using r

-- ---- initializers

abbrev pub letter_if : Bool → ℕ
letter_if awaited = if awaited then Letter.A else Letter.U

-- what follows m Names is called through the context
unfoldable pub wrap_initializer : ℕ → ℕ → ℕ → Forest → Forest
wrap_initializer letter ctx m none = none
wrap_initializer letter ctx zero (more h k r) = call letter ctx (one h k) & r
wrap_initializer letter ctx (suc m) (more h k r) = more h k (wrap_initializer letter ctx m r)

unfoldable pub wrap_initializers : ℕ → ℕ → Forest → Forest
wrap_initializers letter ctx none = none
wrap_initializers letter ctx (more h k r) =
    more h (if eqb h.tag Tag.Declarator then wrap_initializer letter ctx h.b k else k) (wrap_initializers letter ctx r)

-- a using that is taken up becomes const; a recorded one is var already, and loses its mark
unfoldable pub as_taken_up : Head → Head
as_taken_up h = hd Tag.Declaration (if eqb h.b 0 then Kind.Const else Kind.Var) 0 0

-- The usings of a list, taken up by a context, each with the letter of its own kind.
unfoldable pub take_up : ℕ → Forest → Forest
take_up ctx none = none
take_up ctx (more h k r) =
    let rest = take_up ctx r in
    if is_using h then more (as_taken_up h) (wrap_initializers (letter_if (is_await_using h)) ctx k) rest else more h k rest

-- the context's symbol, on `using_ctx`
unfoldable pub make_context : ℕ → Change ℕ
make_context scope = do
  ctx ← generate_uid KnownName.UsingCtx scope SymbolFlag.FunctionScoped
  st ← get
  put (with_context st)
  return ctx

-- `transform_statements`, for a list with a using: the list with the context's declaration before it, whether it needs await, and the context
pub record Transformed : Type 0 where
  pub statements : Forest
  pub needs_await : Bool
  pub using_ctx : ℕ

unfoldable pub transform_statements : ℕ → ℕ → Forest → Change Transformed
transform_statements cur hoist list = do
  ctx ← make_context hoist
  helper ← helper_load cur
  return
      (record {
        statements = declaration Kind.Var ctx helper & take_up ctx list;
        needs_await = any_await_using list;
        using_ctx = ctx;
      })

-- ---- the Try

-- `create_catch_clause`: `catch (_) { _usingCtx.e = _; }`
unfoldable pub create_catch_clause : ℕ → ℕ → Change Forest
create_catch_clause ctx parent = do
  scope ← create_child_scope parent ScopeFlag.Catch
  body ← create_child_scope scope 0
  y ← generate_binding KnownName.Underscore body (SymbolFlag.FunctionScoped + SymbolFlag.Catch)
  return (catch_clause scope y (block body (keep_error ctx y)))

-- `create_finally_block`: `{ _usingCtx.d(); }`
unfoldable pub create_finally_block : ℕ → ℕ → Bool → Change Forest
create_finally_block ctx parent needs_await = do
  scope ← create_child_scope parent 0
  return (block scope (dispose needs_await ctx))

-- `create_try_stmt`: the list in a Block with its scope, the Catch and the last Block below the scope `parent`
unfoldable pub create_try_stmt : ℕ → Forest → ℕ → ℕ → Bool → Change Node
create_try_stmt scope list ctx parent needs_await = do
  handler ← create_catch_clause ctx parent
  finalizer ← create_finally_block ctx parent needs_await
  return (try_statement (block scope list & (handler & finalizer)))
