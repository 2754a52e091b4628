-- Block, function body and StaticBlock: what their context makes of them counts what they counted.
-- Assumes nothing.
use Rattle.std.specs.Prelude.{◌≡◌, Bool, List, ℕ, ◌≤◌, ◌<◌, length}
use Rattle.std.proofs.Math.Path.{refl, sym, ap}
use Rattle.std.proofs.Common.{◌∙◌}
use native.Mathlib.Omega.{arith}
use Rattle.meaning.specs.Numbers.Tag
use Rattle.meaning.specs.Numbers.Kind
use Rattle.meaning.specs.Tree.{Head, hd, Forest, none, one, Node, single, ◌&◌}
use Rattle.meaning.specs.Scoping.{
  Store,
  set_scope_flags,
  insert_scope_between,
  insert_scope_below,
  create_symbol,
  move_binding,
  move_bindings,
  block_scoped_in,
}
use Rattle.meaning.specs.Shapes.{declaration}
use Rattle.meaning.specs.HelperLoader.{helper_load}
use Rattle.meaning.specs.Statements.{is_using, any_await_using, take_up, make_context, transform_statements, create_try_stmt}
use Rattle.meaning.specs.Contexts.{transform_block_statement, enter_function_body, exit_static_block}
use Rattle.hint_laws.specs.Hints.{sum_over, usings_in, asks_for, calls_in}
use Rattle.hint_laws.specs.Balanced.Balance.{letter_in, waits, done_in, gives, balance_of}
use Rattle.hint_laws.proofs.Balanced.Sums.{own_letter, worth, balance_more, balance_none}
use Rattle.hint_laws.proofs.Balanced.Tries.{listed, try_listed, taken_listed}

module _ (w : List ℕ → List ℕ → ℕ → ℕ) (read : ℕ) where
  -- what comes of a record counts what it counted
  abbrev pub Keeps : Head → Forest → Node × Store → Type 0
  Keeps h k e = balance_of w read (single e.0) ≡ balance_of w read (one h k)

  -- the second list counts what the first does, and a record without a list gives as much above it
  abbrev pub Counts : Forest → Forest → Type 0
  Counts f f' = (balance_of w read f' ≡ balance_of w read f) × (calls_in w read f' ≡ calls_in w read f)

  -- the context's row is behind the rows read
  pub new_context : (scope : ℕ) (st : Store) → read ≤ length st.symbols → read < (make_context scope st).0
  unfolding make_context create_symbol
  new_context scope st new = omega arith

  -- a list that is taken up by a new context, in its Try
  pub taken_try : (scope : ℕ) (list : Forest) (made cur parent : ℕ) (needs_await : Bool) (st st₁ st₂ : Store) → read ≤ length st.symbols
      → let ctx = (make_context made st).0 in
      let declared = declaration Kind.Var ctx (helper_load cur st₁).0 in
      balance_of w read (single (create_try_stmt scope (declared & take_up ctx list) ctx parent needs_await st₂).0) ≡ listed w read list
  taken_try scope list made cur parent needs_await st st₁ st₂ new =
      let ctx = (make_context made st).0 in
      try_listed w read scope (take_up ctx list) ctx cur ctx parent needs_await st₁ st₂
      ∙ taken_listed w read ctx list (new_context made st new)

  -- ---- Block, function body, StaticBlock

  pub list_counts : (a b c : ℕ) (k : Forest) → balance_of w read (one (hd Tag.Block a b c) k) ≡ listed w read k
  unfolding balance_of sum_over waits gives asks_for letter_in own_letter
  list_counts a b c k = omega arith

  body_counts : (a b c : ℕ) (k : Forest) → balance_of w read (one (hd Tag.Body a b c) k) ≡ listed w read k
  unfolding balance_of sum_over waits gives asks_for letter_in own_letter
  body_counts a b c k = omega arith

  static_counts : (h : Head) (k : Forest) → h.tag ≡ Tag.StaticBlock → balance_of w read (one h k) ≡ listed w read k
  unfolding worth waits gives asks_for letter_in own_letter
  static_counts h k e =
      omega (arith, balance_more w read h k none, balance_none w read, ap (λ (t : ℕ). worth w read t k) e)

  pub block_keeps : (cur hoist a b c : ℕ) (k : Forest) (st : Store) → read ≤ length st.symbols
      → Keeps (hd Tag.Block a b c) k (transform_block_statement cur hoist (hd Tag.Block a b c) k st)
  unfolding transform_block_statement transform_statements
  block_keeps cur hoist a b d k st new =
      let c = make_context hoist st in
      let l = helper_load cur c.1 in
      taken_try a k hoist cur cur (any_await_using k) st c.1 l.1 new ∙ sym (list_counts a b d k)

  -- a Try below a list's record
  pub below_list : (t : ℕ) (k : Forest) (n : ℕ)
      → balance_of w read k ≡ n → worth w read t k ≡ 0 → (a b c : ℕ) → balance_of w read (one (hd t a b c) k) ≡ n
  below_list t k n e z a b c = omega (arith, balance_more w read (hd t a b c) k none, balance_none w read)

  pub body_keeps : (cur hoist a b c : ℕ) (k : Forest) (st : Store) → read ≤ length st.symbols
      → Keeps (hd Tag.Body a b c) k (enter_function_body cur hoist k st)
  unfolding enter_function_body transform_statements create_try_stmt worth waits gives asks_for usings_in done_in is_using
  body_keeps cur hoist a b d k st new =
      let c = make_context hoist st in
      let l = helper_load cur c.1 in
      let s = insert_scope_below cur k l.1 in
      let m = move_bindings (block_scoped_in s.1.symbols cur s.1.symbols 1) s.0 s.1 in
      below_list 14 _ _ (taken_try s.0 k hoist cur cur (any_await_using k) st c.1 m.1 new) refl 0 0 0
      ∙ sym (body_counts a b d k)

  pub static_keeps : (h : Head) (k : Forest) (st : Store) → read ≤ length st.symbols → h.tag ≡ Tag.StaticBlock → Keeps h k (exit_static_block h k st)
  unfolding exit_static_block transform_statements create_try_stmt worth waits gives asks_for usings_in done_in is_using
  static_keeps h k st new e =
      let c = make_context h.a st in
      let l = helper_load h.a c.1 in
      let s = insert_scope_between h.a 4 l.1 in
      let m = move_binding c.0 s.0 s.1 in
      let f = set_scope_flags h.a 1 m.1 in
      below_list 16 _ _ (taken_try h.a k h.a h.a s.0 (any_await_using k) st c.1 f.1 new) refl s.0 0 0
      ∙ sym (static_counts h k e)
