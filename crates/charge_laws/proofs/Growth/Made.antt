-- What a context and its Try add.
-- Assumes nothing.
use Rattle.std.specs.Prelude.{◌≡◌, refl, [], ◌∷◌, Bool, true, false, ℕ, ◌+◌, ◌*◌}
use Rattle.std.proofs.Common.{arith, length-append}
use Rattle.meaning.specs.Numbers.Kind
use Rattle.meaning.specs.Tree.{Forest, single, size, ◌&◌}
use Rattle.meaning.specs.File.{field_bytes, numbers_of}
use Rattle.meaning.specs.Scoping.{Store, create_child_scope, create_symbol}
use Rattle.meaning.specs.HelperLoader.{helper_load}
use Rattle.meaning.specs.Shapes.{declaration}
use Rattle.meaning.specs.Statements.{
  any_using,
  take_up,
  make_context,
  transform_statements,
  create_catch_clause,
  create_finally_block,
  create_try_stmt,
}
use Rattle.meaning.specs.Charges.{
  ContextKind,
  context,
  wrapped,
  charge,
  context_charge,
  line_charge,
  total,
  wraps,
  context_lines,
  record_bytes,
}
use Rattle.meaning.specs.Due.{is_context, any_context}
use Rattle.charge_laws.proofs.Growth.Names.{new_names}
use Rattle.charge_laws.proofs.Growth.Rows.{Grown, grown, both, child_scope, symbol_made}
use Rattle.charge_laws.proofs.Growth.Loading.{load_grows, load_sized}
use Rattle.charge_laws.proofs.Growth.Trees.{More, list_taken}
use Rattle.spec_laws.specs.Figures.{Same}
use Rattle.charge_laws.proofs.Growth.Charged.{Pays, pays}

pub context_grows : (scope : ℕ) (st : Store) → Grown false 0 1 1 st (make_context scope st).1
unfolding make_context create_symbol
context_grows scope st = grown (omega arith, simp length-append, omega arith, refl, refl, refl, refl, new_names st.symbols _)

-- the context's declaration before a list
pub declared : (ctx cur : ℕ) (st : Store) (f : Forest) → More 4 28 f (declaration Kind.Var ctx (helper_load cur st).0 & f)
unfolding ◌&◌ size record_bytes field_bytes numbers_of
declared ctx cur st f = omega (arith, load_sized cur st)

pub statements_grow : (cur hoist : ℕ) (list : Forest) (st : Store) → Grown true 0 1 1 st (transform_statements cur hoist list st).1
unfolding transform_statements
statements_grow cur hoist list st = both (context_grows hoist st) (load_grows cur _)

pub statements_more : (cur hoist : ℕ) (list : Forest) (st : Store)
    → More (4 + wraps list) (28 + 9 * wraps list) list (transform_statements cur hoist list st).0.statements
unfolding transform_statements
statements_more cur hoist list st =
    let c = make_context hoist st in
    omega (arith, declared c.0 cur c.1 (take_up c.0 list), list_taken list c.0)

-- ---- the Try

pub try_grows : (scope : ℕ) (list : Forest) (ctx parent : ℕ) (needs_await : Bool) (st : Store)
    → Grown false 3 1 0 st (create_try_stmt scope list ctx parent needs_await st).1
unfolding create_try_stmt create_catch_clause create_finally_block
try_grows scope list ctx parent needs_await st =
    both (both (both (child_scope parent 2 st) (child_scope _ 0 _)) (symbol_made 2 17 _ 0 _)) (child_scope parent 0 _)

pub try_more : (scope : ℕ) (list : Forest) (ctx parent : ℕ) (needs_await : Bool) (st : Store)
    → More 8 62 list (single (create_try_stmt scope list ctx parent needs_await st).0)
unfolding create_try_stmt create_catch_clause create_finally_block create_child_scope create_symbol ◌&◌ size record_bytes field_bytes numbers_of
try_more scope list ctx parent needs_await st = omega arith

-- ---- the lines of a context

pub context_pays : {f f' : Forest} {st st' : Store} (n s b : ℕ) (kind : ContextKind) (list : Forest)
    → Same (context_charge kind) (charge n s 2 1 b) → any_using list ≡ true
    → Grown true s 2 1 st st' → More (n + wraps list) (b + 9 * wraps list) f f' → Pays (context_lines kind list) f f' st st'
unfolding context_lines total line_charge any_context is_context
context_pays n s b kind list c u p q =
    rw u (pays (n + wraps list) (b + 9 * wraps list) (context kind ∷ wrapped (wraps list) ∷ []) refl (omega arith) p q)
