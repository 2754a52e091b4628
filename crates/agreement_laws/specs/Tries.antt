-- The Try around a list: its new rows are what it demands more than the list.
-- Assumes nothing.
use Rattle.std.specs.Prelude.{◌≡◌, Bool, ℕ, ◌+◌}
use Rattle.std.proofs.Common.{◌∙◌, arith, ne_eqb}
use Rattle.meaning.specs.Numbers.ScopeFlag
use Rattle.meaning.specs.Numbers.SymbolFlag
use Rattle.meaning.specs.Numbers.KnownName
use Rattle.meaning.specs.Tree.{Head, Forest, one, Node, single, ◌&◌}
use Rattle.meaning.specs.Grammar.{scope_of, below}
use Rattle.meaning.specs.Scoping.{Store, create_child_scope, create_symbol, insert_scope_between, insert_scope_below}
use Rattle.meaning.specs.Shapes.{block}
use Rattle.meaning.specs.Statements.{create_catch_clause, create_finally_block, create_try_stmt}
use Rattle.meaning.specs.Agreement.{names_scope}
use Rattle.agreement_laws.specs.Weights.{Weight, demanded, Offers}
use Rattle.agreement_laws.specs.Rows.{never_0, child_offers, between_offers}
use Rattle.agreement_laws.specs.Lists.{Alike}

-- a Block demands its row, and below it what its list does
pub block_demands : (w : Weight) (cur s : ℕ) (list : Forest) → demanded w cur (block s list) ≡ w s cur + demanded w (below cur s) list
unfolding demanded names_scope scope_of
block_demands w cur s list = omega arith

-- below a row with a number
pub below_row : (cur s : ℕ) → (s ≡ 0 → ⊥) → below cur s ≡ s
below_row cur s n = rw (ne_eqb s 0 n)

-- a new row has one
pub new_row : (p flags : ℕ) (st : Store) → (create_child_scope p flags st).0 ≡ 0 → ⊥
unfolding create_child_scope
new_row p flags st e = omega arith

pub below_new : (s : ℕ) (f : Forest) (st : Store) → (insert_scope_below s f st).0 ≡ 0 → ⊥
unfolding insert_scope_below
below_new s f st e = new_row s 0 st e

-- A LIST IN A BLOCK GOES INTO A TRY, whose other parts stand below the current scope.
pub try_offers : (scope : ℕ) (list : Forest) (ctx cur : ℕ) (needs_await : Bool) (st : Store) (R : Weight → ℕ)
    → Offers st.scopes (λ w. demanded w cur (block scope list) + R w)
    → Offers (create_try_stmt scope list ctx cur needs_await st).1.scopes
    (λ w. demanded w cur (single (create_try_stmt scope list ctx cur needs_await st).0) + R w)
unfolding create_try_stmt create_catch_clause create_finally_block create_symbol demanded names_scope scope_of ◌&◌
try_offers scope list ctx cur needs_await st R o =
    let catch = create_child_scope cur ScopeFlag.Catch st in
    let body = create_child_scope catch.0 0 catch.1 in
    let y = create_symbol KnownName.Underscore (SymbolFlag.FunctionScoped + SymbolFlag.Catch) body.0 0 body.1 in
    let o₁ = child_offers cur ScopeFlag.Catch st (λ w. demanded w cur (block scope list) + R w) o in
    let o₂ = child_offers catch.0 0 catch.1 (λ w. w catch.0 cur + (demanded w cur (block scope list) + R w)) o₁ in
    let o₃ =
    child_offers cur 0 y.1
    (λ w. w body.0 catch.0 + (w catch.0 cur + (demanded w cur (block scope list) + R w))) o₂
    in
    let e = below_row cur catch.0 (new_row cur ScopeFlag.Catch st) in
    λ w. rw e (omega (arith, o₃ w))

-- ---- what comes of a record

-- the rows that offered what it demanded offer what comes of it demands, whatever else they offer
abbrev pub Keeps : ℕ → Head → Forest → Store → Node × Store → Type 0
Keeps cur h k st e =
    (R : Weight → ℕ) → Offers st.scopes (λ w. demanded w cur (one h k) + R w)
    → Offers e.1.scopes (λ w. demanded w cur (single e.0) + R w)

-- A NEW ROW ABOVE THAT OF A LIST'S RECORD: the list goes into a Block with the old one.
pub between_block : (a cur flags : ℕ) (list list' : Forest) (st : Store) (R : Weight → ℕ) → Alike list' list
    → Offers st.scopes (λ w. w a cur + (demanded w (below cur a) list + R w))
    → let new = (insert_scope_between a flags st).0 in
    Offers (insert_scope_between a flags st).1.scopes (λ w. demanded w new (block a list') + (w new cur + R w))
between_block a cur flags list list' st R alike o =
    let new = (insert_scope_between a flags st).0 in
    let n = never_0 st.scopes a cur (λ w. demanded w (below cur a) list + R w) o in
    let o₁ = between_offers a cur flags st (λ w. demanded w (below cur a) list + R w) o in
    let e₁ = below_row cur a n in
    let e₂ = below_row new a n in
    λ w.
    let d : demanded w new (block a list') ≡ w a new + demanded w a list' = block_demands w new a list' ∙ rw e₂ in
    omega (arith, rw e₁ at (o₁ w), alike w a)

pub between_row : (a flags : ℕ) (st : Store) → (insert_scope_between a flags st).0 ≡ 0 → ⊥
unfolding insert_scope_between
between_row a flags st e = new_row _ flags st e
