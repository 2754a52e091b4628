-- The rows of a Try, in the tables and in 01.
-- Assumes nothing.
use Rattle.std.specs.Prelude.{if◌then◌else◌, ◌≡◌, refl, Bool, true, false, not, List, ℕ, suc, ◌+◌, ◌≤◌, eqb}
use Rattle.std.proofs.Common.{◌∙◌, arith}
use Rattle.std.proofs.Math.Numerals.{add-one}
use Rattle.std.proofs.Math.ListN.{length, length-append}
use Rattle.meaning.specs.Tree.{Forest, ◌&◌}
use Rattle.meaning.specs.Scoping.{Store, create_child_scope, create_symbol}
use Rattle.meaning.specs.Shapes.{block, try_statement}
use Rattle.meaning.specs.Statements.{create_catch_clause, create_finally_block, create_try_stmt}
use Rattle.charge_laws.proofs.Growth.Rows.{child_scope}
use Rattle.charge_laws.proofs.Growth.Made.{try_grows}
use Rattle.tables.specs.Table.{cap_one}
use Rattle.representation.specs.Store.Held.{scope_cells, symbol_cells, ctx_of}
use Rattle.representation.proofs.Store.Scopes.{child_scope_made, child_scope_number}
use Rattle.representation.proofs.Store.Symbols.{symbol_made}
use Rattle.representation.proofs.Store.Agreed.{Agreed, agrees_length, child_scope_agreed, symbol_agreed}
use Rattle.statements.specs.Try.{step_form}
use Rattle.statements.specs.declared.Parts.{Parts}
use Rattle.table_laws.specs.Lists.Try.{handlers_of}
use Rattle.creation.specs.Creation.{create_catch_clause_f, create_try_stmt_f}
use Rattle.scoping_laws.specs.Created.Held.{free_scopes, free_symbols, next_symbol, rows_held, created_as, Room}

-- the numbers of a Try that is made next, for n `await using`s
abbrev pub parts_of : Store → ℕ → ℕ → ℕ → ℕ → Parts
parts_of st context form symbol n =
    record {
      context = record { 0 = context };
      form = form;
      load = record { 0 = symbol };
      scope = record { 0 = suc (length st.scopes) };
      error = record { 0 = next_symbol st };
      step = step_form n;
    }

-- the form of its last Step
step_form_lem : (n : ℕ) (needs : Bool) → needs ≡ not (eqb n 0) → step_form n ≡ (if needs then 2 else 1)
unfolding step_form
step_form_lem n needs e = rw e (by (eqb n 0))
  where
    by : (b : Bool) → ◌≡◌ {A = ℕ} (if b then 1 else 2) (if not b then 2 else 1)
    by true = refl
    by false = refl

-- the scopes of the Catch and of its body
abbrev caught : ℕ → Store → Store
caught parent st = (create_child_scope parent 2 st).1

abbrev inside : ℕ → Store → Store
inside parent st = (create_child_scope (length (caught parent st).scopes) 0 (caught parent st)).1

module _ (st : Store) (parent : ℕ) where
  -- the symbols stay
  inside_symbols : (z : List ℕ)
      → (symbol_cells st.symbols st.as_read z ≡ symbol_cells (inside parent st).symbols (inside parent st).as_read z)
      × (length st.symbols ≡ length (inside parent st).symbols)
  unfolding create_child_scope
  inside_symbols z = (refl, refl)

  catch_law : (context : ℕ) (zs zy : List ℕ) → Agreed st → length st.scopes + 2 ≤ 65535 → length st.symbols + 1 ≤ 65535
      → create_catch_clause_f (rows_held st (free_scopes 2 zs) (free_symbols 1 zy)) parent
      ≡ rows_held (create_catch_clause context parent st).1 zs zy
  unfolding create_catch_clause_f create_catch_clause create_symbol free_scopes free_symbols
  catch_law context zs zy a s y =
      let st₁ = caught parent st in
      let n₁ = length st₁.scopes in
      let st₂ = inside parent st in
      let n₂ = length st₂.scopes in
      let g = child_scope parent 2 st in
      let k = inside_symbols (free_symbols 1 zy) in
      let a₂ = child_scope_agreed st₁ (child_scope_agreed st a parent 2) n₁ 0 in
      rw (
        child_scope_made st 2 (omega (arith, g.scopes)) (omega arith) parent 0 0 (free_scopes 1 zs),
        child_scope_number st parent 2,
        child_scope_made st₁ 0 (omega (arith, g.scopes)) (omega arith) n₁ 0 0 zs,
        child_scope_number st₁ n₁ 0,
        k.0,
        symbol_made st₂ 2 17 n₂ 0 0 0 0 0 zy (omega (arith, k.1)) (agrees_length st₂.as_read st₂.symbols a₂),
      )

  error_number : (context : ℕ) → length (create_catch_clause context parent st).1.symbols ≡ next_symbol st
  unfolding create_catch_clause create_child_scope create_symbol
  error_number context = length-append st.symbols _ ∙ add-one (length st.symbols)

  -- THE ROWS OF A TRY
  pub try_law : (scope context form symbol : ℕ) (list : Forest) (needs : Bool) (n m : ℕ) (zs zy : List ℕ) → m ≡ parent → Agreed st
      → Room (create_try_stmt scope list context parent needs st).1
      → create_try_stmt_f (scope_cells st.scopes (free_scopes 3 zs)) (symbol_cells st.symbols st.as_read (free_symbols 1 zy))
      (record { ctx = ctx_of st; context = record { 0 = context }; form = form; load = record { 0 = symbol } }) m n
      ≡ created_as (create_try_stmt scope list context parent needs st).1 zs zy (parts_of st context form symbol n)
  unfolding create_try_stmt_f create_try_stmt create_finally_block create_child_scope free_scopes
  try_law scope context form symbol list needs n m zs zy o a r =
      let g = try_grows scope list context parent needs st in
      let st₃ = (create_catch_clause context parent st).1 in
      let g₃ = child_scope parent 0 st₃ in
      rw (
        o,
        catch_law context (free_scopes 1 zs) zy a (omega (arith, g.scopes)) (omega (arith, g.symbols)),
        child_scope_made st₃ 0 (omega (arith, g₃.scopes)) (omega arith) parent 0 0 zs,
        error_number context,
        cap_one (length st.scopes) (omega (arith, g.scopes)),
        add-one (length st.scopes),
      )

  scope_numbers : (context : ℕ)
      → (let scope = suc (length st.scopes) in
      ((create_child_scope scope 0 (caught parent st)).0 ≡ scope + 1)
      × ((create_child_scope parent 0 (create_catch_clause context parent st).1).0 ≡ scope + 2))
  unfolding create_catch_clause create_child_scope create_symbol
  scope_numbers context = (simp length-append (omega arith), simp length-append (omega arith))

  -- its records
  pub try_node : (scope context form symbol : ℕ) (list : Forest) (needs : Bool) (n : ℕ) → needs ≡ not (eqb n 0)
      → (create_try_stmt scope list context parent needs st).0
      ≡ try_statement (block scope list & handlers_of (parts_of st context form symbol n))
  unfolding create_try_stmt create_catch_clause create_finally_block create_child_scope create_symbol handlers_of
  try_node scope context form symbol list needs n e =
      let s = scope_numbers context in
      rw (s.0, s.1, step_form_lem n needs e)

  -- the numbers of its scopes have 16 bits
  pub try_room : (scope context : ℕ) (list : Forest) (needs : Bool) → Room (create_try_stmt scope list context parent needs st).1
      → suc (length st.scopes) + 2 ≤ 65535
  try_room scope context list needs r = omega (arith, (try_grows scope list context parent needs st).scopes, r)

  pub try_agreed : (scope context : ℕ) (list : Forest) (needs : Bool) → Agreed st
      → Agreed (create_try_stmt scope list context parent needs st).1
  unfolding create_try_stmt create_catch_clause create_finally_block
  try_agreed scope context list needs a =
      let a₁ = child_scope_agreed st a parent 2 in
      let a₂ = child_scope_agreed _ a₁ (create_child_scope parent 2 st).0 0 in
      child_scope_agreed _ (symbol_agreed _ a₂ 2 17 _ 0) parent 0
