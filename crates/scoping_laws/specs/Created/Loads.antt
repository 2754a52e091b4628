-- The context's symbol and the helper, in the tables and in 01.
-- Assumes nothing.
use Rattle.std.specs.Prelude.{if◌then◌else◌, ◌≡◌, Bool, List, [], ◌∷◌, ℕ, suc, ◌+◌, ◌≤◌}
use Rattle.std.proofs.Math.Path.{refl}
use Rattle.std.proofs.Common.{sym, ap, ◌∙◌, arith, length-append}
use Rattle.std.proofs.Math.Bool.{true, false}
use Rattle.std.proofs.Math.Dec.{eqb}
use Rattle.std.proofs.Math.ListN.{length}
use Rattle.meaning.specs.Tree.{Forest}
use Rattle.meaning.specs.File.{symbol_row}
use Rattle.meaning.specs.Scoping.{Store, create_symbol, find_binding}
use Rattle.meaning.specs.Shapes.{load}
use Rattle.meaning.specs.HelperLoader.{make_helper, load_runtime, load_external, is_first, helper_load}
use Rattle.meaning.specs.Statements.{make_context, transform_statements}
use Rattle.meaning.specs.Due.{missing}
use Rattle.charge_laws.proofs.Growth.Rows.{one_if}
use Rattle.charge_laws.proofs.Growth.Loading.{load_grows}
use Rattle.tables.specs.Table.{capped}
use Rattle.scoping.specs.Rows.{with_context, with_helper}
use Rattle.representation.specs.Store.Held.{scope_cells, symbol_cells, ctx_of, symbols_held}
use Rattle.representation.proofs.Store.Symbols.{symbol_made, symbol_number_lem}
use Rattle.representation.proofs.Store.Searches.{find_is}
use Rattle.representation.proofs.Store.Agreed.{Agreed, agrees_length, symbol_agreed}
use Rattle.helper_loader.specs.Load.{Loading, loading, loaded_f, make_helper_f, load_runtime_f, helper_load_f}
use Rattle.creation.specs.Creation.{Transforming, transforming, make_context_f, load_context_f, transform_statements_f}
use Rattle.scoping_laws.specs.Created.Held.{free_symbols, free_first, next_symbol, Room, room_before}

-- ---- the context

-- A CONTEXT IS MADE
pub context_law : (st : Store) (zy : List ℕ) (scope : ℕ) → Agreed st → Room (make_context scope st).1
    → make_context_f (symbols_held st (free_symbols 1 zy)) scope ≡ symbols_held (make_context scope st).1 zy
unfolding make_context_f make_context create_symbol free_symbols with_context
context_law st zy scope a r =
    let room : next_symbol st ≤ 65535 = omega (arith, r, length-append st.symbols (symbol_row 5 1 scope 1 ∷ [])) in
    let n : capped st.contexts 1 ≡ suc st.contexts = omega (arith, r) in
    rw (symbol_made st 5 1 scope 1 0 0 0 0 zy room (agrees_length st.as_read st.symbols a), n)

-- ---- the helper

-- the form of the Load, and its symbol
abbrev pub load_form : Store → ℕ
load_form st = if eqb st.mode 0 then 0 else 1

abbrev pub load_symbol : ℕ → Store → ℕ
load_symbol cur st =
    if eqb st.mode 0 then (if eqb st.helper 0 then next_symbol st else st.helper)
    else find_binding (length st.scopes) st cur 1

-- what is loaded, and the rows of the store then
abbrev pub loaded_as : ℕ → Store → Store → List ℕ → Loading
loaded_as cur st st' zy =
    loading (symbol_cells st'.symbols st'.as_read zy) (loaded_f (ctx_of st') (load_form st) (load_symbol cur st) (is_first st))

-- the runtime helper is made
make_law : (st : Store) (zy : List ℕ) → Agreed st → length (make_helper st).1.symbols ≤ 65535
    → make_helper_f (symbols_held st (free_symbols 1 zy)) ≡ symbols_held (make_helper st).1 zy
unfolding make_helper_f make_helper create_symbol free_symbols with_helper
make_law st zy a r =
    let flags : ℕ = if eqb st.is_module 1 then 32 else 1 in
    let l = length-append st.symbols (symbol_row 5 flags 1 1 ∷ []) in
    rw (
      symbol_made st 5 flags 1 1 0 0 0 0 zy (omega (arith, r, l)) (agrees_length st.as_read st.symbols a),
      ← symbol_number_lem st 5 flags 1 1,
    )

module _ (st : Store) (cur : ℕ) where
  -- by the tests of mode and helper
  load_either : (P : Forest × Store → Type 0)
      → (eqb st.mode 0 ≡ true → eqb st.helper 0 ≡ true → P (load 0 (next_symbol st), (make_helper st).1))
      → (eqb st.mode 0 ≡ true → eqb st.helper 0 ≡ false → P (load 0 st.helper, st))
      → (eqb st.mode 0 ≡ false → P (load 1 (find_binding (length st.scopes) st cur 1), st)) → P (helper_load cur st)
  unfolding helper_load load_runtime load_external make_helper create_symbol
  load_either P made old seen = by (eqb st.mode 0) (eqb st.helper 0) refl refl
    where
      by : (b c : Bool) → eqb st.mode 0 ≡ b → eqb st.helper 0 ≡ c → P (helper_load cur st)
      by true true m e = rw (m, e) (made m e)
      by true false m e = rw (m, e) (old m e)
      by false c m e = rw m (seen m)

  -- THE HELPER IS LOADED
  pub helper_law : (zs zy : List ℕ) → Agreed st → length (helper_load cur st).1.symbols ≤ 65535
      → helper_load_f (scope_cells st.scopes zs) (symbols_held st (free_symbols (one_if (missing st)) zy)) cur
      ≡ loaded_as cur st (helper_load cur st).1 zy
  unfolding helper_load_f load_runtime_f make_helper create_symbol free_symbols is_first
  helper_law zs zy a =
      load_either
      (λ l.
      length l.1.symbols ≤ 65535
      → helper_load_f (scope_cells st.scopes zs) (symbols_held st (free_symbols (one_if (missing st)) zy)) cur ≡ loaded_as cur st l.1 zy)
      (λ m e r. rw (m, e, make_law st zy a r))
      (λ m e r. rw (m, e))
      (λ m r. rw (m, find_is st zs zy (length st.scopes) cur 1))

  pub load_is : (helper_load cur st).0 ≡ load (load_form st) (load_symbol cur st)
  load_is =
      load_either (λ l. l.0 ≡ load (load_form st) (load_symbol cur st)) (λ m e. rw (m, e)) (λ m e. rw (m, e)) (λ m. rw m)

  -- the scopes stay
  pub load_scopes : (zs : List ℕ) → scope_cells st.scopes zs ≡ scope_cells (helper_load cur st).1.scopes zs
  unfolding make_helper create_symbol
  load_scopes zs =
      load_either (λ l. scope_cells st.scopes zs ≡ scope_cells l.1.scopes zs) (λ m e. refl) (λ m e. refl) (λ m. refl)

  pub load_agreed : Agreed st → Agreed (helper_load cur st).1
  unfolding make_helper
  load_agreed a = load_either (λ l. Agreed l.1) (λ m e. symbol_agreed st a 5 _ 1 1) (λ m e. a) (λ m. a)

-- ---- both

pub context_number : (scope : ℕ) (st : Store) → length (make_context scope st).1.symbols ≡ next_symbol st
unfolding make_context create_symbol
context_number scope st = sym (symbol_number_lem st 5 1 scope 1)

pub context_agreed : (scope : ℕ) (st : Store) → Agreed st → Agreed (make_context scope st).1
unfolding make_context
context_agreed scope st a = symbol_agreed st a 5 1 scope 1

-- the symbol rows with a context's numbers
abbrev pub transformed_as : Store → List ℕ → ℕ → ℕ → ℕ → Transforming
transformed_as st zy context form symbol =
    transforming (symbol_cells st.symbols st.as_read zy)
    (record { ctx = ctx_of st; context = record { 0 = context }; form = form; load = record { 0 = symbol } })

pub load_context_law : (st : Store) (zs zy : List ℕ) (context cur : ℕ) → Agreed st → length (helper_load cur st).1.symbols ≤ 65535
    → load_context_f (scope_cells st.scopes zs) (symbols_held st (free_symbols (one_if (missing st)) zy)) context cur
    ≡ transformed_as (helper_load cur st).1 zy context (load_form st) (load_symbol cur st)
unfolding load_context_f
load_context_law st zs zy context cur a r = rw (helper_law st cur zs zy a r)

-- A CONTEXT IS MADE AND ITS HELPER LOADED
pub statements_law : (st : Store) (zs zy : List ℕ) (cur hoist : ℕ) (list : Forest) → Agreed st
    → Room (transform_statements cur hoist list st).1
    → (let made = (make_context hoist st).1 in
    transform_statements_f (scope_cells st.scopes zs) (symbols_held st (free_symbols (1 + one_if (missing st)) zy)) cur hoist
    ≡ transformed_as (transform_statements cur hoist list st).1 zy (next_symbol st) (load_form made) (load_symbol cur made))
unfolding transform_statements_f transform_statements make_context create_symbol
statements_law st zs zy cur hoist list a r =
    let made = (make_context hoist st).1 in
    let r₁ = room_before (load_grows cur made) r in
    rw (free_first (missing st) zy, context_law st (free_symbols (one_if (missing st)) zy) hoist a r₁)
    (load_context_law made zs zy (length made.symbols) cur (context_agreed hoist st a) r.1
    ∙ ap (λ (n : ℕ). transformed_as (helper_load cur made).1 zy n (load_form made) (load_symbol cur made)) (context_number hoist st))
