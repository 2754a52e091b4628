-- The turns of the search for a name that at most one row binds, and what it finds.
-- Assumes nothing.
use Rattle.std.specs.Prelude.{if◌then◌else◌}
use mathlib.Core.Path.{◌≡◌, refl, sym}
use mathlib.Core.Bool.{Bool, true, false, ◌&&◌, not}
use mathlib.Core.List.{List, [], ◌∷◌}
use Prim.Native.Nat.{ℕ, zero, suc, ◌+◌, ◌-◌, ◌≤◌, ◌<◌}
use native.Mathlib.Numerals.{add-one}
use native.Mathlib.Omega.{arith}
use lib.Dec.{eqb}
use borrow.Author.Tests.{eq-eqb, ne_eqb, eqb-true, eqb-false}
use Rattle.meaning.specs.File.{Symbol}
use Rattle.meaning.specs.Scoping.{binds, last_binding, get_binding, find_binding}
use Rattle.tables.specs.Loops.{one_less}
use Rattle.tables.specs.Table.{capped}
use Rattle.scoping.specs.Rows.{scope_number, symbol_at, symbols_f, store_f}
use Rattle.scoping.specs.Candidates.{one_more, add_candidate_f, candidates_f, climbs_f}
use Rattle.scoping.specs.declared.Ctx.{Ctx}
use Rattle.scoping.specs.declared.Candidates.{Candidates}
use Rattle.scoping.specs.declared.Candidates.TheVariants.{NoRow, OneRow, MoreRows}
use Rattle.meaning.specs.declared.SymbolId.{SymbolId}
use Rattle.meaning.specs.declared.ScopeId.{ScopeId}
use Rattle.scoping.proofs.Laws.{parent_is}

-- ---- the turns of the pass over the rows

module _ (t : List ℕ) (n name : ℕ) where
  -- the candidates of n rows, where `seen` are those before row i
  abbrev pub candidates_from : ℕ → Candidates → Candidates
  candidates_from i seen = candidates_f (symbols_f t 2 (n - i) i) name (suc i) seen

  pub candidates_first : candidates_f (symbols_f t 2 n 0) name 1 NoRow ≡ candidates_from 0 NoRow
  candidates_first = let s : n - 0 ≡ n = omega arith in rw s

  pub candidates_turn : (i : ℕ) (seen more : Candidates)
      → i < n → n ≤ 65535 → more ≡ add_candidate_f (symbol_at t 2 i) name (capped i 1) seen → candidates_from i seen ≡ candidates_from (i + 1) more
  unfolding symbols_f candidates_f
  candidates_turn i seen more h m e =
      let s : n - i ≡ suc (n - (i + 1)) = omega arith in
      let c : capped i 1 ≡ suc i = omega arith in
      rw (s, e, c, add-one)

  pub candidates_last : (i : ℕ) (seen : Candidates) → n ≤ i → candidates_from i seen ≡ seen
  unfolding symbols_f candidates_f
  candidates_last i seen h = let s : n - i ≡ 0 = omega arith in rw s

-- ---- what is bound where, if there is at most one candidate

abbrev few : Candidates → Bool
few NoRow = true
few (OneRow r s) = true
few MoreRows = false

-- what the candidates bind in a scope
abbrev bound_in : ℕ → Candidates → ℕ
bound_in scope NoRow = 0
bound_in scope (OneRow r s) = if eqb s.0 scope then r.0 else 0
bound_in scope MoreRows = 0

same_if : (b : Bool) (x : ℕ) → (if b then x else x) ≡ x
same_if true x = refl
same_if false x = refl

-- with at most one in the end there were no more before
few_before : (b : Bool) (i s : ℕ) (seen : Candidates) → few (if b then one_more i s seen else seen) ≡ true → few seen ≡ true
unfolding one_more
few_before true i s NoRow h = refl
few_before true i s (OneRow r q) h = refl
few_before true i s MoreRows h = h
few_before false i s seen h = h

-- a row goes by three tests: it has the name, it has made 0, it is in the scope
row_turn : (named made here : Bool) (scope i s : ℕ) (seen : Candidates) → eqb s scope ≡ here → few (if named && made then one_more i s seen else seen) ≡ true
    → (if made && here && named then i else bound_in scope seen) ≡ bound_in scope (if named && made then one_more i s seen else seen)
unfolding one_more
row_turn true true true scope i s NoRow e h = rw e
row_turn true true false scope i s NoRow e h = rw e
row_turn true true here scope i s (OneRow r q) e h = cc
row_turn true true here scope i s MoreRows e h = cc
row_turn true false here scope i s seen e h = refl
row_turn false true true scope i s seen e h = refl
row_turn false true false scope i s seen e h = refl
row_turn false false here scope i s seen e h = refl

module _ (name : ℕ) where
  abbrev has : Symbol → Bool
  has y = eqb y.name name && eqb y.made 0

  few_first : (ys : List Symbol) (i : ℕ) (seen : Candidates) → few (candidates_f ys name i seen) ≡ true → few seen ≡ true
  unfolding candidates_f add_candidate_f
  few_first [] i seen h = h
  few_first (y ∷ ys) i seen h = few_before (has y) i y.scope seen (few_first ys (suc i) _ h)

  last_bound : (ys : List Symbol) (scope i : ℕ) (seen : Candidates) → few (candidates_f ys name i seen) ≡ true
      → last_binding ys scope name i (bound_in scope seen) ≡ bound_in scope (candidates_f ys name i seen)
  unfolding candidates_f add_candidate_f last_binding binds
  last_bound [] scope i seen h = refl
  last_bound (y ∷ ys) scope i seen h =
      rw (row_turn (eqb y.name name) (eqb y.made 0) (eqb y.scope scope) scope i y.scope seen refl (few_first ys (suc i) _ h))
      (last_bound ys scope (suc i) _ h)

-- ---- the way outwards

module _ (n k : ℕ) (t : List ℕ) (scope to : ℕ) where
  pub climb_here : k < n → to ≡ scope → climbs_f (n - k) t n scope to ≡ true
  unfolding climbs_f
  climb_here h e = rw (one_less n k h, eq-eqb to scope e)

  pub climb_top : k < n → (to ≡ scope → ⊥) → scope ≡ 0 → climbs_f (n - k) t n scope to ≡ false
  unfolding climbs_f
  climb_top h d e = rw (one_less n k h, ne_eqb to scope d, eq-eqb scope 0 e)

  pub climb_turn : (parent : ℕ) → k < n → (to ≡ scope → ⊥) → (scope ≡ 0 → ⊥) → parent ≡ scope_number t n scope 0
      → climbs_f (n - k) t n scope to ≡ climbs_f (n - (k + 1)) t n parent to
  unfolding climbs_f
  climb_turn parent h d z e = rw (one_less n k h, ne_eqb to scope d, ne_eqb scope 0 z, e)

  pub climb_out : n ≤ k → climbs_f (n - k) t n scope to ≡ false
  unfolding climbs_f
  climb_out h = let s : n - k ≡ 0 = omega arith in rw s

-- ---- a name seen from a scope

-- one scope: the row is there, or the scope is 0, or the search goes on
scope_turn : (here top : Bool) (row rest : ℕ) (met : Bool) → (row ≡ 0 → ⊥) → rest ≡ (if met then row else 0)
    → (let y = if here then row else 0 in if not (eqb y 0) then y else if top then 0 else rest)
    ≡ (if if here then true else if top then false else met then row else 0)
scope_turn true top row rest met d e = rw (ne_eqb row 0 d)
scope_turn false true row rest met d e = refl
scope_turn false false row rest met d e = e

module _ (ss ys : List ℕ) (x : Ctx) (name : ℕ) where
  abbrev rows : List Symbol
  rows = symbols_f ys 2 x.symbols 0

  abbrev sees : ℕ → ℕ → ℕ
  sees m s = find_binding m (store_f ss ys x) s name

  -- if no scope binds the name; if one does
  see_nothing : ((s : ℕ) → get_binding rows s name ≡ 0) → (m s : ℕ) → sees m s ≡ 0
  unfolding find_binding store_f
  see_nothing e zero s = refl
  see_nothing e (suc m) s = rw (e s, see_nothing e m) (same_if (eqb s 0) 0)

  see_one : (to row : ℕ) → (row ≡ 0 → ⊥) → ((s : ℕ) → get_binding rows s name ≡ (if eqb to s then row else 0))
      → (m s : ℕ) → sees m s ≡ (if climbs_f m ss x.scopes s to then row else 0)
  unfolding find_binding store_f climbs_f
  see_one to row d e zero s = refl
  see_one to row d e (suc m) s =
      rw (e s, parent_is ss x.scopes s)
      (scope_turn (eqb to s) (eqb s 0) row _ _ d (see_one to row d e m (scope_number ss x.scopes s 0)))

  -- at most one row binds the name: what each scope binds
  bound_is : (seen : Candidates) → seen ≡ candidates_f rows name 1 NoRow → few seen ≡ true → (s : ℕ) → get_binding rows s name ≡ bound_in s seen
  bound_is seen all h s = rw all (last_bound name rows s 1 NoRow (rw all at h))

  -- no row: nothing is seen
  pub find_nothing : NoRow ≡ candidates_f rows name 1 NoRow → (m s : ℕ) → sees m s ≡ 0
  find_nothing all = see_nothing (bound_is NoRow all refl)

  module _ (row : SymbolId) (scope : ScopeId) (all : OneRow row scope ≡ candidates_f rows name 1 NoRow) where
    bound_here : (s : ℕ) → get_binding rows s name ≡ (if eqb scope.0 s then row.0 else 0)
    bound_here = bound_is (OneRow row scope) all refl

    by_row : (b : Bool) → eqb row.0 0 ≡ b → (m s : ℕ) → sees m s ≡ (if climbs_f m ss x.scopes s scope.0 then row.0 else 0)
    by_row true q m s =
        let r : row.0 ≡ 0 = eqb-true row.0 0 q in
        let none : (k : ℕ) → get_binding rows k name ≡ 0 = λ k. rw (bound_here k, r) (same_if (eqb scope.0 k) 0) in
        rw (see_nothing none m s, r) (sym (same_if (climbs_f m ss x.scopes s scope.0) 0))
    by_row false q m s = see_one scope.0 row.0 (eqb-false row.0 0 q) bound_here m s

    -- one: its number is seen from where its scope is met
    pub find_one : (b met : Bool) (m s : ℕ) → met ≡ b → met ≡ climbs_f m ss x.scopes s scope.0 → sees m s ≡ (if b then row.0 else 0)
    find_one b met m s e c = rw (← e, c) (by_row (eqb row.0 0) refl m s)
