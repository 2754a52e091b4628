-- The turns of the searches, and the rows as read.
-- Assumes nothing.
use Rattle.std.specs.Prelude.{if◌then◌else◌}
use mathlib.Core.Path.{◌≡◌, refl}
use mathlib.Core.List.{List, [], ◌∷◌}
use Prim.Native.Nat.compare
use Prim.Native.Nat.{ℕ, zero, suc, ◌+◌, ◌*◌, ◌-◌, ◌≤◌, ◌<◌}
use native.Mathlib.Numerals.{add-one}
use native.Mathlib.Omega.{arith}
use lib.ListN.{get_or}
use lib.Dec.{eqb, leb}
use borrow.Author.Tests.{eq-eqb, ne_eqb, le-leb, lt-leb}
use Rattle.tables.specs.Columns.SymbolTable
use Rattle.meaning.specs.Scoping.{no_scope, no_symbol, row_at, binds, last_binding, get_binding, find_binding}
use Rattle.tables.specs.Loops.{one_less}
use Rattle.tables.specs.Table.{capped}
use Rattle.scoping.specs.Rows.{scope_number, symbol_number, scope_at, scopes_f, symbol_at, symbols_f, store_f}
use Rattle.scoping.specs.Search.{binding_from}
use Rattle.scoping.specs.declared.Ctx.{Ctx}

module _ (t : List ℕ) (f n scope name : ℕ) where
  -- the last of n rows that binds a name, where `found` is the last one before row i
  abbrev from : ℕ → ℕ → ℕ
  from i found = binding_from t f n scope name i found

  pub binding_first : get_binding (symbols_f t f n 0) scope name ≡ from 0 0
  binding_first = let s : n - 0 ≡ n = omega arith in rw s

  pub binding_turn : (i found more : ℕ)
      → i < n → n ≤ 65535 → more ≡ (if binds (symbol_at t f i) scope name then capped i 1 else found) → from i found ≡ from (i + 1) more
  unfolding symbols_f last_binding
  binding_turn i found more h m e =
      let s : n - i ≡ suc (n - (i + 1)) = omega arith in
      let c : capped i 1 ≡ suc i = omega arith in
      rw (s, e, c, add-one)

  pub binding_last : (i found : ℕ) → n ≤ i → from i found ≡ found
  unfolding symbols_f last_binding
  binding_last i found h = let s : n - i ≡ 0 = omega arith in rw s

-- a number of row y, by 1, of n rows
module _ {X : Type 0} (row : ℕ → X) (rows : ℕ → ℕ → List X) (d : X) (number : X → ℕ) (none : number d ≡ 0)
    (last : (j : ℕ) → rows 0 j ≡ []) (first : (n j : ℕ) → rows (suc n) j ≡ row j ∷ rows n (suc j)) where
  number_from : (n j i : ℕ) → number (get_or (rows n j) i d) ≡ (if leb (suc i) n then number (row (j + i)) else 0)
  number_from zero j i = rw (last j, lt-leb (suc i) 0 (omega arith)) none
  number_from (suc n) j zero = let e : j + 0 ≡ j = omega arith in rw (first n j, le-leb 1 (suc n) (omega arith), e)
  number_from (suc n) j (suc i) =
      let e : j + suc i ≡ suc j + i = omega arith in
      rw (first n j, compare.suc-suc (suc i) n, e) (number_from n (suc j) i)

  number_is : (n y : ℕ) → number (row_at d (rows n 0) y) ≡ (if eqb y 0 then 0 else if leb y n then number (row (y - 1)) else 0)
  number_is n zero = none
  number_is n (suc i) =
      let e : suc i - 1 ≡ i = omega arith in
      let z : 0 + i ≡ i = omega arith in
      rw (ne_eqb (suc i) 0 (λ q. omega (arith, q)), e) (rw z at (number_from n 0 i))

pub parent_is : (t : List ℕ) (n s : ℕ) → (row_at no_scope (scopes_f t n 0) s).parent ≡ scope_number t n s 0
unfolding scopes_f scope_at scope_number
parent_is t n s =
    let z : (s - 1) * 2 + 0 ≡ (s - 1) * 2 = omega arith in
    rw z (number_is (scope_at t) (scopes_f t) no_scope (λ r. r.parent) refl (λ j. refl) (λ m j. refl) n s)

pub made_is : (t : List ℕ) (f n y : ℕ) → (row_at no_symbol (symbols_f t f n 0) y).made ≡ symbol_number t n y 3
unfolding symbols_f symbol_at symbol_number
made_is t f n y = number_is (symbol_at t f) (symbols_f t f) no_symbol (λ r. r.made) refl (λ j. refl) (λ m j. refl) n y

pub name_is : (t : List ℕ) (f n y : ℕ) → (row_at no_symbol (symbols_f t f n 0) y).name ≡ symbol_number t n y 0
unfolding symbols_f symbol_at symbol_number
name_is t f n y =
    let z : (y - 1) * SymbolTable.Numbers + 0 ≡ (y - 1) * SymbolTable.Numbers = omega arith in
    rw z (number_is (symbol_at t f) (symbols_f t f) no_symbol (λ r. r.name) refl (λ j. refl) (λ m j. refl) n y)

-- ---- a name seen from a scope

module _ (n k : ℕ) (ss ys : List ℕ) (x : Ctx) (scope name : ℕ) where
  abbrev here : ℕ
  here = get_binding (symbols_f ys 2 x.symbols 0) scope name

  abbrev sees : ℕ → ℕ → ℕ
  sees m s = find_binding m (store_f ss ys x) s name

  pub find_here : (y : ℕ) → k < n → y ≡ here → (y ≡ 0 → ⊥) → sees (n - k) scope ≡ y
  unfolding find_binding store_f
  find_here y h e z = rw (one_less n k h, ← e, ne_eqb y 0 z)

  pub find_turn : (y parent : ℕ) → k < n → y ≡ here → y ≡ 0 → (scope ≡ 0 → ⊥) → parent ≡ scope_number ss x.scopes scope 0
      → sees (n - k) scope ≡ sees (n - (k + 1)) parent
  unfolding find_binding store_f
  find_turn y parent h e z s p = rw (one_less n k h, ← e, eq-eqb y 0 z, ne_eqb scope 0 s, p, parent_is ss x.scopes scope)

  pub find_none : (y : ℕ) → k < n → y ≡ here → y ≡ 0 → scope ≡ 0 → sees (n - k) scope ≡ 0
  unfolding find_binding store_f
  find_none y h e z s = rw (one_less n k h, ← e, eq-eqb y 0 z, eq-eqb scope 0 s)

  pub find_out : n ≤ k → sees (n - k) scope ≡ 0
  unfolding find_binding
  find_out h = let s : n - k ≡ 0 = omega arith in rw s
