-- The turns of the searches for the next row with a number, and that a pass may leave out the rows before it.
-- Assumes nothing.
use Rattle.std.specs.Prelude.{if◌then◌else◌, Option, Some, None, MatchOption}
use mathlib.Core.Path.{◌≡◌, refl, sym, ◌∙◌}
use mathlib.Core.Bool.{Bool, true, false, and-false}
use mathlib.Core.List.{List}
use Prim.Native.Nat.{ℕ, zero, suc, ◌+◌, ◌*◌, ◌-◌, ◌≤◌, ◌<◌}
use native.Mathlib.Numerals.{add-one}
use native.Mathlib.Omega.{arith}
use lib.ListN.{get_or}
use lib.Dec.{eqb}
use borrow.Author.Tests.{eq-eqb, ne_eqb, eqb-true, eqb-false}
use Rattle.tables.specs.Columns.SymbolTable
use Rattle.meaning.specs.Scoping.{binds, get_binding, is_among_bindings}
use Rattle.tables.specs.Table.{capped}
use Rattle.tables.specs.Loops.{turns, one_less, next_turn as one_turn}
use Rattle.scoping.specs.Rows.{symbol_at, symbols_f}
use Rattle.scoping.specs.Search.{next_row_f, Finds, binding_from}
use Rattle.scoping.specs.Candidates.{add_candidate_f}
use Rattle.scoping.specs.Changes.{Moving, moving, moves_f, move_bound_f, move_one}
use Rattle.scoping.specs.declared.Ctx.{Ctx}
use Rattle.scoping.specs.declared.Candidates.{Candidates}
use Rattle.scoping.proofs.Laws.{binding_first, binding_turn}
use Rattle.scoping.proofs.Single.{candidates_from, candidates_turn}

if_after : (b : Bool) (i r : ℕ) → i ≤ r → i ≤ (if b then i else r)
if_after true i r h = omega arith
if_after false i r h = h

if_within : (b : Bool) (i r n : ℕ) → i ≤ n → r ≤ n → (if b then i else r) ≤ n
if_within true i r n h g = h
if_within false i r n h g = g

by_test : {X : Type 0} (F : ℕ → X) (i r : ℕ) (b : Bool) → (b ≡ false → F i ≡ F r) → F i ≡ F (if b then i else r)
by_test F i r true g = refl
by_test F i r false g = g refl

-- ---- n rows, from row k on

module _ (t : List ℕ) (f want n : ℕ) where
  pub next_here : (k : ℕ) → k < n → get_or t (k * SymbolTable.Numbers + f) 0 ≡ want → next_row_f t f want (n - k) k ≡ k
  unfolding next_row_f
  next_here k h e = rw (one_less n k h, eq-eqb _ _ e)

  pub next_turn : (k : ℕ) → k < n → (get_or t (k * SymbolTable.Numbers + f) 0 ≡ want → ⊥) → next_row_f t f want (n - k) k ≡ next_row_f t f want (n - (k + 1)) (k + 1)
  unfolding next_row_f
  next_turn k h d = rw (one_less n k h, ne_eqb _ _ d, add-one)

  pub next_out : (k : ℕ) → n ≤ k → next_row_f t f want (n - k) k ≡ k
  unfolding next_row_f
  next_out k h = let s : n - k ≡ 0 = omega arith in rw s

  -- past d rows without the number
  next_past : (d i : ℕ) → d ≤ n - i → ((j : ℕ) → i ≤ j → j < i + d → get_or t (j * SymbolTable.Numbers + f) 0 ≡ want → ⊥)
      → next_row_f t f want (n - i) i ≡ next_row_f t f want (n - (i + d)) (i + d)
  next_past zero i h none = let z : i + 0 ≡ i = omega arith in rw z
  next_past (suc d) i h none =
      let s : i + 1 + d ≡ i + suc d = omega arith in
      next_turn i (omega arith) (none i (omega arith) (omega arith))
      ∙ rw s at (next_past d (i + 1) (omega arith) (λ j a b. none j (omega arith) (omega arith)))

  -- the row comes at or behind row i, so that fewer are left after it
  next_after : (m i : ℕ) → i ≤ next_row_f t f want m i
  unfolding next_row_f
  next_after zero i = omega arith
  next_after (suc m) i = if_after (eqb (get_or t (i * SymbolTable.Numbers + f) 0) want) i _ (omega (arith, next_after m (suc i)))

  -- and among the m, or right behind them
  pub next_within : (m i : ℕ) → next_row_f t f want m i ≤ i + m
  unfolding next_row_f
  next_within zero i = omega arith
  next_within (suc m) i =
      if_within (eqb (get_or t (i * SymbolTable.Numbers + f) 0) want) i _ _ (omega arith) (omega (arith, next_within m (suc i)))

  pub next_less : (i r : ℕ) → r < n → r ≡ next_row_f t f want (n - i) i → n - (r + 1) < n - i
  next_less i r h e = omega (arith, next_after (n - i) i)

  -- what no row without the number changes is the same at the next row with it
  next_same : {X : Type 0} (F : ℕ → X) → ((j : ℕ) → j < n → (get_or t (j * SymbolTable.Numbers + f) 0 ≡ want → ⊥) → F j ≡ F (j + 1))
      → (m i : ℕ) → m ≤ n - i → F i ≡ F (next_row_f t f want m i)
  unfolding next_row_f
  next_same F same zero i h = refl
  next_same F same (suc m) i h =
      by_test F i _ (eqb (get_or t (i * SymbolTable.Numbers + f) 0) want)
      (λ q. rw add-one at (same i (omega arith) (eqb-false _ _ q)) ∙ next_same F same m (suc i) (omega arith))

  -- what is the first from row i on, among the n, is the row, or none
  pub finds_first : (i : ℕ) (r : Option ℕ)
      → MatchOption r ((k : ℕ) → i ≤ k → k < n → get_or t (k * SymbolTable.Numbers + f) 0 ≡ want → ⊥)
      (λ k. (i ≤ k) × (k < n) × (get_or t (k * SymbolTable.Numbers + f) 0 ≡ want) × ((j : ℕ) → i ≤ j → j < k → get_or t (j * SymbolTable.Numbers + f) 0 ≡ want → ⊥))
      → Finds n (next_row_f t f want (n - i) i) r
  finds_first i None h =
      rw (next_past (n - i) i (omega arith) (λ j a b. h j a (omega arith)) ∙ next_out (i + (n - i)) (omega arith)) (omega arith)
  finds_first i (Some k) h =
      let s : i + (k - i) ≡ k = omega (arith, h.0) in
      (h.1, sym (next_past (k - i) i (omega (arith, h.0, h.1)) (λ j a b. h.3 j a (omega (arith, h.0))) ∙ rw s (next_here k h.1 h.2)))

  -- m of them: the search goes on at the row that they give, and ends there if it is one of them
  pub next_on : (m k r : ℕ) → m ≤ n - k → r ≡ next_row_f t f want m k → next_row_f t f want (n - k) k ≡ next_row_f t f want (n - r) r
  next_on m k r h e = rw e (next_same (λ j. next_row_f t f want (n - j) j) next_turn m k h)

  found_here : (m k : ℕ) (b : Bool) → eqb (get_or t (k * SymbolTable.Numbers + f) 0) want ≡ b → (if b then k else next_row_f t f want m (suc k)) < k + suc m
      → (next_row_f t f want m (suc k) < suc k + m → get_or t (next_row_f t f want m (suc k) * SymbolTable.Numbers + f) 0 ≡ want)
      → get_or t ((if b then k else next_row_f t f want m (suc k)) * SymbolTable.Numbers + f) 0 ≡ want
  found_here m k true q l more = eqb-true _ _ q
  found_here m k false q l more = more (omega arith)

  next_found : (m k : ℕ) → next_row_f t f want m k < k + m → get_or t (next_row_f t f want m k * SymbolTable.Numbers + f) 0 ≡ want
  unfolding next_row_f
  next_found zero k l = absurd (omega arith)
  next_found (suc m) k l = found_here m k (eqb (get_or t (k * SymbolTable.Numbers + f) 0) want) refl l (next_found m (suc k))

  pub next_some : (m k r : ℕ) → k + m ≤ n → r ≡ next_row_f t f want m k → r < k + m → next_row_f t f want (n - k) k ≡ r
  next_some m k r h e l = next_on m k r (omega arith) e ∙ next_here r (omega arith) (rw e (next_found m k (rw e at l)))

  next_pass : {X : Type 0} (F : ℕ → X) → ((j : ℕ) → j < n → (get_or t (j * SymbolTable.Numbers + f) 0 ≡ want → ⊥) → F j ≡ F (j + 1))
      → (i r : ℕ) → r ≡ next_row_f t f want (n - i) i → F i ≡ F r
  next_pass F same i r e = rw e (next_same F same (n - i) i (omega arith))

-- ---- the last row that binds a name

module _ (t : List ℕ) (f n scope name : ℕ) (m : n ≤ 65535) where
  abbrev from : ℕ → ℕ → ℕ
  from i found = binding_from t f n scope name i found

  -- rows without the name are left out
  unnamed : (j : ℕ) → (get_or t (j * SymbolTable.Numbers + 0) 0 ≡ name → ⊥) → binds (symbol_at t f j) scope name ≡ false
  unfolding symbol_at binds
  unnamed j d = let z : j * SymbolTable.Numbers + 0 ≡ j * SymbolTable.Numbers = omega arith in rw (ne_eqb _ _ (rw z at d), and-false)

  pub binding_pass : (found i r : ℕ) → r ≡ next_row_f t 0 name (n - i) i → from i found ≡ from r found
  binding_pass found =
      next_pass t 0 name n (λ j. from j found) (λ j h d. binding_turn t f n scope name j found found h m (rw (unnamed j d)))

  -- what was found before a row that binds the name does not matter
  from_row : (i : ℕ) → i < n → binds (symbol_at t f i) scope name ≡ true → (k j found : ℕ) → j + k ≡ i → from j found ≡ from (i + 1) (i + 1)
  from_row i h b zero j found e =
      let q : j ≡ i = omega arith in
      let y : i + 1 ≡ capped i 1 = omega arith in
      rw q (binding_turn t f n scope name i found (i + 1) h m (rw b y))
  from_row i h b (suc k) j found e =
      binding_turn t f n scope name j found _ (omega arith) m refl ∙ from_row i h b k (j + 1) _ (omega arith)

  binding_behind : (i : ℕ) → i < n → binds (symbol_at t f i) scope name ≡ true → get_binding (symbols_f t f n 0) scope name ≡ from (i + 1) (i + 1)
  binding_behind i h b = binding_first t f n scope name ∙ from_row i h b i 0 0 (omega arith)

-- a row with made 0 is bound if no row behind it binds its name
pub bound_last : (t : List ℕ) (n scope name i last : ℕ) → i < n → n ≤ 65535 → get_or t (i * SymbolTable.Numbers + 2) 0 ≡ scope → get_or t (i * SymbolTable.Numbers + 3) 0 ≡ 0
    → get_or t (i * SymbolTable.Numbers) 0 ≡ name → last ≡ binding_from t 2 n scope name (i + 1) (i + 1)
    → eqb last (i + 1) ≡ is_among_bindings (symbols_f t 2 n 0) scope (capped i 1) (symbol_at t 2 i)
unfolding is_among_bindings binds symbol_at
bound_last t n scope name i last h m s z e l =
    let y : capped i 1 ≡ i + 1 = omega arith in
    let b : binds (symbol_at t 2 i) scope name ≡ true = rw (eq-eqb _ _ z, eq-eqb _ _ s, eq-eqb _ _ e) in
    rw (eq-eqb _ _ s, eq-eqb _ _ z, e, binding_behind t 2 n scope name m i h b, y, ← l)

-- ---- the rows that have a name

module _ (t : List ℕ) (n name : ℕ) (m : n ≤ 65535) where
  unseen : (seen : Candidates) (j i : ℕ) → (get_or t (j * SymbolTable.Numbers + 0) 0 ≡ name → ⊥) → add_candidate_f (symbol_at t 2 j) name i seen ≡ seen
  unfolding symbol_at add_candidate_f
  unseen seen j i d = let z : j * SymbolTable.Numbers + 0 ≡ j * SymbolTable.Numbers = omega arith in rw (ne_eqb _ _ (rw z at d))

  pub candidates_pass : (seen : Candidates) (i r : ℕ) → r ≡ next_row_f t 0 name (n - i) i
      → candidates_from t n name i seen ≡ candidates_from t n name r seen
  candidates_pass seen =
      next_pass t 0 name n (λ j. candidates_from t n name j seen)
      (λ j h d. candidates_turn t n name j seen seen h m (sym (unseen seen j (capped j 1) d)))

-- ---- the rows of a scope

module _ (x : Ctx) (n to from : ℕ) (t : List ℕ) where
  elsewhere : (j : ℕ) → (get_or t (j * SymbolTable.Numbers + 2) 0 ≡ from → ⊥) → move_one x from to (moving t j) ≡ moving t (j + 1)
  unfolding move_one move_bound_f moves_f is_among_bindings symbol_at
  elsewhere j d = rw (ne_eqb _ _ d)

  abbrev moved : ℕ → Moving
  moved j = turns (n - j) (move_one x from to) (moving t j)

  pub moves_pass : (i r : ℕ) → r ≡ next_row_f t 2 from (n - i) i → moved i ≡ moved r
  moves_pass =
      next_pass t 2 from n moved
      (λ j h d. rw (elsewhere j d) at (one_turn n j (move_one x from to) (moved j) (moving t j) refl h))
