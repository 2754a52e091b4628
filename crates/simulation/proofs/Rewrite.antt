-- What entering a record does to the tables, by its tag.
-- Assumes nothing.
use Rattle.std.specs.Prelude.{◌≡◌, refl, Bool, true, false, not, ◌||◌, ◌&&◌, List, [], ◌∷◌, ℕ, ◌+◌, ◌-◌, ◌≤◌, eqb, length}
use Rattle.std.proofs.Common.{sym, ◌∙◌, zero-add, arith}
use Rattle.std.proofs.Math.Path.{ap}
use Rattle.meaning.specs.Tree.{Head, Forest, Node, node, one, single, size}
use Rattle.meaning.specs.Scoping.{Store}
use Rattle.meaning.specs.Statements.{any_using}
use Rattle.meaning.specs.Charges.{ContextKind, Line, context_charge, line_charge, total, wraps, context_lines}
use Rattle.meaning.specs.Due.{is_context, any_context, missing}
use Rattle.meaning.specs.Walk.{Crumb, Spot, at, Act, enter_as, current_scope, hoist_scope}
use Rattle.charge_laws.proofs.Growth.Rows.{one_if}
use Rattle.charge_laws.proofs.Growth.Charged.{PaysFor}
use Rattle.representation.proofs.Store.Agreed.{Agreed}
use Rattle.path.specs.Path.{Tables}
use Rattle.representation.specs.Spots.Spots.{visited_at, rest_at, Rest, held}
use Rattle.scoping_laws.specs.Created.Held.{free_scopes, free_symbols, Room}
use Rattle.simulation.proofs.Rewritten.Replaced.{with_free, rewritten}
use Rattle.simulation.proofs.Tried.Passing.{new_scopes, new_symbols}
use Rattle.spec_laws.specs.Bools.{and-false, and-true}

-- how many records are added
abbrev pub new_records : Forest → Forest → ℕ
new_records f f' = size f' - size f

-- n records, s scopes and y symbols are added
abbrev pub Takes : Head → Forest → Store → Node × Store → ℕ → ℕ → ℕ → Type 0
Takes h k st e n s y =
    (size (single e.0) ≡ size (one h k) + n) × (length e.1.scopes ≡ length st.scopes + s)
    × (length e.1.symbols ≡ length st.symbols + y)

-- a test and a count that say the same
pub counts_some : (b : Bool) (n : ℕ) → b ≡ not (eqb n 0) → eqb n 0 ≡ not b
counts_some b n e = sym (twice (eqb n 0)) ∙ ap not (sym e)
  where
    twice : (c : Bool) → not (not c) ≡ c
    twice true = refl
    twice false = refl

module _ (done : Forest) (h : Head) (k r : Forest) (path : List Crumb) (st : Store) (g : ℕ) (z : Rest) where
  abbrev here : Spot
  here = at done h k r path st

  -- with so many free rows
  abbrev Does : (Tables → Tables) → Node × Store → ℕ → ℕ → ℕ → Type 0
  Does f e n s y =
      length (visited_at here) + (n + g) + length (rest_at here) ≤ 65535 → Agreed st → Room e.1
      → f (held here (n + g) (with_free s y z)) ≡ held (rewritten done r path e) g z

  -- THE REWRITE e IS DONE BY f, with free rows for what is added
  abbrev pub DoneBy : (Tables → Tables) → Node × Store → Type 0
  DoneBy f e = Does f e (new_records (one h k) (single e.0)) (new_scopes st e.1) (new_symbols st e.1)

  -- and so for 01's act
  abbrev pub By : (Tables → Tables) → Act → Type 0
  By f a = DoneBy f (enter_as a (current_scope path) (hoist_scope path) h k st)

  by_takes : (f : Tables → Tables) (e : Node × Store) (n s y : ℕ) → Takes h k st e n s y → Does f e n s y → DoneBy f e
  by_takes f e n s y t d =
      let e₁ : new_records (one h k) (single e.0) ≡ n = omega arith in
      let e₂ : new_scopes st e.1 ≡ s = omega arith in
      let e₃ : new_symbols st e.1 ≡ y = omega arith in
      rw (e₁, e₂, e₃) d

  pub done_by : (f : Tables → Tables) (e : Node × Store) (n s y : ℕ) → (Agreed st → Takes h k st e n s y) → Does f e n s y → DoneBy f e
  done_by f e n s y t d = λ fits a room. by_takes f e n s y (t a) d fits a room

  -- nothing is to be done
  pub kept_by : (f : Tables → Tables)
      → (length (visited_at here) + g + length (rest_at here) ≤ 65535 → Agreed st → f (held here g z) ≡ held here g z)
      → DoneBy f (node h k, st)
  unfolding free_scopes free_symbols
  kept_by f e =
      done_by f (node h k, st) 0 0 0 (λ a. omega arith)
      (λ fits a room. ap (λ (i : ℕ). f (held here i z)) (zero-add g) ∙ e (omega arith) a)

-- a context takes two symbols, and the runtime helper's if that is missing
pub context_takes : (h : Head) (k : Forest) (st : Store) (e : Node × Store) (ls : List Line) (n s : ℕ) → PaysFor ls (one h k) st e
    → any_context ls ≡ true → ((total ls).records ≡ n) × ((total ls).scopes ≡ s) × ((total ls).symbols ≡ 2)
    → Takes h k st e n s (2 + one_if (missing st))
context_takes h k st e ls n s p c t =
    let u : (missing st && any_context ls) ≡ missing st = ap (λ (b : Bool). missing st && b) c ∙ and-true (missing st) in
    (omega (arith, p.records), omega (arith, p.rows.scopes), omega (arith, rw u at p.rows.symbols))

-- a list with a using, by the kind of its context
pub list_takes : (h : Head) (k : Forest) (st : Store) (e : Node × Store) (kind : ContextKind) (list : Forest)
    → PaysFor (context_lines kind list) (one h k) st e → any_using list ≡ true → (context_charge kind).symbols ≡ 2
    → Takes h k st e (wraps list + (context_charge kind).records) (context_charge kind).scopes (2 + one_if (missing st))
unfolding context_lines total line_charge any_context is_context
list_takes h k st e kind list p u two =
    context_takes h k st e (context_lines kind list) _ _ p (rw u) (rw u (omega arith))

-- one line without a context
pub line_takes : (h : Head) (k : Forest) (st : Store) (e : Node × Store) (l : Line) → PaysFor (l ∷ []) (one h k) st e → is_context l ≡ false
    → Takes h k st e (line_charge l).records (line_charge l).scopes (line_charge l).symbols
unfolding total any_context
line_takes h k st e l p c =
    let u : (missing st && (is_context l || false)) ≡ false = rw c (and-false (missing st)) in
    (omega (arith, p.records), omega (arith, p.rows.scopes), omega (arith, rw u at p.rows.symbols))
