-- The numbers of records and rows, with a bound, and the changes of the store that keep to it.
-- Assumes nothing.
use Rattle.std.specs.Prelude.{if◌then◌else◌, Bool, true, false, ℕ, zero, suc, ◌≤◌, ◌<◌, length, get_or, set, eqb}
use mathlib.Core.List.{List, [], ◌∷◌, ◌++◌}
use native.Mathlib.Omega.{arith}
use Rattle.std.proofs.Math.ListN.{length-append}
use Rattle.meaning.specs.Numbers.Tag
use Rattle.meaning.specs.Tree.{one_of, Head, Forest, none, more, Node, ◌&◌}
use Rattle.meaning.specs.File.{Scope, Symbol, symbol_row}
use Rattle.meaning.specs.Grammar.{scope_of}
use Rattle.meaning.specs.Scoping.{
  Store,
  Change,
  with_scopes,
  with_symbols,
  no_scope,
  no_symbol,
  row_at,
  set_row,
  scope_in,
  symbol_in,
  create_child_scope,
  change_scope_parent,
  set_scope_flags,
  insert_scope_between,
  move_scopes,
  insert_scope_below,
  create_symbol,
  move_binding,
  set_symbol_flags,
  move_bindings,
  set_flags_of,
}
use Rattle.charge_laws.proofs.Growth.Rows.{Grown, child_scope, scope_parent, scope_flags, symbol_made, binding_moved, symbol_flags}

-- ---- numbers with a bound

-- a property of each element
abbrev pub All : {X : Type 0} → (X → Type 0) → List X → Type 0
All P [] = Unit {0}
All P (x ∷ xs) = P x × All P xs

abbrev pub UpTo : ℕ → ℕ → Type 0
UpTo B n = n ≤ B

abbrev pub HeadWithin : ℕ → Head → Type 0
HeadWithin B h = (h.tag ≤ 29) × (h.a ≤ B) × (h.b ≤ B) × (h.c ≤ B)

-- the records of a forest
abbrev pub TreeWithin : ℕ → Forest → Type 0
TreeWithin B none = Unit {0}
TreeWithin B (more h k r) = HeadWithin B h × TreeWithin B k × TreeWithin B r

abbrev pub NodeWithin : ℕ → Node → Type 0
NodeWithin B n = HeadWithin B n.head × TreeWithin B n.children

abbrev pub ScopeWithin : ℕ → Scope → Type 0
ScopeWithin B s = (s.parent ≤ B) × (s.flags ≤ B)

abbrev pub SymbolWithin : ℕ → Symbol → Type 0
SymbolWithin B y = (y.name ≤ B) × (y.flags ≤ B) × (y.scope ≤ B) × (y.made ≤ B)

-- the rows of a store, and the helper's symbol
pub record StoreWithin (B : ℕ) (st : Store) : Type 0 where
  pub scopes : All (ScopeWithin B) st.scopes
  pub symbols : All (SymbolWithin B) st.symbols
  pub helper : st.helper ≤ B

-- ---- lists

pub either : {X : Type 0} (P : X → Type 0) (b : Bool) {x y : X} → P x → P y → P (if b then x else y)
either P true p q = p
either P false p q = q

pub all_++ : {X : Type 0} (P : X → Type 0) (xs ys : List X) → All P xs → All P ys → All P (xs ++ ys)
all_++ P [] ys p q = q
all_++ P (x ∷ xs) ys p q = (p.0, all_++ P xs ys p.1 q)

pub all_get_d : {X : Type 0} (P : X → Type 0) (d : X) (xs : List X) (i : ℕ) → P d → All P xs → P (get_or xs i d)
all_get_d P d [] i e p = e
all_get_d P d (x ∷ xs) zero e p = p.0
all_get_d P d (x ∷ xs) (suc i) e p = all_get_d P d xs i e p.1

pub all_row : {X : Type 0} (P : X → Type 0) (d : X) (xs : List X) (i : ℕ) → P d → All P xs → P (row_at d xs i)
all_row P d xs zero e p = e
all_row P d xs (suc i) e p = all_get_d P d xs i e p

all_set : {X : Type 0} (P : X → Type 0) (xs : List X) (i : ℕ) (x : X) → P x → All P xs → All P (set xs i x)
all_set P [] i x e p = tt
all_set P (y ∷ xs) zero x e p = (e, p.1)
all_set P (y ∷ xs) (suc i) x e p = (p.0, all_set P xs i x e p.1)

all_set_row : {X : Type 0} (P : X → Type 0) (xs : List X) (i : ℕ) (x : X) → P x → All P xs → All P (set_row xs i x)
all_set_row P xs zero x e p = p
all_set_row P xs (suc i) x e p = all_set P xs i x e p

-- ---- changes of the store

-- no row goes
abbrev Longer : Store → Store → Type 0
Longer a b = (length a.scopes ≤ length b.scopes) × (length a.symbols ≤ length b.symbols)

longer : {u : Bool} {s y c : ℕ} {a b : Store} → Grown u s y c a b → Longer a b
longer p = omega arith

-- the numbers of rows
abbrev pub RowsWithin : ℕ → Store → Type 0
RowsWithin B st = (length st.scopes ≤ B) × (length st.symbols ≤ B)

-- A change of the store `st` to `e`, under H: if the numbers of rows are within the bound in the end, P holds of what is handed out,
-- and the store stays within the bound.
pub record Keeps {A : Type 0} (B : ℕ) (H : Type 0) (P : A → Type 0) (st : Store) (e : A × Store) : Type 0 where
  pub longer : Longer st e.1
  pub kept : H → StoreWithin B st → RowsWithin B e.1 → P e.0 × StoreWithin B e.1

-- a rewrite of a record
abbrev pub Rewritten : ℕ → Store → Node × Store → Type 0
Rewritten B st e = Keeps B (Unit {0}) (NodeWithin B) st e

-- what P says where nothing is handed out
abbrev Nothing : Unit {0} → Type 0
Nothing _ = Unit {0}

-- a step, and what comes after it
pub step : {A C : Type 0} {B : ℕ} {H H' : Type 0} {P : A → Type 0} {Q : C → Type 0} {st : Store} {d : A × Store} {e : C × Store}
    → Keeps B H' P st d → (H → H') → Keeps B (H × P d.0) Q d.1 e → Keeps B H Q st e
step p f q =
    record {
      longer = omega arith;
      kept = λ h s r. let (a, m) = p.kept (f h) s (omega arith) in q.kept (h, a) m r;
    }

-- the last step; a value alone; a look at the store; one of two changes
pub last : {A : Type 0} {B : ℕ} {H H' : Type 0} {P : A → Type 0} {st : Store} {e : A × Store}
    → Keeps B H' P st e → (H → H') → Keeps B H P st e
last p f = record { longer = p.longer; kept = λ h. p.kept (f h) }

pub gives : {A : Type 0} {B : ℕ} {H : Type 0} {P : A → Type 0} {st : Store} {a : A} → (H → P a) → Keeps B H P st (a, st)
gives f = record { longer = omega arith; kept = λ h s _. (f h, s) }

pub got : {A : Type 0} {B : ℕ} {H : Type 0} {P : A → Type 0} {st : Store} {e : A × Store}
    → Keeps B (H × StoreWithin B st) P st e → Keeps B H P st e
got p = record { longer = p.longer; kept = λ h s. p.kept (h, s) s }

pub branch : {A : Type 0} {B : ℕ} {H : Type 0} {P : A → Type 0} (b : Bool) (m n : Change A) (st : Store)
    → Keeps B H P st (m st) → Keeps B H P st (n st) → Keeps B H P st ((if b then m else n) st)
branch true m n st p q = p
branch false m n st p q = q

-- The bound is no less than the largest constant: a flag of 32.
module _ {B : ℕ} (big : 32 ≤ B) where
  -- ---- rows and records

  scope_at_lem : (st : Store) (s : ℕ) → StoreWithin B st → ScopeWithin B (scope_in st s)
  scope_at_lem st s m = all_row (ScopeWithin B) no_scope st.scopes s (omega arith) m.scopes

  pub symbol_at_lem : (st : Store) (y : ℕ) → StoreWithin B st → SymbolWithin B (symbol_in st y)
  symbol_at_lem st y m = all_row (SymbolWithin B) no_symbol st.symbols y (omega arith) m.symbols

  pub within_& : (f g : Forest) → TreeWithin B f → TreeWithin B g → TreeWithin B (f & g)
  unfolding ◌&◌
  within_& none g p q = q
  within_& (more h k r) g p q = (p.0, p.1, within_& r g p.2 q)

  pub scope_of_lem : (h : Head) → HeadWithin B h → scope_of h ≤ B
  unfolding scope_of
  scope_of_lem h p =
      either (UpTo B) (one_of (Tag.Program ∷ Tag.Block ∷ Tag.Plain ∷ Tag.For ∷ Tag.ForOf ∷ Tag.Switch ∷ Tag.Catch ∷ Tag.StaticBlock ∷ []) h.tag) p.1
      (either (UpTo B) (one_of (Tag.Function ∷ Tag.Class ∷ []) h.tag) p.2 (omega arith))

  -- ---- scopes

  scopes_kept : (st : Store) (ss : List Scope) → StoreWithin B st → All (ScopeWithin B) ss → StoreWithin B (with_scopes st ss)
  scopes_kept st ss m p = record { scopes = p; symbols = m.symbols; helper = m.helper }

  scope_set : {H : Type 0} (st : Store) (s : ℕ) (x : Scope) → (H → StoreWithin B st → ScopeWithin B x)
      → Longer st (with_scopes st (set_row st.scopes s x)) → Keeps B H Nothing st (tt, with_scopes st (set_row st.scopes s x))
  scope_set st s x f l =
      record {
        longer = l;
        kept = λ h m _. (tt, scopes_kept st _ m (all_set_row (ScopeWithin B) st.scopes s x (f h m) m.scopes));
      }

  pub child_scope_kept : (parent flags : ℕ) (st : Store)
      → Keeps B ((parent ≤ B) × (flags < B)) (UpTo B) st (create_child_scope parent flags st)
  unfolding create_child_scope
  child_scope_kept parent flags st =
      record {
        longer = longer (child_scope parent flags st);
        kept =
            λ h m r. (
              omega (arith, simp length-append at r.0),
              scopes_kept st _ m (all_++ (ScopeWithin B) st.scopes _ m.scopes (omega arith, tt)),
            );
      }

  pub scope_parent_kept : (s parent : ℕ) (st : Store) → Keeps B (parent ≤ B) Nothing st (change_scope_parent s parent st)
  unfolding change_scope_parent
  scope_parent_kept s parent st = scope_set st s _ (λ h m. (h, (scope_at_lem st s m).1)) (longer (scope_parent s parent st))

  pub scope_flags_kept : (s flags : ℕ) (st : Store) → Keeps B (flags ≤ B) Nothing st (set_scope_flags s flags st)
  unfolding set_scope_flags
  scope_flags_kept s flags st = scope_set st s _ (λ h m. ((scope_at_lem st s m).0, h)) (longer (scope_flags s flags st))

  pub scope_between_kept : (s flags : ℕ) (st : Store) → Keeps B (flags < B) (UpTo B) st (insert_scope_between s flags st)
  unfolding insert_scope_between
  scope_between_kept s flags st =
      got
      (step (child_scope_kept _ flags st) (λ (h, m). ((scope_at_lem st s m).0, h))
      (step (scope_parent_kept s _ _) (λ (_, new). new)
      (gives (λ ((_, new), _). new))))

  scopes_moved_kept : (f : Forest) (parent : ℕ) (st : Store) → Keeps B (parent ≤ B) Nothing st (move_scopes f parent st)
  unfolding move_scopes
  scopes_moved_kept none parent st = gives (λ _. tt)
  scopes_moved_kept (more h k r) parent st =
      step (branch (eqb (scope_of h) 0) _ _ st (scopes_moved_kept k parent st) (scope_parent_kept (scope_of h) parent st)) (λ l. l)
      (last (scopes_moved_kept r parent _) (λ (l, _). l))

  pub scope_below_kept : (s : ℕ) (f : Forest) (st : Store) → Keeps B (s ≤ B) (UpTo B) st (insert_scope_below s f st)
  unfolding insert_scope_below
  scope_below_kept s f st =
      step (child_scope_kept s 0 st) (λ l. omega arith)
      (step (scopes_moved_kept f _ _) (λ (_, new). new)
      (gives (λ ((_, new), _). new)))

  -- ---- symbols

  symbols_kept : (st : Store) (ys : List Symbol) → StoreWithin B st → All (SymbolWithin B) ys → StoreWithin B (with_symbols st ys)
  symbols_kept st ys m p = record { scopes = m.scopes; symbols = p; helper = m.helper }

  symbol_set : {H : Type 0} (st : Store) (y : ℕ) (x : Symbol) → (H → StoreWithin B st → SymbolWithin B x)
      → Longer st (with_symbols st (set_row st.symbols y x)) → Keeps B H Nothing st (tt, with_symbols st (set_row st.symbols y x))
  symbol_set st y x f l =
      record {
        longer = l;
        kept = λ h m _. (tt, symbols_kept st _ m (all_set_row (SymbolWithin B) st.symbols y x (f h m) m.symbols));
      }

  pub symbol_kept : (name flags scope made : ℕ) (st : Store)
      → Keeps B (SymbolWithin B (symbol_row name flags scope made)) (UpTo B) st (create_symbol name flags scope made st)
  unfolding create_symbol
  symbol_kept name flags scope made st =
      record {
        longer = longer (symbol_made name flags scope made st);
        kept =
            λ h m r. (
              omega (arith, simp length-append at r.1),
              symbols_kept st _ m (all_++ (SymbolWithin B) st.symbols _ m.symbols (h, tt)),
            );
      }

  pub binding_kept : (y scope : ℕ) (st : Store) → Keeps B (scope ≤ B) Nothing st (move_binding y scope st)
  unfolding move_binding
  binding_kept y scope st =
      symbol_set st y _ (λ h m. let p = symbol_at_lem st y m in (p.0, p.1, h, p.3)) (longer (binding_moved y scope st))

  pub flags_kept : (y flags : ℕ) (st : Store) → Keeps B (flags ≤ B) Nothing st (set_symbol_flags y flags st)
  unfolding set_symbol_flags
  flags_kept y flags st =
      symbol_set st y _ (λ h m. let p = symbol_at_lem st y m in (p.0, h, p.2, p.3)) (longer (symbol_flags y flags st))

  pub bindings_kept : (ys : List ℕ) (scope : ℕ) (st : Store) → Keeps B (scope ≤ B) Nothing st (move_bindings ys scope st)
  unfolding move_bindings
  bindings_kept [] scope st = gives (λ _. tt)
  bindings_kept (y ∷ ys) scope st = step (binding_kept y scope st) (λ l. l) (last (bindings_kept ys scope _) (λ (l, _). l))

  pub flags_of_kept : (ys : List ℕ) (flags : ℕ) (st : Store) → Keeps B (flags ≤ B) Nothing st (set_flags_of ys flags st)
  unfolding set_flags_of
  flags_of_kept [] flags st = gives (λ _. tt)
  flags_of_kept (y ∷ ys) flags st = step (flags_kept y flags st) (λ l. l) (last (flags_of_kept ys flags _) (λ (l, _). l))
