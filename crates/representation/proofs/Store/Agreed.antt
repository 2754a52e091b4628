-- Changes of the store keep the names and the `made` of the rows that were read.
-- Assumes nothing.
use Rattle.std.specs.Prelude.{if◌then◌else◌, ◌≡◌, refl, Bool, true, false, List, [], ◌∷◌, ◌++◌, ℕ, zero, suc, ◌≤◌, length, get_or, set, eqb}
use Rattle.std.proofs.Common.{arith}
use Rattle.meaning.specs.Tree.{Forest, none, more}
use Rattle.meaning.specs.File.{Symbol}
use Rattle.meaning.specs.Grammar.{scope_of}
use Rattle.meaning.specs.Scoping.{
  Store,
  Change,
  no_symbol,
  row_at,
  set_row,
  in_scope,
  with_flags,
  create_child_scope,
  change_scope_parent,
  set_scope_flags,
  insert_scope_between,
  move_scopes,
  insert_scope_below,
  create_symbol,
  move_binding,
  set_symbol_flags,
  move_bindings,
  set_flags_of,
}
use Rattle.representation.specs.Store.Held.{Agrees}

pub agrees_length : (rs ys : List Symbol) → Agrees rs ys → length rs ≤ length ys
agrees_length [] ys a = omega arith
agrees_length (r ∷ rs) [] a = absurd a
agrees_length (r ∷ rs) (y ∷ ys) a = omega (arith, agrees_length rs ys a.2)

-- ---- rows

agrees_new : (rs ys : List Symbol) (y : Symbol) → Agrees rs ys → Agrees rs (ys ++ y ∷ [])
agrees_new [] ys y a = tt
agrees_new (r ∷ rs) [] y a = absurd a
agrees_new (r ∷ rs) (x ∷ ys) y a = (a.0, a.1, agrees_new rs ys y a.2)

-- a row changes, but for its name and `made`
module _ (g : Symbol → Symbol) (same : (y : Symbol) → ((g y).name ≡ y.name) × ((g y).made ≡ y.made)) where
  agrees_set : (rs ys : List Symbol) (i : ℕ) → Agrees rs ys → Agrees rs (set ys i (g (get_or ys i no_symbol)))
  agrees_set [] ys i a = tt
  agrees_set (r ∷ rs) [] i a = absurd a
  agrees_set (r ∷ rs) (y ∷ ys) zero a = rw ((same y).0, (same y).1) a
  agrees_set (r ∷ rs) (y ∷ ys) (suc i) a = (a.0, a.1, agrees_set rs ys i a.2)

  agrees_row : (rs ys : List Symbol) (y : ℕ) → Agrees rs ys → Agrees rs (set_row ys y (g (row_at no_symbol ys y)))
  agrees_row rs ys zero a = a
  agrees_row rs ys (suc i) a = agrees_set rs ys i a

-- ---- changes

abbrev pub Agreed : Store → Type 0
Agreed st = Agrees st.as_read st.symbols

module _ (st : Store) (a : Agreed st) where
  pub child_scope_agreed : (parent flags : ℕ) → Agreed (create_child_scope parent flags st).1
  unfolding create_child_scope
  child_scope_agreed parent flags = a

  pub parent_agreed : (s parent : ℕ) → Agreed (change_scope_parent s parent st).1
  unfolding change_scope_parent
  parent_agreed s parent = a

  pub scope_flags_agreed : (s flags : ℕ) → Agreed (set_scope_flags s flags st).1
  unfolding set_scope_flags
  scope_flags_agreed s flags = a

  pub inserted_agreed : (s flags : ℕ) → Agreed (insert_scope_between s flags st).1
  unfolding insert_scope_between create_child_scope change_scope_parent
  inserted_agreed s flags = a

  pub symbol_agreed : (name flags scope made : ℕ) → Agreed (create_symbol name flags scope made st).1
  unfolding create_symbol
  symbol_agreed name flags scope made = agrees_new st.as_read st.symbols _ a

  pub binding_agreed : (y scope : ℕ) → Agreed (move_binding y scope st).1
  unfolding move_binding
  binding_agreed y scope = agrees_row (λ x. in_scope x scope) (λ x. (refl, refl)) st.as_read st.symbols y a

  pub symbol_flags_agreed : (y flags : ℕ) → Agreed (set_symbol_flags y flags st).1
  unfolding set_symbol_flags
  symbol_flags_agreed y flags = agrees_row (λ x. with_flags x flags) (λ x. (refl, refl)) st.as_read st.symbols y a

-- ---- several changes

either : (b : Bool) (m n : Change (Unit {0})) (st : Store) → Agreed (m st).1 → Agreed (n st).1 → Agreed ((if b then m else n) st).1
either true m n st p q = p
either false m n st p q = q

pub scopes_agreed : (st : Store) → Agreed st → (f : Forest) (parent : ℕ) → Agreed (move_scopes f parent st).1
unfolding move_scopes
scopes_agreed st a none parent = a
scopes_agreed st a (more h k r) parent =
    let s = scope_of h in
    let p = scopes_agreed st a k parent in
    let q = parent_agreed st a s parent in
    scopes_agreed ((if eqb s 0 then move_scopes k parent else change_scope_parent s parent) st).1 (either (eqb s 0) (move_scopes k parent) (change_scope_parent s parent) st p q) r parent

pub below_agreed : (st : Store) → Agreed st → (s : ℕ) (f : Forest) → Agreed (insert_scope_below s f st).1
unfolding insert_scope_below
below_agreed st a s f = scopes_agreed _ (child_scope_agreed st a s 0) f _

pub bindings_agreed : (st : Store) → Agreed st → (ys : List ℕ) (scope : ℕ) → Agreed (move_bindings ys scope st).1
unfolding move_bindings
bindings_agreed st a [] scope = a
bindings_agreed st a (y ∷ ys) scope = bindings_agreed (move_binding y scope st).1 (binding_agreed st a y scope) ys scope

pub flags_agreed : (st : Store) → Agreed st → (ys : List ℕ) (flags : ℕ) → Agreed (set_flags_of ys flags st).1
unfolding set_flags_of
flags_agreed st a [] flags = a
flags_agreed st a (y ∷ ys) flags = flags_agreed (set_symbol_flags y flags st).1 (symbol_flags_agreed st a y flags) ys flags
