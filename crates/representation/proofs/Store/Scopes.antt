-- Scope rows in a table: what is read there, and what changes.
-- Assumes nothing.
use Rattle.std.specs.Prelude.{◌≡◌, refl, List, [], ◌∷◌, ◌++◌, ℕ, suc, ◌+◌, ◌*◌, ◌%◌, ◌≤◌, set}
use Rattle.std.proofs.Common.{sym, ap, ◌∙◌, add-zero}
use native.Mathlib.Omega.{arith}
use Rattle.std.proofs.Math.ListN.{length, length-append}
use Rattle.meaning.specs.File.{Scope, scope_row}
use Rattle.meaning.specs.Scoping.{
  Store,
  no_scope,
  row_at,
  scope_in,
  create_child_scope,
  change_scope_parent,
  set_scope_flags,
  insert_scope_between,
}
use Rattle.tables.specs.Table.{capped}
use Rattle.scoping.specs.Rows.{with_scope, scope_number, set_scope_f, scope_at, scopes_f}
use Rattle.scoping.specs.Changes.{create_child_scope_f, change_scope_parent_f, set_scope_flags_f, insert_scope_between_f}
use Rattle.scoping.specs.declared.Ctx.{Ctx}
use Rattle.representation.specs.Store.Held.{scope_cells, ctx_of, scopes_held}
use Rattle.representation.proofs.Store.Cells.{Layout, get_next, number_is, put_is, set_behind, rows_are}
use Rattle.spec_laws.specs.Trees.{length_set_row}

-- ---- the layout

more : (s : Scope) (ss : List Scope) (z : List ℕ) → scope_cells (s ∷ ss) z ≡ s.parent ∷ s.flags ∷ scope_cells ss z
unfolding scope_cells
more s ss z = refl

last : (z : List ℕ) → scope_cells [] z ≡ z
unfolding scope_cells
last z = refl

abbrev layout : Layout Scope (Unit {0})
layout =
    record {
      w = 2;
      cells = λ ss _ z. scope_cells ss z;
      row = λ s _. s.parent ∷ s.flags ∷ [];
      next = λ a. a;
      long = λ s a. refl;
      last = λ a z. last z;
      more = λ s ss a z. more s ss z;
    }

-- ---- what is read

scope_later : (r t : List ℕ) (i : ℕ) → length r ≡ 2 → scope_at (r ++ t) (suc i) ≡ scope_at t i
unfolding scope_at
scope_later r t i long =
    let get = get_next 2 r t long i in
    rw (get 1, ← add-zero (suc i * 2), get 0, add-zero (i * 2))

pub scopes_are : (ss : List Scope) (z : List ℕ) → scopes_f (scope_cells ss z) (length ss) 0 ≡ ss
unfolding scopes_f scope_at
scopes_are ss z = rows_are layout scope_at scopes_f (λ t i. refl) (λ t n i. refl) scope_later (λ s a t. refl) ss tt z

pub parent_is : (ss : List Scope) (z : List ℕ) (s : ℕ)
    → scope_number (scope_cells ss z) (length ss) s 0 ≡ (row_at no_scope ss s).parent
unfolding scope_number
parent_is ss z s = number_is layout no_scope 0 (λ x. x.parent) refl (λ x a t. refl) ss tt z s

pub scope_flags_are : (ss : List Scope) (z : List ℕ) (s : ℕ)
    → scope_number (scope_cells ss z) (length ss) s 1 ≡ (row_at no_scope ss s).flags
unfolding scope_number
scope_flags_are ss z s = number_is layout no_scope 1 (λ x. x.flags) refl (λ x a t. refl) ss tt z s

-- ---- changes

module _ (st : Store) (s : ℕ) where
  pub parent_changed : (z : List ℕ) (parent : ℕ)
      → change_scope_parent_f (scopes_held st z) s parent ≡ scope_cells (change_scope_parent s parent st).1.scopes z
  unfolding change_scope_parent_f set_scope_f change_scope_parent
  parent_changed z parent = put_is layout no_scope 0 parent (λ x. scope_row parent x.flags) (λ x a t. refl) st.scopes tt z s

  pub scope_flags_set : (z : List ℕ) (flags : ℕ)
      → set_scope_flags_f (scopes_held st z) s flags ≡ scope_cells (set_scope_flags s flags st).1.scopes z
  unfolding set_scope_flags_f set_scope_f set_scope_flags
  scope_flags_set z flags = put_is layout no_scope 1 flags (λ x. scope_row x.parent flags) (λ x a t. refl) st.scopes tt z s

  -- no row is new
  pub parent_ctx : (parent : ℕ) → ctx_of (change_scope_parent s parent st).1 ≡ ctx_of st
  unfolding change_scope_parent
  parent_ctx parent = rw (length_set_row st.scopes s (scope_row parent (scope_in st s).flags))

  pub scope_flags_ctx : (flags : ℕ) → ctx_of (set_scope_flags s flags st).1 ≡ ctx_of st
  unfolding set_scope_flags
  scope_flags_ctx flags = rw (length_set_row st.scopes s (scope_row (scope_in st s).parent flags))

-- ---- a new row

new_row : (ss : List Scope) (s : Scope) (z : List ℕ) → scope_cells ss (s.parent ∷ s.flags ∷ z) ≡ scope_cells (ss ++ s ∷ []) z
unfolding scope_cells
new_row [] s z = refl
new_row (x ∷ ss) s z = ap (λ (l : List ℕ). x.parent ∷ x.flags ∷ l) (new_row ss s z)

new_cells : (ss : List Scope) (p q a b : ℕ) (z : List ℕ)
    → set (set (scope_cells ss (p ∷ q ∷ z)) (length ss * 2) a) (length ss * 2 + 1) b ≡ scope_cells (ss ++ scope_row a b ∷ []) z
new_cells ss p q a b z =
    let e = add-zero (length ss * 2) in
    rw (← e, set_behind layout ss tt (p ∷ q ∷ z) 0 a, e, set_behind layout ss tt (a ∷ q ∷ z) 1 b) (new_row ss (scope_row a b) z)

-- its number is the number of rows
pub child_scope_number : (st : Store) (parent flags : ℕ)
    → (create_child_scope parent flags st).0 ≡ length (create_child_scope parent flags st).1.scopes
unfolding create_child_scope
child_scope_number st parent flags =
    omega (arith, length-append st.scopes (scope_row parent (flags + (scope_in st parent).flags % 2) ∷ []))

pub inserted_number : (st : Store) (s flags : ℕ) → (insert_scope_between s flags st).0 ≡ length (insert_scope_between s flags st).1.scopes
unfolding insert_scope_between
inserted_number st s flags =
    let parent = (scope_in st s).parent in
    let made = create_child_scope parent flags st in
    child_scope_number st parent flags ∙ sym (ap (λ (x : Ctx). x.scopes) (parent_ctx made.1 s made.0))

module _ (st : Store) (flags : ℕ) (room : suc (length st.scopes) ≤ 65535) (small : flags ≤ 65534) where
  pub child_scope_made : (parent p q : ℕ) (z : List ℕ)
      → create_child_scope_f (scopes_held st (p ∷ q ∷ z)) parent flags ≡ scopes_held (create_child_scope parent flags st).1 z
  unfolding create_child_scope_f create_child_scope with_scope
  child_scope_made parent p q z =
      let ss = st.scopes in
      let new = scope_row parent (flags + (scope_in st parent).flags % 2) in
      let e : capped flags ((scope_in st parent).flags % 2) ≡ flags + (scope_in st parent).flags % 2 = omega arith in
      let n : capped (length ss) 1 ≡ length (ss ++ new ∷ []) = omega (arith, length-append ss (new ∷ [])) in
      rw (scope_flags_are ss (p ∷ q ∷ z) parent, e, n, new_cells ss p q parent new.flags z)

  pub scope_inserted : (s p q : ℕ) (z : List ℕ)
      → insert_scope_between_f (scopes_held st (p ∷ q ∷ z)) s flags ≡ scopes_held (insert_scope_between s flags st).1 z
  unfolding insert_scope_between_f insert_scope_between
  scope_inserted s p q z =
      let parent = (scope_in st s).parent in
      let made = (create_child_scope parent flags st).1 in
      let n = length made.scopes in
      rw (
        parent_is st.scopes (p ∷ q ∷ z) s,
        child_scope_made parent p q z,
        child_scope_number st parent flags,
        parent_changed made s z n,
        parent_ctx made s n,
      )
