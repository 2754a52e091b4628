-- How many rows are visited, how many are to visit, and so where the walk stands.
-- Assumes nothing.
use Rattle.std.specs.Prelude.{if◌then◌else◌, ◌≡◌, Bool, true, false}
use Rattle.std.proofs.Math.Path.{refl, sym}
use Rattle.std.proofs.Common.{◌∙◌, zero-add, arith, length-append}
use mathlib.Core.List.{List, [], ◌∷◌}
use Prim.Native.Nat.{ℕ, suc, ◌+◌}
use Rattle.std.proofs.Math.ListN.{length}
use Rattle.meaning.specs.Tree.{Head, Forest, none, more, one, count, size, ◌&◌}
use Rattle.meaning.specs.Scoping.{Store}
use Rattle.meaning.specs.Walk.{is_static_block, Crumb, crumb, Spot, at, leaving, settle, store_at}
use Rattle.path.specs.declared.Walk.{Walk}
use Rattle.representation.specs.Gap.Cells.{length_rows, size_&}
use Rattle.representation.specs.Spots.Spots.{open_rows_of, after_rows_of, opens_at, visited_at, rest_at}
use Rattle.representation.proofs.Spots.Scopes.{same_number, outer, inner_number}

-- ---- at a spot

-- either way
both : {A : Type 0} {x : A} {s s' : Spot} (f : Spot → A) (b : Bool) → f s ≡ x → f s' ≡ x → f (if b then s else s') ≡ x
both f true e e' = e
both f false e e' = e'

-- the number of an open row, by that of the row around it
pub inner_length : (h : Head) (before after : Forest) (path : List Crumb) (n l : ℕ)
    → length (open_rows_of (crumb h before after ∷ path) n l) ≡ suc (length (outer before after path) + size before)
inner_length h before after path n l = inner_number h before after path n l ∙ rw (length-append, length_rows)

pub after_length : (h : Head) (before after : Forest) (path : List Crumb)
    → length (after_rows_of (crumb h before after ∷ path)) ≡ size after + length (after_rows_of path)
unfolding after_rows_of
after_length h before after path = rw (length-append, length_rows)

module _ (st : Store) where
  pub visited_at_lem : (earlier : Forest) (h : Head) (k r : Forest) (path : List Crumb) (n l : ℕ)
      → length (visited_at (at earlier h k r path st)) ≡ length (open_rows_of path n l) + size earlier
  unfolding visited_at opens_at
  visited_at_lem earlier h k r path n l =
      rw (length-append, length_rows, same_number path (count earlier + suc (count r)) (suc (count r)) n l)

  pub rest_at_lem : (earlier : Forest) (h : Head) (k r : Forest) (path : List Crumb)
      → length (rest_at (at earlier h k r path st)) ≡ size (more h k r) + length (after_rows_of path)
  unfolding rest_at
  rest_at_lem earlier h k r path = rw (length-append, length_rows)

  pub visited_leaving : (kids : Forest) (h : Head) (before after : Forest) (path : List Crumb) (n l : ℕ)
      → length (visited_at (leaving kids h before after path st)) ≡ length (open_rows_of (crumb h before after ∷ path) n l) + size kids
  unfolding visited_at opens_at
  visited_leaving kids h before after path n l =
      rw (length-append, length_rows, same_number (crumb h before after ∷ path) (count kids) 0 n l)

  -- ---- after settling

  -- THE ROWS VISITED, whatever the children of the innermost record
  pub visited_settled : (path : List Crumb) (earlier f : Forest) (n l : ℕ)
      → length (visited_at (settle earlier f path st)) ≡ length (open_rows_of path n l) + size earlier
  unfolding settle open_rows_of visited_at size
  visited_settled [] earlier none n l = omega (arith, length_rows earlier)
  visited_settled [] earlier (more h k r) n l = visited_at_lem earlier h k r [] n l
  visited_settled (crumb h before after ∷ path) earlier none n l =
      let i = visited_settled path (before & one h earlier) after (count before + suc (count after)) (count after) in
      both
      (λ s. length (visited_at s))
      (is_static_block h)
      (visited_leaving earlier h before after path n l)
      (omega (arith, i, size_& before (one h earlier), inner_length h before after path n l))
  visited_settled (c ∷ path) earlier (more h k r) n l = visited_at_lem earlier h k r (c ∷ path) n l

  -- THE ROWS TO VISIT
  pub rest_settled : (path : List Crumb) (earlier f : Forest)
      → length (rest_at (settle earlier f path st)) ≡ size f + length (after_rows_of path)
  unfolding settle after_rows_of rest_at size
  rest_settled [] earlier none = refl
  rest_settled [] earlier (more h k r) = rest_at_lem earlier h k r []
  rest_settled (crumb h before after ∷ path) earlier none =
      let i = rest_settled path (before & one h earlier) after in
      both
      (λ s. length (rest_at s))
      (is_static_block h)
      (sym (zero-add _))
      (i ∙ sym (zero-add _ ∙ after_length h before after path))
  rest_settled (c ∷ path) earlier (more h k r) = rest_at_lem earlier h k r (c ∷ path)

  -- THE STORE
  pub store_settled : (path : List Crumb) (earlier f : Forest) → store_at (settle earlier f path st) ≡ st
  unfolding settle store_at
  store_settled [] earlier none = refl
  store_settled [] earlier (more h k r) = refl
  store_settled (crumb h before after ∷ path) earlier none =
      both store_at (is_static_block h) refl (store_settled path (before & one h earlier) after)
  store_settled (c ∷ path) earlier (more h k r) = refl

-- ---- the walk

pub walk_eq : {w w' : Walk}
    → w.visited.0 ≡ w'.visited.0
    → w.gap.0 ≡ w'.gap.0
    → w.end.0 ≡ w'.end.0
    → w.inner.0 ≡ w'.inner.0
    → w.ctx ≡ w'.ctx
    → w ≡ w'
walk_eq e₁ e₂ e₃ e₄ e₅ =
    λ i. record {
      visited = record { 0 = e₁ i };
      gap = record { 0 = e₂ i };
      end = record { 0 = e₃ i };
      inner = record { 0 = e₄ i };
      ctx = e₅ i;
    }
