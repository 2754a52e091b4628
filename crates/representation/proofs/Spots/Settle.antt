-- Leaving open records whose children are all done.
-- Assumes nothing.
use Rattle.std.specs.Prelude.{if◌then◌else◌, ◌≡◌, Bool, not, ◌||◌, eqb, length}
use Rattle.std.proofs.Math.Path.{refl, ap}
use Rattle.std.proofs.Common.{sym, ap₂, ◌∙◌, add-zero, not-suc-le-zero, arith, ne_eqb}
use mathlib.Core.List.{List, [], ◌∷◌, ◌++◌, append_assoc, append-nil}
use Rattle.std.proofs.Math.Bool.{true, false}
use Prim.Native.Nat.{ℕ, zero, suc, ◌+◌, ◌≤◌}
use Rattle.meaning.specs.Tree.{Head, Forest, none, more, one, count, ◌&◌}
use Rattle.meaning.specs.Scoping.{Store}
use Rattle.meaning.specs.Walk.{is_static_block, Crumb, crumb, Spot, at, leaving, over, settle}
use Rattle.tables.specs.Loops.{until, stopped}
use Rattle.tables.specs.Table.{set_column_f}
use Rattle.tables.specs.declared.Row.{Row}
use Rattle.path.specs.Path.{OpenRows, open_rows, close_f, stays_f, settle_f}
use Rattle.representation.specs.Gap.Cells.{table, free, line, rows_of, count_&, rows_&}
use Rattle.representation.proofs.Gap.Rows.{set_up}
use Rattle.representation.specs.Spots.Spots.{open_line, open_rows_of, after_rows_of, opens_at, visited_at, rest_at}
use Rattle.representation.proofs.Spots.Scopes.{outer, under, some_open, at_inner, inner_tag, inner_up, inner_left}

-- ---- the records, with the innermost open row

-- where the walk stands
abbrev pub records_at : Spot → ℕ → List ℕ → OpenRows
records_at s g z = open_rows (table (visited_at s ++ (free g ++ rest_at s)) z) (length (opens_at s))

-- below the innermost record of a path, where `done` is done and f is to come
abbrev pub records_in : Forest → Forest → List Crumb → ℕ → List ℕ → OpenRows
records_in earlier f path g z =
    let opens = open_rows_of path (count earlier + count f) (count f) in
    open_rows (table (opens ++ (rows_of earlier ++ (free g ++ (rows_of f ++ after_rows_of path)))) z) (length opens)

module _ (g : ℕ) (z : List ℕ) (earlier : Forest) (st : Store) where
  in_at : (h : Head) (k r : Forest) (path : List Crumb) → records_in earlier (more h k r) path g z ≡ records_at (at earlier h k r path st) g z
  unfolding opens_at visited_at rest_at count
  in_at h k r path = rw append_assoc

  in_leaving : (h : Head) (before after : Forest) (path : List Crumb)
      → records_in earlier none (crumb h before after ∷ path) g z ≡ records_at (leaving earlier h before after path st) g z
  unfolding opens_at visited_at rest_at after_rows_of rows_of count
  in_leaving h before after path = rw (add-zero, append_assoc)

  in_over : records_in earlier none [] g z ≡ records_at (over earlier st) g z
  unfolding opens_at visited_at rest_at open_rows_of after_rows_of rows_of
  in_over = refl

-- ---- one row is left

-- its record counts among those done
pub counted : (h : Head) (kids before after : Forest) → count before + suc (count after) ≡ count (before & one h kids) + count after
unfolding count
counted h kids before after = omega (arith, count_& before (one h kids))

joined : (h : Head) (kids before : Forest) (u v : List Row)
    → (u ++ rows_of before) ++ line h (count kids) ∷ (rows_of kids ++ v) ≡ u ++ (rows_of (before & one h kids) ++ v)
unfolding rows_of
joined h kids before u v = simp (rows_&, append_assoc, append-nil)

-- A RECORD IS LEFT
pub close_law : (g : ℕ) (z : List ℕ) (kids : Forest) (h : Head) (before after : Forest) (path : List Crumb) (st : Store)
    → close_f (records_at (leaving kids h before after path st) g z) ≡ records_in (before & one h kids) after path g z
unfolding close_f opens_at visited_at rest_at
close_law g z kids h before after path st =
    let n = count kids in
    let opens = open_rows_of (crumb h before after ∷ path) n 0 in
    let inner = open_line h n (length (outer before after path)) 0 in
    let w = free g ++ (rows_of after ++ after_rows_of path) in
    let v = rows_of kids ++ w in
    let earlier = before & one h kids in
    ap (λ (u : List Row). close_f (open_rows (table u z) (length opens))) (append_assoc opens (rows_of kids) w)
    ∙ ap₂ open_rows
    (at_inner h before after path n 0 v z (λ t i. set_column_f t i 5 0)
    ∙ set_up z (under before after path) inner v 0
    ∙ ap (λ (u : List Row). table u z) (joined h kids before (outer before after path) w))
    (inner_up h before after path n 0 v z)
    ∙ ap
    (λ (i : ℕ). let out = open_rows_of path i (count after) in open_rows (table (out ++ (rows_of earlier ++ w)) z) (length out))
    (counted h kids before after)

-- ---- all of them

stay : (m : ℕ) (o : OpenRows) → stays_f o.t o.at ≡ true → settle_f m o ≡ o
unfolding settle_f
stay m o e = sym (stopped m (λ p. stays_f p.t p.at) close_f _ o refl e)

go : (m : ℕ) (o : OpenRows) → stays_f o.t o.at ≡ false → settle_f (suc m) o ≡ settle_f m (close_f o)
unfolding settle_f until
go m o e = rw e

inner_stays : (h : Head) (before after : Forest) (path : List Crumb) (n l : ℕ) (v : List Row) (z : List ℕ)
    → (let opens = open_rows_of (crumb h before after ∷ path) n l in
    stays_f (table (opens ++ v) z) (length opens) ≡ (not (eqb l 0) || is_static_block h))
unfolding stays_f
inner_stays h before after path n l v z =
    rw (some_open h before after path n l, inner_left h before after path n l v z, inner_tag h before after path n l v z)

module _ (g : ℕ) (z : List ℕ) where
  stay_none : (m : ℕ) (earlier f : Forest) → settle_f m (records_in earlier f [] g z) ≡ records_in earlier f [] g z
  unfolding open_rows_of stays_f
  stay_none m earlier f = stay m (records_in earlier f [] g z) refl

  stay_more : (m : ℕ) (earlier : Forest) (h : Head) (k r : Forest) (c : Crumb) (path : List Crumb)
      → settle_f m (records_in earlier (more h k r) (c ∷ path) g z) ≡ records_in earlier (more h k r) (c ∷ path) g z
  unfolding count
  stay_more m earlier h k r (crumb h₀ before after) path =
      stay m _ (inner_stays h₀ before after path _ (suc (count r)) _ z ∙ rw (ne_eqb (suc (count r)) 0 (λ e. omega arith)))

  -- a StaticBlock, or any other record
  settle_crumb : (b : Bool) (h : Head) (before after : Forest) (path : List Crumb) (earlier : Forest) (st : Store) (m : ℕ)
      → is_static_block h ≡ b
      → (let s = settle (before & one h earlier) after path st in
      settle_f m (records_in (before & one h earlier) after path g z) ≡ records_at s g z
      → settle_f (suc m) (records_in earlier none (crumb h before after ∷ path) g z)
      ≡ records_at (if b then leaving earlier h before after path st else s) g z)
  unfolding count
  settle_crumb true h before after path earlier st m e i =
      stay (suc m) _ (inner_stays h before after path _ 0 _ z ∙ rw e) ∙ in_leaving g z earlier st h before after path
  settle_crumb false h before after path earlier st m e i =
      go m _ (inner_stays h before after path _ 0 _ z ∙ rw e)
      ∙ ap (λ (o : OpenRows). settle_f m (close_f o)) (in_leaving g z earlier st h before after path)
      ∙ ap (settle_f m) (close_law g z earlier h before after path st)
      ∙ i

  -- RECORDS WHOSE CHILDREN ARE ALL DONE ARE LEFT, with a turn for each open record
  pub settle_law : (path : List Crumb) (earlier f : Forest) (st : Store) (m : ℕ) → length path ≤ m
      → settle_f m (records_in earlier f path g z) ≡ records_at (settle earlier f path st) g z
  unfolding settle
  settle_law [] earlier none st m q = stay_none m earlier none ∙ in_over g z earlier st
  settle_law [] earlier (more h k r) st m q = stay_none m earlier (more h k r) ∙ in_at g z earlier st h k r []
  settle_law (crumb h before after ∷ path) earlier none st zero q = absurd (not-suc-le-zero q)
  settle_law (crumb h before after ∷ path) earlier none st (suc m) q =
      settle_crumb (is_static_block h) h before after path earlier st m refl (settle_law path (before & one h earlier) after st m (omega arith))
  settle_law (c ∷ path) earlier (more h k r) st m q = stay_more m earlier h k r c path ∙ in_at g z earlier st h k r (c ∷ path)

  -- A STATICBLOCK IS LEFT AS IT STANDS
  pub leave_law : (kids : Forest) (h : Head) (before after : Forest) (path : List Crumb) (st : Store) (m : ℕ) → length path ≤ m
      → settle_f m (close_f (records_at (leaving kids h before after path st) g z))
      ≡ records_at (settle (before & one h kids) after path st) g z
  leave_law kids h before after path st m q =
      ap (settle_f m) (close_law g z kids h before after path st) ∙ settle_law path (before & one h kids) after st m q
