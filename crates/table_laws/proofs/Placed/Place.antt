-- Rows are exchanged until each stands in the place that it carries.
-- Assumes nothing.
use Rattle.std.specs.Prelude.{◌≡◌}
use Rattle.std.proofs.Math.Path.{refl, ap}
use Rattle.std.proofs.Common.{sym, ap₂, ◌∙◌, arith, length-append}
use mathlib.Core.List.{List, [], ◌∷◌, ◌++◌, append_assoc}
use Prim.Native.Nat.{ℕ, zero, suc, ◌+◌, ◌-◌, ◌≤◌, ◌<◌}
use Rattle.std.proofs.Math.Decide.{ℕ_discrete}
use borrow.Author.Tests.{eq-eqb, ne_eqb, le-leb, lt-leb}
use Rattle.std.proofs.Math.ListN.{length}
use Rattle.std.proofs.Math.Seq.{append_snoc}
use Rattle.tables.specs.Loops.{until, stopped}
use Rattle.tables.specs.Table.{cap_one, row_f, set_row_f}
use Rattle.tables.specs.declared.Row.{Row}
use Rattle.representation.specs.Gap.Cells.{table}
use Rattle.representation.proofs.Gap.Rows.{set_row_lem, row_at_lem, up_at, length_snoc}
use Rattle.rewrite_program.specs.Placing.{RowsAt, rows_at, exchange_f, place_one_f, passed_to, place_f, clear_places_f}
use Rattle.table_laws.proofs.Placed.Numbers.{Closed, numbered, cleared_numbered, clear_law}
use Rattle.table_laws.proofs.Placed.Places.{
  stray,
  total,
  Arranged,
  total_stray,
  stands_from,
  stands_below,
  uncons,
  arranged_rest,
  arranged_exchanged,
  stray_exchanged,
}
use Rattle.table_laws.proofs.Placed.Merge.{Merge, arranged_merge}

-- ---- one turn

module _ (z : List ℕ) (a l : List Row) where
  far : (x : Row) → length (a ++ x ∷ l) ≡ suc (length a) + length l
  far x = length-append a (x ∷ l) ∙ omega arith

  far_row : (x y : Row) (w : List Row) → row_f (table (a ++ x ∷ (l ++ y ∷ w)) z) (suc (length a) + length l) ≡ y
  far_row x y w = rw (← far x, ← append_assoc a (x ∷ l) (y ∷ w)) (row_at_lem z (a ++ x ∷ l) y w)

  far_set : (x y : Row) (w : List Row) (r : Row)
      → set_row_f (table (a ++ x ∷ (l ++ y ∷ w)) z) (suc (length a) + length l) r ≡ table (a ++ x ∷ (l ++ r ∷ w)) z
  far_set x y w r =
      rw (← far x, ← append_assoc a (x ∷ l) (y ∷ w), ← append_assoc a (x ∷ l) (r ∷ w)) (set_row_lem z (a ++ x ∷ l) y w r)

  exchange_law : (x y : Row) (w : List Row)
      → exchange_f (table (a ++ x ∷ (l ++ y ∷ w)) z) (length a) (suc (length a) + length l) ≡ table (a ++ y ∷ (l ++ x ∷ w)) z
  unfolding exchange_f
  exchange_law x y w =
      rw (row_at_lem z a x (l ++ y ∷ w), far_row x y w, set_row_lem z a x (l ++ y ∷ w) y) (far_set y y w x)

  exchange_one : (x y : Row) (w : List Row) → x.up ≡ suc (length a) + length l
      → place_one_f (rows_at (table (a ++ x ∷ (l ++ y ∷ w)) z) (length a)) ≡ rows_at (table (a ++ y ∷ (l ++ x ∷ w)) z) (length a)
  unfolding place_one_f
  exchange_one x y w e =
      let t = table (a ++ x ∷ (l ++ y ∷ w)) z in
      rw (up_at z a x (l ++ y ∷ w), ne_eqb x.up (length a) (λ i. omega arith))
      (ap (λ (u : List ℕ). rows_at u (length a)) (ap (exchange_f t (length a)) e ∙ exchange_law x y w))

pass_one : (z : List ℕ) (a : List Row) (x : Row) (w : List Row) → x.up ≡ length a → length a < 65535
    → place_one_f (rows_at (table (a ++ x ∷ w) z) (length a)) ≡ rows_at (table ((a ++ x ∷ []) ++ w) z) (length (a ++ x ∷ []))
unfolding place_one_f
pass_one z a x w e h =
    rw (up_at z a x w, eq-eqb x.up (length a) e, cap_one (length a) h, append_snoc a x w, length_snoc a x)

-- ---- all turns

-- a list cut at a row
data Cut : ℕ → List Row → Type 0 where
  cut : (l : List Row) (y : Row) (r : List Row) → Cut (length l) (l ++ y ∷ r)

cut_at : (p : ℕ) (xs : List Row) → p < length xs → Cut p xs
cut_at p [] h = absurd (omega arith)
cut_at zero (x ∷ xs) h = cut [] x xs
cut_at (suc p) (x ∷ xs) h = go (cut_at p xs (omega arith))
  where
    go : {q : ℕ} {m : List Row} → Cut q m → Cut (suc q) (x ∷ m)
    go (cut l y r) = cut (x ∷ l) y r

nothing : (ys : List Row) → 0 ≡ length ys → ys ≡ []
nothing [] h = refl
nothing (y ∷ ys) h = absurd (omega arith)

module _ (z : List ℕ) (v : List Row) (to : ℕ) (fits : to ≤ 65535) where
  -- in n turns rows come to stand in their places; enough turns are one for each row and one more for each that is out of place
  abbrev Ends : ℕ → RowsAt → List Row → Type 0
  Ends n s ys = (until n (passed_to to) place_one_f s).t ≡ table ys z

  abbrev Enough : ℕ → Type 0
  Enough n =
      (a xs ys : List Row) → Arranged (length a) xs ys → length a + length xs ≡ to → length xs + total stray (length a) xs ≤ n
      → Ends n (rows_at (table (a ++ (xs ++ v)) z) (length a)) (a ++ (ys ++ v))

  -- no row is left
  all_passed : (n : ℕ) (a ys : List Row) → Arranged (length a) [] ys → length a + 0 ≡ to
      → Ends n (rows_at (table (a ++ v) z) (length a)) (a ++ (ys ++ v))
  all_passed n a ys c e =
      let s = rows_at (table (a ++ v) z) (length a) in
      rw (nothing ys c.same)
      (sym (ap (λ (u : RowsAt). u.t) (stopped n (passed_to to) place_one_f _ s refl (le-leb to (length a) (omega arith)))))

  module _ (n : ℕ) (more : Enough n) (a : List Row) (x : Row) where
    -- the next row stands in its place
    passed : (xs ys : List Row) → Arranged (length a) (x ∷ xs) ys → length a + suc (length xs) ≡ to
        → suc (length xs) + total stray (length a) (x ∷ xs) ≤ suc n → x.up ≡ length a
        → Ends n (place_one_f (rows_at (table (a ++ x ∷ (xs ++ v)) z) (length a))) (a ++ (ys ++ v))
    unfolding total
    passed xs ys c e k h =
        let l : length (a ++ x ∷ []) ≡ suc (length a) = omega (arith, length_snoc a x) in
        let q = arranged_rest (length a) x xs ys c h in
        ap (λ (s : RowsAt). (until n (passed_to to) place_one_f s).t) (pass_one z a x (xs ++ v) h (omega arith))
        ∙ more (a ++ x ∷ []) xs q.0 (rw l q.2) (omega arith) (rw l (omega arith))
        ∙ ap (λ (u : List Row). table u z) (append_snoc a x (q.0 ++ v))
        ∙ ap (λ (u : List Row). table (a ++ (u ++ v)) z) (sym q.1)

    -- its place is behind p others
    exchanged : (p : ℕ) (xs ys : List Row) → Cut p xs → Arranged (length a) (x ∷ xs) ys → length a + suc (length xs) ≡ to
        → suc (length xs) + total stray (length a) (x ∷ xs) ≤ suc n → x.up ≡ suc (length a) + p
        → Ends n (place_one_f (rows_at (table (a ++ x ∷ (xs ++ v)) z) (length a))) (a ++ (ys ++ v))
    exchanged p xs ys (cut l y r) c e k h =
        let b = length a in
        let s = length-append l (x ∷ r) in
        let t = length-append l (y ∷ r) in
        let f = stray_exchanged b x l y r ys c h in
        let w = more a (y ∷ (l ++ x ∷ r)) ys (arranged_exchanged b x l y r ys c) (omega arith) (omega arith) in
        rw (append_assoc l (y ∷ r) v)
        (ap (λ (u : RowsAt). (until n (passed_to to) place_one_f u).t) (exchange_one z a l x y (r ++ v) h)
        ∙ rw (append_assoc l (x ∷ r) v) at w)

  one_more_lem : (n : ℕ) → Enough n → Enough (suc n)
  unfolding until
  one_more_lem n more a [] ys c e k = all_passed (suc n) a ys c e
  one_more_lem n more a (x ∷ xs) ys c e k = rw (lt-leb to (length a) (omega arith)) (by (ℕ_discrete x.up (length a)))
    where
      by : Dec (x.up ≡ length a) → Ends n (place_one_f (rows_at (table (a ++ x ∷ (xs ++ v)) z) (length a))) (a ++ (ys ++ v))
      by (yes h) = passed n more a x xs ys c e k h
      by (no h) =
          let s = (uncons c.stand).0 in
          let f = stands_from s in
          let t = stands_below s in
          let p = x.up - suc (length a) in
          exchanged n more a x p xs ys (cut_at p xs (omega (arith, c.same))) c e k (omega arith)

  enough : (n : ℕ) → Enough n
  enough zero a [] ys c e k = all_passed zero a ys c e
  enough zero a (x ∷ xs) ys c e k = absurd (omega arith)
  enough (suc n) a xs ys c e k = one_more_lem n (enough n) a xs ys c e k

-- ---- the laws

-- rows of two lists that carry the places of m, in which the second list stands behind the first
module _ (z : List ℕ) (a m v : List Row) {ks ms xs : List Row} (g : Merge ks ms xs) (e : ks ++ ms ≡ numbered (length a) m)
    (h : length a + length xs ≤ 65535) where
  -- THEY COME TO STAND IN THEIR PLACES
  pub place_law : place_f (table (a ++ (xs ++ v)) z) (length a) (length a + length xs) ≡ table (a ++ (numbered (length a) m ++ v)) z
  unfolding place_f
  place_law =
      enough z v (length a + length xs) h 131070 a xs (numbered (length a) m) (arranged_merge (length a) m g e) refl
      (omega (arith, total_stray (length a) xs))

  -- AND CARRY NONE ANY MORE
  pub place_clear_law : Closed m
      → clear_places_f (place_f (table (a ++ (xs ++ v)) z) (length a) (length a + length xs)) (length a) (length xs) ≡ table (a ++ (m ++ v)) z
  place_clear_law o =
      let c = arranged_merge (length a) m g e in
      ap₂ (λ (t : List ℕ) (n : ℕ). clear_places_f t (length a) n) place_law c.same
      ∙ clear_law z (numbered (length a) m) a v (omega (arith, c.same))
      ∙ rw (cleared_numbered (length a) o)
