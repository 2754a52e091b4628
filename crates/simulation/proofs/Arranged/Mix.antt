-- Items that stay and items that move, among each other: the rows of those that stay are counted, and all rows get places.
-- Assumes nothing.
use Rattle.std.specs.Prelude.{◌≡◌, true, false, length}
use Rattle.std.proofs.Math.Path.{refl}
use Rattle.std.proofs.Common.{ap, ◌∙◌}
use mathlib.Core.List.{List, [], ◌∷◌, ◌++◌, append_assoc, append-nil}
use Prim.Native.Nat.{ℕ, suc, ◌+◌, ◌-◌, ◌≤◌}
use Rattle.std.proofs.Math.Nat.{add-zero}
use native.Mathlib.Omega.{arith}
use Rattle.std.proofs.Math.ListN.{length-append}
use Rattle.meaning.specs.Tree.{Head, Forest, none, more, count, size}
use Rattle.tables.specs.Loops.{turns}
use Rattle.tables.specs.Table.{end_f}
use Rattle.tables.specs.declared.Row.{Row}
use Rattle.representation.specs.Gap.Cells.{table, line, rows_of, length_rows}
use Rattle.statements.specs.Plan.{counting}
use Rattle.table_laws.specs.Lists.Plan.{cap_sum, end_here}
use Rattle.table_laws.specs.Streamed.Places.{tag_here}
use Rattle.rewrite_program.specs.Placing.{number_rows_f}
use Rattle.table_laws.proofs.Placed.Numbers.{numbered, length_numbered, number_law}
use Rattle.table_laws.proofs.Placed.Merge.{Merge, nil, lefts, rights, numbered_append}
use Rattle.scoping_laws.specs.Itemized.Split.{stays}
use Rattle.rewrite_program.specs.Arrange.{kept_rows_one_f, numbering_f, number_item_f}

-- the rows of ks, which stay, and of ms, which move, among each other
pub data Mix : Forest → Forest → List Row → Type 0 where
  nothing : Mix none none []
  stay : {h : Head} {k ks ms : Forest} {xs : List Row} → stays h.tag ≡ true → Mix ks ms xs
      → Mix (more h k ks) ms (line h (count k) ∷ (rows_of k ++ xs))
  move : {h : Head} {k ks ms : Forest} {xs : List Row} → stays h.tag ≡ false → Mix ks ms xs
      → Mix ks (more h k ms) (line h (count k) ∷ (rows_of k ++ xs))

pub mix_length : {ks ms : Forest} {xs : List Row} → Mix ks ms xs → length xs ≡ size ks + size ms
unfolding size
mix_length nothing = refl
mix_length (stay {k = k} {xs = xs} e x) = omega (arith, mix_length x, length-append (rows_of k) xs, length_rows k)
mix_length (move {k = k} {xs = xs} e x) = omega (arith, mix_length x, length-append (rows_of k) xs, length_rows k)

-- ---- one item

module _ (z : List ℕ) (h : Head) (k : Forest) (a w : List Row) (q : length a + suc (size k) ≤ 65535) where
  abbrev rows : List Row
  rows = line h (count k) ∷ rows_of k

  abbrev t : List ℕ
  t = table (a ++ (rows ++ w)) z

  rows_length : length rows ≡ suc (size k)
  rows_length = ap suc (length_rows k)

  item_end : end_f t (length a) 1 ≡ length (a ++ rows)
  item_end = end_here z h k a w t refl q

  item_rows_lem : end_f t (length a) 1 - length a ≡ length rows
  item_rows_lem = omega (arith, item_end, length-append a rows)

  kept_stays : (s : ℕ) → stays h.tag ≡ true → s + suc (size k) ≤ 65535
      → kept_rows_one_f t (counting (length a) s) ≡ counting (length (a ++ rows)) (s + suc (size k))
  unfolding kept_rows_one_f
  kept_stays s e i =
      rw (tag_here z h k a w t refl q, e, item_rows_lem, item_end, rows_length, cap_sum s (suc (size k)) i)

  kept_moves : (s : ℕ) → stays h.tag ≡ false → kept_rows_one_f t (counting (length a) s) ≡ counting (length (a ++ rows)) s
  unfolding kept_rows_one_f
  kept_moves s e = rw (tag_here z h k a w t refl q, e, item_end)

  -- its rows get places
  abbrev after : ℕ → List ℕ
  after p = table ((a ++ numbered p rows) ++ w) z

  numbered_rows : (p : ℕ) → p + suc (size k) ≤ 65535 → number_rows_f t (length a) (length rows) p ≡ after p
  numbered_rows p i =
      number_law z rows a w p (omega (arith, rows_length)) (omega (arith, rows_length)) ∙ simp append_assoc

  behind_rows : (p : ℕ) → length (a ++ rows) ≡ length (a ++ numbered p rows)
  behind_rows p = omega (arith, length-append a rows, length-append a (numbered p rows), length_numbered p rows)

  number_stays : (p m : ℕ) → stays h.tag ≡ true → p + suc (size k) ≤ 65535
      → number_item_f (numbering_f t (length a) p m) ≡ numbering_f (after p) (length (a ++ numbered p rows)) (p + suc (size k)) m
  unfolding number_item_f
  number_stays p m e i =
      rw (
        tag_here z h k a w t refl q,
        e,
        item_rows_lem,
        numbered_rows p i,
        item_end,
        behind_rows p,
        rows_length,
        cap_sum p (suc (size k)) i,
      )

  number_moves : (p m : ℕ) → stays h.tag ≡ false → m + suc (size k) ≤ 65535
      → number_item_f (numbering_f t (length a) p m) ≡ numbering_f (after m) (length (a ++ numbered m rows)) p (m + suc (size k))
  unfolding number_item_f
  number_moves p m e i =
      rw (
        tag_here z h k a w t refl q,
        e,
        item_rows_lem,
        numbered_rows m i,
        item_end,
        behind_rows m,
        rows_length,
        cap_sum m (suc (size k)) i,
      )

-- ---- all items

-- the rows with the places from p on for those that stay, and from m on for those that move
unfoldable pub places : {ks ms : Forest} {xs : List Row} → Mix ks ms xs → ℕ → ℕ → List Row
places nothing p m = []
places (stay {h = h} {k = k} e x) p m = numbered p (line h (count k) ∷ rows_of k) ++ places x (p + suc (size k)) m
places (move {h = h} {k = k} e x) p m = numbered m (line h (count k) ∷ rows_of k) ++ places x p (m + suc (size k))

numbered_more : (p : ℕ) (h : Head) (k r : Forest)
    → numbered p (rows_of (more h k r)) ≡ numbered p (line h (count k) ∷ rows_of k) ++ numbered (p + suc (size k)) (rows_of r)
unfolding rows_of
numbered_more p h k r = rw (← length_rows k) (numbered_append p (line h (count k) ∷ rows_of k) (rows_of r))

numbered_length : (h : Head) (k : Forest) (p : ℕ) (xs ys : List Row) → length ys ≡ length xs
    → length (numbered p (line h (count k) ∷ rows_of k) ++ ys) ≡ length (line h (count k) ∷ (rows_of k ++ xs))
numbered_length h k p xs ys e =
    let m = line h (count k) ∷ rows_of k in
    omega (arith, length-append (numbered p m) ys, length_numbered p m, length-append (rows_of k) xs)

-- THE NUMBERED ROWS OF THE TWO PARTS stand among each other, each in its order
pub places_merge : {ks ms : Forest} {xs : List Row} (x : Mix ks ms xs) (p m : ℕ)
    → Merge (numbered p (rows_of ks)) (numbered m (rows_of ms)) (places x p m)
unfolding places numbered rows_of
places_merge nothing p m = nil
places_merge (stay {h = h} {k = k} {ks = ks} e x) p m =
    rw (numbered_more p h k ks) (lefts (numbered p (line h (count k) ∷ rows_of k)) (places_merge x (p + suc (size k)) m))
places_merge (move {h = h} {k = k} {ms = ms} e x) p m =
    rw (numbered_more m h k ms) (rights (numbered m (line h (count k) ∷ rows_of k)) (places_merge x p (m + suc (size k))))

pub places_length : {ks ms : Forest} {xs : List Row} (x : Mix ks ms xs) (p m : ℕ) → length (places x p m) ≡ length xs
unfolding places
places_length nothing p m = refl
places_length (stay {h = h} {k = k} {xs = xs} e x) p m = numbered_length h k p xs _ (places_length x (p + suc (size k)) m)
places_length (move {h = h} {k = k} {xs = xs} e x) p m = numbered_length h k m xs _ (places_length x p (m + suc (size k)))

-- one turn of several
turn : {A : Type 0} (c n : ℕ) (f : A → A) (s s' : A) → c ≡ suc n → f s ≡ s' → turns c f s ≡ turns n f s'
unfolding turns
turn c n f s s' e o = rw e (ap (turns n f) o)

module _ (z : List ℕ) where
  -- THE ROWS THAT STAY
  pub kept_mix : {ks ms : Forest} {xs : List Row} → Mix ks ms xs
      → (a v : List Row) (s : ℕ) (u : List ℕ) → u ≡ table (a ++ (xs ++ v)) z → length a + length xs ≤ 65535 → s + size ks ≤ 65535
      → turns (count ks + count ms) (kept_rows_one_f u) (counting (length a) s) ≡ counting (length (a ++ xs)) (s + size ks)
  unfolding turns count size
  kept_mix nothing a v s u o q i = rw (add-zero s, append-nil a)
  kept_mix (stay {h = h} {k = k} {ks = ks} {ms = ms} {xs = xs} e x) a v s u o q i =
      let m = line h (count k) ∷ rows_of k in
      let l = length-append (rows_of k) xs in
      let n = length_rows k in
      let o₁ : u ≡ table (a ++ (m ++ (xs ++ v))) z = o ∙ simp append_assoc in
      turn (suc (count ks) + count ms) (count ks + count ms) (kept_rows_one_f u) _ _ (omega arith)
      (rw o₁ (kept_stays z h k a (xs ++ v) (omega arith) s e (omega arith)))
      ∙ kept_mix x (a ++ m) v (s + suc (size k)) u (o₁ ∙ simp append_assoc) (omega (arith, length-append a m)) (omega arith)
      ∙ rw (append_assoc a m xs) (ap (counting _) (omega arith))
  kept_mix (move {h = h} {k = k} {ks = ks} {ms = ms} {xs = xs} e x) a v s u o q i =
      let m = line h (count k) ∷ rows_of k in
      let l = length-append (rows_of k) xs in
      let n = length_rows k in
      let o₁ : u ≡ table (a ++ (m ++ (xs ++ v))) z = o ∙ simp append_assoc in
      turn (count ks + suc (count ms)) (count ks + count ms) (kept_rows_one_f u) _ _ (omega arith)
      (rw o₁ (kept_moves z h k a (xs ++ v) (omega arith) s e))
      ∙ kept_mix x (a ++ m) v s u (o₁ ∙ simp append_assoc) (omega (arith, length-append a m)) i
      ∙ rw (append_assoc a m xs)

  -- ALL ROWS GET PLACES
  pub number_mix : {ks ms : Forest} {xs : List Row} (x : Mix ks ms xs) (a v : List Row) (p m : ℕ)
      → length a + length xs ≤ 65535 → p + size ks ≤ 65535 → m + size ms ≤ 65535
      → turns (count ks + count ms) number_item_f (numbering_f (table (a ++ (xs ++ v)) z) (length a) p m)
      ≡ numbering_f (table (a ++ (places x p m ++ v)) z) (length (a ++ places x p m)) (p + size ks) (m + size ms)
  unfolding turns count size places
  number_mix nothing a v p m q i j = rw (add-zero p, add-zero m, append-nil a)
  number_mix (stay {h = h} {k = k} {ks = ks} {ms = ms} {xs = xs} e x) a v p m q i j =
      let r = line h (count k) ∷ rows_of k in
      let l = length-append r xs in
      let n = length_rows k in
      let b = numbered p r in
      let y = places x (p + suc (size k)) m in
      let c : p + suc (size k) + size ks ≡ p + suc (size k + size ks) = omega arith in
      turn (suc (count ks) + count ms) (count ks + count ms) number_item_f _ _ (omega arith)
      (rw (append_assoc r xs v) (number_stays z h k a (xs ++ v) (omega arith) p m e (omega arith)))
      ∙ number_mix x (a ++ b) v (p + suc (size k)) m (omega (arith, length-append a b, length_numbered p r)) (omega arith) j
      ∙ rw (append_assoc a b (y ++ v), append_assoc a b y, append_assoc b y v, c)
  number_mix (move {h = h} {k = k} {ks = ks} {ms = ms} {xs = xs} e x) a v p m q i j =
      let r = line h (count k) ∷ rows_of k in
      let l = length-append r xs in
      let n = length_rows k in
      let b = numbered m r in
      let y = places x p (m + suc (size k)) in
      let c : m + suc (size k) + size ms ≡ m + suc (size k + size ms) = omega arith in
      turn (count ks + suc (count ms)) (count ks + count ms) number_item_f _ _ (omega arith)
      (rw (append_assoc r xs v) (number_moves z h k a (xs ++ v) (omega arith) p m e (omega arith)))
      ∙ number_mix x (a ++ b) v p (m + suc (size k)) (omega (arith, length-append a b, length_numbered m r)) i (omega arith)
      ∙ rw (append_assoc a b (y ++ v), append_assoc a b y, append_assoc b y v, c)
