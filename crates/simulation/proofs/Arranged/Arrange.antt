-- The items of a Program, with the Block's row behind them, are arranged: first those that stay.
-- Assumes nothing.
use Rattle.std.specs.Prelude.{◌≡◌, true, false, ℕ, suc, ◌+◌, ◌-◌, ◌≤◌}
use Rattle.std.proofs.Math.Path.{ap}
use Rattle.std.proofs.Common.{◌∙◌}
use mathlib.Core.List.{List, [], ◌∷◌, ◌++◌, append_assoc}
use Rattle.std.proofs.Math.Nat.{zero-add}
use native.Mathlib.Omega.{arith}
use Rattle.std.proofs.Math.ListN.{length, length-append}
use Rattle.meaning.specs.Tree.{Forest, none, more, count, size, ◌&◌}
use Rattle.meaning.specs.Scoping.{Store}
use Rattle.meaning.specs.Program.{program_item, program_items}
use Rattle.tables.specs.Table.{cap_one, capped}
use Rattle.tables.specs.declared.Row.{Row}
use Rattle.representation.specs.Gap.Cells.{table, rows_of, length_rows}
use Rattle.statements.specs.declared.Counting.{Counting}
use Rattle.table_laws.specs.Lists.Plan.{cap_sum}
use Rattle.rewrite_program.specs.Placing.{number_rows_f}
use Rattle.table_laws.proofs.Placed.Numbers.{cons, numbered, all_append, rows_closed, number_law}
use Rattle.table_laws.proofs.Placed.Merge.{Merge, nil, left, right, numbered_append}
use Rattle.table_laws.proofs.Placed.Place.{place_clear_law}
use Rattle.scoping_laws.proofs.Itemized.Program.{mixed}
use Rattle.scoping_laws.specs.Itemized.Split.{Stay, item_parted}
use Rattle.rewrite_program.specs.Arrange.{kept_rows_f, numbering_f, number_items_f, arrange_f}
use Rattle.simulation.proofs.Arranged.Mix.{Mix, nothing, stay, move, mix_length, places, places_merge, places_length, kept_mix, number_mix}

-- ---- the items of a Program

stays_first : (f : Forest) {ks ms : Forest} {xs : List Row} → Stay true f → Mix ks ms xs → Mix (f & ks) ms (rows_of f ++ xs)
unfolding ◌&◌ rows_of
stays_first none p x = x
stays_first (more h k r) {xs = xs} p x = rw (append_assoc (rows_of k) (rows_of r) xs) (stay p.0 (stays_first r p.1 x))

moves_first : (f : Forest) {ks ms : Forest} {xs : List Row} → Stay false f → Mix ks ms xs → Mix ks (f & ms) (rows_of f ++ xs)
unfolding ◌&◌ rows_of
moves_first none p x = x
moves_first (more h k r) {xs = xs} p x = rw (append_assoc (rows_of k) (rows_of r) xs) (move p.0 (moves_first r p.1 x))

-- WHAT THEY COME TO
pub items_mix : (f : Forest) (st : Store) → (let s = (program_items f st).0 in Mix s.kept s.moved (mixed f st))
unfolding program_items mixed
items_mix none st = nothing
items_mix (more h k r) st =
    let (item, st') = program_item h k st in
    let p = item_parted h k st in
    stays_first item.kept p.0 (moves_first item.moved p.1 (items_mix r st'))

-- ---- with the Block's row

-- a row behind all others, of the first list
last_left : (y : Row) {ks ms xs : List Row} → Merge ks ms xs → Merge (ks ++ y ∷ []) ms (xs ++ y ∷ [])
last_left y nil = left nil
last_left y (left g) = left (last_left y g)
last_left y (right g) = right (last_left y g)

module _ (z : List ℕ) {ks ms : Forest} {xs : List Row} (x : Mix ks ms xs) (a v : List Row) (block : Row)
    (q : length a + suc (length xs) ≤ 65535) where
  -- the Block's place, and the rows with theirs
  abbrev place : ℕ
  place = length a + size ks

  abbrev ys : List Row
  ys = places x (length a) (place + 1)

  abbrev all : List Row
  all = ys ++ numbered place (block ∷ [])

  abbrev goal : List Row
  goal = rows_of ks ++ block ∷ rows_of ms

  all_length : length all ≡ suc (length xs)
  unfolding numbered
  all_length = omega (arith, length-append ys (numbered place (block ∷ [])), places_length x (length a) (place + 1))

  all_merge : Merge (numbered (length a) (rows_of ks) ++ numbered place (block ∷ [])) (numbered (place + 1) (rows_of ms)) all
  unfolding numbered
  all_merge = last_left _ (places_merge x (length a) (place + 1))

  all_numbered : (numbered (length a) (rows_of ks) ++ numbered place (block ∷ [])) ++ numbered (place + 1) (rows_of ms)
      ≡ numbered (length a) goal
  all_numbered =
      rw (
        numbered_append (length a) (rows_of ks) (block ∷ rows_of ms),
        length_rows ks,
        numbered_append place (block ∷ []) (rows_of ms),
      )
      (append_assoc (numbered (length a) (rows_of ks)) (numbered place (block ∷ [])) (numbered (place + 1) (rows_of ms)))

  items_numbered :
      number_items_f (count ks + count ms) (numbering_f (table (a ++ ((xs ++ block ∷ []) ++ v)) z) (length a) (length a) (place + 1))
      ≡ numbering_f (table ((a ++ ys) ++ block ∷ v) z) (length (a ++ ys)) place (place + 1 + size ms)
  unfolding number_items_f
  items_numbered =
      rw (append_assoc xs (block ∷ []) v, append_assoc a ys (block ∷ v))
      (number_mix z x a (block ∷ v) (length a) (place + 1) (omega arith) (omega (arith, mix_length x)) (omega (arith, mix_length x)))

  pub arrange_mix : block.up ≡ 0
      → arrange_f (table (a ++ ((xs ++ block ∷ []) ++ v)) z) (length a) (count ks + count ms) (size ks) ≡ table (a ++ (goal ++ v)) z
  unfolding arrange_f
  arrange_mix closed =
      let l = mix_length x in
      let n = places_length x (length a) (place + 1) in
      let m = length-append a ys in
      let end : capped (length (a ++ ys)) 1 ≡ length a + length all = cap_one _ (omega arith) ∙ omega (arith, all_length) in
      let rows : length a + length all - length a ≡ length all = omega arith in
      let last : number_rows_f (table ((a ++ ys) ++ block ∷ v) z) (length (a ++ ys)) 1 place ≡ table (a ++ (all ++ v)) z =
      number_law z (block ∷ []) (a ++ ys) v place (omega arith) (omega arith) ∙ simp append_assoc in
      rw (cap_sum (length a) (size ks) (omega arith), cap_one place (omega arith), items_numbered, end, rows, last)
      (place_clear_law z a goal v all_merge all_numbered (omega (arith, all_length))
      (all_append (rows_closed ks) (cons closed (rows_closed ms))))

-- ---- the laws

module _ (z : List ℕ) (f : Forest) (st : Store) (a v : List Row) where
  -- THE ROWS THAT STAY
  pub kept_rows_law : (t : List ℕ) → t ≡ table (a ++ (mixed f st ++ v)) z → length a + length (mixed f st) ≤ 65535
      → (let s = (program_items f st).0 in kept_rows_f t (length a) (count s.kept + count s.moved) ≡ size s.kept)
  unfolding kept_rows_f
  kept_rows_law t e q =
      let x = items_mix f st in
      ap (λ (c : Counting). c.sum) (kept_mix z x a v 0 t e q (omega (arith, mix_length x))) ∙ zero-add _

  -- THE ITEMS AND THE BLOCK'S ROW come to stand in their order
  pub arrange_law : (block : Row) → block.up ≡ 0 → length a + suc (length (mixed f st)) ≤ 65535
      → (let s = (program_items f st).0 in
      arrange_f (table (a ++ ((mixed f st ++ block ∷ []) ++ v)) z) (length a) (count s.kept + count s.moved) (size s.kept)
      ≡ table (a ++ ((rows_of s.kept ++ block ∷ rows_of s.moved) ++ v)) z)
  arrange_law block o q = arrange_mix z (items_mix f st) a v block q o
