-- All items of a Program, one after another.
-- Assumes nothing.
use Rattle.std.specs.Prelude.{◌≡◌, ℕ, zero, suc, ◌+◌, ◌≤◌}
use Rattle.std.proofs.Math.Path.{ap, ap₂}
use Rattle.std.proofs.Common.{◌∙◌, zero-add, suc-add}
use mathlib.Core.List.{List, [], ◌++◌, append_assoc, append-nil}
use native.Mathlib.Omega.{arith}
use Rattle.std.proofs.Math.ListN.{length, length-append}
use Rattle.meaning.specs.Tree.{Head, Forest, none, more, one, count, size, ◌&◌}
use Rattle.meaning.specs.Scoping.{Store}
use Rattle.meaning.specs.Program.{item_act, program_item, program_items}
use Rattle.meaning.specs.Charges.{total, act_lines, item_lines}
use Rattle.spec_laws.specs.Figures.{total_++}
use Rattle.charge_laws.proofs.Growth.Items.{Export, Exports, only_item}
use Rattle.charge_laws.proofs.Growth.Program.{item_pays}
use Rattle.tables.specs.Loops.{turns}
use Rattle.tables.specs.Stream.{Buf}
use Rattle.tables.specs.declared.Row.{Row}
use Rattle.representation.specs.Gap.Cells.{rows_of, gapped, length_rows, size_&}
use Rattle.representation.proofs.Store.Agreed.{Agreed}
use Rattle.scoping_laws.specs.Created.Held.{free_symbols}
use Rattle.rewrite_items.specs.Items.{PassingF, transform_item_f}
use Rattle.scoping_laws.specs.Itemized.Held.{held}
use Rattle.scoping_laws.proofs.Itemized.Items.{items_rows, items_symbols, item_rows, item_symbols, item_law}

-- what they come to: of each item what stays, and then what moves
unfoldable pub mixed : Forest → Store → List Row
mixed none st = []
mixed (more h k r) st =
    let (item, st') = program_item h k st in
    rows_of item.kept ++ (rows_of item.moved ++ mixed r st')

-- ---- sums

pub items_more : (h : Head) (k r : Forest)
    → (items_rows (more h k r) ≡ item_rows h k + items_rows r) × (items_symbols (more h k r) ≡ item_symbols h k + items_symbols r)
unfolding item_lines
items_more h k r = let e = total_++ (act_lines (item_act h k)) (item_lines r) in (e.0, e.2)

pub free_more : (m n : ℕ) (z : List ℕ) → free_symbols (m + n) z ≡ free_symbols m (free_symbols n z)
unfolding free_symbols
free_more zero n z = rw (zero-add n)
free_more (suc m) n z = rw (suc-add m n, free_more m n z)

-- an item becomes so many records
item_size : (h : Head) (k : Forest) (st : Store) → Export h k
    → (let s = (program_item h k st).0 in size s.kept + size s.moved ≡ size (one h k) + item_rows h k)
unfolding program_item
item_size h k st x = let s = (program_item h k st).0 in omega (arith, (item_pays st (only_item h k x)).records, size_& s.kept s.moved)

-- ---- the store after all items

pub items_store : (f : Forest) (st : Store) → Exports f → Agreed st
    → (let st' = (program_items f st).1 in Agreed st' × (length st'.symbols ≡ length st.symbols + items_symbols f))
unfolding program_items item_lines total
items_store none st x ag = (ag, omega arith)
items_store (more h k r) st x ag =
    let l = item_law h k st ag x.0 in
    let n = items_store r (program_item h k st).1 x.1 l.agreed in
    (n.0, omega (arith, n.1, l.symbols, (items_more h k r).1))

module _ (z : List ℕ) where
  -- the first item before others
  first_item : (h : Head) (k r : Forest) (a : List Row) (g : ℕ) (v : List Row) (st : Store) (zy : List ℕ)
      → held (gapped z a (items_rows (more h k r) + g) (rows_of (more h k r) ++ v)) st (free_symbols (items_symbols (more h k r)) zy)
      ≡ held (gapped z a (item_rows h k + (items_rows r + g)) (rows_of (one h k) ++ (rows_of r ++ v))) st
      (free_symbols (item_symbols h k) (free_symbols (items_symbols r) zy))
  unfolding rows_of
  first_item h k r a g v st zy =
      let e = items_more h k r in
      let b : gapped z a (items_rows (more h k r) + g) (rows_of (more h k r) ++ v)
      ≡ gapped z a (item_rows h k + (items_rows r + g)) (rows_of (one h k) ++ (rows_of r ++ v)) =
      ap₂ (gapped z a) (omega (arith, e.0)) (rw (append-nil (rows_of k), append_assoc (rows_of k) (rows_of r) v)) in
      ap₂ (λ (u : Buf) (y : List ℕ). held u st y) b
      (ap (λ (n : ℕ). free_symbols n zy) e.1 ∙ free_more (item_symbols h k) (items_symbols r) zy)

  no_items : (a : List Row) (g : ℕ) (v : List Row) (st : Store) (zy : List ℕ)
      → held (gapped z a (items_rows none + g) (rows_of none ++ v)) st (free_symbols (items_symbols none) zy)
      ≡ held (gapped z (a ++ []) g v) st zy
  unfolding item_lines total rows_of free_symbols
  no_items a g v st zy = rw (zero-add g, append-nil a)

  -- WHAT ALL ITEMS COME TO
  pub items_law : (f : Forest) (a : List Row) (g : ℕ) (v : List Row) (st : Store) (zy : List ℕ) → Exports f → Agreed st
      → length (program_items f st).1.symbols ≤ 65535 → length a + (items_rows f + g) + size f ≤ 65535
      → turns (count f) transform_item_f (held (gapped z a (items_rows f + g) (rows_of f ++ v)) st (free_symbols (items_symbols f) zy))
      ≡ held (gapped z (a ++ mixed f st) g v) (program_items f st).1 zy
  unfolding turns program_items mixed count size
  items_law none a g v st zy x ag room q = no_items a g v st zy
  items_law (more h k r) a g v st zy x ag room q =
      let l = item_law h k st ag x.0 in
      let (s, st') = program_item h k st in
      let m = rows_of s.kept ++ rows_of s.moved in
      let n : length (a ++ m) ≡ length a + (item_rows h k + size (one h k)) =
      omega (
        arith,
        item_size h k st x.0,
        length-append a m,
        length-append (rows_of s.kept) (rows_of s.moved),
        length_rows s.kept,
        length_rows s.moved,
      ) in
      let e = (items_more h k r).0 in
      ap (λ (u : PassingF). turns (count r) transform_item_f (transform_item_f u)) (first_item h k r a g v st zy)
      ∙ ap (turns (count r) transform_item_f)
      (l.law z a (items_rows r + g) (rows_of r ++ v) (free_symbols (items_symbols r) zy)
      (omega (arith, (items_store r st' x.1 l.agreed).1))
      (omega arith))
      ∙ items_law r (a ++ m) g v st' zy x.1 l.agreed room (omega arith)
      ∙ simp append_assoc
