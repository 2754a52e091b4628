-- What the items of a Program come to, counted on their rows.
-- Assumes nothing.
use Rattle.std.specs.Prelude.{◌≡◌, ℕ, suc, ◌+◌, ◌≤◌}
use Rattle.std.proofs.Math.Path.{refl, ap}
use Rattle.std.proofs.Common.{◌∙◌, arith}
use mathlib.Core.List.{List, [], ◌∷◌, ◌++◌, append_assoc}
use Rattle.std.proofs.Math.Nat.{zero-add, add-zero}
use Rattle.std.proofs.Math.ListN.{length}
use Rattle.meaning.specs.Tree.{Head, Forest, none, more, one, count, size}
use Rattle.meaning.specs.Scoping.{Store}
use Rattle.meaning.specs.Program.{
  transform_class_decl,
  Split,
  bound_names,
  top_level_class,
  top_level_declaration,
  exported_declaration,
  exported_class,
  default_class,
  default_value,
  ItemAct,
  item_act,
  item_as,
  program_item,
  program_items,
}
use Rattle.meaning.specs.Charges.{Line, line_charge, total, act_lines, item_lines}
use Rattle.charge_laws.proofs.Growth.Items.{Export, Exports, Alone, alone, ChosenItem, as_kept, as_moved, as_class, as_declaration, as_exported_declaration, as_exported_class, as_default_class, as_default_value, only_item}
use Rattle.charge_laws.proofs.Growth.Program.{items_pay}
use Rattle.tables.specs.Loops.{turns}
use Rattle.tables.specs.Table.{row_f}
use Rattle.tables.specs.declared.Row.{Row}
use Rattle.representation.specs.Gap.Cells.{table, line, rows_of, count_&, size_&}
use Rattle.representation.proofs.Gap.Rows.{length_snoc}
use Rattle.table_laws.specs.Lists.TakeUp.{length_line}
use Rattle.table_laws.specs.Lists.Plan.{cap_sum, parted, row_here, end_here}
use Rattle.rewrite_items.specs.Kinds.{item_f}
use Rattle.rewrite_items.specs.declared.Item.{Item}
use Rattle.scoping_laws.proofs.Itemized.Items.{items_rows}
use Rattle.scoping_laws.proofs.Itemized.Program.{items_more}
use Rattle.scoping_laws.specs.Itemized.Kinds.{kind_of, ChildRow, kind_is}
use Rattle.scoping_laws.specs.Itemized.Names.{count_names_law}
use Rattle.rewrite_program.specs.Plan.{child_names_f, exported_names_f, added_f, kept_f, moved_f, plan, plan_item_f, plan_program_f}
use Rattle.spec_laws.specs.Trees.{count_size}

-- An item of a kind, with the names of its child, adds the rows of its lines, and leaves what 01 leaves of it.
record Counts (item : Item) (names : ℕ) (own : List Line) (s : Split) : Type 0 where
  added : (total own).records ≡ added_f item names
  kept : kept_f item ≡ count s.kept
  moved : moved_f item ≡ count s.moved

-- ---- an item in the table

module _ (z : List ℕ) (h : Head) (a v : List Row) (t : List ℕ) where
  child_rows_lem : (n : ℕ) (h₁ : Head) (k₁ r₁ : Forest) → t ≡ table (a ++ line h n ∷ (rows_of (more h₁ k₁ r₁) ++ v)) z
      → t ≡ table ((a ++ line h n ∷ []) ++ line h₁ (count k₁) ∷ (rows_of k₁ ++ (rows_of r₁ ++ v))) z
  child_rows_lem n h₁ k₁ r₁ e = (parted z h₁ k₁ r₁ (a ++ line h n ∷ []) v t (e ∙ simp append_assoc)).0

  child_row : (k : Forest) → t ≡ table (a ++ line h (count k) ∷ (rows_of k ++ v)) z → length a + suc (size k) ≤ 65535 → ChildRow t (length a) k
  unfolding size
  child_row none e q = tt
  child_row (more h₁ k₁ r₁) e q =
      let x = line h (count (more h₁ k₁ r₁)) in
      rw (cap_sum (length a) 1 (omega arith), ← length_snoc a x)
      (row_here z h₁ k₁ (a ++ x ∷ []) (rows_of r₁ ++ v) t (child_rows_lem x.n h₁ k₁ r₁ e) (omega (arith, length_snoc a x)))

  child_names : (h₁ : Head) (k₁ : Forest) → t ≡ table (a ++ line h 1 ∷ (rows_of (one h₁ k₁) ++ v)) z → length a + suc (suc (size k₁)) ≤ 65535
      → child_names_f t (length a) ≡ length (bound_names k₁)
  unfolding child_names_f row_f rows_of count size
  child_names h₁ k₁ e q =
      let b = a ++ line h 1 ∷ [] in
      let c = b ++ line h₁ (count k₁) ∷ [] in
      let l : length c ≡ length a + 2 = omega (arith, length_snoc a (line h 1), length_snoc b (line h₁ (count k₁))) in
      rw (ap (λ (r : Row). r.n) (child_row (one h₁ k₁) e (omega arith)), cap_sum (length a) 2 (omega arith), ← l)
      (count_names_law z k₁ c v t (child_rows_lem 1 h₁ k₁ none e ∙ simp append_assoc) (omega arith))

module _ (z : List ℕ) (a v : List Row) (t : List ℕ) where
  item_counts : {x : ItemAct} {h : Head} {k : Forest} (st : Store) → ChosenItem Alone x h k → t ≡ table (a ++ line h (count k) ∷ (rows_of k ++ v)) z
      → length a + suc (size k) ≤ 65535
      → Counts (kind_of x) (exported_names_f t (kind_of x) (length a)) (act_lines x) (item_as x h k st).0
  unfolding kind_of act_lines item_as top_level_class top_level_declaration exported_declaration exported_class default_class default_value transform_class_decl exported_names_f added_f kept_f moved_f total line_charge count size
  item_counts st (as_kept s) e q = record { added = refl; kept = refl; moved = refl }
  item_counts st (as_moved e₁₃ e₁₇ e₁₈ e₁₉ e₁₅ e₅) e q = record { added = refl; kept = refl; moved = refl }
  item_counts st as_class e q = record { added = refl; kept = refl; moved = refl }
  item_counts st as_declaration e q = record { added = refl; kept = refl; moved = refl }
  item_counts {h = h} st (as_exported_declaration {k = k₁} alone) e q =
      rw (child_names z h a v t _ k₁ e (omega arith)) (record { added = add-zero (length (bound_names k₁)); kept = refl; moved = refl })
  item_counts st (as_exported_class alone) e q = record { added = refl; kept = refl; moved = refl }
  item_counts st (as_default_class named alone) e q = record { added = refl; kept = refl; moved = refl }
  item_counts st (as_default_value f c alone) e q = record { added = refl; kept = refl; moved = refl }

  item_counted : (h : Head) (k : Forest) (st : Store) → t ≡ table (a ++ line h (count k) ∷ (rows_of k ++ v)) z → length a + suc (size k) ≤ 65535
      → Export h k
      → (let i = item_f t (length a) in Counts i (exported_names_f t i (length a)) (act_lines (item_act h k)) (program_item h k st).0)
  unfolding program_item
  item_counted h k st e q x =
      let c = only_item h k x in
      rw (kind_is t (length a) c (row_here z h k a v t e q) (child_row z h a v t k e q)) (item_counts st c e q)

-- ---- all items

-- what they come to has so many records
pub items_size : (f : Forest) (st : Store) → Exports f
    → (let s = (program_items f st).0 in size s.kept + size s.moved ≡ size f + items_rows f)
items_size f st x = let s = (program_items f st).0 in omega (arith, (items_pay f st x).records, size_& s.kept s.moved)

plan_eq : {i u m n i' u' m' n' : ℕ} → i ≡ i' → u ≡ u' → m ≡ m' → n ≡ n' → plan i u m n ≡ plan i' u' m' n'
plan_eq e₁ e₂ e₃ e₄ = λ i. plan (e₁ i) (e₂ i) (e₃ i) (e₄ i)

module _ (z : List ℕ) where
  plan_law : (f : Forest) (st : Store) (a v : List Row) (u m n : ℕ) (t : List ℕ) → t ≡ table (a ++ (rows_of f ++ v)) z
      → length a + size f ≤ 65535 → Exports f
      → (let s = (program_items f st).0 in
      u + items_rows f ≤ 65535 → m + count s.kept ≤ 65535 → n + count s.moved ≤ 65535
      → turns (count f) (plan_item_f t) (plan (length a) u m n)
      ≡ plan (length a + size f) (u + items_rows f) (m + count s.kept) (n + count s.moved))
  unfolding turns plan_item_f program_items item_lines total count size
  plan_law none st a v u m n t e q x i₁ i₂ i₃ = simp add-zero
  plan_law (more h k r) st a v u m n t e q x i₁ i₂ i₃ =
      let y = line h (count k) in
      let (item, st') = program_item h k st in
      let s = (program_items r st').0 in
      let e₁ = parted z h k r a v t e in
      let c = item_counted z a (rows_of r ++ v) t h k st e₁.0 (omega arith) x.0 in
      let l = length_line a y k in
      let d₁ = c.added in
      let d = (items_more h k r).0 in
      let d₂ = c.kept in
      let d₃ = c.moved in
      let c₂ = count_& item.kept s.kept in
      let c₃ = count_& item.moved s.moved in
      ap (turns (count r) (plan_item_f t))
      (plan_eq
      (end_here z h k a (rows_of r ++ v) t e₁.0 (omega arith))
      (cap_sum u _ (omega arith))
      (cap_sum m _ (omega arith))
      (cap_sum n _ (omega arith)))
      ∙ plan_law r st' (a ++ y ∷ rows_of k) v _ _ _ t e₁.1 (omega arith) x.1 (omega arith) (omega arith) (omega arith)
      ∙ plan_eq (omega arith) (omega arith) (omega arith) (omega arith)

  -- WHAT THEY COME TO, whatever the store
  pub plan_program_law : (f : Forest) (st : Store) (a v : List Row) (t : List ℕ) → t ≡ table (a ++ (rows_of f ++ v)) z
      → length a + size f ≤ 65535 → size f + items_rows f ≤ 65535 → Exports f
      → (let s = (program_items f st).0 in
      plan_program_f t (length a) (count f) ≡ plan (length a + size f) (items_rows f) (count s.kept) (count s.moved))
  unfolding plan_program_f
  plan_program_law f st a v t e q i x =
      let s = (program_items f st).0 in
      let l = items_size f st x in
      let c₁ = count_size s.kept in
      let c₂ = count_size s.moved in
      plan_law f st a v 0 0 0 t e q x (omega arith) (omega arith) (omega arith) ∙ simp zero-add
