-- Rows that an item is made of: left out, new, and with another row at their head.
-- Assumes nothing.
use Rattle.std.specs.Prelude.{◌≡◌, refl}
use Rattle.std.proofs.Math.Path.{sym, ap}
use Rattle.std.proofs.Common.{◌∙◌}
use mathlib.Core.List.{List, [], ◌∷◌, ◌++◌, append_assoc, append-nil}
use Prim.Native.Nat.{ℕ, zero, suc, ◌+◌, ◌≤◌, ◌<◌}
use native.Mathlib.Omega.{arith}
use Rattle.std.proofs.Math.ListN.{length, length-append}
use Rattle.meaning.specs.Numbers.Kind
use Rattle.meaning.specs.Tree.{Head, Forest, none, one, count, size}
use Rattle.meaning.specs.Shapes.{declaration, export_named, specifier}
use Rattle.tables.specs.Table.{cap_one, capped, column_f, row_f, closed_row_f, set_row_f}
use Rattle.tables.specs.Stream.{replace_row_f, copy_f}
use Rattle.tables.specs.declared.Row.{Row}
use Rattle.representation.specs.Gap.Cells.{table, zeros, free, line, rows_of, gapped, length_free}
use Rattle.representation.proofs.Gap.Rows.{set_row_lem, row_at_lem, length_snoc, emit_gapped, pass_as_gapped, next_gapped}
use Rattle.representation.proofs.Gap.Streams.{copy_all}
use Rattle.table_laws.proofs.Lists.Try.{declare_law}
use Rattle.rewrite_items.specs.Items.{drop_f, export_rows_f, value_rows_f}

-- ---- the rows behind the gap, after the first of them

pub length_behind : (a : List Row) (g : ℕ) (x : Row) → length (a ++ (free g ++ x ∷ [])) ≡ length a + g + 1
length_behind a g x = omega (arith, length-append a (free g ++ x ∷ []), length_snoc (free g) x, length_free g)

module _ (z : List ℕ) (a : List Row) (g : ℕ) (x : Row) where
  pub table_behind : (v : List Row) → (gapped z a g (x ∷ v)).t ≡ table ((a ++ (free g ++ x ∷ [])) ++ v) z
  unfolding gapped
  table_behind v = simp append_assoc

  pub next_behind : (v : List Row) → length a + g < 65535 → capped (gapped z a g v).read 1 ≡ length (a ++ (free g ++ x ∷ []))
  unfolding gapped
  next_behind v i = cap_one (length a + g) i ∙ sym (length_behind a g x)

  pub second_gapped : (y : Row) (v : List Row) → length a + g < 65535
      → row_f (gapped z a g (x ∷ y ∷ v)).t (capped (gapped z a g (x ∷ y ∷ v)).read 1) ≡ y
  second_gapped y v i = rw (table_behind (y ∷ v), next_behind (x ∷ y ∷ v) i) (row_at_lem z (a ++ (free g ++ x ∷ [])) y v)

  -- columns of the first one
  pub next_c : (v : List Row) → column_f (gapped z a g (x ∷ v)).t (gapped z a g (x ∷ v)).read 3 ≡ x.c
  unfolding row_f
  next_c v = ap (λ (r : Row). r.c) (next_gapped z a g x v)

  pub next_n : (v : List Row) → column_f (gapped z a g (x ∷ v)).t (gapped z a g (x ∷ v)).read 4 ≡ x.n
  unfolding row_f
  next_n v = ap (λ (r : Row). r.n) (next_gapped z a g x v)

-- ---- rows that are made

-- a Declaration of a name with an initializer
declaration_rows : (y : ℕ) (e : Forest)
    → rows_of (declaration Kind.Var y e) ≡ closed_row_f 5 0 0 0 1 ∷ closed_row_f 6 0 1 0 (suc (count e)) ∷ closed_row_f 26 y 0 0 0 ∷ rows_of e
unfolding rows_of count
declaration_rows y e = simp append-nil

-- an export of a name
pub export_length : (y name : ℕ) (a : List Row) → length (a ++ rows_of (export_named (specifier y name none))) ≡ length a + 2
unfolding rows_of
export_length y name a = length-append a (rows_of (export_named (specifier y name none)))

-- a free row may as well stand before the others
slide : (g : ℕ) (v : List Row) → free g ++ zeros ∷ v ≡ free (suc g) ++ v
unfolding free
slide zero v = refl
slide (suc g) v = ap (◌∷◌ zeros) (slide g v)

module _ (z : List ℕ) where
  cleared : (a : List Row) (g : ℕ) (x : Row) (v : List Row)
      → set_row_f (table (a ++ (free g ++ x ∷ v)) z) (length a + g) zeros ≡ table (a ++ (free (suc g) ++ v)) z
  cleared a g x v =
      let l : length (a ++ free g) ≡ length a + g = rw (length-append, length_free) in
      rw (← append_assoc a (free g) (x ∷ v), ← l) (set_row_lem z (a ++ free g) x v zeros ∙ rw (append_assoc, slide g v))

  -- THE NEXT ROW IS LEFT OUT
  pub drop_gapped : (a : List Row) (g : ℕ) (x : Row) (v : List Row) → length a + g < 65535
      → drop_f (gapped z a g (x ∷ v)) ≡ gapped z a (suc g) v
  unfolding drop_f gapped
  drop_gapped a g x v h =
      let r : capped (length a + g) 1 ≡ length a + suc g = cap_one (length a + g) h ∙ omega arith in
      rw (cleared a g x v, r)

  -- `export { y as name }`
  pub export_rows_law : (y name : ℕ) (a : List Row) (g : ℕ) (v : List Row) → length a + 2 ≤ 65535
      → export_rows_f y name (gapped z a (2 + g) v) ≡ gapped z (a ++ rows_of (export_named (specifier y name none))) g v
  unfolding export_rows_f rows_of count
  export_rows_law y name a g v h =
      let x = closed_row_f 17 2 0 0 1 in
      let r = closed_row_f 20 y name 0 0 in
      let e : 2 + g ≡ suc (suc g) = omega arith in
      rw (e, emit_gapped z a (suc g) v x (omega arith))
      (emit_gapped z (a ++ x ∷ []) g v r (omega (arith, length_snoc a x)) ∙ simp append_assoc)

  -- the next record with another row
  pub pass_record : (h : Head) (k : Forest) (x : Row) (a : List Row) (g : ℕ) (v : List Row) → length a + g + suc (size k) ≤ 65535
      → copy_f (replace_row_f (gapped z a g (x ∷ (rows_of k ++ v))) (line h (count k))) (count k) ≡ gapped z (a ++ rows_of (one h k)) g v
  unfolding rows_of
  pass_record h k x a g v q =
      let r = line h (count k) in
      rw (pass_as_gapped z a g x (rows_of k ++ v) r (omega arith))
      (copy_all z k (a ++ r ∷ []) g v (omega (arith, length_snoc a r)) ∙ simp (append_assoc, append-nil))

  -- `var y = ` and the next record, with another row
  pub value_law : (y : ℕ) (h : Head) (k : Forest) (x : Row) (a : List Row) (g : ℕ) (v : List Row)
      → length a + (3 + g) + suc (size k) ≤ 65535
      → value_rows_f y (line h (count k)) (gapped z a (3 + g) (x ∷ (rows_of k ++ v))) ≡ gapped z (a ++ rows_of (declaration Kind.Var y (one h k))) g v
  unfolding value_rows_f count
  value_law y h k x a g v q =
      let m = closed_row_f 5 0 0 0 1 ∷ closed_row_f 6 0 1 0 2 ∷ closed_row_f 26 y 0 0 0 ∷ [] in
      rw (declare_law z 0 y a g (x ∷ (rows_of k ++ v)) (omega arith))
      (pass_record h k x (a ++ m) g v (omega (arith, length-append a m))
      ∙ rw (declaration_rows y (one h k)) (simp append_assoc))
