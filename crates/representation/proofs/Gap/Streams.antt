-- Whole subtrees: copied over the gap, and passed by to find their end.
-- Assumes nothing.
use Rattle.std.specs.Prelude.{◌≡◌, refl, ℕ, suc, ◌+◌, ◌-◌, ◌≤◌, ◌<◌}
use Rattle.std.proofs.Common.{sym, ◌∙◌, zero-add, add-zero}
use Rattle.std.proofs.Math.Path.{ap, ap₂}
use mathlib.Core.List.{List, [], ◌∷◌, ◌++◌, append_assoc, append-nil}
use native.Mathlib.Omega.{arith}
use Rattle.std.proofs.Math.ListN.{length, length-append}
use Rattle.meaning.specs.Tree.{Head, Forest, none, more, count, size}
use Rattle.tables.specs.Loops.{until, go_on, stopped}
use Rattle.tables.specs.Table.{cap_one, column_f, row_f, Skipping, skipping, skipped, skip_one, end_f}
use Rattle.tables.specs.Stream.{Buf, copy_row_f, replace_row_f, Copying, copying, copied, copy_one, copy_f}
use Rattle.tables.specs.declared.Row.{Row}
use Rattle.representation.specs.Gap.Cells.{table, line, rows_of, gapped, length_rows}
use Rattle.representation.proofs.Gap.Rows.{n_at, length_snoc, next_gapped, pass_gapped}
use Rattle.spec_laws.specs.Bools.{some as some_left}

-- ---- copied

pub copy_none : (b : Buf) → copy_f b 0 ≡ b
unfolding copy_f
copy_none b = sym (ap (λ (s : Copying). s.buf) (stopped (65535 - b.read) copied copy_one _ (copying b 0) refl refl))

copy_step : (b : Buf) (c : ℕ) → b.read < 65535 → copy_f b (suc c) ≡ copy_f (copy_row_f b) (c + column_f b.t b.read 4)
unfolding copy_f copy_one copy_row_f replace_row_f
copy_step b c h =
    let n = column_f b.t b.read 4 in
    ap (λ (s : Copying). s.buf) (go_on 65535 b.read copied copy_one _ (copying b (suc c)) refl h (some_left c))
    ∙ ap₂ (λ (i k : ℕ). (until (65535 - i) copied copy_one (copying (copy_row_f b) (k + n))).buf) (sym (cap_one b.read h)) (omega arith)

module _ (z : List ℕ) where
  copy_row : (a : List Row) (g : ℕ) (x : Row) (v : List Row) (c : ℕ) → length a + g < 65535
      → copy_f (gapped z a g (x ∷ v)) (suc c) ≡ copy_f (gapped z (a ++ x ∷ []) g v) (c + x.n)
  unfolding gapped row_f
  copy_row a g x v c h =
      copy_step (gapped z a g (x ∷ v)) c h
      ∙ ap₂ (λ (b : Buf) (n : ℕ). copy_f b (c + n)) (pass_gapped z a g x v h) (ap (λ (r : Row). r.n) (next_gapped z a g x v))

  -- THE COUNTER PASSES OVER A FOREST
  pub copy_forest : (f : Forest) (a : List Row) (g : ℕ) (v : List Row) (c : ℕ) → length a + g + size f ≤ 65535
      → copy_f (gapped z a g (rows_of f ++ v)) (count f + c) ≡ copy_f (gapped z (a ++ rows_of f) g v) c
  unfolding rows_of count size
  copy_forest none a g v c m = rw (append-nil, zero-add)
  copy_forest (more h k r) a g v c m =
      let x = line h (count k) in
      let a₁ = a ++ x ∷ [] in
      ap (copy_f (gapped z a g (x ∷ (rows_of k ++ rows_of r) ++ v))) (omega arith)
      ∙ copy_row a g x (rows_of k ++ rows_of r ++ v) (count r + c) (omega arith)
      ∙ ap₂ (λ (u : List Row) (n : ℕ). copy_f (gapped z a₁ g u) n) (append_assoc (rows_of k) (rows_of r) v) (omega arith)
      ∙ copy_forest k a₁ g (rows_of r ++ v) (count r + c) (omega (arith, length_snoc a x))
      ∙ copy_forest r (a₁ ++ rows_of k) g v c (omega (arith, length_snoc a x, length-append a₁ (rows_of k), length_rows k))
      ∙ simp append_assoc

  -- all of them
  pub copy_all : (f : Forest) (a : List Row) (g : ℕ) (v : List Row) → length a + g + size f ≤ 65535
      → copy_f (gapped z a g (rows_of f ++ v)) (count f) ≡ gapped z (a ++ rows_of f) g v
  copy_all f a g v m = rw add-zero at (copy_forest f a g v 0 m) ∙ copy_none (gapped z (a ++ rows_of f) g v)

  -- the first of some
  pub copy_one_lem : (h : Head) (k r : Forest) (a : List Row) (g : ℕ) (v : List Row) (c : ℕ) → length a + g + size k < 65535
      → copy_f (gapped z a g (rows_of (more h k r) ++ v)) (suc c) ≡ copy_f (gapped z (a ++ line h (count k) ∷ rows_of k) g (rows_of r ++ v)) c
  unfolding rows_of count size
  copy_one_lem h k r a g v c m =
      ap₂ (λ (u : List Row) (n : ℕ). copy_f (gapped z a g u) n) (simp (append_assoc, append-nil)) (omega arith)
      ∙ copy_forest (more h k none) a g (rows_of r ++ v) c (omega arith)
      ∙ rw append-nil

-- ---- passed by

end_none : (t : List ℕ) (at : ℕ) → end_f t at 0 ≡ at
unfolding end_f
end_none t at = sym (ap (λ (s : Skipping). s.at) (stopped (65535 - at) skipped (skip_one t) _ (skipping at 0) refl refl))

end_step : (t : List ℕ) (at c : ℕ) → at < 65535 → end_f t at (suc c) ≡ end_f t (at + 1) (c + column_f t at 4)
unfolding end_f skip_one
end_step t at c h =
    ap (λ (s : Skipping). s.at) (go_on 65535 at skipped (skip_one t) _ (skipping at (suc c)) refl h (some_left c))
    ∙ ap (λ (n : ℕ). end_f t (at + 1) (n + column_f t at 4)) (omega arith)

module _ (z : List ℕ) where
  -- THE END OF A FOREST
  pub end_forest : (f : Forest) (a v : List Row) (c : ℕ) (t : List ℕ) → t ≡ table (a ++ (rows_of f ++ v)) z → length a + size f ≤ 65535
      → end_f t (length a) (count f + c) ≡ end_f t (length a + size f) c
  unfolding rows_of count size
  end_forest none a v c t e m = rw (add-zero, zero-add)
  end_forest (more h k r) a v c t e m =
      let x = line h (count k) in
      let a₁ = a ++ x ∷ [] in
      let l₁ = length_snoc a x in
      let l₂ : length (a₁ ++ rows_of k) ≡ length a + 1 + size k = omega (arith, length-append a₁ (rows_of k), length_rows k) in
      let n : column_f t (length a) 4 ≡ count k = rw e (n_at z a x (rows_of k ++ rows_of r ++ v)) in
      ap (end_f t (length a)) (omega arith)
      ∙ end_step t (length a) (count r + c) (omega arith)
      ∙ ap₂ (end_f t) (sym l₁) (omega arith)
      ∙ end_forest k a₁ (rows_of r ++ v) (count r + c) t (e ∙ simp append_assoc) (omega arith)
      ∙ ap (λ (i : ℕ). end_f t i (count r + c)) (omega arith)
      ∙ end_forest r (a₁ ++ rows_of k) v c t (e ∙ simp append_assoc) (omega arith)
      ∙ ap (λ (i : ℕ). end_f t i c) (omega arith)

  -- all of them
  pub end_all : (f : Forest) (a v : List Row) (t : List ℕ) → t ≡ table (a ++ (rows_of f ++ v)) z → length a + size f ≤ 65535
      → end_f t (length a) (count f) ≡ length a + size f
  end_all f a v t e m = rw add-zero at (end_forest f a v 0 t e m) ∙ end_none t (length a + size f)

  -- one
  pub end_one : (h : Head) (k : Forest) (a v : List Row) (t : List ℕ) → t ≡ table (a ++ line h (count k) ∷ (rows_of k ++ v)) z
      → length a + suc (size k) ≤ 65535 → end_f t (length a) 1 ≡ length a + suc (size k)
  unfolding rows_of count size
  end_one h k a v t e m = end_all (more h k none) a v t (e ∙ simp append_assoc) (omega arith) ∙ omega arith
