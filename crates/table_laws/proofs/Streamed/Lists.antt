-- Block, function body and static block: the rows of a Try around a list.
-- Assumes nothing.
use Rattle.std.specs.Prelude.{◌≡◌, ℕ, suc, ◌+◌, ◌≤◌, length}
use Rattle.std.proofs.Math.Path.{ap₂}
use Rattle.std.proofs.Common.{◌∙◌, arith}
use mathlib.Core.List.{List, [], ◌∷◌, ◌++◌, append_assoc}
use Rattle.meaning.specs.Numbers.Tag
use Rattle.meaning.specs.Numbers.Parts
use Rattle.meaning.specs.Tree.{Head, hd, Forest, one, single, count, size, ◌&◌}
use Rattle.meaning.specs.Shapes.{block, try_statement}
use Rattle.meaning.specs.Statements.{take_up}
use Rattle.meaning.specs.Charges.{wraps}
use Rattle.tables.specs.Table.{closed_row_f}
use Rattle.tables.specs.declared.Row.{Row}
use Rattle.representation.specs.Gap.Cells.{line, rows_of, gapped}
use Rattle.representation.proofs.Gap.Rows.{length_snoc, next_gapped, emit_gapped, pass_as_gapped}
use Rattle.statements.specs.declared.Parts.{Parts}
use Rattle.table_laws.specs.Lists.TakeUp.{count_taken}
use Rattle.table_laws.specs.Lists.Try.{context_of, handlers_of}
use Rattle.table_laws.proofs.Lists.Try.{transform_list_law, try_rows_law}
use Rattle.rewrite_contexts.specs.Lists.{block_rows_f, wrapped_rows_f}
use Rattle.table_laws.specs.Streamed.Places.{cap_count, one_row, n_gapped}
use Rattle.table_laws.specs.Streamed.Lists.{try_rows_lem}

module _ (z : List ℕ) where
  -- A BLOCK BECOMES A TRY around its list
  pub block_rows_law : (h : Head) (k : Forest) (p : Parts) (a : List Row) (g : ℕ) (v : List Row)
      → length a + (wraps k + (11 + g)) + suc (size k) ≤ 65535 → p.scope.0 + 2 ≤ 65535
      → block_rows_f p (gapped z a (wraps k + (11 + g)) (rows_of (one h k) ++ v))
      ≡ gapped z
      (a ++ rows_of (one (hd Tag.Try Parts.Both 0 0) (block h.a (context_of p & take_up p.context.0 k) & handlers_of p)))
      g v
  unfolding block_rows_f context_of count ◌&◌
  block_rows_law h k p a g v q s =
      let c = p.context.0 in
      let x = line h (count k) in
      let y = closed_row_f 11 3 0 0 3 in
      let w = closed_row_f 2 h.a 0 0 (suc (count k)) in
      let m = wraps k + (10 + g) in
      let u = rows_of k ++ v in
      let a₁ = a ++ y ∷ [] in
      let l = length_snoc a y in
      let e : gapped z a (wraps k + (11 + g)) (rows_of (one h k) ++ v) ≡ gapped z a (suc m) (x ∷ u) =
      ap₂ (λ (i : ℕ) (w : List Row). gapped z a i (w ++ v)) (omega arith) (one_row h k) in
      rw (
        e,
        next_gapped z a (suc m) x u,
        cap_count k (omega arith),
        emit_gapped z a m (x ∷ u) y (omega arith),
        pass_as_gapped z a₁ m x u w (omega arith),
      )
      (transform_list_law z k p (a₁ ++ w ∷ []) g v (omega (arith, length_snoc a₁ w)) s
      ∙ rw (try_rows_lem h.a (context_of p & take_up c k) p, count_taken k c) (simp append_assoc))

  -- A RECORD KEEPS ITS ROW, as given, and gets a Try around its list
  pub wrapped_rows_law : (t x : ℕ) (h : Head) (k : Forest) (scope : ℕ) (p : Parts) (a : List Row) (g : ℕ) (v : List Row)
      → length a + (wraps k + (12 + g)) + suc (size k) ≤ 65535 → p.scope.0 + 2 ≤ 65535
      → wrapped_rows_f (closed_row_f t x 0 0 1) scope p (gapped z a (wraps k + (12 + g)) (rows_of (one h k) ++ v))
      ≡ gapped z
      (a
      ++ rows_of
      (one (hd t x 0 0)
      (single (try_statement (block scope (context_of p & take_up p.context.0 k) & handlers_of p)))))
      g v
  unfolding wrapped_rows_f count
  wrapped_rows_law t x h k scope p a g v q s =
      let y = line h (count k) in
      let w = closed_row_f t x 0 0 1 in
      let m = wraps k + (12 + g) in
      let u = rows_of k ++ v in
      rw (one_row h k, n_gapped z a m y u, cap_count k (omega arith), pass_as_gapped z a m y u w (omega arith))
      (try_rows_law z k p scope (a ++ w ∷ []) g v (omega (arith, length_snoc a w)) s
      ∙ rw (one_row (hd t x 0 0)) (simp append_assoc))
