-- A statement goes into a Try, behind the declaration of its context.
-- Assumes nothing.
use Rattle.std.specs.Prelude.{◌≡◌, refl, List, [], ◌∷◌, ◌++◌, ℕ, ◌+◌, ◌≤◌, length}
use Rattle.std.proofs.Common.{ap, ◌∙◌, append_assoc, arith, length-append}
use Rattle.meaning.specs.Numbers.Tag
use Rattle.meaning.specs.Numbers.Parts
use Rattle.meaning.specs.Tree.{Head, hd, Forest, one, count, size, ◌&◌}
use Rattle.meaning.specs.Shapes.{block}
use Rattle.tables.specs.Table.{closed_row_f}
use Rattle.tables.specs.Stream.{Buf}
use Rattle.tables.specs.declared.Row.{Row}
use Rattle.representation.specs.Gap.Cells.{rows_of, gapped, length_rows, rows_&}
use Rattle.statements.specs.Try.{declare_context_f, handlers_f, open_try_f}
use Rattle.statements.specs.declared.Parts.{Parts}
use Rattle.table_laws.specs.Lists.Try.{context_of, handlers_of}
use Rattle.table_laws.proofs.Lists.Try.{declare_context_law, handlers_law, open_try_law}
use Rattle.rewrite_contexts.specs.Lists.{list_scope}
use Rattle.table_laws.specs.Streamed.Lists.{try_rows_lem}

context_length : (p : Parts) → length (rows_of (context_of p)) ≡ 4
unfolding context_of rows_of
context_length p = refl

context_count : (p : Parts) (h : Head) (k : Forest) → count (context_of p & one h k) ≡ 2
unfolding context_of count ◌&◌
context_count p h k = refl

-- THE FRAME of a statement that is written through m of the free rows
pub frame_law : (z : List ℕ) (p : Parts) (h : Head) (k : Forest) (write : Buf → Buf) (m : ℕ) (a : List Row) (g : ℕ) (u v : List Row)
    → length a + (12 + size (one h k)) ≤ 65535 → p.scope.0 + 2 ≤ 65535
    → ((a₁ : List Row) → length a₁ ≡ length a + 6
    → write (gapped z a₁ (m + (6 + g)) u) ≡ gapped z (a₁ ++ rows_of (one h k)) (6 + g) v)
    → handlers_f p (write (declare_context_f p (open_try_f (list_scope p) 2 (gapped z a (m + (12 + g)) u))))
    ≡ gapped z (a ++ rows_of (one (hd Tag.Try Parts.Both 0 0) (block (list_scope p) (context_of p & one h k) & handlers_of p))) g v
frame_law z p h k write m a g u v q s w =
    let a₁ = a ++ (closed_row_f 11 3 0 0 3 ∷ closed_row_f 2 (list_scope p) 0 0 2 ∷ []) in
    let l₁ : length a₁ ≡ length a + 2 = length-append a (closed_row_f 11 3 0 0 3 ∷ closed_row_f 2 (list_scope p) 0 0 2 ∷ []) in
    let a₂ = a₁ ++ rows_of (context_of p) in
    let l₂ : length a₂ ≡ length a + 6 = omega (arith, length-append a₁ (rows_of (context_of p)), context_length p) in
    let l₃ : length (a₂ ++ rows_of (one h k)) ≡ length a₂ + size (one h k) =
    omega (arith, length-append a₂ (rows_of (one h k)), length_rows (one h k)) in
    let in_try : Buf → Buf = λ b. handlers_f p (write b) in
    ap (λ (n : ℕ). in_try (declare_context_f p (open_try_f (list_scope p) 2 (gapped z a n u)))) (omega arith)
    ∙ ap (λ (b : Buf). in_try (declare_context_f p b)) (open_try_law z (list_scope p) 2 a (4 + (m + (6 + g))) u (omega arith))
    ∙ ap in_try (declare_context_law z p a₁ (m + (6 + g)) u (omega arith))
    ∙ ap (handlers_f p) (w a₂ l₂)
    ∙ handlers_law z p (a₂ ++ rows_of (one h k)) g v (omega arith) s
    ∙ rw (try_rows_lem (list_scope p) (context_of p & one h k) p, context_count p h k, rows_& (context_of p) (one h k)) (simp append_assoc)
