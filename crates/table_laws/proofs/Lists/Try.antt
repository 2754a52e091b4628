-- The rows of a Try around a list.
-- Assumes nothing.
use Rattle.std.specs.Prelude.{◌≡◌, ℕ, suc, ◌+◌, ◌≤◌}
use Rattle.std.proofs.Math.Path.{ap}
use Rattle.std.proofs.Common.{◌∙◌, zero-add, suc-add, arith}
use mathlib.Core.List.{List, [], ◌∷◌, ◌++◌, append_assoc, append-nil}
use Rattle.std.proofs.Math.ListN.{length, length-append}
use Rattle.meaning.specs.Numbers.Tag
use Rattle.meaning.specs.Numbers.Kind
use Rattle.meaning.specs.Tree.{Forest, single, count, size, ◌&◌}
use Rattle.meaning.specs.Shapes.{block, declaration, try_statement}
use Rattle.meaning.specs.Statements.{take_up}
use Rattle.meaning.specs.Charges.{wraps}
use Rattle.tables.specs.Table.{closed_row_f}
use Rattle.tables.specs.Stream.{Buf, emit_f}
use Rattle.tables.specs.declared.Row.{Row}
use Rattle.representation.specs.Gap.Cells.{rows_of, gapped, length_rows, rows_&}
use Rattle.representation.proofs.Gap.Rows.{length_snoc, emit_gapped}
use Rattle.statements.specs.TakeUp.{take_up_f}
use Rattle.statements.specs.Try.{declare_f, declare_context_f, catch_clause_f, finally_block_f, handlers_f, open_try_f, transform_list_f}
use Rattle.statements.specs.declared.Parts.{Parts}
use Rattle.table_laws.specs.Lists.TakeUp.{count_taken, take_up_law}
use Rattle.charge_laws.proofs.Growth.Trees.{list_taken}
use Rattle.table_laws.specs.Lists.Plan.{cap_sum}
use Rattle.table_laws.specs.Lists.Try.{context_of, handlers_of}

-- a Try of a first Block and others
try_rows_lem : (scope : ℕ) (list others : Forest)
    → rows_of (single (try_statement (block scope list & others)))
    ≡ closed_row_f 11 3 0 0 (suc (count others)) ∷ closed_row_f 2 scope 0 0 (count list) ∷ (rows_of list ++ rows_of others)
unfolding rows_of count ◌&◌
try_rows_lem scope list others = rw append-nil

-- new rows
abbrev emits : List Row → Buf → Buf
emits [] b = b
emits (r ∷ m) b = emits m (emit_f b r)

module _ (z : List ℕ) where
  emits_law : (m a : List Row) (g : ℕ) (v : List Row) → length a + length m ≤ 65535
      → emits m (gapped z a (length m + g) v) ≡ gapped z (a ++ m) g v
  emits_law [] a g v q = rw (zero-add, append-nil)
  emits_law (r ∷ m) a g v q =
      rw (suc-add (length m) g, emit_gapped z a (length m + g) v r (omega arith))
      (emits_law m (a ++ r ∷ []) g v (omega (arith, length_snoc a r)) ∙ simp append_assoc)

  -- a Declaration of a name, up to its initializer
  pub declare_law : (kind y : ℕ) (a : List Row) (g : ℕ) (v : List Row) → length a + 3 ≤ 65535
      → declare_f kind y (gapped z a (3 + g) v)
      ≡ gapped z (a ++ (closed_row_f 5 kind 0 0 1 ∷ closed_row_f 6 0 1 0 2 ∷ closed_row_f 26 y 0 0 0 ∷ [])) g v
  unfolding declare_f
  declare_law kind y a g v q = emits_law (closed_row_f 5 kind 0 0 1 ∷ closed_row_f 6 0 1 0 2 ∷ closed_row_f 26 y 0 0 0 ∷ []) a g v q

  -- the declaration of a context
  pub declare_context_law : (p : Parts) (a : List Row) (g : ℕ) (v : List Row) → length a + 4 ≤ 65535
      → declare_context_f p (gapped z a (4 + g) v) ≡ gapped z (a ++ rows_of (context_of p)) g v
  unfolding declare_context_f declare_f context_of rows_of count
  declare_context_law p a g v q = emits_law (rows_of (context_of p)) a g v q

  -- the Catch and the last Block
  pub handlers_law : (p : Parts) (a : List Row) (g : ℕ) (v : List Row) → length a + 6 ≤ 65535 → p.scope.0 + 2 ≤ 65535
      → handlers_f p (gapped z a (6 + g) v) ≡ gapped z (a ++ rows_of (handlers_of p)) g v
  unfolding handlers_f catch_clause_f finally_block_f handlers_of rows_of count ◌&◌
  handlers_law p a g v q s =
      rw (cap_sum p.scope.0 1 (omega arith), cap_sum p.scope.0 2 s) (emits_law (rows_of (handlers_of p)) a g v q)

  -- the rows of the Try and of its first Block
  pub open_try_law : (scope n : ℕ) (a : List Row) (g : ℕ) (v : List Row) → length a + 2 ≤ 65535
      → open_try_f scope n (gapped z a (2 + g) v) ≡ gapped z (a ++ (closed_row_f 11 3 0 0 3 ∷ closed_row_f 2 scope 0 0 n ∷ [])) g v
  unfolding open_try_f
  open_try_law scope n a g v q = emits_law (closed_row_f 11 3 0 0 3 ∷ closed_row_f 2 scope 0 0 n ∷ []) a g v q

  -- WHAT STANDS IN A TRY around a list
  pub transform_list_law : (f : Forest) (p : Parts) (a : List Row) (g : ℕ) (v : List Row)
      → length a + (wraps f + (10 + g)) + size f ≤ 65535 → p.scope.0 + 2 ≤ 65535
      → transform_list_f (count f) p (gapped z a (wraps f + (10 + g)) (rows_of f ++ v))
      ≡ gapped z (a ++ (rows_of (context_of p & take_up p.context.0 f) ++ rows_of (handlers_of p))) g v
  unfolding transform_list_f context_of rows_of count
  transform_list_law f p a g v q s =
      let c = p.context.0 in
      let f' = take_up c f in
      let a₁ = a ++ rows_of (context_of p) in
      let l₁ : length a₁ ≡ length a + 4 = length-append a (rows_of (context_of p)) in
      let l₂ : length (a₁ ++ rows_of f') ≡ length a₁ + (size f + wraps f) =
      omega (arith, length-append a₁ (rows_of f'), length_rows f', list_taken f c) in
      ap (λ (n : ℕ). transform_list_f (count f) p (gapped z a n (rows_of f ++ v))) (omega arith)
      ∙ ap (λ (b : Buf). handlers_f p (take_up_f (count f) c b))
      (declare_context_law p a (wraps f + (6 + g)) (rows_of f ++ v) (omega arith))
      ∙ ap (handlers_f p) (take_up_law z f c a₁ (6 + g) v (omega arith))
      ∙ handlers_law p (a₁ ++ rows_of f') g v (omega arith) s
      ∙ rw (rows_& (context_of p) f') (simp append_assoc)

  -- THE WHOLE TRY
  pub try_rows_law : (f : Forest) (p : Parts) (scope : ℕ) (a : List Row) (g : ℕ) (v : List Row)
      → length a + (wraps f + (12 + g)) + size f ≤ 65535 → p.scope.0 + 2 ≤ 65535
      → transform_list_f (count f) p (open_try_f scope (suc (count f)) (gapped z a (wraps f + (12 + g)) (rows_of f ++ v)))
      ≡ gapped z
      (a ++ rows_of (single (try_statement (block scope (context_of p & take_up p.context.0 f) & handlers_of p))))
      g v
  unfolding context_of handlers_of count ◌&◌
  try_rows_law f p scope a g v q s =
      let f' = take_up p.context.0 f in
      let m = closed_row_f 11 3 0 0 3 ∷ closed_row_f 2 scope 0 0 (suc (count f)) ∷ [] in
      ap (λ (n : ℕ). transform_list_f (count f) p (open_try_f scope (suc (count f)) (gapped z a n (rows_of f ++ v)))) (omega arith)
      ∙ ap (transform_list_f (count f) p) (open_try_law scope (suc (count f)) a (wraps f + (10 + g)) (rows_of f ++ v) (omega arith))
      ∙ transform_list_law f p (a ++ m) g v (omega (arith, length-append a m)) s
      ∙ rw (try_rows_lem scope (context_of p & f') (handlers_of p), count_taken f p.context.0) (simp append_assoc)
