-- The rows of a Switch, its Cases taken up, in a Try.
-- Assumes nothing.
use Rattle.std.specs.Prelude.{if◌then◌else◌, ◌≡◌, refl, List, [], ◌∷◌, ◌++◌, Bool, ℕ, suc, ◌+◌, ◌≤◌, length}
use Rattle.std.proofs.Math.Path.{ap}
use Rattle.std.proofs.Common.{◌∙◌, append_assoc, append-nil, arith}
use Rattle.std.proofs.Math.Bool.{true, false}
use Rattle.std.proofs.Math.Nat.{zero-add}
use Rattle.std.proofs.Math.Dec.{eqb}
use Rattle.meaning.specs.Numbers.Tag
use Rattle.meaning.specs.Numbers.Parts
use Rattle.meaning.specs.Tree.{Head, hd, Forest, none, more, one, count, size, ◌&◌}
use Rattle.meaning.specs.Shapes.{block}
use Rattle.meaning.specs.Statements.{take_up}
use Rattle.meaning.specs.Contexts.{take_up_cases}
use Rattle.meaning.specs.Charges.{wraps, case_wraps}
use Rattle.tables.specs.Loops.{turns}
use Rattle.tables.specs.Stream.{copy_row_f, copy_f}
use Rattle.tables.specs.declared.Row.{Row}
use Rattle.representation.specs.Gap.Cells.{line, rows_of, gapped}
use Rattle.representation.proofs.Gap.Rows.{length_snoc, next_gapped, pass_gapped}
use Rattle.representation.proofs.Gap.Streams.{copy_all}
use Rattle.statements.specs.TakeUp.{take_up_f}
use Rattle.statements.specs.declared.Parts.{Parts}
use Rattle.table_laws.specs.Lists.TakeUp.{count_taken, length_line, take_up_law, first_row}
use Rattle.charge_laws.proofs.Growth.Trees.{list_taken, cases_taken}
use Rattle.table_laws.specs.Lists.Try.{context_of, handlers_of}
use Rattle.rewrite_contexts.specs.Lists.{list_scope}
use Rattle.rewrite_for_switch.specs.Switch.{take_up_case_f, take_up_cases_f, switch_rows_f}
use Rattle.table_laws.specs.Streamed.Places.{one_row, n_gapped}
use Rattle.table_laws.proofs.Streamed.Cases.{in_case}
use Rattle.table_laws.proofs.Streamed.Frame.{frame_law}

-- what becomes of a child's list, by whether it is a Case
abbrev below : Bool → ℕ → Forest → Forest
below b ctx k = if b then take_up ctx k else k

-- ---- how many records there are

size_below : (b : Bool) (ctx : ℕ) (k : Forest) → size (below b ctx k) ≡ size k + (if b then wraps k else 0)
size_below true ctx k = (list_taken k ctx).0
size_below false ctx k = omega arith

count_below : (b : Bool) (ctx : ℕ) (k : Forest) → count (below b ctx k) ≡ count k
count_below true ctx k = count_taken k ctx
count_below false ctx k = refl

count_cases : (f : Forest) (ctx : ℕ) → count (take_up_cases ctx f) ≡ count f
unfolding take_up_cases count
count_cases none ctx = refl
count_cases (more h k r) ctx = ap suc (count_cases r ctx)

-- ---- the Cases

module _ (z : List ℕ) where
  -- a child, by whether it is a Case
  case_by : (b : Bool) (ctx : ℕ) (h : Head) (k : Forest) (a : List Row) (g : ℕ) (v : List Row)
      → length a + ((if b then wraps k else 0) + g) + suc (size k) ≤ 65535
      → (let b₁ = gapped z a ((if b then wraps k else 0) + g) (line h (count k) ∷ (rows_of k ++ v)) in
      if b then take_up_f (count k) ctx (copy_row_f b₁) else copy_f b₁ 1)
      ≡ gapped z (a ++ line h (count k) ∷ rows_of (below b ctx k)) g v
  unfolding count size
  case_by true ctx h k a g v q =
      let x = line h (count k) in
      rw (pass_gapped z a (wraps k + g) x (rows_of k ++ v) (omega arith))
      (take_up_law z k ctx (a ++ x ∷ []) g v (omega (arith, length_snoc a x)) ∙ simp append_assoc)
  case_by false ctx h k a g v q =
      let e = copy_all z (one h k) a g v (omega arith) in
      rw zero-add (rw (one_row h k) at e)

  take_case : (ctx : ℕ) (h : Head) (k : Forest) (a : List Row) (g : ℕ) (v : List Row)
      → length a + (in_case h (wraps k) + g) + suc (size k) ≤ 65535
      → take_up_case_f ctx (gapped z a (in_case h (wraps k) + g) (line h (count k) ∷ (rows_of k ++ v)))
      ≡ gapped z (a ++ line h (count k) ∷ rows_of (below (eqb h.tag Tag.Case) ctx k)) g v
  unfolding take_up_case_f
  take_case ctx h k a g v q =
      rw (next_gapped z a (in_case h (wraps k) + g) (line h (count k)) (rows_of k ++ v)) (case_by (eqb h.tag Tag.Case) ctx h k a g v q)

  -- THE CASES TAKEN UP
  pub cases_law : (f : Forest) (ctx : ℕ) (a : List Row) (g : ℕ) (v : List Row) → length a + (case_wraps f + g) + size f ≤ 65535
      → take_up_cases_f (count f) ctx (gapped z a (case_wraps f + g) (rows_of f ++ v)) ≡ gapped z (a ++ rows_of (take_up_cases ctx f)) g v
  unfolding take_up_cases_f turns take_up_cases case_wraps count size rows_of
  cases_law none ctx a g v q = rw (zero-add, append-nil)
  cases_law (more h k r) ctx a g v q =
      let c = eqb h.tag Tag.Case in
      let k' = below c ctx k in
      let x = line h (count k) in
      ap (take_up_cases_f (suc (count r)) ctx) (first_row z h k r a (in_case h (wraps k)) (case_wraps r) g v)
      ∙ ap (take_up_cases_f (count r) ctx) (take_case ctx h k a (case_wraps r + g) (rows_of r ++ v) (omega arith))
      ∙ cases_law r ctx (a ++ x ∷ rows_of k') g v (omega (arith, length_line a x k', size_below c ctx k))
      ∙ rw (count_below c ctx k) (simp append_assoc)

  -- A SWITCH GOES INTO A TRY
  pub switch_rows_law : (h : Head) (k : Forest) (p : Parts) (a : List Row) (g : ℕ) (v : List Row)
      → length a + (case_wraps k + (12 + g)) + suc (size k) ≤ 65535 → p.scope.0 + 2 ≤ 65535
      → switch_rows_f p (gapped z a (case_wraps k + (12 + g)) (rows_of (one h k) ++ v))
      ≡ gapped z
      (a
      ++ rows_of
      (one (hd Tag.Try Parts.Both 0 0) (block (list_scope p) (context_of p & one h (take_up_cases p.context.0 k)) & handlers_of p)))
      g v
  unfolding switch_rows_f size
  switch_rows_law h k p a g v q s =
      let x = line h (count k) in
      let c = p.context.0 in
      let k' = take_up_cases c k in
      let m = case_wraps k in
      rw (one_row h k, n_gapped z a (m + (12 + g)) x (rows_of k ++ v))
      (frame_law z p h k' (λ b. take_up_cases_f (count k) c (copy_row_f b)) m a g (x ∷ (rows_of k ++ v)) v (omega (arith, cases_taken k c)) s
      (λ a₁ l. ap (take_up_cases_f (count k) c) (pass_gapped z a₁ (m + (6 + g)) x (rows_of k ++ v) (omega arith))
      ∙ cases_law k c (a₁ ++ x ∷ []) (6 + g) v (omega (arith, length_snoc a₁ x))
      ∙ rw (one_row h k', count_cases k c) (simp append_assoc)))
