-- The first of some records in a table: its row, its end, and the plan of its list.
-- Assumes nothing.
use Rattle.std.specs.Prelude.{◌≡◌, List, [], ◌∷◌, ◌++◌, Bool, not, ◌||◌, ℕ, zero, suc, ◌+◌, ◌≤◌, ◌<◌, eqb, length}
use Rattle.std.proofs.Common.{sym, ◌∙◌, append_assoc, append-nil, zero-add, arith, ne_eqb}
use Rattle.std.proofs.Math.Path.{ap}
use Rattle.meaning.specs.Tree.{Head, Forest, more, one, count, size}
use Rattle.meaning.specs.Charges.{wraps}
use Rattle.tables.specs.Table.{capped, column_f, row_f}
use Rattle.tables.specs.declared.Row.{Row}
use Rattle.representation.specs.Gap.Cells.{table, free, line, rows_of, gapped}
use Rattle.representation.proofs.Gap.Rows.{length_snoc, next_gapped, length_left}
use Rattle.statements.specs.Plan.{plan, no_plan, plan_f}
use Rattle.table_laws.specs.Lists.Plan.{usings, awaits, cap_sum, plan_list_law, row_here}
use Rattle.spec_laws.specs.Trees.{count_size}

-- of two numbers, one is not 0
pub some_both : (b c : Bool) (m n : ℕ) → b ≡ not (eqb m 0) → c ≡ not (eqb n 0) → (b || c) ≡ not (eqb (m + n) 0)
some_both b c zero n e d = rw (zero-add, e) d
some_both b c (suc m) n e d = rw (e, ne_eqb (suc m) 0 (λ i. omega arith), ne_eqb (suc m + n) 0 (λ i. omega arith))

-- a list with one item more
pub cap_count : (k : Forest) → size k < 65535 → capped (count k) 1 ≡ suc (count k)
cap_count k q = cap_sum (count k) 1 (omega (arith, count_size k)) ∙ omega arith

-- a record's row, and those below it
pub one_row : (h : Head) (k : Forest) → rows_of (one h k) ≡ line h (count k) ∷ rows_of k
unfolding rows_of
one_row h k = ap (◌∷◌ (line h (count k))) (append-nil (rows_of k))

-- the first of some rows, and those after it
pub next_rows : (h : Head) (k r : Forest) (v : List Row) → rows_of (more h k r) ++ v ≡ line h (count k) ∷ (rows_of k ++ (rows_of r ++ v))
unfolding rows_of
next_rows h k r v = ap (◌∷◌ (line h (count k))) (append_assoc (rows_of k) (rows_of r) v)

-- a record's rows, and those after them
pub more_rows : (h : Head) (k r : Forest) (v : List Row) → rows_of (more h k r) ++ v ≡ rows_of (one h k) ++ (rows_of r ++ v)
more_rows h k r v = next_rows h k r v ∙ ap (λ (u : List Row). u ++ (rows_of r ++ v)) (sym (one_row h k))

module _ (z : List ℕ) (h : Head) (k : Forest) (a v : List Row) (t : List ℕ)
    (e : t ≡ table (a ++ line h (count k) ∷ (rows_of k ++ v)) z) (q : length a + suc (size k) ≤ 65535) where
  pub tag_here : column_f t (length a) 0 ≡ h.tag
  unfolding row_f
  tag_here = ap (λ (r : Row). r.tag) (row_here z h k a v t e q)

  -- the place below it
  pub below_here : capped (length a) 1 ≡ length (a ++ line h (count k) ∷ [])
  below_here = cap_sum (length a) 1 (omega arith) ∙ sym (length_snoc a (line h (count k)))

  pub rows_below : t ≡ table ((a ++ line h (count k) ∷ []) ++ (rows_of k ++ v)) z
  rows_below = e ∙ simp append_assoc

  -- the plan of its list
  pub plan_below : plan_f t (no_plan (capped (length a) 1)) (count k) ≡ plan (length a + suc (size k)) (usings k) (awaits k) (wraps k)
  plan_below =
      let x = line h (count k) in
      let l = length_snoc a x in
      rw below_here
      (plan_list_law z k (a ++ x ∷ []) v t rows_below (omega arith) ∙ ap (λ (i : ℕ). plan i (usings k) (awaits k) (wraps k)) (omega arith))

-- ---- behind a gap

-- the n of the next row
pub n_gapped : (z : List ℕ) (a : List Row) (g : ℕ) (x : Row) (v : List Row)
    → (let b = gapped z a g (x ∷ v) in column_f b.t b.read 4 ≡ x.n)
unfolding row_f
n_gapped z a g x v = ap (λ (r : Row). r.n) (next_gapped z a g x v)

-- the plan of the next record's list
pub plan_gapped : (z : List ℕ) (h : Head) (k : Forest) (a : List Row) (g : ℕ) (v : List Row) → length a + g + suc (size k) ≤ 65535
    → (let b = gapped z a g (line h (count k) ∷ (rows_of k ++ v)) in
    plan_f b.t (no_plan (capped b.read 1)) (count k) ≡ plan (length a + g + suc (size k)) (usings k) (awaits k) (wraps k))
unfolding gapped
plan_gapped z h k a g v q =
    let l = length_left a g in
    let u = line h (count k) ∷ (rows_of k ++ v) in
    rw (← l) (plan_below z h k (a ++ free g) v (table (a ++ (free g ++ u)) z) (simp append_assoc) (omega arith))
