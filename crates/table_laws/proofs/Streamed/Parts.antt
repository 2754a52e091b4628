-- Try parts: how many rows they get, and the scope of the last Block.
-- Assumes nothing.
use Rattle.std.specs.Prelude.{if◌then◌else◌, ◌≡◌, List, [], ◌∷◌, ◌++◌, Bool, true, false, not, ◌||◌, ◌&&◌, ℕ, suc, ◌+◌, ◌≤◌, eqb, length}
use Rattle.std.proofs.Math.Path.{refl, ap, ap₂}
use Rattle.std.proofs.Common.{◌∙◌, arith, ne_eqb}
use Rattle.std.proofs.Math.Nat.{zero-add, add-zero}
use Rattle.meaning.specs.Numbers.Tag
use Rattle.meaning.specs.Tree.{Head, hd, Forest, none, more, count, size}
use Rattle.meaning.specs.Statements.{any_using}
use Rattle.meaning.specs.Contexts.{any_part_using, last_block_scope}
use Rattle.meaning.specs.Charges.{wraps}
use Rattle.spec_laws.specs.Tags.{Seen, other, here, there, seen}
use Rattle.charge_laws.proofs.Totals.Roles.{Lacks}
use Rattle.tables.specs.Loops.{turns}
use Rattle.tables.specs.Table.{capped, row_f}
use Rattle.tables.specs.declared.Row.{Row}
use Rattle.representation.specs.Gap.Cells.{table, line, rows_of}
use Rattle.representation.proofs.Gap.Rows.{length_snoc}
use Rattle.statements.specs.Plan.{counting, no_plan, plan_f}
use Rattle.statements.specs.declared.Counting.{Counting}
use Rattle.table_laws.specs.Lists.TakeUp.{length_line}
use Rattle.table_laws.specs.Lists.Plan.{any_usings, cap_sum, parted, row_here, end_here}
use Rattle.rewrite_contexts.specs.Tries.{is_part_f, part_rows_f, plan_part_f, plan_parts_f, plan_child_f, plan_try_f, if_block_f, last_child, block_scope_f, last_block_scope_f}
use Rattle.table_laws.specs.Streamed.Places.{some_both, below_here, rows_below, plan_below}
use Rattle.table_laws.specs.Streamed.Parts.{own_rows, part_rows, child_rows, try_rows}

-- ---- none or some

some_rows : (b any : Bool) (m n : ℕ) → any ≡ not (eqb n 0) → (b || false || any) ≡ not (eqb ((if b then 12 + m else 0) + n) 0)
some_rows true any m n e = rw (ne_eqb (12 + m + n) 0 (λ i. omega arith))
some_rows false any m n e = rw zero-add e

-- some parts get rows if one has a using
pub any_parts : (k : Forest) → Lacks Tag.Catch k → any_part_using k ≡ not (eqb (part_rows k) 0)
unfolding any_part_using part_rows
any_parts none l = refl
any_parts (more h k r) l =
    rw l.0 (some_rows (eqb h.tag Tag.Block && any_using k) (any_part_using r) (wraps k) (part_rows r) (any_parts r l.1))

-- no Catch stands in a Catch
abbrev pub Catches : Forest → Type 0
Catches none = Unit {0}
Catches (more h k r) = (eqb h.tag Tag.Catch ≡ true → Lacks Tag.Catch k) × Catches r

try_child : {t : ℕ} (a b c : ℕ) (k r : Forest) → Seen (Tag.Catch ∷ []) t → (eqb t Tag.Catch ≡ true → Lacks Tag.Catch k)
    → any_part_using r ≡ not (eqb (try_rows r) 0)
    → any_part_using (more (hd t a b c) k r) ≡ not (eqb (try_rows (more (hd t a b c) k r)) 0)
unfolding any_part_using try_rows
try_child a b c k r here l i = some_both (any_part_using k) (any_part_using r) (part_rows k) (try_rows r) (any_parts k (l refl)) i
try_child {t} a b c k r (there e other) l i =
    rw e (some_rows (eqb t Tag.Block && any_using k) (any_part_using r) (wraps k) (try_rows r) i)

-- and so for a Try's children
pub any_try : (f : Forest) → Catches f → any_part_using f ≡ not (eqb (try_rows f) 0)
unfolding any_part_using try_rows
any_try none l = refl
any_try (more h k r) l = try_child h.a h.b h.c k r (seen (Tag.Catch ∷ []) h.tag) l.0 (any_try r l.1)

-- ---- counted on the rows

rows_by : (b : Bool) (n : ℕ) → (if b then 12 + n else 0) ≤ 65535 → (if b then capped n 12 else 0) ≡ (if b then 12 + n else 0)
rows_by true n i = cap_sum n 12 (omega arith) ∙ omega arith
rows_by false n i = refl

module _ (z : List ℕ) (h : Head) (k : Forest) (a v : List Row) (t : List ℕ)
    (e : t ≡ table (a ++ line h (count k) ∷ (rows_of k ++ v)) z) (q : length a + suc (size k) ≤ 65535) where
  -- A PART, by the plan of its list
  pub is_part_law : is_part_f (line h (count k)) (plan_f t (no_plan (capped (length a) 1)) (count k)) ≡ (eqb h.tag Tag.Block && any_using k)
  unfolding is_part_f
  is_part_law = rw (plan_below z h k a v t e q, any_usings k)

  own_rows_lem : own_rows h k ≤ 65535 → part_rows_f (line h (count k)) (plan_f t (no_plan (capped (length a) 1)) (count k)) ≡ own_rows h k
  unfolding part_rows_f
  own_rows_lem i = rw (is_part_law, plan_below z h k a v t e q) (rows_by (eqb h.tag Tag.Block && any_using k) (wraps k) i)

  plan_part : (s : ℕ) → s + own_rows h k ≤ 65535
      → plan_part_f t (counting (length a) s) ≡ counting (length (a ++ line h (count k) ∷ rows_of k)) (s + own_rows h k)
  unfolding plan_part_f
  plan_part s i = rw (row_here z h k a v t e q, end_here z h k a v t e q, own_rows_lem (omega arith), cap_sum s (own_rows h k) i)

module _ (z : List ℕ) where
  parts_turns : (f : Forest) (a v : List Row) (s : ℕ) (t : List ℕ) → t ≡ table (a ++ (rows_of f ++ v)) z
      → length a + size f ≤ 65535 → s + part_rows f ≤ 65535
      → turns (count f) (plan_part_f t) (counting (length a) s) ≡ counting (length a + size f) (s + part_rows f)
  unfolding turns part_rows count size
  parts_turns none a v s t e q i = simp add-zero
  parts_turns (more h k r) a v s t e q i =
      let x = line h (count k) in
      let e₁ = parted z h k r a v t e in
      let l = length_line a x k in
      ap (turns (count r) (plan_part_f t)) (plan_part z h k a (rows_of r ++ v) t e₁.0 (omega arith) s (omega arith))
      ∙ parts_turns r (a ++ x ∷ rows_of k) v (s + own_rows h k) t e₁.1 (omega arith) (omega arith)
      ∙ ap₂ counting (omega arith) (omega arith)

  -- THE ROWS THAT PARTS GET
  pub plan_parts_law : (f : Forest) (a v : List Row) (t : List ℕ) → t ≡ table (a ++ (rows_of f ++ v)) z
      → length a + size f ≤ 65535 → part_rows f ≤ 65535
      → plan_parts_f t (length a) (count f) ≡ part_rows f
  unfolding plan_parts_f
  plan_parts_law f a v t e q i = ap (λ (s : Counting). s.sum) (parts_turns f a v 0 t e q (omega arith)) ∙ zero-add (part_rows f)

  -- by whether it is a Catch
  child_by : (b : Bool) (h : Head) (k : Forest) (a v : List Row) (s : ℕ) (t : List ℕ)
      → t ≡ table (a ++ line h (count k) ∷ (rows_of k ++ v)) z → length a + suc (size k) ≤ 65535
      → s + (if b then part_rows k else own_rows h k) ≤ 65535
      → (if b then counting (length (a ++ line h (count k) ∷ rows_of k)) (capped s (plan_parts_f t (capped (length a) 1) (count k)))
      else plan_part_f t (counting (length a) s))
      ≡ counting (length (a ++ line h (count k) ∷ rows_of k)) (s + (if b then part_rows k else own_rows h k))
  child_by true h k a v s t e q i =
      let x = line h (count k) in
      let l = length_snoc a x in
      rw (
        below_here z h k a v t e q,
        plan_parts_law k (a ++ x ∷ []) v t (rows_below z h k a v t e q) (omega arith) (omega arith),
        cap_sum s (part_rows k) i,
      )
  child_by false h k a v s t e q i = plan_part z h k a v t e q s i

  plan_child : (h : Head) (k : Forest) (a v : List Row) (s : ℕ) (t : List ℕ)
      → t ≡ table (a ++ line h (count k) ∷ (rows_of k ++ v)) z → length a + suc (size k) ≤ 65535 → s + child_rows h k ≤ 65535
      → plan_child_f t (counting (length a) s) ≡ counting (length (a ++ line h (count k) ∷ rows_of k)) (s + child_rows h k)
  unfolding plan_child_f
  plan_child h k a v s t e q i =
      rw (row_here z h k a v t e q, end_here z h k a v t e q) (child_by (eqb h.tag Tag.Catch) h k a v s t e q i)

  children_turns : (f : Forest) (a v : List Row) (s : ℕ) (t : List ℕ) → t ≡ table (a ++ (rows_of f ++ v)) z
      → length a + size f ≤ 65535 → s + try_rows f ≤ 65535
      → turns (count f) (plan_child_f t) (counting (length a) s) ≡ counting (length a + size f) (s + try_rows f)
  unfolding turns try_rows count size
  children_turns none a v s t e q i = simp add-zero
  children_turns (more h k r) a v s t e q i =
      let x = line h (count k) in
      let e₁ = parted z h k r a v t e in
      let l = length_line a x k in
      ap (turns (count r) (plan_child_f t)) (plan_child h k a (rows_of r ++ v) s t e₁.0 (omega arith) (omega arith))
      ∙ children_turns r (a ++ x ∷ rows_of k) v (s + child_rows h k) t e₁.1 (omega arith) (omega arith)
      ∙ ap₂ counting (omega arith) (omega arith)

  -- THE ROWS THAT A TRY GETS
  pub plan_try_law : (f : Forest) (a v : List Row) (t : List ℕ) → t ≡ table (a ++ (rows_of f ++ v)) z
      → length a + size f ≤ 65535 → try_rows f ≤ 65535
      → plan_try_f t (length a) (count f) ≡ try_rows f
  unfolding plan_try_f
  plan_try_law f a v t e q i = ap (λ (s : Counting). s.sum) (children_turns f a v 0 t e q (omega arith)) ∙ zero-add (try_rows f)

  -- ---- the last Block

  last_from : (h : Head) (k r : Forest) (a v : List Row) (s : ℕ) (t : List ℕ) → t ≡ table (a ++ (rows_of (more h k r) ++ v)) z
      → length a + size (more h k r) ≤ 65535
      → (turns (count (more h k r)) (block_scope_f t) (last_child (length a) s)).scope.0 ≡ last_block_scope (more h k r)
  unfolding turns block_scope_f if_block_f last_block_scope count size
  last_from h k none a v s t e q =
      let e₁ = parted z h k none a v t e in
      ap if_block_f (row_here z h k a (rows_of none ++ v) t e₁.0 (omega arith))
  last_from h k (more h' k' r) a v s t e q =
      let e₁ = parted z h k (more h' k' r) a v t e in
      let x = line h (count k) in
      let l = length_line a x k in
      let s₁ = if_block_f (row_f t (length a)) in
      ap (λ (i : ℕ). (turns (count (more h' k' r)) (block_scope_f t) (last_child i s₁)).scope.0)
      (end_here z h k a (rows_of (more h' k' r) ++ v) t e₁.0 (omega arith))
      ∙ last_from h' k' r (a ++ x ∷ rows_of k) v s₁ t e₁.1 (omega arith)

  -- THE SCOPE OF THE LAST BLOCK
  pub last_block_law : (f : Forest) (a v : List Row) (t : List ℕ) → t ≡ table (a ++ (rows_of f ++ v)) z → length a + size f ≤ 65535
      → last_block_scope_f t (length a) (count f) ≡ last_block_scope f
  unfolding last_block_scope_f turns last_block_scope count
  last_block_law none a v t e q = refl
  last_block_law (more h k r) a v t e q = last_from h k r a v 0 t e q
