-- The For with its Labels: what it has to take up, and its rows in a Try.
-- Assumes nothing.
use Rattle.std.specs.Prelude.{if◌then◌else◌, ◌≡◌, List, [], ◌∷◌, ◌++◌, Bool, not, ℕ, suc, ◌+◌, ◌-◌, ◌≤◌, ◌<◌, length}
use Rattle.std.proofs.Math.Path.{refl, ap}
use Rattle.std.proofs.Common.{sym, subst, ◌∙◌, append_assoc, arith}
use Rattle.std.proofs.Math.Bool.{true, false}
use Rattle.std.proofs.Math.Dec.{eqb}
use Rattle.meaning.specs.Numbers.Tag
use Rattle.meaning.specs.Numbers.Parts
use Rattle.meaning.specs.Tree.{Head, hd, Forest, none, more, one, count, size, ◌&◌}
use Rattle.meaning.specs.Shapes.{block}
use Rattle.meaning.specs.Statements.{any_using, take_up}
use Rattle.meaning.specs.Contexts.{for_list, take_up_for}
use Rattle.meaning.specs.Charges.{wraps}
use Rattle.spec_laws.specs.Tags.{clash}
use Rattle.charge_laws.proofs.Counts.TakenUp.{Labelled}
use Rattle.tables.specs.Loops.{turns, go_on, stopped}
use Rattle.tables.specs.Table.{capped, column_f, row_f}
use Rattle.tables.specs.Stream.{Buf, copy_row_f}
use Rattle.tables.specs.declared.Row.{Row}
use Rattle.representation.specs.Gap.Cells.{table, free, line, rows_of, gapped}
use Rattle.representation.proofs.Gap.Rows.{length_snoc, pass_gapped, length_left}
use Rattle.statements.specs.TakeUp.{take_up_f}
use Rattle.statements.specs.Plan.{plan, no_plan, plan_f}
use Rattle.statements.specs.declared.Parts.{Parts}
use Rattle.statements.specs.declared.Plan.{Plan}
use Rattle.table_laws.specs.Lists.TakeUp.{count_taken, take_up_law}
use Rattle.charge_laws.proofs.Growth.Trees.{for_taken}
use Rattle.table_laws.specs.Lists.Plan.{usings, awaits, parted, row_here}
use Rattle.table_laws.specs.Lists.Try.{context_of, handlers_of}
use Rattle.rewrite_contexts.specs.Lists.{list_scope}
use Rattle.rewrite_for_switch.specs.For.{is_loop_f, next_row, labels_end_f, plan_for_f, pass_rows_f, for_rows_f}
use Rattle.table_laws.specs.Streamed.Places.{one_row, tag_here, rows_below, plan_below, n_gapped}
use Rattle.table_laws.proofs.Streamed.Frame.{frame_law}

-- how many Labels stand before a record
unfoldable pub labels : Forest → ℕ
labels none = 0
labels (more h k r) = if eqb h.tag Tag.Label then suc (labels k) else 0

-- ---- the Labels

next_label : (t : List ℕ) (at : ℕ) → eqb (column_f t at 0) 4 ≡ true → at < 65535 → labels_end_f t at ≡ labels_end_f t (at + 1)
unfolding labels_end_f is_loop_f
next_label t at e q = go_on 65535 at (is_loop_f t) next_row _ at refl q (ap not e)

at_loop : (t : List ℕ) (at : ℕ) → eqb (column_f t at 0) 4 ≡ false → labels_end_f t at ≡ at
unfolding labels_end_f is_loop_f
at_loop t at e = sym (stopped (65535 - at) (is_loop_f t) next_row _ at refl (ap not e))

labels_by : (b : Bool) (t : List ℕ) (at n : ℕ) → eqb (column_f t at 0) 4 ≡ b → at < 65535
    → (b ≡ true → labels_end_f t (at + 1) ≡ at + 1 + n) → labels_end_f t at ≡ at + (if b then suc n else 0)
labels_by true t at n e q i = next_label t at e q ∙ i refl ∙ omega arith
labels_by false t at n e q i = at_loop t at e ∙ omega arith

-- THE LAST OF THE LABELS
pub labels_end_law : (z : List ℕ) (f : Forest) (a v : List Row) (t : List ℕ) → Labelled f → t ≡ table (a ++ (rows_of f ++ v)) z
    → length a + size f ≤ 65535 → labels_end_f t (length a) ≡ length a + labels f
unfolding labels size
labels_end_law z none a v t s e q = absurd s
labels_end_law z (more h k none) a v t s e q =
    let x = line h (count k) in
    let l = length_snoc a x in
    let v₁ = rows_of none ++ v in
    let e₁ = (parted z h k none a v t e).0 in
    labels_by (eqb h.tag Tag.Label) t (length a) (labels k) (ap (λ (n : ℕ). eqb n 4) (tag_here z h k a v₁ t e₁ (omega arith))) (omega arith)
    (λ d. rw (← l) (labels_end_law z k (a ++ x ∷ []) v₁ t (s d) (rows_below z h k a v₁ t e₁ (omega arith)) (omega arith)))
labels_end_law z (more h k (more h₁ k₁ r₁)) a v t s e q = absurd s

-- ---- what it has to take up

-- a plan of a list, but for its place
abbrev pub Plans : Forest → Plan → Type 0
Plans f p = (p.usings ≡ usings f) × (p.awaits ≡ awaits f) × (p.wraps ≡ wraps f)

-- what the record there has to take up, if it is a For
abbrev loop_plan : List ℕ → ℕ → Plan
loop_plan t at = let r = row_f t at in if eqb r.tag Tag.For then plan_f t (no_plan (capped at 1)) r.n else no_plan at

plans_by : (b : Bool) (k : Forest) (m n : ℕ)
    → Plans (if b then k else none) (if b then plan m (usings k) (awaits k) (wraps k) else no_plan n)
unfolding usings awaits wraps
plans_by true k m n = (refl, refl, refl)
plans_by false k m n = (refl, refl, refl)

for_by : (z : List ℕ) (b : Bool) (h : Head) (k : Forest) (a v : List Row) (t : List ℕ)
    → t ≡ table (a ++ line h (count k) ∷ (rows_of k ++ v)) z → length a + suc (size k) ≤ 65535 → eqb h.tag Tag.Label ≡ b
    → (b ≡ true → Plans (for_list k) (plan_for_f t (length a + 1)))
    → Plans (if b then for_list k else if eqb h.tag Tag.For then k else none) (plan_for_f t (length a))
unfolding plan_for_f
for_by z true h k a v t e q d i =
    let c = ap (λ (n : ℕ). eqb n 4) (tag_here z h k a v t e q) ∙ d in
    subst (Plans (for_list k)) (ap (loop_plan t) (sym (next_label t (length a) c (omega arith)))) (i refl)
for_by z false h k a v t e q d i =
    let c = ap (λ (n : ℕ). eqb n 4) (tag_here z h k a v t e q) ∙ d in
    rw (at_loop t (length a) c, row_here z h k a v t e q, plan_below z h k a v t e q)
    (plans_by (eqb h.tag Tag.For) k (length a + suc (size k)) (length a))

-- WHAT A FOR BELOW LABELS HAS TO TAKE UP
pub plan_for_law : (z : List ℕ) (f : Forest) (a v : List Row) (t : List ℕ) → Labelled f → t ≡ table (a ++ (rows_of f ++ v)) z
    → length a + size f ≤ 65535 → Plans (for_list f) (plan_for_f t (length a))
unfolding for_list size
plan_for_law z none a v t s e q = absurd s
plan_for_law z (more h k none) a v t s e q =
    let x = line h (count k) in
    let l = length_snoc a x in
    let v₁ = rows_of none ++ v in
    let e₁ = (parted z h k none a v t e).0 in
    for_by z (eqb h.tag Tag.Label) h k a v₁ t e₁ (omega arith) refl
    (λ d. rw (← l) (plan_for_law z k (a ++ x ∷ []) v₁ t (s d) (rows_below z h k a v₁ t e₁ (omega arith)) (omega arith)))
plan_for_law z (more h k (more h₁ k₁ r₁)) a v t s e q = absurd s

-- ---- the rows

count_for : (f : Forest) (ctx : ℕ) → count (take_up_for ctx f) ≡ count f
unfolding take_up_for count
count_for none ctx = refl
count_for (more h k r) ctx = refl

-- what is written below a record, by whether it is a Label
abbrev loop_below : Bool → ℕ → Forest → Forest
loop_below b ctx k = if b then take_up_for ctx k else take_up ctx k

count_below : (b : Bool) (ctx : ℕ) (k : Forest) → count (loop_below b ctx k) ≡ count k
count_below true ctx k = count_for k ctx
count_below false ctx k = count_taken k ctx

-- a For, if there is a using below it
-- the Labels pass, and the For's list is taken up
abbrev loop_rows : ℕ → ℕ → Buf → Buf
loop_rows n ctx b =
    let b₁ = pass_rows_f n b in
    take_up_f (column_f b₁.t b₁.read 4) ctx (copy_row_f b₁)

module _ (z : List ℕ) where
  loop_by : (b c : Bool) (ctx : ℕ) (h : Head) (k : Forest) (a : List Row) (g : ℕ) (v : List Row)
      → (let f = if b then for_list k else if c then k else none in
      any_using f ≡ true → length a + (wraps f + g) + suc (size k) ≤ 65535
      → (b ≡ true → any_using (for_list k) ≡ true → length a + (wraps (for_list k) + g) + suc (size k) ≤ 65535
      → loop_rows (labels k) ctx (gapped z (a ++ line h (count k) ∷ []) (wraps (for_list k) + g) (rows_of k ++ v))
      ≡ gapped z ((a ++ line h (count k) ∷ []) ++ rows_of (take_up_for ctx k)) g v)
      → loop_rows (if b then suc (labels k) else 0) ctx (gapped z a (wraps f + g) (line h (count k) ∷ (rows_of k ++ v)))
      ≡ gapped z ((a ++ line h (count k) ∷ []) ++ rows_of (loop_below b ctx k)) g v)
  unfolding pass_rows_f turns any_using
  loop_by true c ctx h k a g v u q i =
      ap (loop_rows (labels k) ctx) (pass_gapped z a (wraps (for_list k) + g) (line h (count k)) (rows_of k ++ v) (omega arith)) ∙ i refl u q
  loop_by false true ctx h k a g v u q i =
      let x = line h (count k) in
      rw (n_gapped z a (wraps k + g) x (rows_of k ++ v), pass_gapped z a (wraps k + g) x (rows_of k ++ v) (omega arith))
      (take_up_law z k ctx (a ++ x ∷ []) g v (omega (arith, length_snoc a x)))
  loop_by false false ctx h k a g v u q i = absurd (clash refl u)

  loop_law : (f : Forest) (ctx : ℕ) (a : List Row) (g : ℕ) (v : List Row) → Labelled f → any_using (for_list f) ≡ true
      → length a + (wraps (for_list f) + g) + size f ≤ 65535
      → loop_rows (labels f) ctx (gapped z a (wraps (for_list f) + g) (rows_of f ++ v)) ≡ gapped z (a ++ rows_of (take_up_for ctx f)) g v
  unfolding take_up_for for_list any_using labels size
  loop_law none ctx a g v s u q = absurd s
  loop_law (more h k none) ctx a g v s u q =
      let x = line h (count k) in
      let b = eqb h.tag Tag.Label in
      let k' = loop_below b ctx k in
      rw (one_row h k, one_row h k', count_below b ctx k)
      (loop_by b (eqb h.tag Tag.For) ctx h k a g v u (omega arith)
      (λ e d i. loop_law k ctx (a ++ x ∷ []) g v (s e) d (omega (arith, length_snoc a x)))
      ∙ simp append_assoc)
  loop_law (more h k (more h₁ k₁ r₁)) ctx a g v s u q = absurd s

  -- the Labels of the record behind a gap
  labels_gapped : (f : Forest) (a : List Row) (g : ℕ) (v : List Row) → Labelled f → length a + g + size f ≤ 65535
      → (let b = gapped z a g (rows_of f ++ v) in labels_end_f b.t b.read - b.read ≡ labels f)
  unfolding gapped
  labels_gapped f a g v s q =
      let l = length_left a g in
      let t = table (a ++ (free g ++ (rows_of f ++ v))) z in
      rw (← l, labels_end_law z f (a ++ free g) v t s (simp append_assoc) (omega arith)) (omega arith)

  -- A FOR GOES INTO A TRY, with its Labels
  pub for_rows_law : (h : Head) (k : Forest) (p : Parts) (a : List Row) (g : ℕ) (v : List Row)
      → Labelled (one h k) → any_using (for_list (one h k)) ≡ true
      → length a + (wraps (for_list (one h k)) + (12 + g)) + suc (size k) ≤ 65535 → p.scope.0 + 2 ≤ 65535
      → for_rows_f p (gapped z a (wraps (for_list (one h k)) + (12 + g)) (rows_of (one h k) ++ v))
      ≡ gapped z
      (a ++ rows_of (one (hd Tag.Try Parts.Both 0 0) (block (list_scope p) (context_of p & take_up_for p.context.0 (one h k)) & handlers_of p)))
      g v
  unfolding for_rows_f take_up_for size
  for_rows_law h k p a g v o u q s =
      let c = p.context.0 in
      let f = one h k in
      let m = wraps (for_list f) in
      rw (labels_gapped f a (m + (12 + g)) v o (omega arith))
      (frame_law z p h (loop_below (eqb h.tag Tag.Label) c k) (loop_rows (labels f) c) m a g (rows_of f ++ v) v (omega (arith, for_taken f c u)) s
      (λ a₁ l. loop_law f c a₁ (6 + g) v o u (omega arith)))
