-- What the usings of a list come to, counted on its rows.
-- Assumes nothing.
use Rattle.std.specs.Prelude.{if◌then◌else◌, ◌≡◌, Bool, not, ◌||◌, ◌&&◌, ℕ, suc, ◌+◌, ◌≤◌, eqb, ltb}
use Rattle.std.proofs.Math.Path.{refl, ap}
use Rattle.std.proofs.Common.{sym, ap₂, ◌∙◌, arith, ne_eqb}
use mathlib.Core.List.{List, [], ◌∷◌, ◌++◌, append_assoc}
use Rattle.std.proofs.Math.Bool.{true, false}
use Rattle.std.proofs.Math.Nat.{zero-add, add-zero}
use Rattle.std.proofs.Math.ListN.{length}
use Rattle.meaning.specs.Numbers.Tag
use Rattle.meaning.specs.Tree.{Head, Forest, none, more, count, size}
use Rattle.meaning.specs.Statements.{is_using, is_await_using, any_using, any_await_using}
use Rattle.meaning.specs.Charges.{initializers, wraps}
use Rattle.tables.specs.Loops.{turns}
use Rattle.tables.specs.Table.{capped, row_f, end_f}
use Rattle.tables.specs.declared.Row.{Row}
use Rattle.representation.specs.Gap.Cells.{table, line, rows_of}
use Rattle.representation.proofs.Gap.Rows.{row_at_lem, length_snoc}
use Rattle.representation.proofs.Gap.Streams.{end_one}
use Rattle.statements.specs.TakeUp.{has_initializer_f}
use Rattle.statements.specs.Plan.{counting, count_one_f, initializers_f, wraps_f, plan, no_plan, plan_one_f, plan_f}
use Rattle.statements.specs.declared.Counting.{Counting}
use Rattle.table_laws.specs.Lists.TakeUp.{initializer, item_wraps, length_line}
use Rattle.spec_laws.specs.Bools.{at_most}

-- the usings that stand directly in a list, and the `await using`s
unfoldable pub usings : Forest → ℕ
usings none = 0
usings (more h k r) = (if is_using h then 1 else 0) + usings r

unfoldable pub awaits : Forest → ℕ
awaits none = 0
awaits (more h k r) = (if is_await_using h then 1 else 0) + awaits r

-- ---- none or some

some : (b any : Bool) (n : ℕ) → any ≡ not (eqb n 0) → (b || any) ≡ not (eqb ((if b then 1 else 0) + n) 0)
some true any n e = rw (ne_eqb (1 + n) 0 (λ i. omega arith))
some false any n e = rw zero-add e

-- a using stands in the list if they are not 0
pub any_usings : (f : Forest) → any_using f ≡ not (eqb (usings f) 0)
unfolding any_using usings
any_usings none = refl
any_usings (more h k r) = some (is_using h) (any_using r) (usings r) (any_usings r)

-- and so for an `await using`
pub any_awaits : (f : Forest) → any_await_using f ≡ not (eqb (awaits f) 0)
unfolding any_await_using awaits
any_awaits none = refl
any_awaits (more h k r) = some (is_await_using h) (any_await_using r) (awaits r) (any_awaits r)

-- ---- nothing is capped

pub cap_sum : (x k : ℕ) → x + k ≤ 65535 → capped x k ≡ x + k
cap_sum x k h = omega arith

pub initializers_size : (f : Forest) → initializers f ≤ size f
unfolding initializers size
initializers_size none = omega arith
initializers_size (more h k r) = omega (arith, at_most (eqb h.tag Tag.Declarator && ltb h.b (count k)) 1, initializers_size r)

pub counts_size : (f : Forest) → (usings f ≤ size f) × (awaits f ≤ size f) × (wraps f ≤ size f)
unfolding usings awaits wraps size
counts_size none = omega arith
counts_size (more h k r) =
    omega (
      arith,
      at_most (is_using h) 1,
      at_most (is_await_using h) 1,
      at_most (is_using h) (initializers k),
      initializers_size k,
      counts_size r,
    )

-- ---- the initializers of a using

-- the first of some records, and what comes after it
pub parted : (z : List ℕ) (h : Head) (k r : Forest) (a v : List Row) (t : List ℕ) → t ≡ table (a ++ (rows_of (more h k r) ++ v)) z
    → (t ≡ table (a ++ line h (count k) ∷ (rows_of k ++ (rows_of r ++ v))) z)
    × (t ≡ table ((a ++ line h (count k) ∷ rows_of k) ++ (rows_of r ++ v)) z)
unfolding rows_of
parted z h k r a v t e = (e ∙ simp append_assoc, e ∙ simp append_assoc)

module _ (z : List ℕ) (h : Head) (k : Forest) (a v : List Row) (t : List ℕ)
    (e : t ≡ table (a ++ line h (count k) ∷ (rows_of k ++ v)) z) (q : length a + suc (size k) ≤ 65535) where
  pub row_here : row_f t (length a) ≡ line h (count k)
  row_here = rw e (row_at_lem z a (line h (count k)) (rows_of k ++ v))

  pub end_here : end_f t (length a) 1 ≡ length (a ++ line h (count k) ∷ rows_of k)
  end_here = end_one z h k a v t e q ∙ sym (length_line a (line h (count k)) k)

  count_one : (s : ℕ) → s + initializer h k ≤ 65535
      → count_one_f t (counting (length a) s) ≡ counting (length (a ++ line h (count k) ∷ rows_of k)) (s + initializer h k)
  unfolding count_one_f has_initializer_f
  count_one s i = rw (row_here, end_here, cap_sum s (initializer h k) i)

counting_law : (z : List ℕ) (f : Forest) (a v : List Row) (s : ℕ) (t : List ℕ) → t ≡ table (a ++ (rows_of f ++ v)) z
    → length a + size f ≤ 65535 → s + initializers f ≤ 65535
    → turns (count f) (count_one_f t) (counting (length a) s) ≡ counting (length a + size f) (s + initializers f)
unfolding turns initializers count size
counting_law z none a v s t e q i = simp add-zero
counting_law z (more h k r) a v s t e q i =
    let x = line h (count k) in
    let e₁ = parted z h k r a v t e in
    let l = length_line a x k in
    ap (turns (count r) (count_one_f t)) (count_one z h k a (rows_of r ++ v) t e₁.0 (omega arith) s (omega arith))
    ∙ counting_law z r (a ++ x ∷ rows_of k) v (s + initializer h k) t e₁.1 (omega arith) (omega arith)
    ∙ ap₂ counting (omega arith) (omega arith)

-- ---- an item

pub plan_eq : {p u w x p' u' w' x' : ℕ} → p ≡ p' → u ≡ u' → w ≡ w' → x ≡ x' → plan p u w x ≡ plan p' u' w' x'
plan_eq e₁ e₂ e₃ e₄ = λ i. plan (e₁ i) (e₂ i) (e₃ i) (e₄ i)

module _ (z : List ℕ) (h : Head) (k : Forest) (a v : List Row) (t : List ℕ)
    (e : t ≡ table (a ++ line h (count k) ∷ (rows_of k ++ v)) z) (q : length a + suc (size k) ≤ 65535) where
  -- what taking it up wraps, first by whether it is a using
  wraps_by : (b : Bool) → (if b then initializers_f t (capped (length a) 1) (count k) else 0) ≡ (if b then initializers k else 0)
  unfolding initializers_f
  wraps_by true =
      let a₁ = a ++ line h (count k) ∷ [] in
      let l : length a₁ ≡ length a + 1 = length_snoc a (line h (count k)) in
      let e₁ : t ≡ table (a₁ ++ (rows_of k ++ v)) z = e ∙ simp append_assoc in
      rw (cap_sum (length a) 1 (omega arith), ← l)
      (ap (λ (s : Counting). s.sum) (counting_law z k a₁ v 0 t e₁ (omega arith) (omega (arith, initializers_size k)))
      ∙ zero-add (initializers k))
  wraps_by false = refl

  wraps_law : wraps_f t (length a) ≡ item_wraps h k
  unfolding wraps_f
  wraps_law = rw (row_here z h k a v t e q) (wraps_by (is_using h))

  plan_one : (u w x : ℕ) → u + (if is_using h then 1 else 0) ≤ 65535 → w + (if is_await_using h then 1 else 0) ≤ 65535
      → x + item_wraps h k ≤ 65535
      → plan_one_f t (plan (length a) u w x)
      ≡ plan
      (length (a ++ line h (count k) ∷ rows_of k))
      (u + (if is_using h then 1 else 0))
      (w + (if is_await_using h then 1 else 0))
      (x + item_wraps h k)
  unfolding plan_one_f
  plan_one u w x i₁ i₂ i₃ =
      rw (row_here z h k a v t e q)
      (plan_eq (end_here z h k a v t e q) (cap_sum u _ i₁) (cap_sum w _ i₂) (ap (capped x) wraps_law ∙ cap_sum x _ i₃))

-- ---- a list

module _ (z : List ℕ) where
  -- A LIST COUNTED ON from a plan
  pub plan_law : (f : Forest) (a v : List Row) (u w x : ℕ) (t : List ℕ) → t ≡ table (a ++ (rows_of f ++ v)) z
      → length a + size f ≤ 65535 → u + usings f ≤ 65535 → w + awaits f ≤ 65535 → x + wraps f ≤ 65535
      → plan_f t (plan (length a) u w x) (count f) ≡ plan (length a + size f) (u + usings f) (w + awaits f) (x + wraps f)
  unfolding plan_f turns usings awaits wraps count size
  plan_law none a v u w x t e q i₁ i₂ i₃ = simp add-zero
  plan_law (more h k r) a v u w x t e q i₁ i₂ i₃ =
      let y = line h (count k) in
      let e₁ = parted z h k r a v t e in
      let l = length_line a y k in
      ap (turns (count r) (plan_one_f t))
      (plan_one z h k a (rows_of r ++ v) t e₁.0 (omega arith) u w x (omega arith) (omega arith) (omega arith))
      ∙ plan_law r (a ++ y ∷ rows_of k) v _ _ _ t e₁.1 (omega arith) (omega arith) (omega arith) (omega arith)
      ∙ plan_eq (omega arith) (omega arith) (omega arith) (omega arith)

  -- from the start
  pub plan_list_law : (f : Forest) (a v : List Row) (t : List ℕ) → t ≡ table (a ++ (rows_of f ++ v)) z → length a + size f ≤ 65535
      → plan_f t (no_plan (length a)) (count f) ≡ plan (length a + size f) (usings f) (awaits f) (wraps f)
  plan_list_law f a v t e q =
      let i = counts_size f in
      plan_law f a v 0 0 0 t e q (omega arith) (omega arith) (omega arith) ∙ simp zero-add
