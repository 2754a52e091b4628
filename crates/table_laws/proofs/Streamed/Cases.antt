-- What the Cases of a Switch have to take up, counted on their rows.
-- Assumes nothing.
use Rattle.std.specs.Prelude.{if◌then◌else◌, ◌≡◌, refl, List, [], ◌∷◌, ◌++◌, Bool, true, false, not, ◌&&◌, ℕ, suc, ◌+◌, ◌≤◌, eqb, length}
use Rattle.std.proofs.Math.Path.{ap}
use Rattle.std.proofs.Common.{◌∙◌, arith}
use Rattle.std.proofs.Math.Nat.{zero-add, add-zero}
use Rattle.meaning.specs.Numbers.Tag
use Rattle.meaning.specs.Tree.{Head, Forest, none, more, count, size}
use Rattle.meaning.specs.Statements.{any_using, any_await_using}
use Rattle.meaning.specs.Contexts.{any_case_using, any_case_await_using}
use Rattle.meaning.specs.Charges.{wraps, case_wraps}
use Rattle.tables.specs.Loops.{turns}
use Rattle.tables.specs.Table.{capped}
use Rattle.tables.specs.declared.Row.{Row}
use Rattle.representation.specs.Gap.Cells.{table, line, rows_of}
use Rattle.representation.proofs.Gap.Rows.{length_snoc}
use Rattle.statements.specs.Plan.{plan, plan_f}
use Rattle.table_laws.specs.Lists.TakeUp.{length_line}
use Rattle.table_laws.specs.Lists.Plan.{usings, awaits, any_usings, any_awaits, plan_law, parted, plan_eq, row_here, end_here, counts_size as list_size}
use Rattle.rewrite_for_switch.specs.Switch.{plan_case_f, plan_cases_f}
use Rattle.table_laws.specs.Streamed.Places.{some_both, below_here, rows_below}
use Rattle.spec_laws.specs.Bools.{at_most}

-- a number of a Case's list, or 0
abbrev pub in_case : Head → ℕ → ℕ
in_case h n = if eqb h.tag Tag.Case then n else 0

-- the usings that stand directly in the Cases, and the `await using`s
unfoldable pub case_usings : Forest → ℕ
case_usings none = 0
case_usings (more h k r) = in_case h (usings k) + case_usings r

unfoldable pub case_awaits : Forest → ℕ
case_awaits none = 0
case_awaits (more h k r) = in_case h (awaits k) + case_awaits r

-- ---- none or some

in_some : (b any : Bool) (n : ℕ) → any ≡ not (eqb n 0) → (b && any) ≡ not (eqb (if b then n else 0) 0)
in_some true any n e = e
in_some false any n e = refl

-- a using stands in a Case if they are not 0
pub any_case_usings : (f : Forest) → any_case_using f ≡ not (eqb (case_usings f) 0)
unfolding any_case_using case_usings
any_case_usings none = refl
any_case_usings (more h k r) =
    let c = eqb h.tag Tag.Case in
    some_both (c && any_using k) (any_case_using r) (in_case h (usings k)) (case_usings r) (in_some c (any_using k) (usings k) (any_usings k))
    (any_case_usings r)

-- and so for an `await using`
pub any_case_awaits : (f : Forest) → any_case_await_using f ≡ not (eqb (case_awaits f) 0)
unfolding any_case_await_using case_awaits
any_case_awaits none = refl
any_case_awaits (more h k r) =
    let c = eqb h.tag Tag.Case in
    some_both (c && any_await_using k) (any_case_await_using r) (in_case h (awaits k)) (case_awaits r)
    (in_some c (any_await_using k) (awaits k) (any_awaits k))
    (any_case_awaits r)

-- ---- nothing is capped

cases_size : (f : Forest) → (case_usings f ≤ size f) × (case_awaits f ≤ size f) × (case_wraps f ≤ size f)
unfolding case_usings case_awaits case_wraps size
cases_size none = omega arith
cases_size (more h k r) =
    let c = eqb h.tag Tag.Case in
    omega (arith, at_most c (usings k), at_most c (awaits k), at_most c (wraps k), list_size k, cases_size r)

-- ---- counted on the rows

module _ (z : List ℕ) where
  -- by whether it is a Case
  case_by : (b : Bool) (h : Head) (k : Forest) (a v : List Row) (u w x : ℕ) (t : List ℕ)
      → t ≡ table (a ++ line h (count k) ∷ (rows_of k ++ v)) z → length a + suc (size k) ≤ 65535
      → u + (if b then usings k else 0) ≤ 65535 → w + (if b then awaits k else 0) ≤ 65535 → x + (if b then wraps k else 0) ≤ 65535
      → (if b then plan_f t (plan (capped (length a) 1) u w x) (count k) else plan (length (a ++ line h (count k) ∷ rows_of k)) u w x)
      ≡ plan
      (length (a ++ line h (count k) ∷ rows_of k))
      (u + (if b then usings k else 0))
      (w + (if b then awaits k else 0))
      (x + (if b then wraps k else 0))
  case_by true h k a v u w x t e q i₁ i₂ i₃ =
      let y = line h (count k) in
      let l = length_snoc a y in
      rw (below_here z h k a v t e q)
      (plan_law z k (a ++ y ∷ []) v u w x t (rows_below z h k a v t e q) (omega arith) i₁ i₂ i₃
      ∙ plan_eq (omega (arith, length_line a y k)) refl refl refl)
  case_by false h k a v u w x t e q i₁ i₂ i₃ = simp add-zero

  plan_case : (h : Head) (k : Forest) (a v : List Row) (u w x : ℕ) (t : List ℕ)
      → t ≡ table (a ++ line h (count k) ∷ (rows_of k ++ v)) z → length a + suc (size k) ≤ 65535
      → u + in_case h (usings k) ≤ 65535 → w + in_case h (awaits k) ≤ 65535 → x + in_case h (wraps k) ≤ 65535
      → plan_case_f t (plan (length a) u w x)
      ≡ plan
      (length (a ++ line h (count k) ∷ rows_of k))
      (u + in_case h (usings k))
      (w + in_case h (awaits k))
      (x + in_case h (wraps k))
  unfolding plan_case_f
  plan_case h k a v u w x t e q i₁ i₂ i₃ =
      rw (row_here z h k a v t e q, end_here z h k a v t e q) (case_by (eqb h.tag Tag.Case) h k a v u w x t e q i₁ i₂ i₃)

  cases_turns : (f : Forest) (a v : List Row) (u w x : ℕ) (t : List ℕ) → t ≡ table (a ++ (rows_of f ++ v)) z
      → length a + size f ≤ 65535 → u + case_usings f ≤ 65535 → w + case_awaits f ≤ 65535 → x + case_wraps f ≤ 65535
      → turns (count f) (plan_case_f t) (plan (length a) u w x)
      ≡ plan (length a + size f) (u + case_usings f) (w + case_awaits f) (x + case_wraps f)
  unfolding turns case_usings case_awaits case_wraps count size
  cases_turns none a v u w x t e q i₁ i₂ i₃ = simp add-zero
  cases_turns (more h k r) a v u w x t e q i₁ i₂ i₃ =
      let y = line h (count k) in
      let e₁ = parted z h k r a v t e in
      let l = length_line a y k in
      ap (turns (count r) (plan_case_f t))
      (plan_case h k a (rows_of r ++ v) u w x t e₁.0 (omega arith) (omega arith) (omega arith) (omega arith))
      ∙ cases_turns r (a ++ y ∷ rows_of k) v (u + in_case h (usings k)) (w + in_case h (awaits k)) (x + in_case h (wraps k)) t e₁.1
      (omega arith) (omega arith) (omega arith) (omega arith)
      ∙ plan_eq (omega arith) (omega arith) (omega arith) (omega arith)

  -- WHAT THE CASES HAVE TO TAKE UP
  pub plan_cases_law : (f : Forest) (a v : List Row) (t : List ℕ) → t ≡ table (a ++ (rows_of f ++ v)) z → length a + size f ≤ 65535
      → plan_cases_f t (length a) (count f) ≡ plan (length a + size f) (case_usings f) (case_awaits f) (case_wraps f)
  unfolding plan_cases_f
  plan_cases_law f a v t e q =
      let i = cases_size f in
      cases_turns f a v 0 0 0 t e q (omega arith) (omega arith) (omega arith) ∙ simp zero-add
