-- Numbers given one after another; the column of a scope table, lent and back.
-- Assumes nothing.
use mathlib.Core.Path.{◌≡◌, refl, sym, ◌∙◌}
use mathlib.Core.List.{List, ◌++◌, append-nil}
use Prim.Native.Nat.{ℕ, ◌+◌, ◌-◌, ◌≤◌, ◌<◌}
use native.Mathlib.Omega.{arith}
use lib.ListN.{length, take, drop, length-drop}
use lib.Seq.{take-length, drop-length}
use Rattle.meaning.specs.Tree.{Head}
use Rattle.meaning.specs.Renumbering.{scope_named}
use Rattle.meaning.specs.Grammar.{scope_of}
use borrow.Author.Tests.{eq-eqb, ne_eqb}
use Rattle.tables.specs.Table.{row_f, head_f, new_numbers_at}
use Rattle.tables.specs.Loops.{one_less}
use Rattle.tables.specs.declared.Row.{Row}
use Rattle.renumbering.specs.Numbers.{number_f, named_in, numbers_f, numbered_f}
use Rattle.renumbering.specs.Laws.{numbers_++, named_most}

-- a row that names no scope, and one that does
abbrev pub RowNumbered : Head → ℕ → ℕ → List ℕ → List ℕ → Type 0
RowNumbered h named named' t t' = (t' ≡ numbers_f (named + 1) (scope_named h) t) × (named' ≡ named + length (scope_named h))

pub row_passed : (h : Head) (s named : ℕ) (t : List ℕ) → s ≡ scope_of h → s ≡ 0 → RowNumbered h named named t t
unfolding scope_named numbers_f
row_passed h s named t is none = rw (eq-eqb _ 0 (sym is ∙ none)) (refl, omega arith)

pub row_numbered : (h : Head) (s named : ℕ) (t t' : List ℕ) → s ≡ scope_of h → (s ≡ 0 → ⊥) → t' ≡ number_f t s (named + 1)
    → RowNumbered h named (named + 1) t t'
unfolding scope_named numbers_f
row_numbered h s named t t' is some d = rw (← is, ne_eqb s 0 some) (d, omega arith)

-- the next row's
pub named_turn : (r : List ℕ) (row : Row) (t t' t₀ : List ℕ) (named named' k n : ℕ) → t₀ ≡ numbers_f (named + 1) (named_in r k (n - k)) t → k < n
    → row ≡ row_f r k → t' ≡ numbers_f (named + 1) (scope_named (head_f row)) t → named' ≡ named + length (scope_named (head_f row))
    → t₀ ≡ numbers_f (named' + 1) (named_in r (k + 1) (n - (k + 1))) t'
unfolding named_in
named_turn r row t t' t₀ named named' k n e l here d m =
    let xs = scope_named (head_f (row_f r k)) in
    let ys = named_in r (k + 1) (n - (k + 1)) in
    let v : named + 1 + length xs ≡ named' + 1 = omega (arith, rw here at m) in
    (rw (one_less n k l) at e) ∙ numbers_++ xs ys (named + 1) t ∙ rw (v, d, here)

pub named_more : (h : Head) (named named' k : ℕ) → named ≤ k → named' ≡ named + length (scope_named h) → named' ≤ k + 1
named_more h named named' k l e = omega (arith, named_most h)

-- no row is left
pub named_last : (r : List ℕ) (t t₀ : List ℕ) (named k n : ℕ) → t₀ ≡ numbers_f (named + 1) (named_in r k (n - k)) t → n ≤ k → t ≡ t₀
unfolding named_in numbers_f
named_last r t t₀ named k n e l = let d : n - k ≡ 0 = omega arith in rw d at (sym e)

-- the column
pub behind_rows : (r s c : List ℕ) (count at : ℕ) → at ≡ new_numbers_at s → c ≡ numbers_f 1 (named_in r 0 count) (take (length s - at) (drop at s))
    → take at s ++ (c ++ drop (length s - at) (drop at s)) ≡ numbered_f r count s
unfolding numbered_f
behind_rows r s c count at e d =
    rw (d, ← length-drop at s, drop-length (drop at s), take-length (drop at s), append-nil, e)
