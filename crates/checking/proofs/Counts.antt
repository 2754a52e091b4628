-- The turns of the pass that counts mentions, and of the search for a wrong count.
-- Assumes nothing.
use Rattle.std.specs.Prelude.{if◌then◌else◌, Option, Some, None, MatchOption}
use mathlib.Core.Path.{◌≡◌, refl}
use mathlib.Core.Bool.{true, false}
use mathlib.Core.List.{List}
use Prim.Native.Nat.{ℕ, zero, suc, ◌+◌, ◌*◌, ◌-◌, ◌≤◌, ◌<◌}
use native.Mathlib.Nat.{zero-add}
use native.Mathlib.Omega.{arith}
use lib.Dec.{eqb}
use lib.ListN.{length, get_or}
use borrow.Author.Tests.{eq-eqb, ne_eqb}
use Rattle.meaning.specs.File.{field_bytes, symbol_bytes}
use Rattle.meaning.specs.Grammar.{two, field_of}
use Rattle.meaning.specs.Reading.{wrong_count}
use Rattle.meaning.specs.declared.Field.{Field}
use Rattle.spec_laws.specs.Trees.{numbers_most}
use Rattle.tables.specs.Loops.{turns, next_turn}
use Rattle.tables.specs.Table.{closed_row_f, head_f}
use Rattle.tables.specs.declared.Row.{Row}
use Rattle.mentions.specs.Counters.{add_record_f}
use Rattle.checking.specs.Flat.{Counting, counting, next_count, wrong_in, row_below}
use Rattle.checking.proofs.Laws.{row_here, row_behind}

-- ---- the records

-- the offset behind a field
pub next_most : (f : List ℕ) (at n next : ℕ) → next ≡ (field_of f at).next → at ≤ 65535 + 13 * n → next ≤ 65535 + 13 * (n + 1)
unfolding field_of field_bytes
next_most f at n next e h = rw e (omega (arith, numbers_most (get_or f at 0)))

pub count_turn : (r : Counting) (f t t' : List ℕ) (n at k : ℕ) (x : Field) (row : Row)
    → r ≡ turns (n - k) (next_count f) (counting t at) → k < n → x ≡ field_of f at
    → row ≡ closed_row_f x.tag x.a x.b x.c 0 → t' ≡ add_record_f t (head_f row)
    → r ≡ turns (n - (k + 1)) (next_count f) (counting t' x.next)
unfolding next_count
count_turn r f t t' n at k x row e h ex er et = rw (et, er, ex) (next_turn n k (next_count f) r (counting t at) e h)

-- ---- the rows

-- counters as a function of symbol rows
abbrev pub counters : List ℕ → ℕ → ℕ
counters t y = get_or t (y - 1) 0

-- what is left of the search at row k, counted from 0, of rows that begin at an offset
unfoldable pub wrong_from : List ℕ → List ℕ → ℕ → ℕ → ℕ
wrong_from f t first k = wrong_count f (counters t) (length t - k) (suc k) (first + symbol_bytes * k)

pub wrong_first : (f t : List ℕ) (first : ℕ) → wrong_in f t first ≡ 0 + wrong_from f t first 0
unfolding wrong_in wrong_from
wrong_first f t first =
    let all : length t - 0 ≡ length t = omega arith in
    let place : first + symbol_bytes * 0 ≡ first = omega arith in
    rw (all, place, zero-add)

module _ (f t : List ℕ) (first k : ℕ) where
  wrong_turn : k < length t
      → wrong_from f t first k ≡ (if eqb (two f (first + symbol_bytes * k + 11)) (get_or t k 0) then 1 + wrong_from f t first (k + 1) else 0)
  unfolding wrong_count wrong_from
  wrong_turn h =
      let left : length t - k ≡ suc (length t - (k + 1)) = omega arith in
      let row : suc k - 1 ≡ k = omega arith in
      let next : k + 1 ≡ suc k = omega arith in
      let place : first + symbol_bytes * suc k ≡ first + symbol_bytes * k + symbol_bytes = omega arith in
      rw (left, row, next, place)

  module _ (w n : ℕ) (so_far : w ≡ k + wrong_from f t first k) (read : n ≡ two f (first + symbol_bytes * k + 11)) (more : k < length t) where
    pub wrong_here : (n ≡ get_or t k 0 → ⊥) → k ≡ w
    wrong_here h =
        let test : eqb (two f (first + symbol_bytes * k + 11)) (get_or t k 0) ≡ false = rw (← read) (ne_eqb n (get_or t k 0) h) in
        let e : wrong_from f t first k ≡ 0 = rw test at (wrong_turn more) in
        omega arith

    pub wrong_step : n ≡ get_or t k 0 → w ≡ (k + 1) + wrong_from f t first (k + 1)
    wrong_step h =
        let test : eqb (two f (first + symbol_bytes * k + 11)) (get_or t k 0) ≡ true = rw (← read) (eq-eqb n (get_or t k 0) h) in
        let e : wrong_from f t first k ≡ 1 + wrong_from f t first (k + 1) = rw test at (wrong_turn more) in
        omega arith

  pub wrong_end : (w : ℕ) → w ≡ k + wrong_from f t first k → length t ≤ k → k ≡ w
  unfolding wrong_count wrong_from
  wrong_end w so_far h =
      let none_left : length t - k ≡ 0 = omega arith in
      let e : w ≡ k + 0 = rw none_left at so_far in
      omega arith

-- what is the first row with a wrong count, or none
module _ (f t : List ℕ) (first : ℕ) where
  abbrev Fine : ℕ → Type 0
  Fine k = two f (first + symbol_bytes * k + 11) ≡ get_or t k 0

  past : (d i w : ℕ) → w ≡ i + wrong_from f t first i → i + d ≤ length t → ((j : ℕ) → i ≤ j → j < i + d → Fine j) → w ≡ (i + d) + wrong_from f t first (i + d)
  past zero i w e h all = let z : i + 0 ≡ i = omega arith in rw z e
  past (suc d) i w e h all =
      let s : i + 1 + d ≡ i + suc d = omega arith in
      rw s at (past d (i + 1) w (wrong_step f t first i w _ e refl (omega arith) (all i (omega arith) (omega arith))) (omega arith) (λ j a b. all j (omega arith) (omega arith)))

  from_first : (k : ℕ) → k ≤ length t → ((j : ℕ) → 0 ≤ j → j < k → Fine j) → wrong_in f t first ≡ k + wrong_from f t first k
  from_first k h all = let z : 0 + k ≡ k = omega arith in rw z at (past k 0 _ (wrong_first f t first) (omega arith) (λ j a b. all j a (omega arith)))

  pub first_row : (r : Option ℕ) → MatchOption r ((k : ℕ) → 0 ≤ k → k < length t → Fine k) (λ k. (0 ≤ k) × (k < length t) × (Fine k → ⊥) × ((j : ℕ) → 0 ≤ j → j < k → Fine j))
      → r ≡ row_below (wrong_in f t first) (length t)
  first_row None h = row_behind _ _ _ (wrong_end f t first _ _ (from_first (length t) (omega arith) h) (omega arith)) (omega arith)
  first_row (Some k) h = row_here _ _ _ (wrong_here f t first k _ _ (from_first k (omega (arith, h.1)) h.3) refl h.1 h.2) h.1
