-- The column of new numbers behind the rows of a scope table that is 0 there.
-- Assumes nothing.
use Rattle.std.specs.Prelude.{◌≡◌, List, [], ◌∷◌, ◌++◌, ℕ, ◌+◌, ◌*◌, ◌-◌, ◌/◌, ◌≤◌, ◌<◌, drop}
use Rattle.std.proofs.Math.Path.{refl, ap}
use Rattle.std.proofs.Common.{sym, ◌∙◌, arith}
use Rattle.std.proofs.Math.ListN.{length, replicate, length-append}
use Rattle.std.proofs.lemmas.List.{length-replicate, replicate-append-replicate}
use Rattle.std.proofs.Math.Seq.{take_at, drop_at}
use Rattle.meaning.specs.File.{Scope}
use Rattle.meaning.specs.Renumbering.{new_number}
use Rattle.tables.specs.Columns.ScopeTable
use Rattle.tables.specs.Table.{new_numbers_at}
use Rattle.representation.specs.Store.Held.{scope_cells}
use Rattle.renumbering.specs.Numbers.{number_in, named_in, numbers_f, numbered_f}
use Rattle.renumbering.specs.Laws.{numbers_length, numbers_are}

cells_++ : (ss : List Scope) (z c : List ℕ) → scope_cells ss (z ++ c) ≡ scope_cells ss z ++ c
unfolding scope_cells
cells_++ [] z c = refl
cells_++ (s ∷ ss) z c = ap (λ (t : List ℕ). s.parent ∷ s.flags ∷ t) (cells_++ ss z c)

cells_length : (ss : List Scope) (z : List ℕ) → length (scope_cells ss z) ≡ ScopeTable.Numbers * length ss + length z
unfolding scope_cells
cells_length [] z = omega arith
cells_length (s ∷ ss) z = omega (arith, cells_length ss z)

-- so many rows, and m zeros behind them, among which the table has as many numbers as rows
module _ (ss : List Scope) (m : ℕ) (room : length ss ≤ (ScopeTable.Numbers * length ss + m) / ScopeTable.Lent) where
  abbrev pub lent : List ℕ
  lent = scope_cells ss (replicate m 0)

  abbrev at : ℕ
  at = (ScopeTable.Numbers * length ss + m) / ScopeTable.Lent * ScopeTable.Numbers

  abbrev padding : ℕ
  padding = at - ScopeTable.Numbers * length ss

  abbrev numbers : ℕ
  numbers = ScopeTable.Numbers * length ss + m - at

  -- the rows, and the zeros before the column
  abbrev before : List ℕ
  before = scope_cells ss (replicate padding 0)

  before_length : length before ≡ at
  before_length = cells_length ss (replicate padding 0) ∙ omega (arith, length-replicate {A = ℕ} padding 0)

  zeros_split : lent ≡ before ++ replicate numbers 0
  zeros_split =
      let n : m ≡ padding + numbers = omega arith in
      ap (λ (k : ℕ). scope_cells ss (replicate k 0)) n
      ∙ ap (scope_cells ss) (sym (replicate-append-replicate {A = ℕ} padding numbers 0))
      ∙ cells_++ ss (replicate padding 0) (replicate numbers 0)

  -- where the column stands, whatever it holds
  stands : (c : List ℕ) → length c ≡ numbers → new_numbers_at (before ++ c) ≡ length before
  unfolding new_numbers_at
  stands c l =
      let long : length (before ++ c) ≡ ScopeTable.Numbers * length ss + m = length-append before c ∙ omega (arith, before_length) in
      rw long (sym before_length)

  module _ (r : List ℕ) (rows : ℕ) where
    abbrev column : List ℕ
    column = numbers_f 1 (named_in r 0 rows) (replicate numbers 0)

    column_length : length column ≡ numbers
    column_length = numbers_length (named_in r 0 rows) 1 (replicate numbers 0) ∙ length-replicate {A = ℕ} numbers 0

    -- THE TABLE, NUMBERED
    pub numbered_is : numbered_f r rows lent ≡ scope_cells ss (replicate padding 0 ++ column)
    unfolding numbered_f
    numbered_is =
        let zeros = replicate {A = ℕ} numbers 0 in
        ap (numbered_f r rows) zeros_split
        ∙ rw (stands zeros (length-replicate {A = ℕ} numbers 0), take_at before zeros (length before) refl, drop_at before zeros (length before) refl)
        (sym (cells_++ ss (replicate padding 0) column))

    numbers_there : drop (new_numbers_at (numbered_f r rows lent)) (numbered_f r rows lent) ≡ column
    numbers_there =
        ap (λ (t : List ℕ). drop (new_numbers_at t) t) (numbered_is ∙ cells_++ ss (replicate padding 0) column)
        ∙ rw (stands column column_length) (drop_at before column (length before) refl)

    -- WHAT STANDS IN THE COLUMN: the places in the order of names, if none but rows are named.
    pub numbers_in_lem : (order : List ℕ) → named_in r 0 rows ≡ order → new_number order 0 ≡ 0 → ((s : ℕ) → length ss < s → new_number order s ≡ 0)
        → let s = numbered_f r rows lent in number_in (drop (new_numbers_at s) s) ≡ new_number order
    numbers_in_lem order e no_zero no_more =
        ap number_in (numbers_there ∙ ap (λ (o : List ℕ). numbers_f 1 o (replicate numbers 0)) e)
        ∙ numbers_are order numbers no_zero (λ s l. no_more s (omega arith))
