-- `writing::Source::put_symbol` meets its contract. Assumes nothing.
use native.Mathlib.Omega.{arith}
use Rattle.writing.specs.Writing.{symbol_field}
use Rattle.tables.specs.Table.{counts_few}
use Rattle.writing.proofs.Laws.{symbol_put}
use Rattle.writing.proofs.Source.put_symbol.Goals as goal

pub overflow_add-counts_at : goal.overflow_add-counts_at
overflow_add-counts_at c =
    let long = c.well_formed.1.1.0.1 in
    record { fits = omega (arith, counts_few _ _ c.counts_at.ensures) }

pub returns : goal.returns
unfolding symbol_field
returns c =
    rw (c.put_two.ensures, c.put_field.ensures, c.new_number-scope.ensures, c.get-count.ensures, c.counts_at.ensures, c.get-made.ensures, c.get.ensures, c.get-flags.ensures, c.get-name.ensures)
    (symbol_put _ _ _ _ _ _ _)
