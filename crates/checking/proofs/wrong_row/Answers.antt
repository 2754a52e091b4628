-- `checking::wrong_row` meets its contract. Assumes nothing.
use Rattle.meaning.specs.Reading.{most_symbols}
use Rattle.checking.specs.Flat.{wrong_f}
use Rattle.checking.proofs.Laws.{take_zeros, zeros_length, zeros_few}
use Rattle.checking.proofs.wrong_row.Goals as goal

pub slice_bounds-first_miscounted-end : goal.slice_bounds-first_miscounted-end
slice_bounds-first_miscounted-end c = zeros_length most_symbols _ c.requires

pub first_miscounted-requires : goal.first_miscounted-requires
first_miscounted-requires c = zeros_few most_symbols _ c.requires

pub returns : goal.returns
unfolding wrong_f
returns c =
    rw (← zeros_length most_symbols _ c.requires, take_zeros most_symbols _ c.requires) at c.first_miscounted.ensures
