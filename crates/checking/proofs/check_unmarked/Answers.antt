-- `checking::check_unmarked` meets its contract. Assumes nothing.
use Rattle.meaning.specs.Reading.{most_rows}
use Rattle.checking.proofs.Laws.{take_zeros, zeros_length, zeros_few}
use Rattle.checking.proofs.check_unmarked.Goals as goal

pub slice_bounds-check_tree-end : goal.slice_bounds-check_tree-end
slice_bounds-check_tree-end c = zeros_length most_rows _ c.requires

pub check_tree-requires : goal.check_tree-requires
check_tree-requires c = zeros_few most_rows _ c.requires

pub returns : goal.returns
returns c =
    rw (← take_zeros most_rows _ c.requires) c.check_tree.ensures
