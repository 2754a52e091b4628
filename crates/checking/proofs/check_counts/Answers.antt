-- `checking::check_counts` meets its contract. Assumes nothing.
use borrow.Author.Tests.{lt-leb, le-leb}
use Rattle.checking.proofs.Laws.{row_found, row_missed}
use Rattle.checking.specs.Flat.{counted_f}
use Rattle.checking.proofs.check_counts.Goals as goal

pub returns-in-Some : goal.returns-in-Some
unfolding counted_f
returns-in-Some c =
    let lowest = row_found _ _ _ c.wrong_row.ensures _ c.in-Some.is in
    rw (lt-leb _ _ lowest.1, lowest.0)

pub returns-in-None : goal.returns-in-None
unfolding counted_f
returns-in-None c =
    rw (le-leb _ _ (row_missed _ _ _ c.wrong_row.ensures c.in-None.is))
