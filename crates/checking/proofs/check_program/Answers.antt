-- `checking::check_program` meets its contract. Assumes nothing.
use Rattle.spec_laws.specs.Refused.{handed_on}
use Rattle.checking.proofs.Laws.{record_entered, record_first, record_refused}
use Rattle.checking.proofs.check_program.Goals as goal

pub returns : goal.returns
returns c =
    record_first _ _ _ _ _ _ _ _ _ _ _
    (record_entered _ _ _ _ _ _ _ _ _ _ _ _ (rw c.in_ok-x.was at c.enter_record.ensures)
    c.check_entered.ensures)
    c.no_tally.ensures

pub returns-in_err-x : goal.returns-in_err-x
returns-in_err-x c =
    rw (handed_on _ c.from_residual.ensures.1)
    (record_refused _ _ _ _ _ _ _ _ _ _ _ _ _ c.enter_record.ensures c.in_err-x.was)
