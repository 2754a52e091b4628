-- `start::start` meets its contract. Assumes nothing.
use Rattle.spec_laws.specs.Refused.{handed_on}
use Rattle.start.specs.Flat.{counted_f, start_by}
use Rattle.start.proofs.Answer.{start_is}
use Rattle.start.proofs.start.Goals as goal

pub returns-in_err-admitted : goal.returns-in_err-admitted
unfolding start_by
returns-in_err-admitted c =
    rw (handed_on _ c.from_residual.ensures.1, ← start_is _ _ _ _ _ c.admit.ensures, c.in_err-admitted.was)

pub returns : goal.returns
unfolding start_by counted_f
returns c =
    rw (← start_is _ _ _ _ _ c.admit.ensures, c.in_ok-admitted.was, ← c.capped-end.ensures, ← c.fill-walk.ensures, ← c.count_rows.ensures)
