-- `checking::read_right` meets its contract. Assumes nothing.
use Rattle.spec_laws.specs.Refused.{handed_on}
use Rattle.checking.specs.Flat.{right_at}
use Rattle.checking.proofs.read_right.Goals as goal

pub returns-in_err-x : goal.returns-in_err-x
unfolding right_at
returns-in_err-x c = rw (handed_on _ c.from_residual.ensures.1, ← c.field.ensures, c.in_err-x.was)

pub returns : goal.returns
unfolding right_at
returns c = rw (← c.field.ensures, c.in_ok-x.was, ← c.is_right.ensures) c.judged.ensures
