-- `checking::read_scope` meets its contract. Assumes nothing.
use Rattle.spec_laws.specs.Refused.{handed_on}
use Rattle.meaning.specs.Reading.{scope_at}
use Rattle.checking.proofs.read_scope.Goals as goal

pub returns-in_err-x : goal.returns-in_err-x
unfolding scope_at
returns-in_err-x c = rw (handed_on _ c.from_residual.ensures.1, ← c.field.ensures, c.in_err-x.was)

pub returns : goal.returns
unfolding scope_at
returns c = rw (← c.field.ensures, c.in_ok-x.was, ← c.scope_right.ensures) c.judged.ensures
