-- `checking::read_symbol` meets its contract. Assumes nothing.
use Rattle.spec_laws.specs.Refused.{handed_on}
use Rattle.meaning.specs.Reading.{symbol_at}
use Rattle.checking.proofs.read_symbol.Goals as goal

pub returns-in_err-x : goal.returns-in_err-x
unfolding symbol_at
returns-in_err-x c = rw (handed_on _ c.from_residual.ensures.1, ← c.field.ensures, c.in_err-x.was)

pub returns : goal.returns
unfolding symbol_at
returns c = rw (← c.field.ensures, c.in_ok-x.was, ← c.symbol_right.ensures) c.judged.ensures
