-- `walk::enter_some` meets its contract. Assumes nothing.
use mathlib.Core.Path.{sym, ◌∙◌}
use Rattle.tables.specs.Loops.{go_on}
use Rattle.walk.specs.Plain.{enter_one_f}
use Rattle.walk.proofs.enter_some.Goals as goal

pub loop-visits-preserved : goal.loop-visits-preserved
unfolding enter_one_f
loop-visits-preserved c =
    rw (← c.enter-w.ensures) at (go_on _ _ _ _ _ _ c.loop-visits.invariant c.loop-visits-test.true (sym c.stops.ensures ∙ c.if-stops.false))
