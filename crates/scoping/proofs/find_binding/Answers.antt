-- `scoping::find_binding` meets its contract. Assumes nothing.
use mathlib.Core.Path.{sym}
use mathlib.Core.Bool.{true, false}
use Rattle.scoping.proofs.Single.{find_nothing, find_one}
use Rattle.scoping.proofs.find_binding.Goals as goal

pub returns-in-NoRow : goal.returns-in-NoRow
returns-in-NoRow c =
    sym (find_nothing _ _ _ _ c.in-NoRow.ensures _ _)

pub returns-then-climbs_to : goal.returns-then-climbs_to
returns-then-climbs_to c =
    sym (find_one _ _ _ _ _ _ c.in-OneRow.ensures true _ _ _ c.if-climbs_to.true c.climbs_to.ensures)

pub returns-else-climbs_to : goal.returns-else-climbs_to
returns-else-climbs_to c =
    sym (find_one _ _ _ _ _ _ c.in-OneRow.ensures false _ _ _ c.if-climbs_to.false c.climbs_to.ensures)
