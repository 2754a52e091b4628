-- `walk::enter_some` meets its contract. Assumes nothing.
use mathlib.Core.Path.{◌≡◌}
use Prim.Native.Nat.{◌-◌}
use Rattle.tables.specs.Loops.{until}
use Rattle.walk.specs.Plain.{entering, stops_f, enter_one_f}
use Rattle.walk.proofs.enter_some.Given as goal

abbrev pub invariant-loop-visits : goal.invariant-loop-visits
invariant-loop-visits l =
    until l.limit stops_f enter_one_f (entering l.initial.records l.initial.w 0) ≡ until (l.limit - l.visits) stops_f enter_one_f (entering l.records l.w l.visits)
