-- `rewrite_program::placing::place` meets its contract. Assumes nothing.
use mathlib.Core.Path.{◌≡◌}
use Prim.Native.Nat.{◌-◌}
use Rattle.tables.specs.Loops.{until}
use Rattle.rewrite_program.specs.Placing.{rows_at, passed_to, place_one_f}
use Rattle.rewrite_program.proofs.placing.place.Given as goal

abbrev pub invariant-loop : goal.invariant-loop
invariant-loop l =
    until 131070 (passed_to l.to.0) place_one_f (rows_at l.initial.records l.initial.at.0)
    ≡ until (131070 - l.counter) (passed_to l.to.0) place_one_f (rows_at l.records l.at.0)
