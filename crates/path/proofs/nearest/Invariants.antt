-- `path::nearest` meets its contract. Assumes nothing.
use mathlib.Core.Path.{◌≡◌}
use Prim.Native.Nat.{◌-◌, ◌≤◌}
use Rattle.tables.specs.Loops.{until}
use Rattle.path.specs.Path.{up_f}
use Rattle.path.proofs.nearest.Given as goal

abbrev pub invariant-loop : goal.invariant-loop
invariant-loop g l =
    (l.counter ≤ l.count) × (until l.count (g.S.Sought.found l.records) (up_f l.records) l.initial.at.0 ≡ until (l.count - l.counter) (g.S.Sought.found l.records) (up_f l.records) l.at.0)
