-- `tables::end_after` meets its contract. Assumes nothing.
use mathlib.Core.Path.{◌≡◌}
use Prim.Native.Nat.{◌+◌, ◌*◌, ◌-◌, ◌≤◌}
use Rattle.tables.specs.Loops.{until}
use Rattle.tables.specs.Table.{skipping, skipped, skip_one}
use Rattle.tables.proofs.end_after.Given as goal

abbrev pub invariant-loop-at : goal.invariant-loop-at
invariant-loop-at l =
    (l.initial.at ≤ l.at) × (l.at ≤ 65535) × (l.pending ≤ 65535 + 65536 * (l.at - l.initial.at))
    × (until (65535 - l.initial.at) skipped (skip_one l.records) (skipping l.initial.at l.count) ≡ until (65535 - l.at) skipped (skip_one l.records) (skipping l.at l.pending))
