-- `start::put_records` meets its contract. Assumes nothing.
use mathlib.Core.Path.{◌≡◌}
use Prim.Native.Nat.{◌+◌, ◌*◌, ◌-◌, ◌≤◌}
use lib.ListN.{length}
use Rattle.tables.specs.Loops.{turns}
use Rattle.start.specs.Flat.{filling, next_record}
use Rattle.start.proofs.put_records.Given as goal

abbrev pub invariant-loop-k : goal.invariant-loop-k
invariant-loop-k l =
    (l.free ≤ l.k) × (l.at ≤ 65535 + 13 * l.k) × (length l.records ≡ length l.initial.records)
    × (turns (l.end - l.free) (next_record l.file) (filling l.initial.records l.tree l.free) ≡ turns (l.end - l.k) (next_record l.file) (filling l.records l.at l.k))
