-- `tables::copy` meets its contract. Assumes nothing.
use mathlib.Core.Path.{◌≡◌}
use Prim.Native.Nat.{◌+◌, ◌*◌, ◌-◌, ◌≤◌}
use lib.ListN.{length}
use Rattle.tables.specs.Loops.{until}
use Rattle.tables.specs.Stream.{copying, copied, copy_one}
use Rattle.tables.proofs.Laws.{buf3}
use Rattle.tables.proofs.copy.Given as goal

abbrev pub invariant-loop-read : goal.invariant-loop-read
invariant-loop-read l =
    (l.initial.read ≤ l.read) × (l.read ≤ 65535) × (l.pending ≤ 65535 + 65536 * (l.read - l.initial.read)) × (length l.records ≡ length l.initial.records)
    × (until (65535 - l.initial.read) copied copy_one (copying (buf3 l.initial.records l.initial.read l.initial.written.0) l.count)
    ≡ until (65535 - l.read) copied copy_one (copying (buf3 l.records l.read l.written.0) l.pending))
