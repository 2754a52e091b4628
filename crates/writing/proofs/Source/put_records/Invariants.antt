-- `writing::Source::put_records` meets its contract. Assumes nothing.
use mathlib.Core.Path.{◌≡◌}
use Prim.Native.Nat.{◌+◌, ◌*◌, ◌-◌, ◌≤◌}
use lib.ListN.{length}
use lib.Seq.{sets}
use Rattle.renumbering.specs.Numbers.{number_in}
use Rattle.writing.specs.Writing.{most_bytes, rows_bytes, record_at}
use Rattle.writing.proofs.Source.put_records.Given as goal

abbrev pub invariant-loop-k : goal.invariant-loop-k
invariant-loop-k l =
    (l.at ≤ l.tree + most_bytes * l.k) × (length l.out ≡ length l.initial.out)
    × (sets l.initial.out l.tree (rows_bytes (record_at l.self.records.now (number_in l.self.numbers.now)) 0 l.count) ≡ sets l.out l.at (rows_bytes (record_at l.self.records.now (number_in l.self.numbers.now)) l.k (l.count - l.k)))
