-- `writing::Source::put_rest` meets its contract. Assumes nothing.
use mathlib.Core.Path.{◌≡◌}
use Prim.Native.Nat.{◌+◌, ◌*◌, ◌-◌, ◌≤◌}
use lib.ListN.{length}
use lib.Seq.{sets}
use Rattle.renumbering.specs.Numbers.{number_in}
use Rattle.writing.specs.Writing.{most_bytes, most_tree, rows_bytes, record_at}
use Rattle.writing.proofs.Source.put_rest.Given as goal

abbrev pub invariant-loop-k : goal.invariant-loop-k
invariant-loop-k l =
    (l.at ≤ most_tree + most_bytes * l.k) × (length l.out ≡ length l.initial.out)
    × (sets l.initial.out l.first (rows_bytes (record_at l.self.records.now (number_in l.self.numbers.now)) l.from (l.count - l.from)) ≡ sets l.out l.at (rows_bytes (record_at l.self.records.now (number_in l.self.numbers.now)) l.k (l.count - l.k)))
