-- `checking::count_fields` meets its contract. Assumes nothing.
use mathlib.Core.Path.{◌≡◌}
use Prim.Native.Nat.{◌+◌, ◌*◌, ◌-◌, ◌≤◌}
use lib.ListN.{length}
use Rattle.tables.specs.Loops.{turns}
use Rattle.checking.specs.Flat.{counting, next_count}
use Rattle.checking.proofs.count_fields.Given as goal

abbrev pub invariant-loop : goal.invariant-loop
invariant-loop l =
    (l.counter ≤ l.records) × (l.at ≤ 65535 + 13 * l.counter) × (length l.counts ≡ length l.initial.counts)
    × (turns l.records (next_count l.file) (counting l.initial.counts l.tree) ≡ turns (l.records - l.counter) (next_count l.file) (counting l.counts l.at))
