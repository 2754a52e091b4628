-- `mentions::change_rows` meets its contract. Assumes nothing.
use mathlib.Core.Path.{◌≡◌}
use Prim.Native.Nat.{◌-◌}
use lib.ListN.{length}
use Rattle.tables.specs.Loops.{turns}
use Rattle.mentions.specs.Counters.{counting, change_f, record_f, next_row}
use Rattle.mentions.proofs.change_rows.Given as goal

abbrev pub invariant-loop-k : goal.invariant-loop-k
invariant-loop-k g l =
    (length l.counts ≡ length l.initial.counts)
    × (turns (l.k-end - l.initial.k) (next_row (record_f (change_f g.E.Effect.changed)) l.records) (counting l.initial.counts l.initial.k)
    ≡ turns (l.k-end - l.k) (next_row (record_f (change_f g.E.Effect.changed)) l.records) (counting l.counts l.k))
