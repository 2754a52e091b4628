-- `renumbering::number_named` meets its contract. Assumes nothing.
use mathlib.Core.Path.{◌≡◌}
use Prim.Native.Nat.{◌+◌, ◌-◌, ◌≤◌}
use lib.ListN.{length}
use Rattle.renumbering.specs.Numbers.{named_in, numbers_f}
use Rattle.renumbering.proofs.number_named.Given as goal

abbrev pub invariant-loop-k : goal.invariant-loop-k
invariant-loop-k l =
    (l.named ≤ l.k) × (length l.numbers ≡ length l.initial.numbers)
    × (numbers_f 1 (named_in l.records 0 l.count) l.initial.numbers ≡ numbers_f (l.named + 1) (named_in l.records l.k (l.count - l.k)) l.numbers)
