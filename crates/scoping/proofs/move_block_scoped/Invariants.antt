-- `scoping::move_block_scoped` meets its contract. Assumes nothing.
use mathlib.Core.Path.{◌≡◌}
use Prim.Native.Nat.{◌-◌}
use lib.ListN.{length}
use Rattle.tables.specs.Loops.{turns}
use Rattle.scoping.specs.Changes.{moving, move_one}
use Rattle.scoping.proofs.move_block_scoped.Given as goal

abbrev pub invariant-loop-at : goal.invariant-loop-at
invariant-loop-at l =
    (length l.symbols ≡ length l.initial.symbols)
    × (turns l.count (move_one l.ctx l.from.0 l.to.0) (moving l.initial.symbols 0)
    ≡ turns (l.count - l.i) (move_one l.ctx l.from.0 l.to.0) (moving l.symbols l.i))

abbrev pub decreases-loop-at : goal.decreases-loop-at
decreases-loop-at l = l.count - l.i
