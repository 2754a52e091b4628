-- `tables::take_back` meets its contract. Assumes nothing.
use mathlib.Core.Path.{refl}
use native.Mathlib.Nat.{sub-zero}
use Rattle.tables.specs.Loops.{next_turn, last_turn}
use Rattle.tables.specs.Stream.{take_back_f}
use borrow.Author.Rules.{rules}
use Rattle.tables.proofs.take_back.Goals as goal

pub loop-init : goal.loop-init
loop-init c = (search rules, refl, rw sub-zero)

pub loop-preserved : goal.loop-preserved
loop-preserved c =
    (search rules, search rules, rw c.unread_row-q.ensures (next_turn _ _ _ _ _ c.loop.invariant.2 c.loop-test.true))

pub returns : goal.returns
unfolding take_back_f
returns c =
    last_turn _ _ _ _ _ c.loop.invariant.2 c.loop-test.false
