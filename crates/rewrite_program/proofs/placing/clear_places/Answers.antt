-- `rewrite_program::placing::clear_places` meets its contract. Assumes nothing.
use Rattle.tables.specs.Loops.{next_turn}
use Rattle.rewrite_program.specs.Placing.{clear_one_f}
use Rattle.rewrite_program.proofs.Capped.{one_more}
use Rattle.rewrite_program.proofs.placing.clear_places.Goals as goal

pub loop-k-preserved : goal.loop-k-preserved
unfolding clear_one_f
loop-k-preserved c =
    rw (c.put_column.ensures, c.saturating_add.ensures, ← one_more c.args.from.0 c.loop-k.k) (next_turn _ _ _ _ _ c.loop-k.invariant c.loop-k-test.true)
