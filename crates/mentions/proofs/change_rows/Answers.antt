-- `mentions::change_rows` meets its contract. Assumes nothing.
use mathlib.Core.Path.{refl, ap, ◌∙◌}
use Rattle.tables.specs.Loops.{next_turn, last_turn}
use Rattle.mentions.specs.Counters.{Counting, next_row}
use Rattle.mentions.proofs.change_rows.Goals as goal

pub loop-k-init : goal.loop-k-init
loop-k-init g c = (refl, refl)

pub loop-k-preserved : goal.loop-k-preserved
unfolding next_row
loop-k-preserved g c = (
  c.change_record.auto.counts ∙ c.loop-k.invariant.0,
  rw (c.change_record.ensures, c.row_after.ensures)
      (next_turn _ _ _ _ _ c.loop-k.invariant.1 c.loop-k-test.true),
)

pub returns : goal.returns
returns g c =
    ap (λ (s : Counting). s.t) (last_turn _ _ _ _ _ c.loop-k.invariant.1 c.loop-k-test.false)
