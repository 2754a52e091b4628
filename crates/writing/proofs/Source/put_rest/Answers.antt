-- `writing::Source::put_rest` meets its contract. Assumes nothing.
use mathlib.Core.Path.{refl, ◌∙◌}
use Rattle.writing.specs.Stored.{rows_last}
use Rattle.writing.proofs.Laws.{next_most, records_turn}
use borrow.Author.Rules.{rules}
use Rattle.writing.proofs.Source.put_rest.Goals as goal

pub loop-k-init : goal.loop-k-init
loop-k-init c = (search rules, refl, refl)

pub loop-k-preserved : goal.loop-k-preserved
loop-k-preserved c =
    (next_most _ _ _ _ _ c.put_record-at.ensures.next c.loop-k.invariant.0, c.put_record-at.auto.out ∙ c.loop-k.invariant.1, records_turn _ _ _ _ _ _ _ _ _ _ c.loop-k.invariant.2 c.loop-k-test.true c.row.ensures c.put_record-at.ensures.bytes c.put_record-at.ensures.next)

pub returns : goal.returns
returns c =
    rows_last _ _ _ _ _ _ c.loop-k.invariant.2 c.loop-k-test.false
