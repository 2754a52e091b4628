-- `writing::Source::put_records` meets its contract. Assumes nothing.
use mathlib.Core.Path.{refl, sym, ◌∙◌}
use native.Mathlib.Nat.{sub-zero}
use Rattle.writing.specs.Stored.{rows_last}
use Rattle.writing.proofs.Laws.{next_most, records_turn}
use borrow.Author.Rules.{rules}
use Rattle.writing.proofs.Source.put_records.Goals as goal

pub loop-k-init : goal.loop-k-init
loop-k-init c = (search rules, refl, rw sub-zero)

pub loop-k-preserved : goal.loop-k-preserved
loop-k-preserved c =
    (next_most _ _ _ _ _ c.put_whole-at.ensures.next c.loop-k.invariant.0, c.put_whole-at.auto.out ∙ c.loop-k.invariant.1, records_turn _ _ _ _ _ _ _ _ _ _ c.loop-k.invariant.2 c.loop-k-test.true c.row.ensures c.put_whole-at.ensures.bytes c.put_whole-at.ensures.next)

pub returns-then-out-at : goal.returns-then-out-at
returns-then-out-at c = rw c.put_rest.ensures (sym c.loop-k.invariant.2)

pub returns : goal.returns
returns c = rows_last _ _ _ _ _ _ c.loop-k.invariant.2 c.loop-k-test.false
