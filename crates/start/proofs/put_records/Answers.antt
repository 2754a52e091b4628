-- `start::put_records` meets its contract. Assumes nothing.
use mathlib.Core.Path.{refl, ap, ◌∙◌}
use Rattle.meaning.specs.declared.Field.{Field}
use Rattle.tables.specs.Loops.{last_turn}
use Rattle.start.specs.Flat.{Filling, records_f}
use Rattle.start.proofs.Laws.{next_most, fill_turn}
use borrow.Author.Rules.{rules}
use Rattle.start.proofs.put_records.Goals as goal

pub loop-k-init : goal.loop-k-init
loop-k-init c = (search rules, search rules, refl, rw c.from-at.ensures)

pub loop-k-preserved : goal.loop-k-preserved
loop-k-preserved c =
    let i = c.loop-k.invariant in (
      search rules,
      next_most _ _ _ _ (ap (λ (x : Field). x.next) c.field_of-x.ensures) i.1,
      c.put_row.auto.records ∙ i.2,
      fill_turn _ _ _ _ _ _ _ _ _ i.3 c.loop-k-test.true c.field_of-x.ensures c.row_of.ensures
          c.put_row.ensures,
    )

pub returns : goal.returns
unfolding records_f
returns c =
    ap (λ (s : Filling). s.t) (last_turn _ _ _ _ _ c.loop-k.invariant.3 c.loop-k-test.false)
