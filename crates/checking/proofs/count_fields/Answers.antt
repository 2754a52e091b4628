-- `checking::count_fields` meets its contract. Assumes nothing.
use mathlib.Core.Path.{refl, ap, ◌∙◌}
use native.Mathlib.Nat.{sub-zero}
use borrow.Author.Rules.{rules}
use Rattle.meaning.specs.declared.Field.{Field}
use Rattle.tables.specs.Loops.{last_turn}
use Rattle.checking.specs.Flat.{Counting, count_f}
use Rattle.checking.proofs.Counts.{next_most, count_turn}
use Rattle.checking.proofs.count_fields.Goals as goal

pub loop-init : goal.loop-init
loop-init c = (search rules, search rules, refl, rw sub-zero)

pub loop-preserved : goal.loop-preserved
loop-preserved c =
    let i = c.loop.invariant in (
      search rules,
      next_most _ _ _ _ (ap (λ (x : Field). x.next) c.field_of-x.ensures) i.1,
      c.add_record.auto.counts ∙ i.2,
      count_turn _ _ _ _ _ _ _ _ _ i.3 c.loop-test.true c.field_of-x.ensures
          c.closed_row.ensures c.add_record.ensures,
    )

pub returns : goal.returns
unfolding count_f
returns c =
    ap (λ (s : Counting). s.t) (last_turn _ _ _ _ _ c.loop.invariant.3 c.loop-test.false)
