-- `renumbering::number_named` meets its contract. Assumes nothing.
use mathlib.Core.Path.{refl, ◌∙◌}
use native.Mathlib.Nat.{sub-zero}
use borrow.Author.Rules.{rules}
use Rattle.tables.specs.Table.{head_f}
use Rattle.renumbering.proofs.Laws.{named_turn, named_last, named_more, RowNumbered, row_numbered, row_passed}
use Rattle.renumbering.proofs.number_named.Goals.{then-s-ne0, else-s-ne0}
use Rattle.renumbering.proofs.number_named.Goals as goal

pub loop-k-init : goal.loop-k-init
loop-k-init c = (search rules, refl, rw sub-zero)

pub loop-k-preserved : goal.loop-k-preserved
loop-k-preserved c =
    let next = c.if-s-ne0 in
    let is = c.scope_of-s.ensures in
    let turn : RowNumbered (head_f c.row_after.result) c.loop-k.named next.named c.loop-k.numbers next.numbers =
    elim c.if-s-ne0.branch [
      | then-s-ne0 w ↦ rw (w.numbers-is, w.named-is) (row_numbered _ _ _ _ _ is w.if-s-ne0.true w.number_scope.ensures)
      | else-s-ne0 w ↦ rw (w.numbers-is, w.named-is) (row_passed _ _ _ _ is w.if-s-ne0.false)
    ] in (
      named_more _ _ _ _ c.loop-k.invariant.0 turn.1,
      next.auto.numbers ∙ c.loop-k.invariant.1,
      named_turn _ _ _ _ _ _ _ _ _ c.loop-k.invariant.2 c.loop-k-test.true c.row_after.ensures turn.0 turn.1,
    )

pub returns : goal.returns
returns c =
    named_last _ _ _ _ _ _ c.loop-k.invariant.2 c.loop-k-test.false
