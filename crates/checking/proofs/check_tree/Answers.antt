-- `checking::check_tree` meets its contract. Assumes nothing.
use Rattle.spec_laws.specs.Refused.{handed_on}
use mathlib.Core.Path.{refl, sym}
use Rattle.checking.proofs.Laws.{row_found, row_missed, tree_refused, tree_more, tree_unnamed, tree_fine}
use Rattle.checking.proofs.check_tree.Goals as goal

pub returns-in_err-end : goal.returns-in_err-end
returns-in_err-end c =
    rw (handed_on _ c.from_residual.ensures.1) (tree_refused _ _ _ _ _ _ _ c.check_program.ensures _ c.in_err-end.was)

pub returns-then-end-source : goal.returns-then-end-source
returns-then-end-source c =
    tree_more _ _ _ _ _ _ _ c.check_program.ensures _ _
    c.in_ok-end.was c.if-end-source.true

pub returns-in-Some : goal.returns-in-Some
returns-in-Some c =
    let lowest = row_found _ _ _ c.first_unnamed.ensures _ c.in-Some.is in
    tree_unnamed _ _ _ _ _ _ _ c.check_program.ensures _ _
    c.in_ok-end.was _ c.if-end-source.false lowest.0
    c.check_program.auto.marks (rw (sym lowest.0) at lowest.1)

pub returns-in-None : goal.returns-in-None
returns-in-None c =
    tree_fine _ _ _ _ _ _ _ c.check_program.ensures _ _
    c.in_ok-end.was _ c.if-end-source.false refl
    c.check_program.auto.marks (row_missed _ _ _ c.first_unnamed.ensures c.in-None.is)
