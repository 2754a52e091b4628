-- The cycle of calls: records and lists of children. Assumes nothing.
use mathlib.Core.Path.{refl, sym, ◌∙◌}
use Prim.Native.Nat.{◌-◌}
use native.Mathlib.Nat.{sub-zero}
use Rattle.spec_laws.specs.Refused.{handed_on}
use native.Mathlib.Omega.{arith}
use borrow.Author.Rules.{rules}
use Rattle.checking.specs.Flat.{children_f}
use Rattle.checking.proofs.Leaf.{leaf_inside, leaf_fine}
use Rattle.checking.proofs.Laws.{children_deep, child_level, record_entered, record_refused, after_stop, after_fine, list_step, list_stop, list_end}
use Rattle.checking.proofs.+records.Goals as goal

-- ---- a list of children

pub check_children-returns-then-levels-eq0 : goal.check_children-returns-then-levels-eq0
check_children-returns-then-levels-eq0 t c =
    children_deep _ _ _ _ _ _ _ _ _ _ _ c.if-levels-eq0.true c.children_of-n.ensures c.below_last.ensures

pub check_children-loop-k-init : goal.check_children-loop-k-init
unfolding children_f
check_children-loop-k-init t c =
    (search rules, search rules, rw (c.children_of-n.ensures, c.no_tally-tally.ensures, sub-zero))

pub check_children-returns-in_err-done : goal.check_children-returns-in_err-done
check_children-returns-in_err-done t c =
    rw (handed_on _ c.from_residual.ensures.1)
    (list_stop _ _ _ _ _ _ _ c.loop-k.invariant.2 _ c.check_child.new.marks _ c.loop-k-test.true
    (child_level _ _ _ _ _ _ _ _ _ _ _ c.loop-k.invariant.0
    (rw (← c.place_of-place.ensures, ← c.role_in-role.ensures) c.check_child.ensures))
    c.in_err-done.was)

pub check_children-loop-k-preserved-in-Some : goal.check_children-loop-k-preserved-in-Some
check_children-loop-k-preserved-in-Some t c = (
  c.loop-k.invariant.0,
  search rules,
  list_step _ _ _ _ _ _ _ c.loop-k.invariant.2 _ _ _ _ c.loop-k-test.true
      (child_level _ _ _ _ _ _ _ _ _ _ _ c.loop-k.invariant.0
      (rw (← c.place_of-place.ensures, ← c.role_in-role.ensures)
      (leaf_fine _ _ _ _ _ _ (sym c.leaf_size.ensures ∙ c.in-Some.is) (c.args.levels - 1) c.args.source.rows.scopes c.args.site.scope.0 _ _ _ c.add_leaf-tally.ensures)))
      refl,
)

pub check_children-loop-k-preserved : goal.check_children-loop-k-preserved
check_children-loop-k-preserved t c = (
  c.loop-k.invariant.0,
  search rules,
  list_step _ _ _ _ _ _ _ c.loop-k.invariant.2 _ _ _ _ c.loop-k-test.true
      (child_level _ _ _ _ _ _ _ _ _ _ _ c.loop-k.invariant.0
      (rw (← c.place_of-place.ensures, ← c.role_in-role.ensures) c.check_child.ensures))
      c.in_ok-done.was,
)

pub check_children-returns : goal.check_children-returns
check_children-returns t c =
    list_end _ _ _ _ _ _ _ c.loop-k.invariant.2 c.loop-k-test.false

pub check_children-overflow_add-at : goal.check_children-overflow_add-at
check_children-overflow_add-at t c =
    let fits = leaf_inside _ _ _ _ _ _ (sym c.leaf_size.ensures ∙ c.in-Some.is) in
    omega arith

-- ---- what is left of a record

pub check_entered-returns-in_err-kids : goal.check_entered-returns-in_err-kids
check_entered-returns-in_err-kids t c =
    rw (handed_on _ c.from_residual.ensures.1)
    (after_stop _ _ _ _ _ _ _ _ _ _ c.check_children.result c.check_children.new.marks
    (rw (← c.scope_in.ensures, ← c.scope_below-scope.ensures) c.check_children.ensures)
    _ c.in_err-kids.was)

pub check_entered-returns : goal.check_entered-returns
check_entered-returns t c =
    after_fine _ _ _ _ _ _ _ _ _ _ c.check_children.result _
    (rw (← c.scope_in.ensures, ← c.scope_below-scope.ensures) c.check_children.ensures)
    _ _ _ _ c.in_ok-kids.was c.inserts-inserted.ensures c.add_record.ensures

-- ---- an expression

pub check_expression-returns-in_err-x : goal.check_expression-returns-in_err-x
check_expression-returns-in_err-x t c =
    rw (handed_on _ c.from_residual.ensures.1)
    (record_refused _ _ _ _ _ _ _ _ _ _ _ _ _ c.enter_expression.ensures c.in_err-x.was)

pub check_expression-returns : goal.check_expression-returns
check_expression-returns t c =
    record_entered _ _ _ _ _ _ _ _ _ _ _ _ (rw c.in_ok-x.was at c.enter_expression.ensures)
    c.check_entered.ensures

-- ---- a statement

pub check_statement-returns-in_err-x : goal.check_statement-returns-in_err-x
check_statement-returns-in_err-x t c =
    rw (handed_on _ c.from_residual.ensures.1)
    (record_refused _ _ _ _ _ _ _ _ _ _ _ _ _ c.enter_record.ensures c.in_err-x.was)

pub check_statement-returns : goal.check_statement-returns
check_statement-returns t c =
    record_entered _ _ _ _ _ _ _ _ _ _ _ _ (rw c.in_ok-x.was at c.enter_record.ensures)
    c.check_entered.ensures
