-- `scoping::climbs_to` meets its contract. Assumes nothing.
use native.Mathlib.Nat.{sub-zero}
use mathlib.Core.Path.{sym, ◌∙◌}
use Rattle.scoping.proofs.Single.{climb_here, climb_top, climb_turn, climb_out}
use borrow.Author.Rules.{rules}
use Rattle.scoping.proofs.climbs_to.Goals as goal

pub loop-init : goal.loop-init
loop-init c = (search rules, rw sub-zero)

pub returns-then-to-scope : goal.returns-then-to-scope
returns-then-to-scope c =
    sym (c.loop.invariant.1 ∙ climb_here _ _ _ _ _ c.loop-test.true c.if-to-scope.true)

pub returns-then-scope-eq0 : goal.returns-then-scope-eq0
returns-then-scope-eq0 c =
    sym (c.loop.invariant.1 ∙ climb_top _ _ _ _ _ c.loop-test.true c.if-to-scope.false c.if-scope-eq0.true)

pub loop-preserved : goal.loop-preserved
loop-preserved c =
    (search rules, c.loop.invariant.1 ∙ climb_turn _ _ _ _ _ _ c.loop-test.true c.if-to-scope.false c.if-scope-eq0.false c.scope_number.ensures)

pub returns : goal.returns
returns c =
    sym (c.loop.invariant.1 ∙ climb_out _ _ _ _ _ c.loop-test.false)
