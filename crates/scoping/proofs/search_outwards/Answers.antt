-- `scoping::search_outwards` meets its contract. Assumes nothing.
use native.Mathlib.Nat.{sub-zero}
use mathlib.Core.Path.{sym, ◌∙◌}
use Rattle.scoping.proofs.Laws.{find_turn, find_here, find_none, find_out}
use borrow.Author.Rules.{rules}
use Rattle.scoping.proofs.search_outwards.Goals as goal

pub loop-init : goal.loop-init
loop-init c = (search rules, rw sub-zero)

pub returns-then-here-ne0 : goal.returns-then-here-ne0
returns-then-here-ne0 c =
    sym (c.loop.invariant.1 ∙ find_here _ _ _ _ _ _ _ _ c.loop-test.true c.get_binding-here.ensures c.if-here-ne0.true)

pub returns-then-scope-eq0 : goal.returns-then-scope-eq0
returns-then-scope-eq0 c =
    sym (c.loop.invariant.1 ∙ find_none _ _ _ _ _ _ _ _ c.loop-test.true c.get_binding-here.ensures c.if-here-ne0.false c.if-scope-eq0.true)

pub loop-preserved : goal.loop-preserved
loop-preserved c =
    (search rules, c.loop.invariant.1 ∙ find_turn _ _ _ _ _ _ _ _ _ c.loop-test.true c.get_binding-here.ensures c.if-here-ne0.false c.if-scope-eq0.false c.scope_number.ensures)

pub returns : goal.returns
returns c =
    sym (c.loop.invariant.1 ∙ find_out _ _ _ _ _ _ _ c.loop-test.false)
