-- `tables::end_after` meets its contract. Assumes nothing.
use mathlib.Core.Path.{◌≡◌, ◌∙◌, refl, ap}
use native.Mathlib.Omega.{arith}
use Rattle.tables.specs.Loops.{run_out, stopped}
use Rattle.tables.specs.Table.{Skipping, end_f}
use Rattle.tables.proofs.Laws.{skip_turn}
use borrow.Author.Tests.{eq-eqb}
use borrow.Author.Rules.{rules}
use Rattle.tables.proofs.end_after.Goals as goal

pub loop-at-init : goal.loop-at-init
loop-at-init c = (search rules, search rules, search rules, refl)

pub loop-at-preserved : goal.loop-at-preserved
loop-at-preserved c =
    (search rules, search rules, search rules, skip_turn _ _ _ _ _ c.loop-at.invariant.3 c.loop-at-test.true c.if-pending-eq0.false c.column.ensures)

pub returns : goal.returns
unfolding end_f
returns c =
    let e : 65535 ≡ c.loop-at.at = omega (arith, c.loop-at.invariant.1, c.loop-at-test.false) in
    e ∙ ap (λ (s : Skipping). s.at) (run_out _ _ _ _ _ _ c.loop-at.invariant.3 c.loop-at-test.false)

pub returns-then-pending-eq0 : goal.returns-then-pending-eq0
unfolding end_f
returns-then-pending-eq0 c =
    ap (λ (s : Skipping). s.at) (stopped _ _ _ _ _ c.loop-at.invariant.3 (eq-eqb _ _ c.if-pending-eq0.true))
