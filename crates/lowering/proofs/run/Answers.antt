-- `lowering::run` meets its contract. Assumes nothing.
use mathlib.Core.Path.{refl, sym, ◌∙◌}
use native.Mathlib.Nat.{sub-zero}
use native.Mathlib.Omega.{arith}
use Rattle.tables.specs.Loops.{run_out, stopped}
use Rattle.walk.specs.Plain.{some_go_on}
use Rattle.lowering.specs.Flat.{run_f}
use borrow.Author.Rules.{rules}
use Rattle.lowering.proofs.run.Goals as goal

pub loop-k-init : goal.loop-k-init
loop-k-init c = (search rules, refl, refl, refl, rw sub-zero)

pub overflow_add-k : goal.overflow_add-k
overflow_add-k c =
    let go = some_go_on _ _ _ _ _ c.loop-k.invariant.4 c.loop-k-test.true (sym c.is_over.ensures ∙ c.if-is_over.false) c.visit_some-v.ensures in
    omega (arith, go.1, c.ranges)

pub loop-k-smaller : goal.loop-k-smaller
loop-k-smaller c =
    let go = some_go_on _ _ _ _ _ c.loop-k.invariant.4 c.loop-k-test.true (sym c.is_over.ensures ∙ c.if-is_over.false) c.visit_some-v.ensures in
    omega (arith, go.0, go.1)

pub loop-k-preserved : goal.loop-k-preserved
loop-k-preserved c =
    let go = some_go_on _ _ _ _ _ c.loop-k.invariant.4 c.loop-k-test.true (sym c.is_over.ensures ∙ c.if-is_over.false) c.visit_some-v.ensures in
    (go.1, c.visit_some-v.auto.records ∙ c.loop-k.invariant.1, c.visit_some-v.auto.scopes ∙ c.loop-k.invariant.2, c.visit_some-v.auto.symbols ∙ c.loop-k.invariant.3, go.2)

pub returns-after-loop-k : goal.returns-after-loop-k
unfolding run_f
returns-after-loop-k c =
    run_out _ _ _ _ _ _ c.loop-k.invariant.4 c.loop-k-test.false

pub returns-then-is_over : goal.returns-then-is_over
unfolding run_f
returns-then-is_over c =
    stopped _ _ _ _ _ c.loop-k.invariant.4 (sym c.is_over.ensures ∙ c.if-is_over.true)
