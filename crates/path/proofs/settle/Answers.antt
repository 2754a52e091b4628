-- `path::settle` meets its contract. Assumes nothing.
use mathlib.Core.Path.{sym, refl, ◌∙◌}
use native.Mathlib.Nat.{sub-zero}
use Rattle.tables.specs.Loops.{go_on, run_out, stopped}
use Rattle.path.specs.Path.{settle_f}
use borrow.Author.Rules.{rules}
use Rattle.path.proofs.settle.Goals as goal

pub loop-init : goal.loop-init
loop-init c = (search rules, refl, rw sub-zero)

pub loop-preserved : goal.loop-preserved
loop-preserved c = (
  search rules,
  c.close-at.auto.records ∙ c.loop.invariant.1,
  rw c.close-at.ensures (go_on _ _ _ _ _ _ c.loop.invariant.2 c.loop-test.true (sym c.stays.ensures ∙ c.if-stays.false)),
)

pub returns-after-loop : goal.returns-after-loop
unfolding settle_f
returns-after-loop c =
    run_out _ _ _ _ _ _ c.loop.invariant.2 c.loop-test.false

pub returns-then-stays : goal.returns-then-stays
unfolding settle_f
returns-then-stays c =
    stopped _ _ _ _ _ c.loop.invariant.2 (sym c.stays.ensures ∙ c.if-stays.true)
