-- `path::nearest` meets its contract. Assumes nothing.
use mathlib.Core.Path.{sym, ◌∙◌}
use native.Mathlib.Nat.{sub-zero}
use Rattle.tables.specs.Loops.{go_on, run_out, stopped}
use borrow.Author.Rules.{rules}
use Rattle.path.proofs.nearest.Goals as goal

pub loop-init : goal.loop-init
loop-init g c = (search rules, rw sub-zero)

pub loop-preserved : goal.loop-preserved
loop-preserved g c =
    (search rules, rw c.up-at.ensures (go_on _ _ _ _ _ _ c.loop.invariant.1 c.loop-test.true (sym c.found.ensures ∙ c.if-found.false)))

pub returns-after-loop : goal.returns-after-loop
returns-after-loop g c =
    run_out _ _ _ _ _ _ c.loop.invariant.1 c.loop-test.false

pub returns-then-found : goal.returns-then-found
returns-then-found g c =
    stopped _ _ _ _ _ c.loop.invariant.1 (sym c.found.ensures ∙ c.if-found.true)
