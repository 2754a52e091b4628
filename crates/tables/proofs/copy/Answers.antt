-- `tables::copy` meets its contract. Assumes nothing.
use mathlib.Core.Path.{◌≡◌, refl, ap, ◌∙◌}
use native.Mathlib.Omega.{arith}
use Rattle.tables.specs.Table.{moved}
use Rattle.tables.specs.Loops.{run_out, stopped}
use Rattle.tables.specs.Stream.{Copying, copy_f}
use Rattle.tables.proofs.Laws.{copy_turn}
use borrow.Author.Tests.{eq-eqb}
use borrow.Author.Rules.{rules}
use Rattle.tables.proofs.copy.Goals as goal

pub loop-read-init : goal.loop-read-init
loop-read-init c = (search rules, search rules, search rules, refl, refl)

pub loop-read-preserved : goal.loop-read-preserved
loop-read-preserved c =
    let i = c.loop-read.invariant in (
      search rules,
      search rules,
      omega (arith, i.0, i.2, c.loop-read-test.true, c.if-pending-eq0.false, c.row_after-r.type_inv),
      c.put_row.auto.records ∙ c.clear_row.auto.records ∙ i.3,
      copy_turn _ _ _ _ _ _ _ _ i.4 c.loop-read-test.true c.if-pending-eq0.false c.row_after-r.ensures (moved _ _ _ _ _ _ c.clear_row.ensures c.put_row.ensures) c.saturating_add.ensures,
    )

pub returns : goal.returns
unfolding copy_f
returns c =
    let e : 65535 ≡ c.loop-read.read = omega (arith, c.loop-read.invariant.1, c.loop-read-test.false) in
    rw e (ap (λ (s : Copying). s.buf) (run_out _ _ _ _ _ _ c.loop-read.invariant.4 c.loop-read-test.false))

pub returns-then-pending-eq0 : goal.returns-then-pending-eq0
unfolding copy_f
returns-then-pending-eq0 c =
    ap (λ (s : Copying). s.buf) (stopped _ _ _ _ _ c.loop-read.invariant.4 (eq-eqb _ _ c.if-pending-eq0.true))
