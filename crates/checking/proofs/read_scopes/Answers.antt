-- `checking::read_scopes` meets its contract. Assumes nothing.
use mathlib.Core.Path.{◌≡◌, refl, ◌∙◌}
use native.Mathlib.Omega.{arith}
use Rattle.spec_laws.specs.Refused.{handed_on}
use borrow.Author.Rules.{rules}
use Rattle.meaning.specs.Reading.{read_scopes, most_rows}
use Rattle.checking.proofs.Laws.{rows_stop, rows_step, rows_bad, rows_end}
use Rattle.checking.proofs.read_scopes.Goals as goal

pub loop-k-init : goal.loop-k-init
unfolding read_scopes
loop-k-init c = (search rules, refl)

pub returns-then-not-more_scopes : goal.returns-then-not-more_scopes
returns-then-not-more_scopes c =
    rows_stop _ _ most_rows _ _ _ c.loop-k.invariant.1 _ c.loop-k-test.true
    c.more_scopes.ensures (c.if-not-more_scopes.true)

pub returns-in_err-x : goal.returns-in_err-x
returns-in_err-x c =
    handed_on _ c.from_residual.ensures.1
    ∙ rows_bad _ _ most_rows _ _ _ c.loop-k.invariant.1 _ _ _ c.loop-k-test.true
    c.more_scopes.ensures (c.if-not-more_scopes.false) c.read_scope.ensures
    c.in_err-x.was

pub loop-k-preserved : goal.loop-k-preserved
loop-k-preserved c = (
  search rules,
  rows_step _ _ most_rows _ _ _ c.loop-k.invariant.1 _ _ _ c.loop-k-test.true
      c.more_scopes.ensures (c.if-not-more_scopes.false) c.read_scope.ensures
      c.in_ok-x.was,
)

pub returns : goal.returns
returns c =
    let all : c.loop-k.k ≡ most_rows = omega (arith, c.loop-k.invariant.0, c.loop-k-test.false) in
    rw all at (rows_end _ _ most_rows _ _ _ c.loop-k.invariant.1 c.loop-k-test.false)
