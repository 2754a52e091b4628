-- `checking::read_symbols` meets its contract. Assumes nothing.
use mathlib.Core.Path.{◌≡◌, refl, ◌∙◌}
use native.Mathlib.Omega.{arith}
use Rattle.spec_laws.specs.Refused.{handed_on}
use borrow.Author.Rules.{rules}
use Rattle.meaning.specs.Reading.{read_symbols, most_symbols}
use Rattle.checking.proofs.Laws.{rows_stop, rows_step, rows_bad, rows_end}
use Rattle.checking.proofs.read_symbols.Goals as goal

pub loop-k-init : goal.loop-k-init
unfolding read_symbols
loop-k-init c = (search rules, refl)

pub returns-then-not-more_symbols : goal.returns-then-not-more_symbols
returns-then-not-more_symbols c =
    rows_stop _ _ most_symbols _ _ _ c.loop-k.invariant.1 _ c.loop-k-test.true
    c.more_symbols.ensures (c.if-not-more_symbols.true)

pub returns-in_err-x : goal.returns-in_err-x
returns-in_err-x c =
    handed_on _ c.from_residual.ensures.1
    ∙ rows_bad _ _ most_symbols _ _ _ c.loop-k.invariant.1 _ _ _ c.loop-k-test.true
    c.more_symbols.ensures (c.if-not-more_symbols.false) c.read_symbol.ensures
    c.in_err-x.was

pub loop-k-preserved : goal.loop-k-preserved
loop-k-preserved c = (
  search rules,
  rows_step _ _ most_symbols _ _ _ c.loop-k.invariant.1 _ _ _ c.loop-k-test.true
      c.more_symbols.ensures (c.if-not-more_symbols.false) c.read_symbol.ensures
      c.in_ok-x.was,
)

pub returns : goal.returns
returns c =
    let all : c.loop-k.k ≡ most_symbols = omega (arith, c.loop-k.invariant.0, c.loop-k-test.false) in
    rw all at (rows_end _ _ most_symbols _ _ _ c.loop-k.invariant.1 c.loop-k-test.false)
