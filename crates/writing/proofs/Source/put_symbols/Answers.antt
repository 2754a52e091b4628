-- `writing::Source::put_symbols` meets its contract. Assumes nothing.
use mathlib.Core.Path.{refl, ◌∙◌}
use Rattle.writing.specs.Stored.{rows_last}
use Rattle.writing.proofs.Laws.{first_symbol_lem, symbols_turn}
use Rattle.writing.proofs.Source.put_symbols.Goals as goal

pub loop-k-init : goal.loop-k-init
loop-k-init c = (refl, first_symbol_lem _ _ _ _ _)

pub loop-k-preserved : goal.loop-k-preserved
loop-k-preserved c =
    (c.put_symbol.auto.out ∙ c.loop-k.invariant.0, symbols_turn _ _ _ _ _ _ _ _ c.loop-k.invariant.1 c.loop-k-test.true c.put_symbol.ensures)

pub returns : goal.returns
returns c =
    rows_last _ _ _ _ _ _ c.loop-k.invariant.1 c.loop-k-test.false
