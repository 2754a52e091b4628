-- `start::put_symbols` meets its contract. Assumes nothing.
use mathlib.Core.Path.{refl, ap, ◌∙◌}
use native.Mathlib.Nat.{sub-zero}
use Rattle.tables.specs.Loops.{next_turn, last_turn}
use Rattle.start.specs.Flat.{Storing, next_symbol, symbols_f}
use borrow.Author.Rules.{rules}
use Rattle.start.proofs.put_symbols.Goals as goal

pub loop-k-init : goal.loop-k-init
loop-k-init c = (search rules, refl, rw sub-zero)

pub loop-k-preserved : goal.loop-k-preserved
unfolding next_symbol
loop-k-preserved c = (
  search rules,
  c.put_symbol.auto.symbols ∙ c.loop-k.invariant.1,
  rw c.put_symbol.ensures (next_turn _ _ _ _ _ c.loop-k.invariant.2 c.loop-k-test.true),
)

pub returns : goal.returns
unfolding symbols_f
returns c =
    ap (λ (s : Storing). s.t) (last_turn _ _ _ _ _ c.loop-k.invariant.2 c.loop-k-test.false)
