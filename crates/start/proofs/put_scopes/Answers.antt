-- `start::put_scopes` meets its contract. Assumes nothing.
use mathlib.Core.Path.{refl, ap, ◌∙◌}
use native.Mathlib.Nat.{sub-zero}
use Rattle.tables.specs.Loops.{next_turn, last_turn}
use Rattle.start.specs.Flat.{Storing, next_scope, scopes_f}
use borrow.Author.Rules.{rules}
use Rattle.start.proofs.put_scopes.Goals as goal

pub loop-k-init : goal.loop-k-init
loop-k-init c = (search rules, refl, rw sub-zero)

pub loop-k-preserved : goal.loop-k-preserved
unfolding next_scope
loop-k-preserved c = (
  search rules,
  c.put_scope.auto.scopes ∙ c.loop-k.invariant.1,
  rw c.put_scope.ensures (next_turn _ _ _ _ _ c.loop-k.invariant.2 c.loop-k-test.true),
)

pub returns : goal.returns
unfolding scopes_f
returns c =
    ap (λ (s : Storing). s.t) (last_turn _ _ _ _ _ c.loop-k.invariant.2 c.loop-k-test.false)
