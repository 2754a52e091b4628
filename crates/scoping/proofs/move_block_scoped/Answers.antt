-- `scoping::move_block_scoped` meets its contract. Assumes nothing.
use mathlib.Core.Path.{refl, ap, ◌∙◌}
use native.Mathlib.Nat.{sub-zero}
use Rattle.tables.specs.Loops.{next_turn, last_turn}
use Rattle.scoping.specs.Changes.{Moving, move_one, move_block_scoped_f}
use Rattle.scoping.proofs.Skips.{next_less, moves_pass}
use Rattle.scoping.proofs.move_block_scoped.Goals as goal

pub loop-at-init : goal.loop-at-init
loop-at-init c = (refl, rw sub-zero)

pub loop-at-smaller : goal.loop-at-smaller
loop-at-smaller c =
    let here = c.in-Some.ensures in
    next_less _ _ _ _ _ _ here.0 here.1

pub loop-at-preserved : goal.loop-at-preserved
unfolding move_one
loop-at-preserved c =
    let here = c.in-Some.ensures in (
      c.move_bound.auto.symbols ∙ c.loop-at.invariant.0,
      c.loop-at.invariant.1
          ∙ moves_pass _ _ _ _ _ _ _ here.1
          ∙ rw c.move_bound.ensures (next_turn _ _ _ _ _ refl here.0),
    )

pub returns : goal.returns
unfolding move_block_scoped_f
returns c =
    ap (λ (s : Moving). s.t) (last_turn _ _ _ _ _ (c.loop-at.invariant.1 ∙ moves_pass _ _ _ _ _ _ _ refl) c.in_default.ensures)
