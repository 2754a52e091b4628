-- `scoping::find_candidates` meets its contract. Assumes nothing.
use native.Mathlib.Omega.{arith}
use mathlib.Core.Path.{sym, ◌∙◌, refl}
use Rattle.scoping.proofs.Single.{candidates_first, candidates_turn, candidates_last}
use Rattle.scoping.proofs.Skips.{next_less, candidates_pass}
use Rattle.scoping.proofs.find_candidates.Goals as goal

pub loop-at-init : goal.loop-at-init
loop-at-init c = candidates_first _ _ _

pub loop-at-smaller : goal.loop-at-smaller
loop-at-smaller c =
    let here = c.in-Some.ensures in
    next_less _ _ _ _ _ _ here.0 here.1

pub loop-at-preserved : goal.loop-at-preserved
loop-at-preserved c =
    let here = c.in-Some.ensures in
    c.loop-at.invariant
    ∙ candidates_pass _ _ _ (omega (arith, c.ranges)) _ _ _ here.1
    ∙ candidates_turn _ _ _ _ _ _ here.0 (omega (arith, c.ranges)) c.add_candidate-seen.ensures

pub returns : goal.returns
returns c =
    sym (c.loop-at.invariant ∙ candidates_pass _ _ _ (omega (arith, c.ranges)) _ _ _ refl ∙ candidates_last _ _ _ _ _ c.in_default.ensures)
