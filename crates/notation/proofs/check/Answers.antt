-- `notation::check` meets its contract. Assumes nothing.
use mathlib.Core.Path.{◌≡◌, sym, ◌∙◌}
use lib.ListN.{length}
use native.Mathlib.Omega.{arith}
use borrow.Author.Tests.{le-leb, lt-leb}
use Rattle.notation.specs.Notation.{spelled}
use Rattle.notation.specs.Turns.{at_first, spelled_first, reached_more, spelled_more, spelled_wrong, spelled_end}
use Rattle.notation.proofs.check.Goals as goal

pub returns-then-text-gt-MOST : goal.returns-then-text-gt-MOST
unfolding spelled
returns-then-text-gt-MOST c = rw (lt-leb _ _ c.if-text-gt-MOST.true)

pub loop-place-init : goal.loop-place-init
loop-place-init c = rw c.fresh-s.ensures (omega arith, at_first _, spelled_first _)

pub returns-then-not-may_stand : goal.returns-then-not-may_stand
unfolding spelled
returns-then-not-may_stand c =
    let wrong = sym (c.may_stand.ensures _ c.loop-place.invariant.1) ∙ c.if-not-may_stand.true in
    rw (le-leb _ _ c.if-text-gt-MOST.false, c.loop-place.invariant.2) (sym (spelled_wrong _ _ c.loop-place-test.true wrong))

pub loop-place-preserved : goal.loop-place-preserved
loop-place-preserved c =
    let inside = c.loop-place-test.true in
    let right = sym (c.may_stand.ensures _ c.loop-place.invariant.1) ∙ c.if-not-may_stand.false in (
      omega (arith, c.next-s.ensures.count_bound),
      rw (reached_more _ _ inside) (c.next-s.ensures.reads _ c.loop-place.invariant.1),
      c.loop-place.invariant.2 ∙ spelled_more _ _ inside right,
    )

pub returns-then-may_stand : goal.returns-then-may_stand
unfolding spelled
returns-then-may_stand c =
    let right = sym (c.may_stand-2.ensures _ c.loop-place.invariant.1) ∙ c.if-may_stand.true in
    rw (le-leb _ _ c.if-text-gt-MOST.false, c.loop-place.invariant.2, spelled_end _ _ c.loop-place-test.false, right)

pub returns-else-may_stand : goal.returns-else-may_stand
unfolding spelled
returns-else-may_stand c =
    let wrong = sym (c.may_stand-2.ensures _ c.loop-place.invariant.1) ∙ c.if-may_stand.false in
    let all : c.loop-place.place ≡ length c.args.text.now = omega arith in
    rw (le-leb _ _ c.if-text-gt-MOST.false, c.loop-place.invariant.2, spelled_end _ _ c.loop-place-test.false, wrong, all)
