-- `notation::encode` meets its contract. Assumes nothing.
use mathlib.Core.Path.{refl, ◌∙◌}
use native.Mathlib.Omega.{arith}
use borrow.Author.Tests.{lt-leb}
use Rattle.notation.specs.Notation.{encoded}
use Rattle.notation.specs.Stored.{file_end}
use Rattle.notation.specs.Turns.{at_first, file_first, reached_more, encoded_end}
use Rattle.notation.proofs.encode.Goals as goal

pub returns-then-text-gt-MOST : goal.returns-then-text-gt-MOST
unfolding encoded
returns-then-text-gt-MOST c = rw (lt-leb _ _ c.if-text-gt-MOST.true) record { value = refl; file_after = refl }

pub loop-c-init : goal.loop-c-init
loop-c-init c = rw c.fresh-s.ensures (refl, omega arith, at_first _, file_first _ _)

pub loop-c-preserved : goal.loop-c-preserved
loop-c-preserved c =
    let inside = c.loop-c-test.true in (
      c.put_character.auto.file ∙ c.loop-c.invariant.0,
      omega (arith, c.next-s.ensures.count_bound),
      rw (reached_more _ _ inside) (c.next-s.ensures.reads _ c.loop-c.invariant.2),
      rw (reached_more _ _ inside) (c.put_character.ensures _ _ c.loop-c.invariant.2 c.loop-c.invariant.3),
    )

pub returns : goal.returns
returns c =
    rw (encoded_end _ _ c.if-text-gt-MOST.false c.loop-c-test.false)
    record {
      value = (c.next.ensures.reads _ c.loop-c.invariant.2).at_is;
      file_after = c.put_character-2.ensures _ _ c.loop-c.invariant.2 c.loop-c.invariant.3 ∙ file_end _ _;
    }
