-- `notation::show` meets its contract. Assumes nothing.
use mathlib.Core.Path.{refl, ◌∙◌}
use lib.ListN.{length}
use native.Mathlib.Omega.{arith}
use borrow.Author.Tests.{lt-leb}
use Rattle.notation.specs.Shown.{shown}
use Rattle.notation.specs.Puts.{left_all, left_more, left_last}
use Rattle.notation.specs.ShownTurns.{shown_bytes_lem, rest_field, shown_put}
use Rattle.notation.proofs.show.Goals as goal

pub returns-then-file-gt-MOST_SHOWN : goal.returns-then-file-gt-MOST_SHOWN
unfolding shown
returns-then-file-gt-MOST_SHOWN c = rw (lt-leb _ _ c.if-file-gt-MOST_SHOWN.true) record { value = refl; text_after = refl }

pub loop-n-init : goal.loop-n-init
loop-n-init c = (refl, omega arith, left_all _ _ _)

pub loop-n-preserved : goal.loop-n-preserved
loop-n-preserved c =
    let field = c.in-Some.ensures in
    let parts = c.split_at.ensures in (
      c.put_part-end.auto.text ∙ c.loop-n.invariant.0,
      omega (arith, field, c.put_part-end.ensures.upper_bound),
      left_more _ _ _ _ _ _ _ _ _ _ c.loop-n.invariant.2
          (rw (parts.front, parts.back) (rest_field c.loop-n.rest.now c.in-Some.n field.0 field.1 field.2))
          c.put_part-end.ensures.put,
    )

pub returns : goal.returns
returns c =
    let file = c.args.file.now in
    let rest = c.loop-n.rest.now in
    let both = shown_put file _ _ _ c.if-file-gt-MOST_SHOWN.false
    (left_last _ _ _ _ _ _ _ _ _ c.loop-n.invariant.2 (shown_bytes_lem (length rest) rest c.in_default.ensures) c.put_bytes.ensures) in
    record { value = both.0; text_after = both.1 }
