-- `notation::put_numbers` meets its contract. Assumes nothing.
use mathlib.Core.Path.{◌≡◌, refl, ◌∙◌}
use Prim.Native.Nat.{◌+◌, ◌*◌, ◌≤◌}
use lib.ListN.{length}
use native.Mathlib.Omega.{arith}
use borrow.Author.Rules.{rules}
use Rattle.notation.specs.Puts.{left_all, put_one, put_both, left_more, left_none}
use Rattle.notation.specs.ShownTurns.{numbers_more, numbers_none}
use Rattle.notation.proofs.put_numbers.Goals as goal

pub loop-i-init : goal.loop-i-init
loop-i-init c = (refl, omega arith, left_all _ _ _)

pub loop-i-preserved : goal.loop-i-preserved
loop-i-preserved c =
    let i = c.loop-i.i in
    let e : 2 * (i + 1) ≡ 2 * i + 2 = omega arith in (
      c.put_decimal-end.auto.text ∙ c.put.auto.table ∙ c.loop-i.invariant.0,
      omega (arith, c.put_decimal-end.ensures.upper_bound),
      rw e
          (left_more _ _ _ _ _ _ _ _ _ _ c.loop-i.invariant.2 (numbers_more _ _ _ _ (omega arith) c.read_two-number.ensures)
          (put_both _ _ _ _ _ _ _ _ (put_one _ _ _ _ c.put.ensures) c.put_decimal-end.ensures.put)),
    )

pub returns : goal.returns
returns c =
    let i = c.loop-i.i in
    let low : length c.args.bytes.now ≤ 2 * i + 1 = omega arith in
    record { put = left_none _ _ _ _ _ _ c.loop-i.invariant.2 (numbers_none _ _ _ low); upper_bound = search rules }
