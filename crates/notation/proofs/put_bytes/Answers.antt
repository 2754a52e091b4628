-- `notation::put_bytes` meets its contract. Assumes nothing.
use mathlib.Core.Path.{refl, ◌∙◌}
use native.Mathlib.Omega.{arith}
use Rattle.notation.specs.Puts.{left_all, left_more, left_none}
use Rattle.notation.specs.ShownTurns.{bytes_more, bytes_none}
use Rattle.notation.proofs.put_bytes.Goals as goal

pub loop-b-init : goal.loop-b-init
loop-b-init c = (refl, omega arith, left_all _ _ _)

pub loop-b-preserved : goal.loop-b-preserved
loop-b-preserved c = (
  c.put_byte-end.auto.text ∙ c.loop-b.invariant.0,
  omega (arith, c.put_byte-end.ensures.upper_bound),
  left_more _ _ _ _ _ _ _ _ _ _ c.loop-b.invariant.2 (bytes_more _ _ c.loop-b-test.true) c.put_byte-end.ensures.put,
)

pub returns : goal.returns
returns c = left_none _ _ _ _ _ _ c.loop-b.invariant.2 (bytes_none _ _ c.loop-b-test.false)
