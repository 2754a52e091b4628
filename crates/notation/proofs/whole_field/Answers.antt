-- `notation::whole_field` meets its contract. Assumes nothing.
use mathlib.Core.Path.{◌∙◌}
use native.Mathlib.Omega.{arith}
use Rattle.notation.specs.ShownTurns.{whole_cut, whole_odd, whole_some}
use Rattle.notation.proofs.whole_field.Goals.{else-len-eq0-via-then-len-eq0+else-len-bytes, else-len-eq0-via-else-len-eq0}
use Rattle.notation.proofs.whole_field.Goals as goal

pub returns-then-bytes-lt-HEAD_BYTES : goal.returns-then-bytes-lt-HEAD_BYTES
returns-then-bytes-lt-HEAD_BYTES c = whole_cut _ (omega arith)

pub returns-then-len-bytes : goal.returns-then-len-bytes
returns-then-len-bytes c =
    whole_some _ _ (c.from-len.ensures ∙ c.read_two.ensures) (omega arith) c.if-len-eq0.true

pub returns-else-len-eq0 : goal.returns-else-len-eq0
returns-else-len-eq0 c =
    let bytes = c.args.bytes.now in
    let is = c.from-len.ensures ∙ c.read_two.ensures in
    elim c.else-len-eq0.branch [
      | else-len-eq0-via-then-len-eq0+else-len-bytes w ↦ whole_cut bytes (rw (← is) (omega (arith, w.if-len-bytes.false)))
      | else-len-eq0-via-else-len-eq0 w ↦ whole_odd bytes (rw (← is) w.if-len-eq0.false)
    ]
