-- `lowering::admit_output` meets its contract. Assumes nothing.
use Rattle.spec_laws.specs.Refused.{handed_on}
use Rattle.lowering.specs.Flat.{admit_by}
use Rattle.lowering.specs.Law.{admit_output_is}
use borrow.Author.Tests.{le-leb, lt-leb}
use Rattle.lowering.proofs.admit_output.Goals as goal

pub returns-in_err-admitted : goal.returns-in_err-admitted
unfolding admit_by
returns-in_err-admitted c =
    rw (handed_on _ c.from_residual.ensures.1, ← admit_output_is _ _ _ _ c.admit.ensures, c.in_err-admitted.was)

pub returns-then-size-admitted : goal.returns-then-size-admitted
unfolding admit_by
returns-then-size-admitted c =
    rw (← admit_output_is _ _ _ _ c.admit.ensures, c.in_ok-admitted.was, lt-leb _ _ c.if-size-admitted.true)

pub returns : goal.returns
unfolding admit_by
returns c =
    rw (← admit_output_is _ _ _ _ c.admit.ensures, c.in_ok-admitted.was, le-leb _ _ c.if-size-admitted.false)
