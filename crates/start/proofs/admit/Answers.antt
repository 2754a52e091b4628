-- `start::admit` meets its contract. Assumes nothing.
use Rattle.spec_laws.specs.Refused.{handed_on}
use Rattle.start.specs.Flat.{admit_by}
use Rattle.start.proofs.Answer.{admit_is, tables_tested}
use Rattle.start.proofs.admit.Goals as goal

pub returns-in_err-surveyed : goal.returns-in_err-surveyed
unfolding admit_by
returns-in_err-surveyed c =
    rw (handed_on _ c.from_residual.ensures.1, ← admit_is _ _ _ _ _ c.survey.ensures, c.in_err-surveyed.was)

pub returns-in_err-enough : goal.returns-in_err-enough
returns-in_err-enough c =
    rw (
      handed_on _ c.from_residual-in_err-enough.ensures.1,
      ← admit_is _ _ _ _ _ c.survey.ensures,
      c.in_ok-surveyed.was,
      tables_tested _ _ _ _,
      ← c.enough.ensures,
      c.in_err-enough.was,
    )

pub returns-in_err-enough-2 : goal.returns-in_err-enough-2
returns-in_err-enough-2 c =
    rw (
      handed_on _ c.from_residual-in_err-enough-2.ensures.1,
      ← admit_is _ _ _ _ _ c.survey.ensures,
      c.in_ok-surveyed.was,
      tables_tested _ _ _ _,
      ← c.enough.ensures,
      c.in_ok-enough.was,
      ← c.enough-2.ensures,
      c.in_err-enough-2.was,
    )

pub returns-in_err-enough-3 : goal.returns-in_err-enough-3
returns-in_err-enough-3 c =
    rw (
      handed_on _ c.from_residual-in_err-enough-3.ensures.1,
      ← admit_is _ _ _ _ _ c.survey.ensures,
      c.in_ok-surveyed.was,
      tables_tested _ _ _ _,
      ← c.enough.ensures,
      c.in_ok-enough.was,
      ← c.enough-2.ensures,
      c.in_ok-enough-2.was,
      ← c.enough-3.ensures,
      c.in_err-enough-3.was,
    )

pub returns : goal.returns
returns c =
    rw (
      ← admit_is _ _ _ _ _ c.survey.ensures,
      c.in_ok-surveyed.was,
      tables_tested _ _ _ _,
      ← c.enough.ensures,
      c.in_ok-enough.was,
      ← c.enough-2.ensures,
      c.in_ok-enough-2.was,
      ← c.enough-3.ensures,
      c.in_ok-enough-3.was,
    )
