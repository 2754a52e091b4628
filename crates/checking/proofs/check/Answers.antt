-- `checking::check` meets its contract. Assumes nothing.
use mathlib.Core.Path.{sym, ap, ◌∙◌}
use Rattle.spec_laws.specs.Refused.{handed_on}
use Rattle.checking.proofs.Figured.{checked_by, checked_is}
use Rattle.checking.proofs.check.Goals as goal

pub returns : goal.returns
returns c = ap checked_by (sym c.in_ok-check_whole.was) ∙ checked_is _ _ c.check_whole.ensures

pub returns-in_err-check_whole : goal.returns-in_err-check_whole
returns-in_err-check_whole c =
    handed_on _ c.from_residual.ensures.1
    ∙ ap checked_by (sym c.in_err-check_whole.was)
    ∙ checked_is _ _ c.check_whole.ensures
