-- `checking::figures` meets its contract. Assumes nothing.
use mathlib.Core.Path.{sym, ap, ◌∙◌}
use Rattle.spec_laws.specs.Refused.{handed_on}
use Rattle.checking.proofs.Figured.{figures_in, figured_is}
use Rattle.checking.proofs.figures.Goals as goal

pub returns : goal.returns
returns c = ap figures_in (sym c.in_ok-survey.was) ∙ figured_is _ _ c.survey.ensures

pub returns-in_err-survey : goal.returns-in_err-survey
returns-in_err-survey c =
    handed_on _ c.from_residual.ensures.1 ∙ ap figures_in (sym c.in_err-survey.was) ∙ figured_is _ _ c.survey.ensures
