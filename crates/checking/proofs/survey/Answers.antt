-- `checking::survey` meets its contract. Assumes nothing.
use mathlib.Core.Path.{sym, ap, ◌∙◌}
use Rattle.spec_laws.specs.Refused.{handed_on}
use Rattle.checking.specs.Survey.{with_figures}
use Rattle.checking.proofs.Figured.{surveyed_by, surveyed_is}
use Rattle.checking.proofs.survey.Goals as goal

pub returns : goal.returns
returns c =
    ap (with_figures _) (sym c.in_ok-figures.was ∙ c.figures_of.ensures)
    ∙ ap surveyed_by (sym c.in_ok-whole.was)
    ∙ surveyed_is _ _ c.check_whole.ensures

pub returns-in_err-figures : goal.returns-in_err-figures
returns-in_err-figures c =
    handed_on _ c.from_residual-in_err-figures.ensures.1
    ∙ ap (with_figures _) (sym c.in_err-figures.was ∙ c.figures_of.ensures)
    ∙ ap surveyed_by (sym c.in_ok-whole.was)
    ∙ surveyed_is _ _ c.check_whole.ensures

pub returns-in_err-whole : goal.returns-in_err-whole
returns-in_err-whole c =
    handed_on _ c.from_residual.ensures.1 ∙ ap surveyed_by (sym c.in_err-whole.was) ∙ surveyed_is _ _ c.check_whole.ensures
