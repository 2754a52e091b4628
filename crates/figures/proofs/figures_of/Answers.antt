-- `figures::figures_of` meets its contract. Assumes nothing.
use Rattle.figures.specs.Tally.{tally_figures}
use Rattle.figures.specs.Figures.{figured_f}
use Rattle.figures.proofs.figures_of.Goals as goal

pub returns-then-lacks_helper : goal.returns-then-lacks_helper
unfolding figured_f tally_figures
returns-then-lacks_helper c =
    rw (← c.contexts_of.ensures.value, ← c.lacks_helper.ensures, c.if-lacks_helper.true)

pub returns : goal.returns
unfolding figured_f tally_figures
returns c =
    rw (← c.contexts_of.ensures.value, ← c.lacks_helper.ensures, c.if-lacks_helper.false, ← c.final_figures.ensures)
