-- `figures::tally::own_tally` meets its contract. Assumes nothing.
use mathlib.Core.Path.{sym, ◌∙◌}
use Rattle.meaning.specs.Grammar.{head_of, children_of}
use Rattle.figures.proofs.tally.Silent.{own_silent}
use Rattle.figures.proofs.tally.own_tally.Goals as goal

pub returns-then-is_silent : goal.returns-then-is_silent
unfolding head_of
returns-then-is_silent c =
    let a = c.args in
    let is = sym c.is_silent.ensures ∙ c.if-is_silent.true in
    rw (own_silent a.role a.inserted (head_of a.x) (children_of a.x) a.kids is, ← c.bytes_of.ensures) c.silent_tally.ensures
