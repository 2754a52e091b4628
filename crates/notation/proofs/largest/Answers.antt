-- `notation::largest` meets its contract. Assumes nothing.
use borrow.Author.Tests.{eq-eqb, ne_eqb}
use Rattle.notation.specs.Notation.{limit}
use Rattle.notation.proofs.largest.Goals as goal

pub returns-then-s-eq0 : goal.returns-then-s-eq0
unfolding limit
returns-then-s-eq0 c = λ p h. rw (← h.count_is, eq-eqb _ 0 c.if-s-eq0.true)

pub returns-else-s-eq0 : goal.returns-else-s-eq0
unfolding limit
returns-else-s-eq0 c = λ p h. rw (← h.count_is, ne_eqb _ 0 c.if-s-eq0.false)
