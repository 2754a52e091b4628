-- `notation::end_field` meets its contract. Assumes nothing.
use native.Mathlib.Omega.{arith}
use borrow.Author.Rules.{rules}
use Rattle.notation.specs.Spots.{reads_none, reads_field}
use Rattle.notation.proofs.end_field.Goals as goal

pub returns-then-s-eq0 : goal.returns-then-s-eq0
returns-then-s-eq0 c =
    rw c.fresh.ensures record { reads = λ p h. reads_none p _ h c.if-s-eq0.true; count_bound = omega arith }

pub returns-else-s-eq0 : goal.returns-else-s-eq0
returns-else-s-eq0 c =
    rw c.fresh-else-s-eq0.ensures record { reads = λ p h. reads_field p _ h (search rules); count_bound = omega arith }
