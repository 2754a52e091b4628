-- `notation::end_byte` meets its contract. Assumes nothing.
use native.Mathlib.Omega.{arith}
use Rattle.notation.specs.Spots.{reads_kept, reads_byte}
use Rattle.notation.proofs.end_byte.Goals as goal

pub returns-then-s-eq1 : goal.returns-then-s-eq1
returns-then-s-eq1 c =
    rw c.fresh.ensures record { reads = λ p h. reads_byte p _ h c.if-s-eq1.true; count_bound = omega arith }

pub returns-else-s-eq1 : goal.returns-else-s-eq1
returns-else-s-eq1 c = record { reads = λ p h. reads_kept p _ h c.if-s-eq1.false; count_bound = omega arith }
