-- `notation::end_number` meets its contract. Assumes nothing.
use native.Mathlib.Omega.{arith}
use Rattle.notation.specs.Spots.{reads_same, reads_number}
use Rattle.notation.proofs.end_number.Goals as goal

pub returns-in-Some : goal.returns-in-Some
returns-in-Some c =
    rw c.fresh.ensures record { reads = λ p h. reads_number p _ h _ c.in-Some.is; count_bound = omega arith }

pub returns-in-None : goal.returns-in-None
returns-in-None c = record { reads = λ p h. reads_same p _ h c.in-None.is; count_bound = omega arith }
