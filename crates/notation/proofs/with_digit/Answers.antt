-- `notation::with_digit` meets its contract. Assumes nothing.
use mathlib.Core.Path.{refl}
use Rattle.notation.specs.Notation.{with_digit}
use Rattle.notation.proofs.with_digit.Goals as goal

pub returns : goal.returns
unfolding with_digit
returns c = record { reads = λ p h. record { at_is = h.at_is; count_is = h.count_is; digits_is = refl; value_is = rw (c.value_with.ensures, h.value_is) }; count_value = refl }
