-- `notation::may_stand` meets its contract. Assumes nothing.
use Rattle.notation.specs.Notation.{may_stand}
use Rattle.notation.specs.Spots.{digit_is}
use Rattle.notation.proofs.may_stand.Goals as goal

pub returns-then-is_ascii_digit : goal.returns-then-is_ascii_digit
unfolding may_stand
returns-then-is_ascii_digit c =
    λ p h.
    rw (digit_is _ _ c.is_ascii_digit.ensures.value, c.if-is_ascii_digit.true, ← c.largest.ensures p h, ← h.value_is, ← c.value_with.ensures)

pub returns-then-is_space : goal.returns-then-is_space
unfolding may_stand
returns-then-is_space c =
    λ p h.
    rw (digit_is _ _ c.is_ascii_digit.ensures.value, c.if-is_ascii_digit.false, ← h.digits_is, ← c.is_some.ensures, c.if-is_some.true, ← c.is_space.ensures, c.if-is_space.true)

pub returns-else-is_space : goal.returns-else-is_space
unfolding may_stand
returns-else-is_space c =
    λ p h.
    rw (digit_is _ _ c.is_ascii_digit.ensures.value, c.if-is_ascii_digit.false, ← h.digits_is, ← c.is_some.ensures, c.if-is_some.true, ← c.is_space.ensures, c.if-is_space.false, ← h.count_is)
    c.may_part.ensures

pub returns-then-is_space-2 : goal.returns-then-is_space-2
unfolding may_stand
returns-then-is_space-2 c =
    λ p h.
    rw (digit_is _ _ c.is_ascii_digit.ensures.value, c.if-is_ascii_digit.false, ← h.digits_is, ← c.is_some.ensures, c.if-is_some.false, ← c.is_space-else-is_some.ensures, c.if-is_space-2.true, ← h.count_is)

pub returns-else-is_space-2 : goal.returns-else-is_space-2
unfolding may_stand
returns-else-is_space-2 c =
    λ p h.
    rw (digit_is _ _ c.is_ascii_digit.ensures.value, c.if-is_ascii_digit.false, ← h.digits_is, ← c.is_some.ensures, c.if-is_some.false, ← c.is_space-else-is_some.ensures, c.if-is_space-2.false)
