-- `notation::next` meets its contract. Assumes nothing.
use native.Mathlib.Omega.{arith}
use borrow.Author.Tests.{eq-eqb, ne_eqb}
use Rattle.notation.specs.Notation.{after, numbered}
use Rattle.notation.specs.Spots.{digit_is}
use Rattle.notation.proofs.next.Goals as goal

pub returns-then-is_ascii_digit : goal.returns-then-is_ascii_digit
unfolding after
returns-then-is_ascii_digit c = record {
  reads = λ p h. rw (digit_is _ _ c.is_ascii_digit.ensures.value, c.if-is_ascii_digit.true) (c.with_digit.ensures.reads p h);
  count_bound = omega arith;
}

pub returns-then-is_space : goal.returns-then-is_space
unfolding after
returns-then-is_space c = record {
  reads = λ p h.
      rw (digit_is _ _ c.is_ascii_digit.ensures.value, c.if-is_ascii_digit.false, ← c.is_space.ensures, c.if-is_space.true)
      (c.end_field.ensures.reads (numbered p) (c.end_number.ensures.reads p h));
  count_bound = omega arith;
}

pub returns-then-c-eq46 : goal.returns-then-c-eq46
unfolding after
returns-then-c-eq46 c = record {
  reads = λ p h.
      rw (digit_is _ _ c.is_ascii_digit.ensures.value, c.if-is_ascii_digit.false, ← c.is_space.ensures, c.if-is_space.false, eq-eqb _ 46 c.if-c-eq46.true)
      (c.end_byte.ensures.reads (numbered p) (c.end_number-then-c-eq46.ensures.reads p h));
  count_bound = omega arith;
}

pub returns-else-c-eq46 : goal.returns-else-c-eq46
unfolding after
returns-else-c-eq46 c = record {
  reads = λ p h.
      rw (digit_is _ _ c.is_ascii_digit.ensures.value, c.if-is_ascii_digit.false, ← c.is_space.ensures, c.if-is_space.false, ne_eqb _ 46 c.if-c-eq46.false)
      (c.end_number-else-c-eq46.ensures.reads p h);
  count_bound = omega arith;
}
