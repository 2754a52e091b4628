-- `notation::put_character` meets its contract. Assumes nothing.
use mathlib.Core.Path.{◌∙◌}
use lib.Dec.{eqb}
use Rattle.notation.specs.Notation.{after, with_digit, numbered}
use Rattle.notation.specs.Spots.{digit_is}
use Rattle.notation.specs.Stored.{file_of, file_rest}
use Rattle.notation.proofs.put_character.Goals as goal

pub returns-then-is_ascii_digit : goal.returns-then-is_ascii_digit
unfolding after with_digit file_of
returns-then-is_ascii_digit c =
    λ out p h e. rw (digit_is _ _ c.is_ascii_digit.ensures.value, c.if-is_ascii_digit.true) e

pub returns-then-is_space : goal.returns-then-is_space
unfolding after
returns-then-is_space c =
    λ out p h e.
    rw (digit_is _ _ c.is_ascii_digit.ensures.value, c.if-is_ascii_digit.false, ← c.is_space.ensures, c.if-is_space.true)
    (c.put_length.ensures out (numbered p) (c.end_number.ensures.reads p h) (c.put_number.ensures out p h e))

pub returns-else-is_space : goal.returns-else-is_space
unfolding after
returns-else-is_space c =
    λ out p h e.
    rw (digit_is _ _ c.is_ascii_digit.ensures.value, c.if-is_ascii_digit.false, ← c.is_space.ensures, c.if-is_space.false)
    (c.put_number.ensures out p h e ∙ file_rest out (numbered p) (eqb c.args.c 46))
