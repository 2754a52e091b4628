-- `writing::put_field` meets its contract. Assumes nothing.
use Rattle.writing.specs.Stored.{field_put}
use Rattle.writing.proofs.put_field.Goals as goal

pub returns : goal.returns
returns c =
    rw (c.put_number-4.ensures, c.put_number-3.ensures, c.put_number-2.ensures, c.put_number.ensures, c.put_two.ensures, c.length_of.ensures.rule, c.put.ensures, c.numbers_of-count.ensures) (field_put _ _ _ _ _ _ _)
