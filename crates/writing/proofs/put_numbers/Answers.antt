-- `writing::put_numbers` meets its contract. Assumes nothing.
use Rattle.writing.specs.Writing.{numbers_over}
use Rattle.writing.proofs.put_numbers.Goals as goal

pub returns : goal.returns
unfolding numbers_over
returns c =
    rw (c.put_two_at-4.ensures, c.last_number.ensures, c.put_two_at-3.ensures, c.min-2.ensures, c.put_two_at-2.ensures, c.min.ensures, c.put_two_at.ensures)
