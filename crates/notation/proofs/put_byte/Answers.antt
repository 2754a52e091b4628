-- `notation::put_byte` meets its contract. Assumes nothing.
use borrow.Author.Rules.{rules}
use Rattle.notation.specs.Shown.{shown_byte}
use Rattle.notation.specs.Puts.{put_one, put_both}
use Rattle.notation.proofs.put_byte.Goals as goal

pub returns : goal.returns
unfolding shown_byte
returns c = record { put = rw (← c.from.ensures) (put_both _ _ _ _ _ _ _ _ c.put_decimal-end.ensures.put (put_one _ _ _ _ c.put.ensures)); upper_bound = search rules }
