-- `notation::put_field` meets its contract. Assumes nothing.
use borrow.Author.Rules.{rules}
use Rattle.notation.specs.Shown.{shown_field}
use Rattle.notation.specs.Puts.{put_both}
use Rattle.notation.specs.ShownTurns.{rest_is}
use Rattle.notation.proofs.put_field.Goals as goal

pub returns : goal.returns
unfolding shown_field
returns c = record { put = rw (← c.tag_at.ensures, ← rest_is c.args.field.now 3) (put_both _ _ _ _ _ _ _ _ c.put_decimal-end.ensures.put c.put_numbers.ensures.put); result_bound = search rules }
