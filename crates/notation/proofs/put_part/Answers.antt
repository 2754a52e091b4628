-- `notation::put_part` meets its contract. Assumes nothing.
use borrow.Author.Rules.{rules}
use Rattle.notation.specs.Puts.{put_both}
use Rattle.notation.proofs.put_part.Goals as goal

pub returns : goal.returns
returns c = record { put = put_both _ _ _ _ _ _ _ _ c.put_field-end.ensures.put c.put_gap.ensures.put; upper_bound = search rules }
