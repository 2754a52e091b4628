-- `notation::put_gap` meets its contract. Assumes nothing.
use borrow.Author.Rules.{rules}
use Rattle.notation.specs.Puts.{put_none, put_one}
use Rattle.notation.specs.ShownTurns.{gap_none, gap_some}
use Rattle.notation.proofs.put_gap.Goals as goal

pub returns-then-is_empty : goal.returns-then-is_empty
returns-then-is_empty c = record { put = rw (gap_none c.args.rest.now (search rules)) (put_none _ _); upper_bound = search rules }

pub returns-else-is_empty : goal.returns-else-is_empty
returns-else-is_empty c = record { put = rw (gap_some c.args.rest.now (search rules)) (put_one _ _ _ _ c.put.ensures); upper_bound = search rules }
