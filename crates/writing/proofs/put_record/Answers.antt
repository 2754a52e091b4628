-- `writing::put_record` meets its contract. Assumes nothing.
use Rattle.writing.specs.Writing.{record_field}
use Rattle.writing.proofs.Laws.{next_is}
use Rattle.writing.proofs.put_record.Goals as goal

pub returns : goal.returns
unfolding record_field
returns c = record { bytes = rw (c.put_field.ensures, c.own_or-3.ensures, c.own_or-2.ensures, c.own_or.ensures, c.own_numbers-own.ensures); next = next_is _ _ c.args.r c.bytes_of.ensures }
