-- `writing::Source::put_scope` meets its contract. Assumes nothing.
use Rattle.writing.specs.Writing.{scope_field}
use Rattle.writing.proofs.Source.put_scope.Goals as goal

pub returns : goal.returns
unfolding scope_field
returns c =
    rw (c.put_field.ensures, c.new_number-parent.ensures, c.get-flags.ensures, c.get.ensures, c.saturating_sub.ensures)
