-- `checking::check_whole` meets its contract. Assumes nothing.
use borrow.Author.Tests.{lt-leb, le-leb}
use Rattle.spec_laws.specs.Refused.{handed_on}
use Rattle.checking.specs.Flat.{file_f}
use Rattle.checking.proofs.check_whole.Goals as goal

pub returns-then-file-gt-MOST_BYTES : goal.returns-then-file-gt-MOST_BYTES
unfolding file_f
returns-then-file-gt-MOST_BYTES c = rw (lt-leb _ _ c.if-file-gt-MOST_BYTES.true)

pub returns-in_err-read_field : goal.returns-in_err-read_field
unfolding file_f
returns-in_err-read_field c =
    rw (
      handed_on _ c.from_residual.ensures.1,
      le-leb _ _ c.if-file-gt-MOST_BYTES.false,
      ← c.read_field.ensures,
      c.in_err-read_field.was,
    )

pub returns : goal.returns
unfolding file_f
returns c =
    rw (le-leb _ _ c.if-file-gt-MOST_BYTES.false, ← c.read_field.ensures, c.in_ok-read_field.was) c.check_settings.ensures
