-- `notation::put_length` meets its contract. Assumes nothing.
use mathlib.Core.Path.{◌∙◌}
use borrow.Author.Rules.{rules}
use Rattle.notation.specs.Stored.{file_none, file_field}
use Rattle.notation.proofs.put_length.Goals as goal

pub returns-then-s-ne0 : goal.returns-then-s-ne0
returns-then-s-ne0 c =
    λ out p h e. rw (c.put_two.ensures, e) (file_field out p _ h (search rules))

pub returns-else-s-ne0 : goal.returns-else-s-ne0
returns-else-s-ne0 c = λ out p h e. e ∙ file_none out p _ h (search rules)
