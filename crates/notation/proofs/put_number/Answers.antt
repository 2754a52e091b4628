-- `notation::put_number` meets its contract. Assumes nothing.
use mathlib.Core.Path.{◌∙◌}
use borrow.Author.Rules.{rules}
use Rattle.notation.specs.Stored.{file_same, file_tag, file_number}
use Rattle.notation.proofs.put_number.Goals as goal

pub returns-in-None : goal.returns-in-None
returns-in-None c = λ out p h e. e ∙ file_same out p _ h c.in-None.is

pub returns-in-Some : goal.returns-in-Some
returns-in-Some c =
    λ out p h e. rw (c.put.ensures, e) (file_tag out p _ h _ c.in-Some.is c.if-s-eq0.true)

pub returns-in-Some-2 : goal.returns-in-Some-2
returns-in-Some-2 c =
    λ out p h e. rw (c.put_two.ensures, e) (file_number out p _ h _ c.in-Some-2.is (search rules))
