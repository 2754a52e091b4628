-- `checking::first_unnamed` meets its contract. Assumes nothing.
use Rattle.std.proofs.Common.{rules, tests, ◌∙◌}
use Rattle.std.specs.Prelude.{eqb}
use Rattle.std.proofs.lemmas.Iterator.{YieldsList-from_slice}
use Rattle.std.proofs.lemmas.Iterator.Search.{position_from_yields_List}
use Rattle.checking.proofs.Laws.{unnamed_row}
use Rattle.checking.proofs.first_unnamed.Goals as goal

pub returns : goal.returns
returns c =
    position_from_yields_List (λ mark. eqb mark 0) _ _ c.position.result c.position.ensures.ran (YieldsList-from_slice _ c.iter.ensures.rest)
    (λ x b q k. search (rules, tests))
    ∙ unnamed_row _
