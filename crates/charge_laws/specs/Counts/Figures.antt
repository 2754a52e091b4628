-- Charges one after another.
-- Assumes nothing.
use Rattle.std.specs.Prelude.{List, [], ◌∷◌, ◌++◌, ◌+◌}
use Rattle.meaning.specs.Tree.{one}
use Rattle.meaning.specs.Walk.{visits}
use Rattle.meaning.specs.Charges.{Line}

-- charges one after another
unfoldable pub joined : List (List Line) → List Line
joined [] = []
joined (x ∷ xs) = x ++ joined xs
