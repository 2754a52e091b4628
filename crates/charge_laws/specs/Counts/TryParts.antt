-- That no part of a Try around has a using, at a spot of the walk. That it is so is in proofs/Counts/TryParts.antt.
-- Assumes nothing.
use Rattle.std.specs.Prelude.{◌≡◌, Bool, true, false, ◌||◌, ◌&&◌, List, [], ◌∷◌, eqb}
use Rattle.meaning.specs.Numbers.Tag
use Rattle.meaning.specs.Tree.{Forest, more, one, ◌&◌}
use Rattle.meaning.specs.Contexts.{any_part_using}
use Rattle.meaning.specs.Walk.{Crumb, crumb, Spot, at, leaving, over}

-- the innermost open record is a Try, or a Catch of one
unfoldable pub in_try : List Crumb → Bool
in_try [] = false
in_try (crumb h before after ∷ path) = eqb h.tag Tag.Try || (eqb h.tag Tag.Catch && in_try path)

-- no part among these records has a using
abbrev pub Taken : List Crumb → Forest → Type 0
Taken path f = in_try path ≡ true → any_part_using f ≡ false

abbrev pub TakenAfter : List Crumb → Type 0
TakenAfter [] = Unit {0}
TakenAfter (crumb h before after ∷ path) = Taken path after × TakenAfter path

abbrev pub PartsTaken : Spot → Type 0
PartsTaken (over tree st) = Unit {0}
PartsTaken (at earlier h k r path st) = Taken path (more h k r) × TakenAfter path
PartsTaken (leaving kids h before after path st) = Taken path after × TakenAfter path
