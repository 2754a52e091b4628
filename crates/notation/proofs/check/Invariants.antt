-- `notation::check` meets its contract. Assumes nothing.
use mathlib.Core.Path.{◌≡◌}
use Prim.Native.Nat.{◌+◌, ◌*◌, ◌≤◌}
use lib.ListN.{drop}
use Rattle.notation.specs.Notation.{nothing, spelled_from}
use Rattle.notation.specs.Spots.{Reads}
use Rattle.notation.specs.Turns.{reached}
use Rattle.notation.proofs.check.Given as goal

abbrev pub invariant-loop-place : goal.invariant-loop-place
invariant-loop-place l =
    (l.s.at + 2 * l.s.count ≤ 3 * l.place) × Reads (reached l.text l.place) l.s
    × (spelled_from nothing 0 l.text ≡ spelled_from (reached l.text l.place) l.place (drop l.place l.text))
