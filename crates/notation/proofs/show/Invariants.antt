-- `notation::show` meets its contract. Assumes nothing.
use mathlib.Core.Path.{◌≡◌}
use Prim.Native.Nat.{◌+◌, ◌*◌, ◌≤◌}
use lib.ListN.{length}
use Rattle.notation.specs.Shown.{shown_from}
use Rattle.notation.specs.Puts.{Left}
use Rattle.notation.proofs.show.Given as goal

abbrev pub invariant-loop-n : goal.invariant-loop-n
invariant-loop-n l =
    (length l.text ≡ length l.initial.text) × (l.end + 4 * length l.rest ≤ 4 * length l.file)
    × Left l.initial.text 0 (shown_from (length l.file) l.file) l.text l.end (shown_from (length l.rest) l.rest)

abbrev pub decreases-loop-n : goal.decreases-loop-n
decreases-loop-n l = length l.rest
