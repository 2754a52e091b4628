-- `notation::put_numbers` meets its contract. Assumes nothing.
use mathlib.Core.Path.{◌≡◌}
use Prim.Native.Nat.{◌+◌, ◌*◌, ◌-◌, ◌≤◌}
use lib.ListN.{length, drop}
use Rattle.notation.specs.Shown.{numbers_in, shown_numbers}
use Rattle.notation.specs.Notation.{colon}
use Rattle.notation.specs.Puts.{Left}
use Rattle.notation.proofs.put_numbers.Given as goal

abbrev pub invariant-loop-i : goal.invariant-loop-i
invariant-loop-i l =
    (length l.text ≡ length l.initial.text) × (l.end + 3 * (length l.bytes - 2 * l.i) ≤ l.at + 3 * length l.bytes)
    × Left l.initial.text l.at (shown_numbers colon (numbers_in l.bytes)) l.text l.end (shown_numbers l.before (numbers_in (drop (2 * l.i) l.bytes)))
