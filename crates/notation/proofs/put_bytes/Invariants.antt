-- `notation::put_bytes` meets its contract. Assumes nothing.
use mathlib.Core.Path.{◌≡◌}
use Prim.Native.Nat.{◌+◌, ◌*◌, ◌-◌, ◌≤◌}
use lib.ListN.{length, drop}
use Rattle.notation.specs.Shown.{shown_bytes}
use Rattle.notation.specs.Puts.{Left}
use Rattle.notation.proofs.put_bytes.Given as goal

abbrev pub invariant-loop-b : goal.invariant-loop-b
invariant-loop-b l =
    (length l.text ≡ length l.initial.text) × (l.end + 4 * (length l.bytes - l.b-index) ≤ l.at + 4 * length l.bytes)
    × Left l.initial.text l.at (shown_bytes l.bytes) l.text l.end (shown_bytes (drop l.b-index l.bytes))
