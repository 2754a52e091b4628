-- `notation::encode` meets its contract. Assumes nothing.
use mathlib.Core.Path.{◌≡◌}
use Prim.Native.Nat.{◌+◌, ◌*◌, ◌≤◌}
use lib.ListN.{length}
use Rattle.notation.specs.Spots.{Reads}
use Rattle.notation.specs.Stored.{file_of}
use Rattle.notation.specs.Turns.{reached}
use Rattle.notation.proofs.encode.Given as goal

abbrev pub invariant-loop-c : goal.invariant-loop-c
invariant-loop-c l =
    (length l.file ≡ length l.initial.file) × (l.s.at + 2 * l.s.count ≤ 3 * l.c-index) × Reads (reached l.text l.c-index) l.s
    × (l.file ≡ file_of l.initial.file (reached l.text l.c-index))
