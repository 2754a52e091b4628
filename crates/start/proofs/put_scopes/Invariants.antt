-- `start::put_scopes` meets its contract. Assumes nothing.
use mathlib.Core.Path.{◌≡◌}
use Prim.Native.Nat.{◌-◌, ◌≤◌}
use lib.ListN.{length}
use Rattle.tables.specs.Loops.{turns}
use Rattle.start.specs.Flat.{storing, next_scope}
use Rattle.start.proofs.put_scopes.Given as goal

abbrev pub invariant-loop-k : goal.invariant-loop-k
invariant-loop-k l =
    (l.k ≤ l.count) × (length l.scopes ≡ length l.initial.scopes)
    × (turns l.count (next_scope l.file) (storing l.initial.scopes 0) ≡ turns (l.count - l.k) (next_scope l.file) (storing l.scopes l.k))
