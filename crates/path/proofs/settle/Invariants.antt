-- `path::settle` meets its contract. Assumes nothing.
use mathlib.Core.Path.{◌≡◌}
use Prim.Native.Nat.{◌-◌, ◌≤◌}
use lib.ListN.{length}
use Rattle.tables.specs.Loops.{until}
use Rattle.path.specs.Path.{OpenRows, open_rows, stays_f, close_f}
use Rattle.path.proofs.settle.Given as goal

abbrev pub invariant-loop : goal.invariant-loop
invariant-loop l =
    (l.counter ≤ l.count) × (length l.records ≡ length l.initial.records)
    × (until l.count (λ (p : OpenRows). stays_f p.t p.at) close_f (open_rows l.initial.records l.initial.at.0)
    ≡ until (l.count - l.counter) (λ (p : OpenRows). stays_f p.t p.at) close_f (open_rows l.records l.at.0))
