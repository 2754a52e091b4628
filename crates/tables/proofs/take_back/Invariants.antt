-- `tables::take_back` meets its contract. Assumes nothing.
use mathlib.Core.Path.{◌≡◌}
use Prim.Native.Nat.{◌-◌, ◌≤◌}
use lib.ListN.{length}
use Rattle.tables.specs.Loops.{turns}
use Rattle.tables.specs.Stream.{buf, unread_row_f}
use Rattle.tables.proofs.take_back.Given as goal

abbrev pub invariant-loop : goal.invariant-loop
invariant-loop l =
    (l.counter ≤ l.n) × (length l.records ≡ length l.initial.records) × (turns l.n unread_row_f (buf l.initial.records l.initial.q) ≡ turns (l.n - l.counter) unread_row_f (buf l.records l.q))
