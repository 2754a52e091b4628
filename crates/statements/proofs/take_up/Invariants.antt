-- `statements::take_up` meets its contract. Assumes nothing.
use mathlib.Core.Path.{◌≡◌}
use Prim.Native.Nat.{◌-◌}
use Rattle.tables.specs.Loops.{turns}
use Rattle.tables.specs.Stream.{buf}
use Rattle.statements.specs.TakeUp.{take_up_item_f}
use Rattle.statements.proofs.take_up.Given as goal

abbrev pub invariant-loop : goal.invariant-loop
invariant-loop l =
    turns l.n (take_up_item_f l.context.0) (buf l.initial.records l.initial.q) ≡ turns (l.n - l.counter) (take_up_item_f l.context.0) (buf l.records l.q)
