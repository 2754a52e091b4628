-- `statements::initializers` meets its contract. Assumes nothing.
use mathlib.Core.Path.{◌≡◌}
use Prim.Native.Nat.{◌-◌}
use Rattle.tables.specs.Loops.{turns}
use Rattle.statements.specs.Plan.{count_one_f}
use Rattle.statements.proofs.initializers.Given as goal

abbrev pub invariant-loop : goal.invariant-loop
invariant-loop l =
    turns l.n (count_one_f l.records) l.initial.s ≡ turns (l.n - l.counter) (count_one_f l.records) l.s
