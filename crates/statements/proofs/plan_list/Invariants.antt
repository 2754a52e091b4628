-- `statements::plan_list` meets its contract. Assumes nothing.
use mathlib.Core.Path.{◌≡◌}
use Prim.Native.Nat.{◌-◌}
use Rattle.tables.specs.Loops.{turns}
use Rattle.statements.specs.Plan.{plan_one_f}
use Rattle.statements.proofs.plan_list.Given as goal

abbrev pub invariant-loop : goal.invariant-loop
invariant-loop l =
    turns l.n (plan_one_f l.records) l.initial.p ≡ turns (l.n - l.counter) (plan_one_f l.records) l.p
