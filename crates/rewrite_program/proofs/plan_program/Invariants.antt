-- `rewrite_program::plan_program` meets its contract. Assumes nothing.
use mathlib.Core.Path.{◌≡◌}
use Prim.Native.Nat.{◌-◌}
use Rattle.tables.specs.Loops.{turns}
use Rattle.rewrite_program.specs.Plan.{plan_item_f}
use Rattle.rewrite_program.proofs.plan_program.Given as goal

abbrev pub invariant-loop : goal.invariant-loop
invariant-loop l =
    turns l.n (plan_item_f l.records) l.initial.p ≡ turns (l.n - l.counter) (plan_item_f l.records) l.p
