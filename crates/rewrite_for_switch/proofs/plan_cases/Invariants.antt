-- `rewrite_for_switch::plan_cases` meets its contract. Assumes nothing.
use mathlib.Core.Path.{◌≡◌}
use Prim.Native.Nat.{◌-◌}
use Rattle.tables.specs.Loops.{turns}
use Rattle.rewrite_for_switch.specs.Switch.{plan_case_f}
use Rattle.rewrite_for_switch.proofs.plan_cases.Given as goal

abbrev pub invariant-loop : goal.invariant-loop
invariant-loop l =
    turns l.n (plan_case_f l.records) l.initial.p ≡ turns (l.n - l.counter) (plan_case_f l.records) l.p
