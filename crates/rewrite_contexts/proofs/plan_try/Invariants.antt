-- `rewrite_contexts::plan_try` meets its contract. Assumes nothing.
use mathlib.Core.Path.{◌≡◌}
use Prim.Native.Nat.{◌-◌}
use Rattle.tables.specs.Loops.{turns}
use Rattle.rewrite_contexts.specs.Tries.{plan_child_f}
use Rattle.rewrite_contexts.proofs.plan_try.Given as goal

abbrev pub invariant-loop : goal.invariant-loop
invariant-loop l =
    turns l.n (plan_child_f l.records) l.initial.s ≡ turns (l.n - l.counter) (plan_child_f l.records) l.s
