-- `rewrite_contexts::plan_parts` meets its contract. Assumes nothing.
use mathlib.Core.Path.{◌≡◌}
use Prim.Native.Nat.{◌-◌}
use Rattle.tables.specs.Loops.{turns}
use Rattle.rewrite_contexts.specs.Tries.{plan_part_f}
use Rattle.rewrite_contexts.proofs.plan_parts.Given as goal

abbrev pub invariant-loop : goal.invariant-loop
invariant-loop l =
    turns l.n (plan_part_f l.records) l.initial.s ≡ turns (l.n - l.counter) (plan_part_f l.records) l.s
