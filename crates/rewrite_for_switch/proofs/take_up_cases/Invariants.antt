-- `rewrite_for_switch::take_up_cases` meets its contract. Assumes nothing.
use mathlib.Core.Path.{◌≡◌}
use Prim.Native.Nat.{◌-◌}
use Rattle.tables.specs.Loops.{turns}
use Rattle.tables.specs.Stream.{buf}
use Rattle.rewrite_for_switch.specs.Switch.{take_up_case_f}
use Rattle.rewrite_for_switch.proofs.take_up_cases.Given as goal

abbrev pub invariant-loop : goal.invariant-loop
invariant-loop l =
    turns l.n (take_up_case_f l.context.0) (buf l.initial.records l.initial.q) ≡ turns (l.n - l.counter) (take_up_case_f l.context.0) (buf l.records l.q)
