-- `rewrite_for_switch::pass_rows` meets its contract. Assumes nothing.
use mathlib.Core.Path.{◌≡◌}
use Prim.Native.Nat.{◌-◌}
use Rattle.tables.specs.Loops.{turns}
use Rattle.tables.specs.Stream.{buf, copy_row_f}
use Rattle.rewrite_for_switch.proofs.pass_rows.Given as goal

abbrev pub invariant-loop : goal.invariant-loop
invariant-loop l =
    turns l.n copy_row_f (buf l.initial.records l.initial.q) ≡ turns (l.n - l.counter) copy_row_f (buf l.records l.q)
