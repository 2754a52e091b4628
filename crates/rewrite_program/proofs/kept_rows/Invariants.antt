-- `rewrite_program::kept_rows` meets its contract. Assumes nothing.
use mathlib.Core.Path.{◌≡◌}
use Prim.Native.Nat.{◌-◌}
use Rattle.tables.specs.Loops.{turns}
use Rattle.rewrite_program.specs.Arrange.{kept_rows_one_f}
use Rattle.rewrite_program.proofs.kept_rows.Given as goal

abbrev pub invariant-loop : goal.invariant-loop
invariant-loop l =
    turns l.n (kept_rows_one_f l.records) l.initial.s ≡ turns (l.n - l.counter) (kept_rows_one_f l.records) l.s
