-- `rewrite_program::number_items` meets its contract. Assumes nothing.
use mathlib.Core.Path.{◌≡◌}
use Prim.Native.Nat.{◌-◌}
use Rattle.tables.specs.Loops.{turns}
use Rattle.rewrite_program.specs.Arrange.{numbering, number_item_f}
use Rattle.rewrite_program.proofs.number_items.Given as goal

abbrev pub invariant-loop : goal.invariant-loop
invariant-loop l =
    turns l.n number_item_f (numbering l.initial.records l.initial.s) ≡ turns (l.n - l.counter) number_item_f (numbering l.records l.s)
