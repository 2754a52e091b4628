-- `rewrite_program::transform_items` meets its contract. Assumes nothing.
use mathlib.Core.Path.{◌≡◌}
use Prim.Native.Nat.{◌-◌}
use Rattle.tables.specs.Loops.{turns}
use Rattle.rewrite_items.specs.Items.{passing, transform_item_f}
use Rattle.rewrite_program.proofs.transform_items.Given as goal

abbrev pub invariant-loop : goal.invariant-loop
invariant-loop l =
    turns l.n transform_item_f (passing l.initial.records l.initial.symbols l.initial.s) ≡ turns (l.n - l.counter) transform_item_f (passing l.records l.symbols l.s)
