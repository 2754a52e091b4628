-- `rewrite_items::count_names` meets its contract. Assumes nothing.
use mathlib.Core.Path.{◌≡◌}
use Prim.Native.Nat.{◌-◌}
use Rattle.tables.specs.Loops.{until}
use Rattle.rewrite_items.specs.Names.{all_counted, count_name_f}
use Rattle.rewrite_items.proofs.count_names.Given as goal

abbrev pub invariant-loop : goal.invariant-loop
invariant-loop l =
    until 65535 all_counted (count_name_f l.records) l.initial.s ≡ until (65535 - l.counter) all_counted (count_name_f l.records) l.s
