-- `rewrite_items::flag_names` meets its contract. Assumes nothing.
use mathlib.Core.Path.{◌≡◌}
use Prim.Native.Nat.{◌-◌}
use Rattle.tables.specs.Loops.{until}
use Rattle.rewrite_items.specs.Names.{flagging, all_flagged, flag_name_f}
use Rattle.rewrite_items.proofs.flag_names.Given as goal

abbrev pub invariant-loop : goal.invariant-loop
invariant-loop l =
    until 65535 all_flagged (flag_name_f l.records l.ctx) (flagging l.initial.symbols l.initial.s) ≡ until (65535 - l.counter) all_flagged (flag_name_f l.records l.ctx) (flagging l.symbols l.s)
