-- `rewrite_items::write_specifiers` meets its contract. Assumes nothing.
use mathlib.Core.Path.{◌≡◌}
use Prim.Native.Nat.{◌-◌}
use Rattle.tables.specs.Loops.{until}
use Rattle.scoping.specs.Changes.{in_symbols}
use Rattle.rewrite_items.specs.Names.{specifying, all_specified, specifier_f}
use Rattle.rewrite_items.proofs.write_specifiers.Given as goal

abbrev pub invariant-loop : goal.invariant-loop
invariant-loop l =
    until 65535 all_specified (specifier_f (in_symbols l.symbols l.ctx)) (specifying l.initial.records l.initial.s)
    ≡ until (65535 - l.counter) all_specified (specifier_f (in_symbols l.symbols l.ctx)) (specifying l.records l.s)
