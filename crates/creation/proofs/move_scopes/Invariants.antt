-- `creation::move_scopes` meets its contract. Assumes nothing.
use mathlib.Core.Path.{◌≡◌}
use Prim.Native.Nat.{◌-◌}
use Rattle.tables.specs.Loops.{until}
use Rattle.creation.specs.Scopes.{scope_move, move_scope_f, passed}
use Rattle.creation.proofs.move_scopes.Given as goal

abbrev pub invariant-loop : goal.invariant-loop
invariant-loop l =
    until 65535 passed (move_scope_f l.records l.ctx l.parent.0) (scope_move l.initial.scopes l.initial.s)
    ≡ until (65535 - l.counter) passed (move_scope_f l.records l.ctx l.parent.0) (scope_move l.scopes l.s)
