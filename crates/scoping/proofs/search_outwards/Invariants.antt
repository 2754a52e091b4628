-- `scoping::search_outwards` meets its contract. Assumes nothing.
use mathlib.Core.Path.{◌≡◌}
use Prim.Native.Nat.{◌-◌, ◌≤◌}
use Rattle.meaning.specs.Scoping.{find_binding}
use Rattle.scoping.specs.Rows.{store_f}
use Rattle.scoping.proofs.search_outwards.Given as goal

abbrev pub invariant-loop : goal.invariant-loop
invariant-loop l =
    (l.counter ≤ l.count)
    × (find_binding l.count (store_f l.scopes l.symbols l.ctx) l.initial.scope.0 l.name ≡ find_binding (l.count - l.counter) (store_f l.scopes l.symbols l.ctx) l.scope.0 l.name)
