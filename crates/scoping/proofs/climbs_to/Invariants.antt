-- `scoping::climbs_to` meets its contract. Assumes nothing.
use mathlib.Core.Path.{◌≡◌}
use Prim.Native.Nat.{◌-◌, ◌≤◌}
use Rattle.scoping.specs.Candidates.{climbs_f}
use Rattle.scoping.proofs.climbs_to.Given as goal

abbrev pub invariant-loop : goal.invariant-loop
invariant-loop l =
    (l.counter ≤ l.count) × (climbs_f l.count l.scopes l.count l.initial.scope.0 l.to.0 ≡ climbs_f (l.count - l.counter) l.scopes l.count l.scope.0 l.to.0)
