-- `scoping::binding_from` meets its contract. Assumes nothing.
use mathlib.Core.Path.{◌≡◌}
use Prim.Native.Nat.{◌-◌}
use Rattle.scoping.specs.Search.{binding_from}
use Rattle.scoping.proofs.binding_from.Given as goal

abbrev pub invariant-loop-at : goal.invariant-loop-at
invariant-loop-at l =
    binding_from l.symbols l.sought.f l.count l.sought.scope.0 l.sought.name l.start l.initial.found.0
    ≡ binding_from l.symbols l.sought.f l.count l.sought.scope.0 l.sought.name l.i l.found.0

abbrev pub decreases-loop-at : goal.decreases-loop-at
decreases-loop-at l = l.count - l.i
