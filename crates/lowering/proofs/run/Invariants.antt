-- `lowering::run` meets its contract. Assumes nothing.
use mathlib.Core.Path.{◌≡◌}
use Prim.Native.Nat.{◌-◌, ◌≤◌}
use lib.ListN.{length}
use Rattle.tables.specs.Loops.{until}
use Rattle.path.specs.Path.{tables}
use Rattle.walk.specs.Visit.{visit_f}
use Rattle.walk.specs.Over.{is_over_in}
use Rattle.lowering.proofs.run.Given as goal

abbrev pub invariant-loop-k : goal.invariant-loop-k
invariant-loop-k l =
    (l.k ≤ l.limit) × (length l.records ≡ length l.initial.records) × (length l.scopes ≡ length l.initial.scopes) × (length l.symbols ≡ length l.initial.symbols)
    × (until l.limit is_over_in visit_f (tables l.initial.records l.initial.scopes l.initial.symbols l.initial.w)
    ≡ until (l.limit - l.k) is_over_in visit_f (tables l.records l.scopes l.symbols l.w))

abbrev pub decreases-loop-k : goal.decreases-loop-k
decreases-loop-k l =
    l.limit - l.k
