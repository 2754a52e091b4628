-- `scoping::find_candidates` meets its contract. Assumes nothing.
use mathlib.Core.Path.{◌≡◌}
use Prim.Native.Nat.{◌-◌}
use Rattle.scoping.specs.Rows.{symbols_f}
use Rattle.scoping.specs.Candidates.{candidates_f}
use Rattle.scoping.specs.declared.Candidates.TheVariants.{NoRow}
use Rattle.scoping.proofs.Single.{candidates_from}
use Rattle.scoping.proofs.find_candidates.Given as goal

abbrev pub invariant-loop-at : goal.invariant-loop-at
invariant-loop-at l =
    candidates_f (symbols_f l.symbols 2 l.count 0) l.name 1 NoRow ≡ candidates_from l.symbols l.count l.name l.i l.seen

abbrev pub decreases-loop-at : goal.decreases-loop-at
decreases-loop-at l = l.count - l.i
