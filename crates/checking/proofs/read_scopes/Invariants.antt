-- `checking::read_scopes` meets its contract. Assumes nothing.
use mathlib.Core.Path.{◌≡◌}
use mathlib.Core.Bool.{◌||◌}
use Prim.Native.Nat.{◌-◌, ◌≤◌}
use lib.ListN.{get_or}
use lib.Dec.{eqb}
use Rattle.meaning.specs.Reading.{read_rows, read_scopes, scope_at, most_rows}
use Rattle.checking.proofs.read_scopes.Given as goal

abbrev pub invariant-loop-k : goal.invariant-loop-k
invariant-loop-k l =
    (l.k ≤ most_rows)
    × (read_scopes l.file l.from
    ≡ read_rows (λ k at. eqb k 0 || eqb (get_or l.file at 0) 41) (scope_at l.file) (most_rows - l.k) l.k l.at)
