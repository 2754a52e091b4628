-- `checking::read_symbols` meets its contract. Assumes nothing.
use mathlib.Core.Path.{◌≡◌}
use Prim.Native.Nat.{◌-◌, ◌≤◌}
use lib.ListN.{get_or}
use lib.Dec.{eqb}
use Rattle.meaning.specs.Reading.{read_rows, read_symbols, symbol_at, most_symbols}
use Rattle.checking.proofs.read_symbols.Given as goal

abbrev pub invariant-loop-k : goal.invariant-loop-k
invariant-loop-k l =
    (l.k ≤ most_symbols)
    × (read_symbols l.file l.scopes l.from
    ≡ read_rows (λ k at. eqb (get_or l.file at 0) 42) (λ k at. symbol_at l.file l.scopes at) (most_symbols - l.k) l.k l.at)
