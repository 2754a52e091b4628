-- `start::put_symbols` meets its contract. Assumes nothing.
use mathlib.Core.Path.{◌≡◌}
use Prim.Native.Nat.{◌-◌, ◌≤◌}
use lib.ListN.{length}
use Rattle.tables.specs.Loops.{turns}
use Rattle.start.specs.Flat.{storing, next_symbol}
use Rattle.start.proofs.put_symbols.Given as goal

abbrev pub invariant-loop-k : goal.invariant-loop-k
invariant-loop-k l =
    (l.k ≤ l.count) × (length l.symbols ≡ length l.initial.symbols)
    × (turns l.count (next_symbol l.file l.first) (storing l.initial.symbols 0) ≡ turns (l.count - l.k) (next_symbol l.file l.first) (storing l.symbols l.k))
