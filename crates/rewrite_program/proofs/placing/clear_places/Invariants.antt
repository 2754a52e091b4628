-- `rewrite_program::placing::clear_places` meets its contract. Assumes nothing.
use mathlib.Core.Path.{◌≡◌}
use Prim.Native.Nat.{◌-◌}
use Rattle.tables.specs.Loops.{turns}
use Rattle.tables.specs.Table.{capped}
use Rattle.rewrite_program.specs.Placing.{rows_at, clear_one_f}
use Rattle.rewrite_program.proofs.placing.clear_places.Given as goal

abbrev pub invariant-loop-k : goal.invariant-loop-k
invariant-loop-k l =
    turns l.n clear_one_f (rows_at l.initial.records l.from.0) ≡ turns (l.n - l.k) clear_one_f (rows_at l.records (capped l.from.0 l.k))
