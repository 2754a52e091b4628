-- `rewrite_program::placing::number_rows` meets its contract. Assumes nothing.
use mathlib.Core.Path.{◌≡◌}
use Prim.Native.Nat.{◌-◌}
use Rattle.tables.specs.Loops.{turns}
use Rattle.tables.specs.Table.{capped}
use Rattle.rewrite_program.specs.Placing.{numbering, number_one_f}
use Rattle.rewrite_program.proofs.placing.number_rows.Given as goal

abbrev pub invariant-loop-k : goal.invariant-loop-k
invariant-loop-k l =
    turns l.n number_one_f (numbering l.initial.records l.from.0 l.first.0)
    ≡ turns (l.n - l.k) number_one_f (numbering l.records (capped l.from.0 l.k) (capped l.first.0 l.k))
