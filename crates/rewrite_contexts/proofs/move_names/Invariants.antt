-- `rewrite_contexts::move_names` meets its contract. Assumes nothing.
use mathlib.Core.Path.{◌≡◌}
use Prim.Native.Nat.{◌-◌}
use Rattle.tables.specs.Loops.{turns}
use Rattle.rewrite_contexts.specs.Tries.{naming, move_name_f}
use Rattle.rewrite_contexts.proofs.move_names.Given as goal

abbrev pub invariant-loop : goal.invariant-loop
invariant-loop l =
    turns l.n (move_name_f l.records l.ctx l.scope.0) (naming l.initial.symbols l.initial.at.0) ≡ turns (l.n - l.counter) (move_name_f l.records l.ctx l.scope.0) (naming l.symbols l.at.0)
