-- `rewrite_contexts::transform_children` meets its contract. Assumes nothing.
use mathlib.Core.Path.{◌≡◌}
use Prim.Native.Nat.{◌-◌}
use Rattle.tables.specs.Loops.{turns}
use Rattle.rewrite_contexts.specs.Tries.{parting, transform_child_f}
use Rattle.rewrite_contexts.proofs.transform_children.Given as goal

abbrev pub invariant-loop : goal.invariant-loop
invariant-loop l =
    turns l.n (transform_child_f l.around.current.0 l.around.hoist.0) (parting l.initial.records l.initial.scopes l.initial.symbols l.initial.s)
    ≡ turns (l.n - l.counter) (transform_child_f l.around.current.0 l.around.hoist.0) (parting l.records l.scopes l.symbols l.s)
