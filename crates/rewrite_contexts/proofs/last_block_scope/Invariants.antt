-- `rewrite_contexts::last_block_scope` meets its contract. Assumes nothing.
use mathlib.Core.Path.{◌≡◌}
use Prim.Native.Nat.{◌-◌}
use Rattle.tables.specs.Loops.{turns}
use Rattle.rewrite_contexts.specs.Tries.{block_scope_f}
use Rattle.rewrite_contexts.proofs.last_block_scope.Given as goal

abbrev pub invariant-loop : goal.invariant-loop
invariant-loop l =
    turns l.n (block_scope_f l.records) l.initial.s ≡ turns (l.n - l.counter) (block_scope_f l.records) l.s
