-- `lowering::finish` meets its contract. Assumes nothing.
use Rattle.lowering.specs.Flat.{count_visited_f, bytes_in, finish_f}
use mathlib.Core.Path.{ap, ◌∙◌}
use Prim.Native.Nat.{ℕ}
use lib.ListN.{replicate}
use Rattle.lowering.proofs.finish.Goals as goal

pub returns : goal.returns
unfolding finish_f count_visited_f bytes_in
returns c = record {
  records = c.clear.ensures ∙ ap (λ (n : ℕ). replicate n 0) c.complete-whole.auto.records;
  scopes = c.clear-2.ensures ∙ ap (λ (n : ℕ). replicate n 0) c.write.auto.scopes;
  symbols = c.clear-3.ensures ∙ ap (λ (n : ℕ). replicate n 0) c.count_rows.auto.symbols;
  written = rw (← c.complete-whole.ensures, ← c.count_rows.ensures) c.write.ensures.bytes;
}
