-- The counts of a symbol table, lent and back.
-- Assumes nothing.
use mathlib.Core.Path.{◌≡◌}
use mathlib.Core.List.{List, ◌++◌, append-nil}
use Prim.Native.Nat.{ℕ, ◌-◌}
use lib.ListN.{length, take, drop, length-drop}
use lib.Seq.{take-length, drop-length}
use Rattle.tables.specs.Table.{counts_at}
use Rattle.mentions.specs.Counters.{on_counts}

pub behind_counts : (f : List ℕ → List ℕ) (y c : List ℕ) (at : ℕ) → at ≡ counts_at y → c ≡ f (take (length y - at) (drop at y))
    → take at y ++ (c ++ drop (length y - at) (drop at y)) ≡ on_counts f y
unfolding on_counts
behind_counts f y c at e d =
    rw (d, ← length-drop at y, drop-length (drop at y), take-length (drop at y), append-nil, e)
