-- `mentions::change_counts` meets its contract. Assumes nothing.
use native.Mathlib.Omega.{arith}
use Rattle.tables.specs.Table.{counts_few}
use Rattle.mentions.proofs.Laws.{behind_counts}
use Rattle.mentions.proofs.change_counts.Goals as goal

pub offset_bounds-symbols-at : goal.offset_bounds-symbols-at
offset_bounds-symbols-at g c =
    omega (arith, counts_few _ _ c.counts_at-at.ensures, c.well_formed.0.1)

pub slice_bounds-change_rows-count : goal.slice_bounds-change_rows-count
slice_bounds-change_rows-count g c = counts_few _ _ c.counts_at-at.ensures

pub slice_bounds-change_rows-start : goal.slice_bounds-change_rows-start
slice_bounds-change_rows-start g c = counts_few _ _ c.counts_at-at.ensures

pub returns : goal.returns
returns g c =
    behind_counts _ _ _ _ c.counts_at-at.ensures c.change_rows.ensures
