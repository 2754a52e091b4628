-- `renumbering::number_scopes` meets its contract. Assumes nothing.
use native.Mathlib.Omega.{arith}
use Rattle.tables.specs.Table.{numbers_few}
use Rattle.renumbering.proofs.Laws.{behind_rows}
use Rattle.renumbering.proofs.number_scopes.Goals as goal

pub offset_bounds-scopes-at : goal.offset_bounds-scopes-at
offset_bounds-scopes-at c =
    omega (arith, numbers_few _ _ c.new_numbers_at-at.ensures, c.well_formed.0.1)

pub slice_bounds-number_named-count : goal.slice_bounds-number_named-count
slice_bounds-number_named-count c = numbers_few _ _ c.new_numbers_at-at.ensures

pub slice_bounds-number_named-start : goal.slice_bounds-number_named-start
slice_bounds-number_named-start c = numbers_few _ _ c.new_numbers_at-at.ensures

pub returns : goal.returns
returns c =
    behind_rows _ _ _ _ _ c.new_numbers_at-at.ensures c.number_named.ensures
