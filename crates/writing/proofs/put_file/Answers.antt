-- `writing::put_file` meets its contract. Assumes nothing.
use native.Mathlib.Omega.{arith}
use Rattle.tables.specs.Table.{numbers_few}
use Rattle.writing.proofs.Laws.{file_stored}
use Rattle.writing.proofs.put_file.Goals as goal

pub offset_bounds-scopes-new_numbers_at : goal.offset_bounds-scopes-new_numbers_at
offset_bounds-scopes-new_numbers_at c = omega (arith, numbers_few _ _ c.new_numbers_at.ensures)

pub slice_bounds-source-count : goal.slice_bounds-source-count
slice_bounds-source-count c = numbers_few _ _ c.new_numbers_at.ensures

pub slice_bounds-source-start : goal.slice_bounds-source-start
slice_bounds-source-start c = numbers_few _ _ c.new_numbers_at.ensures

pub returns : goal.returns
returns c =
    file_stored _ _ _ _ _ _ _ _ _ _ _ c.new_numbers_at.ensures c.put_field.ensures
    c.put_scopes-first.ensures.bytes c.put_scopes-first.ensures.next c.put_symbols.ensures c.put_records.ensures
