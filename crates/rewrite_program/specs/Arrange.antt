-- Items rearranged: first those that stay.
-- Assumes nothing.
use Rattle.std.specs.Prelude.{if◌then◌else◌, List, [], ◌∷◌, ℕ, ◌-◌}
use Rattle.meaning.specs.Numbers.Tag
use Rattle.meaning.specs.Tree.{one_of}
use Rattle.tables.specs.Columns.RecordTable
use Rattle.tables.specs.Loops.{turns}
use Rattle.tables.specs.Table.{capped, column_f, end_f}
use Rattle.statements.specs.Plan.{counting}
use Rattle.statements.specs.declared.Counting.{Counting}
use Rattle.rewrite_program.specs.Placing.{place_f, clear_places_f, number_rows_f}
use Rattle.rewrite_program.specs.declared.Numbering.{Numbering}

-- functions, imports and exports
abbrev pub staying : List ℕ
staying = Tag.Function ∷ Tag.ModuleLine ∷ Tag.DefaultExport ∷ Tag.ExportedDeclaration ∷ []

-- the rows of an item are counted if it stays
unfoldable pub kept_rows_one_f : List ℕ → Counting → Counting
kept_rows_one_f t s =
    let end = end_f t s.at.0 1 in
    if one_of staying (column_f t s.at.0 RecordTable.Tag) then counting end (capped s.sum (end - s.at.0))
    else counting end s.sum

unfoldable pub kept_rows_f : List ℕ → ℕ → ℕ → ℕ
kept_rows_f t after n = (turns n (kept_rows_one_f t) (counting after 0)).sum

-- the record table, the last row looked at, and the places of the next row that stays and the next that moves
pub record NumberingF : Type 0 where
  pub t : List ℕ
  pub at : ℕ
  pub kept : ℕ
  pub moved : ℕ

abbrev pub numbering_f : List ℕ → ℕ → ℕ → ℕ → NumberingF
numbering_f t at kept moved = record { t = t; at = at; kept = kept; moved = moved }

abbrev pub numbering : List ℕ → Numbering → NumberingF
numbering t s = numbering_f t s.at.0 s.kept.0 s.moved.0

unfoldable pub number_item_f : NumberingF → NumberingF
number_item_f s =
    let end = end_f s.t s.at 1 in
    let n = end - s.at in
    if one_of staying (column_f s.t s.at RecordTable.Tag) then
    numbering_f (number_rows_f s.t s.at n s.kept) end (capped s.kept n) s.moved
    else numbering_f (number_rows_f s.t s.at n s.moved) end s.kept (capped s.moved n)

unfoldable pub number_items_f : ℕ → NumberingF → NumberingF
number_items_f n s = turns n number_item_f s

unfoldable pub arrange_f : List ℕ → ℕ → ℕ → ℕ → List ℕ
arrange_f t after n rows =
    let block = capped after rows in
    let s = number_items_f n (numbering_f t after after (capped block 1)) in
    let end = capped s.at 1 in
    clear_places_f (place_f (number_rows_f s.t s.at 1 block) after end) after (end - after)
