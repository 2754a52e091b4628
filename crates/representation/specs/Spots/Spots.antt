-- Where 01's walk stands, held in tables.
-- Assumes nothing.
use Rattle.std.specs.Prelude.{List, [], ◌∷◌, ◌++◌, ℕ, suc, ◌+◌, length}
use Rattle.meaning.specs.Tree.{Head, more, count}
use Rattle.meaning.specs.Walk.{Crumb, crumb, Spot, at, leaving, over, store_at}
use Rattle.tables.specs.declared.Row.{Row}
use Rattle.path.specs.Path.{Tables, tables}
use Rattle.path.specs.declared.Walk.{Walk}
use Rattle.representation.specs.Gap.Cells.{table, free, rows_of}
use Rattle.representation.specs.Store.Held.{scope_cells, symbol_cells, ctx_of}

-- ---- the open records

-- the row of an open record: the row around it, and how many children are still to be entered
abbrev pub open_line : Head → ℕ → ℕ → ℕ → Row
open_line h n around left = record { tag = h.tag; a = h.a; b = h.b; c = h.c; n = n; up = around; left = left }

-- The rows of the open records and of what is done before each, from the outermost on. The innermost has n children, `left` of them still
-- to be entered. Its row is the last of these, so their number is its number.
unfoldable pub open_rows_of : List Crumb → ℕ → ℕ → List Row
open_rows_of [] n left = []
open_rows_of (crumb h before after ∷ path) n left =
    let outer = open_rows_of path (count before + suc (count after)) (count after) in
    outer ++ (rows_of before ++ open_line h n (length outer) left ∷ [])

-- the rows of what comes after each open record, from the innermost on
unfoldable pub after_rows_of : List Crumb → List Row
after_rows_of [] = []
after_rows_of (crumb h before after ∷ path) = rows_of after ++ after_rows_of path

-- ---- the tables

-- the open rows, the rows visited, and those still to visit
unfoldable pub opens_at : Spot → List Row
opens_at (at earlier h k r path st) = open_rows_of path (count earlier + suc (count r)) (suc (count r))
opens_at (leaving kids h before after path st) = open_rows_of (crumb h before after ∷ path) (count kids) 0
opens_at (over tree st) = []

unfoldable pub visited_at : Spot → List Row
visited_at (at earlier h k r path st) = opens_at (at earlier h k r path st) ++ rows_of earlier
visited_at (leaving kids h before after path st) = opens_at (leaving kids h before after path st) ++ rows_of kids
visited_at (over tree st) = rows_of tree

unfoldable pub rest_at : Spot → List Row
rest_at (at earlier h k r path st) = rows_of (more h k r) ++ after_rows_of path
rest_at (leaving kids h before after path st) = rows_of after ++ after_rows_of path
rest_at (over tree st) = []

-- what is left of the lent tables behind their rows
pub record Rest : Type 0 where
  pub records : List ℕ
  pub scopes : List ℕ
  pub symbols : List ℕ

-- with g free rows
unfoldable pub walk_at : Spot → ℕ → Walk
walk_at s g =
    let visited = length (visited_at s) in
    record {
      visited = record { 0 = visited };
      gap = record { 0 = visited + g };
      end = record { 0 = visited + g + length (rest_at s) };
      inner = record { 0 = length (opens_at s) };
      ctx = ctx_of (store_at s);
    }

-- THE TABLES HOLD where the walk stands.
unfoldable pub held : Spot → ℕ → Rest → Tables
held s g z =
    tables
    (table (visited_at s ++ (free g ++ rest_at s)) z.records)
    (scope_cells (store_at s).scopes z.scopes)
    (symbol_cells (store_at s).symbols (store_at s).as_read z.symbols)
    (walk_at s g)
