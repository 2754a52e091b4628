-- The cases of request 7 of document 02: how often a symbol is named. One table, one theorem.
-- Assumes nothing.
use Rattle.meaning.specs.Refusals.{refused}
use Rattle.meaning.specs.declared.Reason.TheVariants as Reason
use Rattle.std.specs.Prelude.{◌≡◌, refl, List, [], ◌∷◌, map, ℕ}
use Rattle.meaning.specs.Notation.{bytes}
use Rattle.meaning.specs.Lowering.{lower}
use Rattle.meaning.specs.Computing.{computing}
use Rattle.cases.specs.Table.{Case, case, lend, desk, unchanged}

-- every tag that names a symbol names the one row; of a Step both numbers do
abbrev every_mention : List ℕ
every_mention =
    bytes "40:1,1 41:0,17 41:1,9 41:1,1 42:10,1,1,0,9 1:1,5 17:0,9,1 20:1,10 13:0,2,1,2 25:1 14:1 29:0,1,1 15:0,3,1,0 3:0,8,1 27:0,1,1 28:1,1 5:0,1 6:0,1,1 26:1"

-- 0 names no row, in a Function, a Class, a Load and a Step
abbrev no_mention : List ℕ
no_mention =
    bytes "40:1,0 41:0,16 41:1,8 41:1,1 42:10,1,1,0,1 1:1,3 29:1,1,0 3:0,8,2 13:1,2,0,2 28:1,0 14:0 15:1,3,0,0 3:0,9,0"

unfoldable pub count_table : List Case
count_table =
    case desk 65536
    every_mention
    (unchanged every_mention 14 3 1) ∷
    case desk 65536
    no_mention
    (unchanged no_mention 8 3 1) ∷
    -- a Step whose two numbers are one row
    case desk 65536
    (bytes "40:1,0 41:0,16 42:10,6,1,0,2 1:1,1 29:0,1,1")
    (unchanged (bytes "40:1,0 41:0,16 42:10,6,1,0,2 1:1,1 29:0,1,1") 2 1 1) ∷
    -- the lowest row with a wrong count, one too many, is 5; the last row is wrong too
    case desk 65536
    (bytes "40:1,0 41:0,16 42:10,6,1,0,0 42:11,6,1,0,2 42:12,6,1,0,7 1:1,1 3:0,0,1 25:2")
    (refused Reason.WrongNumber 27) ∷
    -- one too few
    case desk 65536
    (bytes "40:1,0 41:0,16 42:10,6,1,0,0 1:1,1 3:0,0,1 25:1")
    (refused Reason.WrongNumber 14) ∷
    -- a scope row that no record names goes first, and so do bytes behind the tree
    case desk 65536
    (bytes "40:1,0 41:0,16 42:10,6,1,0,1 1:1,0 3:0,0,0")
    (refused Reason.BytesBehind 34) ∷
    case desk 65536
    (bytes "40:1,0 41:0,16 41:1,0 42:10,6,1,0,1 1:1,0")
    (refused Reason.WrongNumber 14) ∷
    -- a wrong count goes before 8, 9 and 10
    case (lend 0 0 0) 0
    (bytes "40:2,0 41:0,16 41:1,0 42:10,6,2,0,2 1:1,1 2:2,1 5:3,1 6:0,1,2 26:1 24:7,0")
    (refused Reason.WrongNumber 21) ∷
    -- a symbol row of four numbers, and of six
    case desk 65536
    (bytes "40:1,0 41:0,16 42:10,6,1,0 1:1,0")
    (refused Reason.WrongLength 14) ∷
    case desk 65536
    (bytes "40:1,0 41:0,16 42:10,6,1,0,0,0 1:1,0")
    (refused Reason.WrongLength 14) ∷
    []

-- each answer is the table's
pub counts_hold : map (λ c. lower c.input c.rows c.output) count_table ≡ map (λ c. c.answer) count_table
unfolding count_table computing
counts_hold = refl
