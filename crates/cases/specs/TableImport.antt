-- The cases of request 1 of document 02: the import line. One table, one theorem.
-- Assumes nothing.
use Rattle.meaning.specs.Refusals.{refused}
use Rattle.meaning.specs.declared.Reason.TheVariants as Reason
use Rattle.std.specs.Prelude.{◌≡◌, refl, List, [], ◌∷◌, map, ℕ}
use Rattle.meaning.specs.Notation.{bytes}
use Rattle.meaning.specs.Lowering.{lower}
use Rattle.meaning.specs.Computing.{computing}
use Rattle.cases.specs.Table.{Case, case, lend, desk, gives, unchanged}

-- 01's whole case as a module in runtime mode
abbrev as_module : List ℕ
as_module = bytes "40:0,1 41:0,16 41:1,0 42:10,6,2,0,1 1:1,1 2:2,1 5:3,1 6:0,1,2 26:1 24:7,0"

-- a line of its form in a script, and in inline mode
abbrev read_line : List ℕ
read_line = bytes "40:2,0 41:0,16 42:10,1,1,0,1 1:1,1 17:4,900,1 20:1,7"

unfoldable pub import_table : List Case
import_table =
    -- a module in runtime mode, with just enough rows and bytes
    case (lend 20 5 4) 244
    as_module
    (gives 20 5 4 1 244
    "40:0,1 41:0,16 41:1,0 41:1,2 41:3,0 41:1,0 42:10,6,2,0,1 42:5,1,1,1,4 42:5,32,1,1,2 42:2,17,4,0,2 1:1,2 17:4,0,1 20:3,3 11:3,3 2:2,2 5:0,1 6:0,1,2 26:2 28:0,3 5:2,1 6:0,1,2 26:1 27:0,2,1 24:7,0 12:3,1,0,2 26:4 2:4,1 29:0,2,4 2:5,1 29:1,2,0") ∷
    -- one record row too few
    case (lend 19 5 4) 244
    as_module
    (refused Reason.FewRows 0) ∷
    -- one byte too few
    case (lend 20 5 4) 243
    as_module
    (refused Reason.ShortOutput 243) ∷
    -- a script has none
    case desk 65536
    (bytes "40:0,0 41:0,16 41:1,0 42:10,6,2,0,1 1:1,1 2:2,1 5:3,1 6:0,1,2 26:1 24:7,0")
    (gives 18 5 4 1 228
    "40:0,0 41:0,16 41:1,0 41:1,2 41:3,0 41:1,0 42:10,6,2,0,1 42:5,1,1,1,4 42:5,1,1,1,1 42:2,17,4,0,2 1:1,1 11:3,3 2:2,2 5:0,1 6:0,1,2 26:2 28:0,3 5:2,1 6:0,1,2 26:1 27:0,2,1 24:7,0 12:3,1,0,2 26:4 2:4,1 29:0,2,4 2:5,1 29:1,2,0") ∷
    -- nor has a module in external mode
    case desk 65536
    (bytes "40:1,1 41:0,16 41:1,0 42:10,6,2,0,1 1:1,1 2:2,1 5:3,1 6:0,1,2 26:1 24:7,0")
    (gives 18 5 3 1 215
    "40:1,1 41:0,16 41:1,0 41:1,2 41:3,0 41:1,0 42:10,6,2,0,1 42:5,1,1,1,4 42:2,17,4,0,2 1:1,1 11:3,3 2:2,2 5:0,1 6:0,1,2 26:2 28:1,0 5:2,1 6:0,1,2 26:1 27:0,2,1 24:7,0 12:3,1,0,2 26:3 2:4,1 29:0,2,3 2:5,1 29:1,2,0") ∷
    -- nor one in which nothing is loaded
    case desk 65536
    (bytes "40:0,1 41:0,16 1:1,0")
    (unchanged (bytes "40:0,1 41:0,16 1:1,0") 1 1 0) ∷
    -- it stands before what Program's rewrite puts first
    case desk 65536
    (bytes "40:0,1 41:0,17 42:10,6,1,0,1 42:11,6,1,0,1 1:1,3 5:3,1 6:0,1,2 26:1 24:7,0 19:1 5:2,1 6:0,1,2 26:2 24:8,0 17:0,9,0")
    (gives 27 5 5 1 310
    "40:0,1 41:0,17 41:1,1 41:1,3 41:3,1 41:1,1 42:10,1,1,0,1 42:11,1,1,0,2 42:5,1,1,1,4 42:5,32,1,1,2 42:2,17,4,0,2 1:1,4 17:4,0,1 20:4,3 17:2,0,1 20:2,11 17:0,9,0 11:3,3 2:2,3 5:0,1 6:0,1,2 26:3 28:0,4 5:0,1 6:0,1,2 26:1 27:0,3,1 24:7,0 5:0,1 6:0,1,2 26:2 24:8,0 12:3,1,0,2 26:5 2:4,1 29:0,3,5 2:5,1 29:1,3,0") ∷
    -- a module that has such a line gets a second one, and a second helper
    case desk 65536
    (bytes "40:0,1 41:0,16 41:1,0 42:5,32,1,1,1 42:10,6,2,0,1 1:1,2 2:2,1 5:3,1 6:0,1,1 26:2 17:4,0,1 20:1,3")
    (gives 20 5 5 1 257
    "40:0,1 41:0,16 41:1,0 41:1,2 41:3,0 41:1,0 42:5,32,1,1,1 42:10,6,2,0,1 42:5,1,1,1,3 42:5,32,1,1,2 42:2,17,4,0,2 1:1,3 17:4,0,1 20:4,3 11:3,3 2:2,2 5:0,1 6:0,1,2 26:3 28:0,4 5:2,1 6:0,1,1 26:2 12:3,1,0,2 26:5 2:4,1 29:0,3,5 2:5,1 29:1,3,0 17:4,0,1 20:1,3") ∷
    -- the last visit leaves a StaticBlock
    case desk 65536
    (bytes "40:0,1 41:0,17 41:1,1 41:2,5 42:10,8,1,0,1 42:11,6,3,0,1 1:1,1 15:0,2,1,1 16:3,1 5:3,1 6:0,1,2 26:2 24:7,0")
    (gives 22 7 5 1 289
    "40:0,1 41:0,17 41:1,1 41:2,5 41:3,1 41:3,3 41:5,1 41:3,1 42:10,8,1,0,1 42:11,6,4,0,1 42:5,1,3,1,4 42:5,32,1,1,2 42:2,17,6,0,2 1:1,2 17:4,0,1 20:4,3 15:0,2,1,1 16:3,1 11:3,3 2:4,2 5:0,1 6:0,1,2 26:3 28:0,4 5:2,1 6:0,1,2 26:2 27:0,3,1 24:7,0 12:5,1,0,2 26:5 2:6,1 29:0,3,5 2:7,1 29:1,3,0") ∷
    -- on reading nothing but its one Specifier is asked of it: no mode, no module, no token, no name
    case desk 65536
    read_line
    (unchanged read_line 3 1 1) ∷
    -- it has one Specifier: with none it is 5, and with two
    case desk 65536
    (bytes "40:0,1 41:0,16 1:1,1 17:4,0,0")
    (refused Reason.WrongNumber 21) ∷
    case desk 65536
    (bytes "40:0,1 41:0,16 42:10,1,1,0,2 1:1,1 17:4,0,2 20:1,3 20:1,3")
    (refused Reason.WrongNumber 34) ∷
    -- there is no further form
    case desk 65536
    (bytes "40:0,1 41:0,16 42:10,1,1,0,1 1:1,1 17:5,0,1 20:1,3")
    (refused Reason.WrongNumber 34) ∷
    []

-- each answer is the table's
pub imports_hold : map (λ c. lower c.input c.rows c.output) import_table ≡ map (λ c. c.answer) import_table
unfolding import_table computing
imports_hold = refl
