-- The cases of request 6 of document 02: a record at level 65 with something else wrong. One table, one theorem.
-- Assumes nothing.
use Rattle.meaning.specs.Refusals.{refused}
use Rattle.meaning.specs.declared.Reason.TheVariants as Reason
use Rattle.std.specs.Prelude.{◌≡◌, refl, List, [], ◌∷◌, ◌++◌, map, take}
use Rattle.meaning.specs.Notation.{bytes}
use Rattle.meaning.specs.Lowering.{lower}
use Rattle.meaning.specs.Computing.{computing}
use Rattle.meaning.specs.Examples.{nested, deep}
use Rattle.cases.specs.Table.{Case, case, desk}

-- in each file 62 Expressions stand in each other in a Plain of Program, so that the next record, at offset 464, is at level 65
unfoldable pub depth_table : List Case
depth_table =
    -- 6 goes before 3
    case desk 65536
    (deep 62 ++ bytes "2:1,0")
    (refused Reason.TooDeep 464) ∷
    -- and before 4
    case desk 65536
    (deep 62 ++ bytes "24:1")
    (refused Reason.TooDeep 464) ∷
    -- and before 5
    case desk 65536
    (deep 62 ++ bytes "25:1")
    (refused Reason.TooDeep 464) ∷
    -- and before 2 for a cut payload
    case desk 65536
    (deep 62 ++ take 5 (bytes "24:1,0"))
    (refused Reason.TooDeep 464) ∷
    -- whatever the three bytes are
    case desk 65536
    (deep 62 ++ 255 ∷ 255 ∷ 255 ∷ [])
    (refused Reason.TooDeep 464) ∷
    -- but a cut head is 2, and so is none
    case desk 65536
    (deep 62 ++ take 2 (bytes "24:1,0"))
    (refused Reason.Cut 464) ∷
    case desk 65536
    (deep 62)
    (refused Reason.Cut 464) ∷
    []

-- each answer is the table's
pub depth_holds : map (λ c. lower c.input c.rows c.output) depth_table ≡ map (λ c. c.answer) depth_table
unfolding depth_table nested computing
depth_holds = refl
