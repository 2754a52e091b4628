-- The cases of request 13 of document 02: one word changed, from const to `using` or `await using`. One table, one theorem.
-- Assumes nothing.
use Rattle.std.specs.Prelude.{Ok, ◌≡◌, refl, List, [], ◌∷◌, map, ℕ}
use Rattle.meaning.specs.Notation.{bytes}
use Rattle.meaning.specs.Charges.{Figures, figures, ◌⊕◌}
use Rattle.meaning.specs.Lowering.{figures_of}
use Rattle.meaning.specs.Computing.{computing}

-- a file, its figures, the file with the word changed, and by how much the figures grow
pub record WordCase : Type 0 where
  pub before : List ℕ
  pub said : Figures
  pub after : List ℕ
  pub growth : Figures

abbrev pub word_case : List ℕ → Figures → List ℕ → Figures → WordCase
word_case before said after growth = record { before = before; said = said; after = after; growth = growth }

-- a Body in a runtime module without other usings: 1 initializer, and all that may come on top of it
abbrev pub const_in_body : List ℕ
const_in_body = bytes "40:0,1 41:0,0 41:1,1 42:10,6,2,0,1 1:1,1 13:0,2,0,2 24:0,0 14:1 5:2,1 6:0,1,2 26:1 24:7,0"

abbrev pub using_in_body : List ℕ
using_in_body = bytes "40:0,1 41:0,0 41:1,1 42:10,6,2,0,1 1:1,1 13:0,2,0,2 24:0,0 14:1 5:3,1 6:0,1,2 26:1 24:7,0"

-- in a script there is no import line
abbrev pub const_in_script : List ℕ
const_in_script = bytes "40:0,0 41:0,0 41:1,1 42:10,6,2,0,1 1:1,1 13:0,2,0,2 24:0,0 14:1 5:2,1 6:0,1,2 26:1 24:7,0"

abbrev pub using_in_script : List ℕ
using_in_script = bytes "40:0,0 41:0,0 41:1,1 42:10,6,2,0,1 1:1,1 13:0,2,0,2 24:0,0 14:1 5:4,1 6:0,1,2 26:1 24:7,0"

-- Program's own list is excepted: its Block and its classes come on top
abbrev pub const_in_program : List ℕ
const_in_program = bytes "40:0,0 41:0,0 41:1,0 42:10,6,1,0,1 42:11,32,1,0,1 1:1,2 15:0,2,2,0 5:2,1 6:0,1,2 26:1 24:7,0"

abbrev pub using_in_program : List ℕ
using_in_program = bytes "40:0,0 41:0,0 41:1,0 42:10,6,1,0,1 42:11,32,1,0,1 1:1,2 15:0,2,2,0 5:3,1 6:0,1,2 26:1 24:7,0"

-- a list that has a using already; two Declarators, one with an initializer: only its call comes
abbrev pub const_after_using : List ℕ
const_after_using =
    bytes "40:1,0 41:0,16 41:1,0 42:10,6,2,0,1 42:11,6,2,0,1 42:12,6,2,0,1 1:1,1 2:2,2 5:3,1 6:0,1,2 26:1 24:7,0 5:2,2 6:0,1,2 26:2 24:8,0 6:0,1,1 26:3"

abbrev pub using_after_using : List ℕ
using_after_using =
    bytes "40:1,0 41:0,16 41:1,0 42:10,6,2,0,1 42:11,6,2,0,1 42:12,6,2,0,1 1:1,1 2:2,2 5:3,1 6:0,1,2 26:1 24:7,0 5:3,2 6:0,1,2 26:2 24:8,0 6:0,1,1 26:3"

unfoldable pub word_table : List WordCase
word_table =
    word_case const_in_body (figures 8 2 1 0 92) using_in_body (figures 15 4 3 1 182) ∷
    word_case const_in_script (figures 8 2 1 0 92) using_in_script (figures 13 4 3 1 166) ∷
    -- a StaticBlock, in external mode: no helper
    word_case
    (bytes "40:1,0 41:0,16 41:1,0 41:2,0 42:10,6,3,0,1 42:11,32,1,0,1 1:1,1 15:0,2,2,1 16:3,1 5:2,1 6:0,1,2 26:1 24:7,0") (figures 7 3 2 0 107)
    (bytes "40:1,0 41:0,16 41:1,0 41:2,0 42:10,6,3,0,1 42:11,32,1,0,1 1:1,1 15:0,2,2,1 16:3,1 5:4,1 6:0,1,2 26:1 24:7,0") (figures 13 4 2 1 153) ∷
    -- a Case
    word_case
    (bytes "40:0,0 41:0,0 41:1,0 42:10,6,2,0,1 1:1,1 9:2,2 24:1,0 10:0,1 5:2,1 6:0,1,2 26:1 24:7,0") (figures 8 2 1 0 90)
    (bytes "40:0,0 41:0,0 41:1,0 42:10,6,2,0,1 1:1,1 9:2,2 24:1,0 10:0,1 5:3,1 6:0,1,2 26:1 24:7,0") (figures 13 4 3 1 166) ∷
    -- a part of a Try
    word_case
    (bytes "40:1,0 41:0,16 41:1,0 41:1,0 42:10,6,2,0,1 1:1,1 11:2,2 2:2,1 5:2,1 6:0,1,2 26:1 24:7,0 2:3,0") (figures 8 3 1 0 97)
    (bytes "40:1,0 41:0,16 41:1,0 41:1,0 42:10,6,2,0,1 1:1,1 11:2,2 2:2,1 5:3,1 6:0,1,2 26:1 24:7,0 2:3,0") (figures 13 4 2 1 153) ∷
    -- any other Block needs no Block around its list
    word_case
    (bytes "40:1,0 41:0,16 41:1,0 42:10,6,2,0,1 1:1,1 2:2,1 5:2,1 6:0,1,2 26:1 24:7,0") (figures 6 2 1 0 76)
    (bytes "40:1,0 41:0,16 41:1,0 42:10,6,2,0,1 1:1,1 2:2,1 5:3,1 6:0,1,2 26:1 24:7,0") (figures 12 3 2 1 139) ∷
    -- no initializer
    word_case
    (bytes "40:1,0 41:0,16 41:1,1 42:10,6,2,0,1 1:1,1 13:0,2,0,2 24:0,0 14:1 5:2,1 6:0,1,1 26:1") (figures 7 2 1 0 85)
    (bytes "40:1,0 41:0,16 41:1,1 42:10,6,2,0,1 1:1,1 13:0,2,0,2 24:0,0 14:1 5:3,1 6:0,1,1 26:1") (figures 12 4 2 1 144) ∷
    word_case const_after_using (figures 24 5 5 1 283) using_after_using (figures 1 0 0 0 9) ∷
    -- the body of a ForOf that takes its using has a context already,
    word_case
    (bytes "40:1,0 41:0,16 41:1,0 41:2,0 42:10,6,2,0,1 42:11,6,3,0,1 1:1,1 8:2,0,3 5:3,1 6:0,1,1 26:1 24:5,0 2:3,1 5:2,1 6:0,1,2 26:2 24:7,0")
    (figures 27 6 5 1 311)
    (bytes "40:1,0 41:0,16 41:1,0 41:2,0 42:10,6,2,0,1 42:11,6,3,0,1 1:1,1 8:2,0,3 5:3,1 6:0,1,1 26:1 24:5,0 2:3,1 5:3,1 6:0,1,2 26:2 24:7,0")
    (figures 1 0 0 0 9) ∷
    -- but not one that binds its name
    word_case
    (bytes "40:1,0 41:0,16 41:1,0 41:2,0 42:10,6,2,0,1 42:10,6,3,0,1 1:1,1 8:2,0,3 5:3,1 6:0,1,1 26:1 24:5,0 2:3,1 5:2,1 6:0,1,2 26:2 24:7,0")
    (figures 28 7 5 1 325)
    (bytes "40:1,0 41:0,16 41:1,0 41:2,0 42:10,6,2,0,1 42:10,6,3,0,1 1:1,1 8:2,0,3 5:3,1 6:0,1,1 26:1 24:5,0 2:3,1 5:3,1 6:0,1,2 26:2 24:7,0")
    (figures 12 3 2 1 139) ∷
    word_case const_in_program (figures 6 2 2 0 93) using_in_program (figures 16 4 4 1 200) ∷
    []

-- the figures are the table's, before and after
pub words_hold
    : (map (λ c. figures_of c.before) word_table ≡ map (λ c. Ok c.said) word_table)
    × (map (λ c. figures_of c.after) word_table ≡ map (λ c. Ok (c.said ⊕ c.growth)) word_table)
unfolding word_table figures_of computing
words_hold = (refl, refl)
