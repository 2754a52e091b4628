-- How often records name a symbol (02, request 7).
-- Assumes nothing.
use Rattle.std.specs.Prelude.{if◌then◌else◌, [], ◌∷◌, ℕ, ◌+◌, eqb}
use Rattle.meaning.specs.Numbers.Tag
use Rattle.meaning.specs.Tree.{one_of, Head, Forest, none, more}

-- the symbol row that a record names, and the second one of a Step; 0 is none
unfoldable pub first_named : Head → ℕ
first_named h =
    if one_of (Tag.Function ∷ Tag.Class ∷ []) h.tag then h.c
    else if one_of (Tag.Specifier ∷ Tag.Read ∷ Tag.Name ∷ []) h.tag then h.a
    else if one_of (Tag.Call ∷ Tag.Load ∷ Tag.Step ∷ []) h.tag then h.b
    else 0

unfoldable pub second_named : Head → ℕ
second_named h = if eqb h.tag Tag.Step then h.c else 0

-- how often a record names symbol row y, and how often all records do
unfoldable pub named : ℕ → Head → ℕ
named y h = (if eqb (first_named h) y then 1 else 0) + (if eqb (second_named h) y then 1 else 0)

unfoldable pub mentions : ℕ → Forest → ℕ
mentions y none = 0
mentions y (more h k r) = named y h + (mentions y k + mentions y r)
