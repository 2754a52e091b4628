-- How often the records in some bytes name a symbol, counted by a reader of the bytes.
-- Assumes nothing.
use Rattle.std.specs.Prelude.{if◌then◌else◌, get_or, eqb}
use mathlib.Core.List.{List, [], ◌∷◌}
use Prim.Native.Nat.{ℕ, ◌+◌}
use Rattle.meaning.specs.Numbers.Tag
use Rattle.meaning.specs.Tree.{one_of}
use Rattle.meaning.specs.File.{Symbol}
use Rattle.readback_laws.specs.ReadBack.{Read}

-- the fields' own numbers, counted from 0
abbrev pub number_in : Read → ℕ → ℕ
number_in x i = get_or x.numbers i 0

-- the symbols that a field names: 13 and 15 by their third number, 20, 25 and 26 by their first, 27 and 28 by their second, 29 by its second and third
unfoldable pub names_in : Read → List ℕ
names_in x =
    if one_of (Tag.Function ∷ Tag.Class ∷ []) x.tag then number_in x 2 ∷ []
    else if one_of (Tag.Specifier ∷ Tag.Read ∷ Tag.Name ∷ []) x.tag then number_in x 0 ∷ []
    else if one_of (Tag.Call ∷ Tag.Load ∷ []) x.tag then number_in x 1 ∷ []
    else if eqb x.tag Tag.Step then number_in x 1 ∷ number_in x 2 ∷ []
    else []

-- how often a number is in a list, and how often fields name a symbol
unfoldable pub often : ℕ → List ℕ → ℕ
often y [] = 0
often y (n ∷ ns) = (if eqb n y then 1 else 0) + often y ns

unfoldable pub mentions_in : ℕ → List Read → ℕ
mentions_in y [] = 0
mentions_in y (x ∷ xs) = often y (names_in x) + mentions_in y xs

-- the fifth numbers of the symbol rows
unfoldable pub counts_said : List Read → List ℕ
counts_said [] = []
counts_said (x ∷ xs) = if eqb x.tag Tag.Symbol then number_in x 4 ∷ counts_said xs else counts_said xs
