-- 01's notation for files: `5:3,1` is tag 5 with the numbers 3 and 1, and fields are parted by a space.
-- Assumes nothing.
use Rattle.std.specs.Prelude.{if◌then◌else◌, List, [], ◌∷◌, ◌++◌, ◌&&◌, ℕ, ◌+◌, ◌*◌, ◌-◌, eqb, leb}
use Prim.Native.Char.{code}
use Prim.Native.String.{String, [] as empty, ◌∷◌ as cons}
use Rattle.meaning.specs.File.{field}

-- a tag and its numbers
unfoldable pub field_from : List ℕ → List ℕ
field_from [] = []
field_from (t ∷ ns) = field t ns

-- the bytes so far, the field's numbers so far, and the digits so far as a number
unfoldable pub fields_from : String → List ℕ → List ℕ → ℕ → List ℕ
fields_from empty bytes ns n = bytes ++ field_from (ns ++ n ∷ [])
fields_from (cons c' text) bytes ns n =
    let c = code c' in
    let digit = leb 48 c && leb c 57 in
    let space = eqb c 32 in
    fields_from
    text
    (if space then bytes ++ field_from (ns ++ n ∷ []) else bytes)
    (if digit then ns else if space then [] else (ns ++ n ∷ []))
    (if digit then 10 * n + (c - 48) else 0)

unfoldable pub bytes : String → List ℕ
bytes text = fields_from text [] [] 0
