-- The tree that the bytes of a file say, read off its fields alone.
-- Assumes nothing.
use Rattle.std.specs.Prelude.{if◌then◌else◌, List, [], ◌∷◌, ℕ, zero, suc, length, get_or, ltb}
use Rattle.meaning.specs.Tree.{hd, Forest, none, more, Row, row}
use Rattle.meaning.specs.File.{has_children, own_numbers}
use Rattle.readback_laws.specs.ReadBack.{Read, fields_of, is_record}

-- number i of a record's own, or 0
abbrev pub field_own : Read → ℕ → ℕ
field_own x i = if ltb i (own_numbers x.tag) then get_or x.numbers i 0 else 0

-- a field as a record; n follows its own numbers
unfoldable pub row_of : Read → Row
row_of x =
    row (hd x.tag (field_own x 0) (field_own x 1) (field_own x 2))
    (if has_children x.tag then get_or x.numbers (own_numbers x.tag) 0 else 0)

unfoldable pub records_of : List Read → List Row
records_of [] = []
records_of (x ∷ xs) = if is_record x.tag then row_of x ∷ records_of xs else records_of xs

-- up to n records with their children, and the rows behind them; `below` reads a record's children, and the records beside it
abbrev pub trees_by : (ℕ → List Row → Forest × List Row) → ℕ → List Row → Forest × List Row
trees_by below zero rs = (none, rs)
trees_by below (suc n) [] = (none, [])
trees_by below (suc n) (r ∷ rs) =
    let (kids, behind) = below r.n rs in
    let (beside, rest) = below n behind in
    (more r.head kids beside, rest)

-- the first number bounds the depth of the recursion
unfoldable pub trees_from : ℕ → ℕ → List Row → Forest × List Row
trees_from zero n rs = (none, rs)
trees_from (suc fuel) n rs = trees_by (trees_from fuel) n rs

-- the tree of some records in file order
abbrev pub tree_of : List Row → Forest
tree_of rs = (trees_from (length rs) (length rs) rs).0

-- THE TREE of a file's bytes.
unfoldable pub tree_in : List ℕ → Forest
tree_in bytes = tree_of (records_of (fields_of bytes))
