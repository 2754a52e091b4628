-- The bytes that the code writes from tables, whatever numbers they hold.
-- Assumes nothing.
use Rattle.std.specs.Prelude.{if◌then◌else◌, List, [], ◌∷◌, ◌++◌, Bool, ℕ, zero, suc, ◌+◌, ◌*◌, ◌-◌, ◌%◌, min, get_or, take, drop, ltb}
use Rattle.std.proofs.lemmas.List.Edits.{sets}
use Rattle.meaning.specs.Numbers.Tag
use Rattle.meaning.specs.File.{numbers_of, own_numbers, two_bytes}
use Rattle.tables.specs.Columns.ScopeTable
use Rattle.tables.specs.Columns.SymbolTable
use Rattle.tables.specs.Table.{row_f, new_numbers_at, counts_at}
use Rattle.tables.specs.declared.Row.{Row}
use Rattle.renumbering.specs.Numbers.{number_in, named_in, renumbered_row}
use Rattle.path.specs.declared.Walk.{Walk}

-- A record has at most so many bytes. The settings and 65,535 fields of each kind: the symbol rows begin at the first of these offsets at
-- most, the records at the second, and every field at the third.
abbrev pub most_bytes : ℕ
most_bytes = 11

abbrev pub most_first : ℕ
most_first = 500000

abbrev pub most_tree : ℕ
most_tree = 1500000

abbrev pub most_offset : ℕ
most_offset = 2500000

-- a field with as many of these numbers as its tag has; the fifth of a symbol row goes behind them
unfoldable pub field_with : ℕ → ℕ → ℕ → ℕ → ℕ → List ℕ
field_with t a b c d = t ∷ two_bytes (2 * numbers_of t ∷ take (numbers_of t) (a ∷ b ∷ c ∷ d ∷ []))

-- ---- rows, with the new numbers of scopes

-- scope row s, counted from 1
unfoldable pub scope_field : List ℕ → (ℕ → ℕ) → ℕ → List ℕ
scope_field t new s =
    let at = (s - 1) * ScopeTable.Numbers in
    field_with Tag.Scope (new (get_or t at 0)) (get_or t (at + 1) 0) 0 0

-- symbol row k, counted from 0
unfoldable pub symbol_field : List ℕ → (ℕ → ℕ) → ℕ → List ℕ
symbol_field t new k =
    let at = k * SymbolTable.Numbers in
    field_with Tag.Symbol (get_or t at 0) (get_or t (at + 1) 0) (new (get_or t (at + 2) 0)) (get_or t (at + 3) 0)
    ++ two_bytes (get_or t (counts_at t + k) 0 ∷ [])

-- a record's own number, or n behind them
unfoldable pub own_or : ℕ → ℕ → ℕ → ℕ → ℕ
own_or own i v n = if ltb i own then v else n

-- the tags of records are below 32; others are cut to it
unfoldable pub record_field : Row → List ℕ
record_field r =
    let t = r.tag % 32 in
    let own = own_numbers t in
    field_with t (own_or own 0 r.a r.n) (own_or own 1 r.b r.n) (own_or own 2 r.c r.n) r.n

-- so many rows, from the row k on
unfoldable pub rows_bytes : (ℕ → List ℕ) → ℕ → ℕ → List ℕ
rows_bytes f k zero = []
rows_bytes f k (suc n) = f k ++ rows_bytes f (k + 1) n

-- the rows of a list
unfoldable pub list_bytes : (ℕ → List ℕ) → List ℕ → List ℕ
list_bytes f [] = []
list_bytes f (s ∷ ss) = f s ++ list_bytes f ss

abbrev pub record_at : List ℕ → (ℕ → ℕ) → ℕ → List ℕ
record_at t new k = record_field (renumbered_row new (row_f t k))

-- ---- numbers that are stored over one another

abbrev pub pick_of : ℕ → ℕ → ℕ → ℕ → ℕ
pick_of x y v w = if ltb x y then v else w

-- the last number of a record, which goes to l
unfoldable pub last_of : Bool → ℕ → ℕ → Row → ℕ
last_of h at l r =
    if h then r.n else pick_of (at + 3) l (pick_of (at + 5) l (pick_of (at + 7) l r.n r.c) r.b) r.a

abbrev pub two_at : List ℕ → ℕ → ℕ → List ℕ
two_at o p v = sets o p (two_bytes (v ∷ []))

-- each number at its place or, behind the last, at the last's, and then the last
unfoldable pub numbers_over : Bool → ℕ → ℕ → Row → List ℕ → List ℕ
numbers_over h at l r o =
    two_at (two_at (two_at (two_at o (at + 3) r.a) (min (at + 5) l) r.b) (min (at + 7) l) r.c) l (last_of h at l r)

-- ---- the file

-- THE FILE in the tables, of the rows visited: the scope rows in the order in which these name them, and everywhere the new numbers of scopes,
-- which stand behind the scope rows.
unfoldable pub file_bytes : List ℕ → List ℕ → List ℕ → Walk → List ℕ
file_bytes r s y w =
    let x = w.ctx in
    let rows = w.visited.0 in
    let new = number_in (drop (new_numbers_at s) s) in
    field_with Tag.Settings x.mode x.esm 0 0
    ++ (list_bytes (scope_field s new) (named_in r 0 rows)
    ++ (rows_bytes (symbol_field y new) 0 x.symbols
    ++ rows_bytes (record_at r new) 0 rows))
