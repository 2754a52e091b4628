-- The rows of a tree in a table with a gap, and how many they are.
-- Assumes nothing.
use Rattle.std.specs.Prelude.{◌≡◌, refl, List, [], ◌∷◌, ◌++◌, ℕ, zero, suc, ◌+◌, length}
use Rattle.std.proofs.Common.{sym, ap, append_assoc, zero-add, arith, length-append}
use Rattle.meaning.specs.Tree.{Head, Forest, none, more, count, size, ◌&◌}
use Rattle.tables.specs.Table.{closed_row_f}
use Rattle.tables.specs.Stream.{Buf}
use Rattle.tables.specs.declared.Row.{Row}

-- the numbers of some rows, and then the rest of the lent table, which may be any numbers
unfoldable pub table : List Row → List ℕ → List ℕ
table [] z = z
table (r ∷ rs) z = r.tag ∷ r.a ∷ r.b ∷ r.c ∷ r.n ∷ r.up ∷ r.left ∷ table rs z

abbrev pub zeros : Row
zeros = closed_row_f 0 0 0 0 0

-- free rows
unfoldable pub free : ℕ → List Row
free zero = []
free (suc g) = zeros ∷ free g

-- the row of a record with n children that is not open
abbrev pub line : Head → ℕ → Row
line h n = closed_row_f h.tag h.a h.b h.c n

-- the rows of a forest in file order
unfoldable pub rows_of : Forest → List Row
rows_of none = []
rows_of (more h k r) = line h (count k) ∷ (rows_of k ++ rows_of r)

-- a table with g free rows between others, and the cursor at their two ends
unfoldable pub gapped : List ℕ → List Row → ℕ → List Row → Buf
gapped z a g v = record { t = table (a ++ (free g ++ v)) z; read = length a + g; written = length a }

-- a row with another number in one of the walk's two columns
abbrev pub with_up : Row → ℕ → Row
with_up x n = record { tag = x.tag; a = x.a; b = x.b; c = x.c; n = x.n; up = n; left = x.left }

abbrev pub with_left : Row → ℕ → Row
with_left x n = record { tag = x.tag; a = x.a; b = x.b; c = x.c; n = x.n; up = x.up; left = n }

-- ---- how many there are

pub length_free : (g : ℕ) → length (free g) ≡ g
unfolding free
length_free zero = refl
length_free (suc g) = ap suc (length_free g)

pub length_rows : (f : Forest) → length (rows_of f) ≡ size f
unfolding rows_of size
length_rows none = refl
length_rows (more h k r) = omega (arith, length-append (rows_of k) (rows_of r), length_rows k, length_rows r)

-- ---- forests beside each other

pub count_& : (f g : Forest) → count (f & g) ≡ count f + count g
unfolding count ◌&◌
count_& none g = sym (zero-add (count g))
count_& (more h k r) g = omega (arith, count_& r g)

pub size_& : (f g : Forest) → size (f & g) ≡ size f + size g
unfolding size ◌&◌
size_& none g = sym (zero-add (size g))
size_& (more h k r) g = omega (arith, size_& r g)

pub rows_& : (f g : Forest) → rows_of (f & g) ≡ rows_of f ++ rows_of g
unfolding rows_of ◌&◌
rows_& none g = refl
rows_& (more h k r) g = rw (rows_& r g, append_assoc)
