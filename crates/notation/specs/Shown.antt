-- The text of a file in 01's notation, so that every file has one: its fields, and the bytes that belong to no whole field.
-- Assumes nothing.
use Rattle.std.specs.Prelude.{if◌then◌else◌, List, [], ◌∷◌, ◌++◌, ◌&&◌, ℕ, zero, suc, ◌+◌, ◌*◌, ◌/◌, ◌%◌, eqb, leb, length, get_or, take, drop}
use Rattle.meaning.specs.File.{head_bytes}
use Rattle.meaning.specs.Grammar.{two}
use Rattle.notation.specs.Notation.{space, comma, dot, digit0, colon}

-- a number in decimal, with at most so many digits
unfoldable pub decimal : ℕ → ℕ → List ℕ
decimal zero n = []
decimal (suc k) n = if leb n 9 then (digit0 + n) ∷ [] else (decimal k (n / 10) ++ (digit0 + n % 10) ∷ [])

-- a byte on its own, with a dot
unfoldable pub shown_byte : ℕ → List ℕ
shown_byte b = decimal 3 b ++ dot ∷ []

unfoldable pub shown_bytes : List ℕ → List ℕ
shown_bytes [] = []
shown_bytes (b ∷ bs) = shown_byte b ++ shown_bytes bs

-- two bytes each, high byte first
unfoldable pub numbers_in : List ℕ → List ℕ
numbers_in [] = []
numbers_in (h ∷ []) = []
numbers_in (h ∷ l ∷ bs) = (h * 256 + l) ∷ numbers_in bs

-- a colon before the first number, a comma before another
unfoldable pub shown_numbers : ℕ → List ℕ → List ℕ
shown_numbers c [] = []
shown_numbers c (n ∷ ns) = (c ∷ decimal 5 n) ++ shown_numbers comma ns

unfoldable pub shown_field : List ℕ → List ℕ
shown_field bs = decimal 3 (get_or bs 0 0) ++ shown_numbers colon (numbers_in (drop head_bytes bs))

-- the bytes of the field that bytes begin with; none if it is cut, or its length is odd
unfoldable pub whole_field : List ℕ → ℕ
whole_field bs =
    let n = two bs 1 in
    if leb (head_bytes + n) (length bs) && eqb (n % 2) 0 then head_bytes + n else 0

-- a space, if something follows
unfoldable pub gap : List ℕ → List ℕ
gap [] = []
gap (b ∷ bs) = space ∷ []

-- at most so many fields, and then bytes
unfoldable pub shown_from : ℕ → List ℕ → List ℕ
shown_from zero bs = shown_bytes bs
shown_from (suc k) bs =
    let n = whole_field bs in
    let rest = drop n bs in
    if eqb n 0 then shown_bytes bs else (shown_field (take n bs) ++ gap rest ++ shown_from k rest)

-- so many bytes are shown, at most 4 characters for each
abbrev pub most_shown : ℕ
most_shown = 250000000

-- THE TEXT of a file: its fields, parted by a space, and, from the first place on where no whole field stands, its bytes; a longer file has none
unfoldable pub shown : List ℕ → List ℕ
shown file = if leb (length file) most_shown then shown_from (length file) file else []
