-- The bytes that a text in 01's notation says, read character by character: `5:3,1` is tag 5 with the numbers 3 and 1.
-- Assumes nothing.
use Rattle.std.specs.Prelude.{if◌then◌else◌, List, [], ◌∷◌, ◌++◌, Bool, true, false, ◌||◌, ◌&&◌, ℕ, ◌+◌, ◌*◌, ◌-◌, ◌%◌, eqb, leb, length, get_or, Result, Ok, Err}
use Rattle.meaning.specs.File.{two_bytes}
use Rattle.notation.specs.declared.Misspelling.{Misspelling}

-- What is read so far: the bytes of whole fields, the numbers of the field that is being read (its tag first), whether digits stand
-- behind these, and the value of the digits.
pub record Part : Type 0 where
  pub bytes : List ℕ
  pub numbers : List ℕ
  pub digits : Bool
  pub value : ℕ

abbrev pub part : List ℕ → List ℕ → Bool → ℕ → Part
part bs ns d v = record { bytes = bs; numbers = ns; digits = d; value = v }

abbrev pub nothing : Part
nothing = part [] [] false 0

-- a tag and its numbers; a tag keeps to one byte, the length to two
unfoldable pub field_from : List ℕ → List ℕ
field_from [] = []
field_from (t ∷ ns) = t % 256 ∷ two_bytes (2 * length ns % 65536 ∷ ns)

-- ---- a character more

abbrev pub line_end : ℕ
line_end = 10

abbrev pub space : ℕ
space = 32

abbrev pub comma : ℕ
comma = 44

abbrev pub dot : ℕ
dot = 46

abbrev pub digit0 : ℕ
digit0 = 48

abbrev pub digit9 : ℕ
digit9 = 57

abbrev pub colon : ℕ
colon = 58

unfoldable pub is_digit : ℕ → Bool
is_digit c = leb digit0 c && leb c digit9

-- a space or a line end
unfoldable pub is_space : ℕ → Bool
is_space c = eqb c space || eqb c line_end

-- a number keeps to two bytes
unfoldable pub with_digit : ℕ → Part → Part
with_digit c p = part p.bytes p.numbers true ((p.value * 10 + (c - digit0)) % 65536)

-- the digits, if there are any, are a number of the field
unfoldable pub numbered : Part → Part
numbered p = part p.bytes (if p.digits then p.numbers ++ p.value ∷ [] else p.numbers) false 0

-- the field is whole
unfoldable pub fielded : Part → Part
fielded p = part (p.bytes ++ field_from p.numbers) [] false 0

-- a dot behind the first number: a byte on its own, no field
unfoldable pub dotted : Part → Part
dotted p = if eqb (length p.numbers) 1 then part (p.bytes ++ get_or p.numbers 0 0 % 256 ∷ []) [] false 0 else p

-- any character but digit, space and dot parts two numbers
unfoldable pub after : ℕ → Part → Part
after c p =
    if is_digit c then with_digit c p
    else if is_space c then fielded (numbered p)
    else if eqb c dot then dotted (numbered p)
    else numbered p

unfoldable pub read : Part → List ℕ → Part
read p [] = p
read p (c ∷ text) = read (after c p) text

-- so many characters are read
abbrev pub most : ℕ
most = 1000000000

-- THE BYTES of a text, whose end is a space; a longer text has none
unfoldable pub encoded : List ℕ → List ℕ
encoded text = if leb (length text) most then (after space (read nothing text)).bytes else []

-- ---- which texts are spelled right

-- the largest value of the number that is being read: a tag and a single byte have one byte
unfoldable pub limit : Part → ℕ
limit p = if eqb (length p.numbers) 0 then 255 else 65535

-- behind a number, with so many before it in its field: a colon or a dot behind the first, a comma behind another; a field has at most
-- 32,767 numbers behind its tag
unfoldable pub may_part : ℕ → ℕ → Bool
may_part c k = if eqb k 0 then eqb c colon || eqb c dot else eqb c comma && leb k 32766

-- A number fits, and has digits. Fields and single bytes are parted by spaces and line ends, any number of them.
unfoldable pub may_stand : ℕ → Part → Bool
may_stand c p =
    let k = length p.numbers in
    if is_digit c then leb (p.value * 10 + (c - digit0)) (limit p)
    else if p.digits then is_space c || may_part c k
    else is_space c && eqb k 0

-- wrong at a place
abbrev pub wrong_at : ℕ → Result (Unit {0}) Misspelling
wrong_at i = Err record { place = i }

-- the first character that may not stand where it does; the end counts as a space
unfoldable pub spelled_from : Part → ℕ → List ℕ → Result (Unit {0}) Misspelling
spelled_from p i [] = if may_stand space p then Ok tt else wrong_at i
spelled_from p i (c ∷ text) = if may_stand c p then spelled_from (after c p) (i + 1) text else wrong_at i

unfoldable pub spelled : List ℕ → Result (Unit {0}) Misspelling
spelled text = if leb (length text) most then spelled_from nothing 0 text else wrong_at most
