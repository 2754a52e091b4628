-- 01's whole case: the bytes of its two texts are those that the table of 01's cases has (`bytes`), both are spelled right, and the bytes
-- are shown as these texts. A field that is cut is shown byte by byte.
-- Assumes nothing.
use Rattle.std.specs.Prelude.{◌≡◌, refl, List, [], ◌∷◌, ℕ, Ok}
use Prim.Native.Char.{code}
use Prim.Native.String.{String, [] as empty, ◌∷◌ as cons}
use Rattle.meaning.specs.File.{two_bytes, field}
use Rattle.meaning.specs.Grammar.{two}
use Rattle.meaning.specs.Notation.{bytes, field_from as numbers_field, fields_from}
use Rattle.notation.specs.Notation.{field_from, is_digit, is_space, with_digit, numbered, fielded, dotted, after, read, encoded, limit, may_part, may_stand, spelled_from, spelled}
use Rattle.notation.specs.Shown.{decimal, shown_byte, shown_bytes, numbers_in, shown_numbers, shown_field, whole_field, gap, shown_from, shown}

-- the characters of a text, as numbers
unfoldable pub codes : String → List ℕ
codes empty = []
codes (cons c text) = code c ∷ codes text

abbrev pub Agrees : String → Type 0
Agrees text = (encoded (codes text) ≡ bytes text) × (spelled (codes text) ≡ Ok tt) × (shown (bytes text) ≡ codes text)

pub whole_case_lem : Agrees "40:1,0 41:0,16 41:1,0 42:10,6,2,0,1 1:1,1 2:2,1 5:3,1 6:0,1,2 26:1 24:7,0"
    × Agrees
    "40:1,0 41:0,16 41:1,0 41:1,2 41:3,0 41:1,0 42:10,6,2,0,1 42:5,1,1,1,4 42:2,17,4,0,2 1:1,1 11:3,3 2:2,2 5:0,1 6:0,1,2 26:2 28:1,0 5:2,1 6:0,1,2 26:1 27:0,2,1 24:7,0 12:3,1,0,2 26:3 2:4,1 29:0,2,3 2:5,1 29:1,2,0"
unfolding codes two_bytes field bytes numbers_field fields_from field_from is_digit is_space with_digit numbered fielded dotted after read encoded limit may_part may_stand spelled_from spelled two decimal shown_byte shown_bytes numbers_in shown_numbers shown_field whole_field gap shown_from shown
whole_case_lem = ((refl, refl, refl), (refl, refl, refl))

pub cut_field : shown (26 ∷ 0 ∷ 2 ∷ 0 ∷ 1 ∷ 24 ∷ 0 ∷ 4 ∷ []) ≡ codes "26:1 24.0.4."
unfolding codes two decimal shown_byte shown_bytes numbers_in shown_numbers shown_field whole_field gap shown_from shown
cut_field = refl
