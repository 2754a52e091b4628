-- The table of lengths. That it is 01's stands in proofs/Lengths.antt.
-- Assumes nothing.
use Rattle.std.specs.Prelude.{◌≡◌, refl, List, [], ◌∷◌, map, ℕ, ◌*◌, ◌/◌, get_or, length}
use Rattle.std.proofs.Common.{arith}
use Rattle.meaning.specs.File.{numbers_of}

-- the bytes of a field's numbers, for each tag from 0 to 42; 0 for a tag that does not exist
unfoldable pub lengths : List ℕ
lengths =
    0 ∷ 4 ∷ 4 ∷ 6 ∷ 4 ∷ 4 ∷ 6 ∷ 4 ∷ 6 ∷ 4
    ∷ 4 ∷ 4 ∷ 8 ∷ 8 ∷ 2 ∷ 8 ∷ 4 ∷ 6 ∷ 2 ∷ 2
    ∷ 4 ∷ 0 ∷ 0 ∷ 0 ∷ 4 ∷ 2 ∷ 2 ∷ 6 ∷ 4 ∷ 6
    ∷ 0 ∷ 0 ∷ 0 ∷ 0 ∷ 0 ∷ 0 ∷ 0 ∷ 0 ∷ 0 ∷ 0
    ∷ 4 ∷ 4 ∷ 10 ∷ []

-- the tags below 43 that do not exist
abbrev pub no_tags : List ℕ
no_tags = 0 ∷ 21 ∷ 22 ∷ 23 ∷ 30 ∷ 31 ∷ 32 ∷ 33 ∷ 34 ∷ 35 ∷ 36 ∷ 37 ∷ 38 ∷ 39 ∷ []

-- 01's length: two bytes for each number
abbrev pub length_of : ℕ → ℕ
length_of t = 2 * numbers_of t

-- and how many numbers are in a length
pub half : {l n : ℕ} → l ≡ 2 * n → n ≡ l / 2
half e = omega arith

pub lengths_count : length lengths ≡ 43
unfolding lengths
lengths_count = refl

pub lengths_none : map (λ t. get_or lengths t 0) no_tags ≡ map (λ t. 0) no_tags
unfolding lengths
lengths_none = refl
