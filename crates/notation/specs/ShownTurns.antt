-- The parts of a file's text: what each function of the code puts, and the turns of its loops.
-- Assumes nothing.
use Rattle.std.specs.Prelude.{if◌then◌else◌, ◌≡◌, refl, Bool, true, false, ◌&&◌, List, [], ◌∷◌, ◌++◌, ℕ, zero, suc, ◌+◌, ◌-◌, ◌/◌, ◌%◌, ◌<◌, ◌≤◌, eqb, leb, length, get_or, take, drop}
use Rattle.std.proofs.Common.{sym, ap, ◌∙◌, add-one, arith, length-append, length-drop, drop_of_length-le, drop-cons, take_all, le-leb, leb-true, eqb-true, eq-eqb, ne_eqb}
use Rattle.std.proofs.Math.Numerals.{add-two}
use Rattle.std.proofs.lemmas.List.Edits.{sets}
use Rattle.std.proofs.Math.Seq.{drop-nil}
use Rattle.std.proofs.lemmas.Bool.{lt-leb, eqb-false}
use Rattle.meaning.specs.Grammar.{two}
use Rattle.spec_laws.specs.Bools.{and-false}
use Rattle.spec_laws.specs.Tags.{and_left}
use Rattle.notation.specs.Notation.{space, comma, digit0}
use Rattle.notation.specs.Shown.{decimal, shown_byte, shown_bytes, numbers_in, shown_numbers, shown_field, whole_field, gap, shown_from, most_shown, shown}
use Rattle.notation.specs.Puts.{Put, Left, left_all}

-- ---- a number

pub decimal_none : (k n : ℕ) → k ≡ 0 → decimal k n ≡ []
unfolding decimal
decimal_none k n e = rw e

pub decimal_one : (k n : ℕ) → 0 < k → n < 10 → decimal k n ≡ (digit0 + n) ∷ []
unfolding decimal
decimal_one zero n h l = absurd (omega arith)
decimal_one (suc k) n h l = rw (le-leb n 9 (omega arith))

pub decimal_more : (k n : ℕ) → 0 < k → 10 ≤ n → decimal k n ≡ decimal (k - 1) (n / 10) ++ (digit0 + n % 10) ∷ []
unfolding decimal
decimal_more zero n h l = absurd (omega arith)
decimal_more (suc k) n h l =
    let e : suc k - 1 ≡ k = omega arith in
    rw (lt-leb n 9 (omega arith), e)

some_length : (b : Bool) (k c d : ℕ) (xs : List ℕ) → length xs ≤ k → length (if b then c ∷ [] else (xs ++ d ∷ [])) ≤ suc k
some_length true k c d xs h = omega arith
some_length false k c d xs h = omega (arith, h, length-append xs (d ∷ []))

pub decimal_length : (k n : ℕ) → length (decimal k n) ≤ k
unfolding decimal
decimal_length zero n = omega arith
decimal_length (suc k) n = some_length (leb n 9) k (digit0 + n) (digit0 + n % 10) (decimal k (n / 10)) (decimal_length k (n / 10))

-- ---- a gap, and the length of a field

pub gap_none : (bs : List ℕ) → length bs ≡ 0 → gap bs ≡ []
unfolding gap
gap_none [] h = refl
gap_none (b ∷ bs) h = absurd (omega arith)

pub gap_some : (bs : List ℕ) → (length bs ≡ 0 → ⊥) → gap bs ≡ space ∷ []
unfolding gap
gap_some [] h = absurd (h refl)
gap_some (b ∷ bs) h = refl

pub whole_cut : (bs : List ℕ) → length bs < 3 + two bs 1 → whole_field bs ≡ 0
unfolding whole_field
whole_cut bs h = rw (lt-leb (3 + two bs 1) (length bs) h)

pub whole_odd : (bs : List ℕ) → (two bs 1 % 2 ≡ 0 → ⊥) → whole_field bs ≡ 0
unfolding whole_field
whole_odd bs h = rw (ne_eqb (two bs 1 % 2) 0 h, and-false (leb (3 + two bs 1) (length bs)))

pub whole_is : (bs : List ℕ) → 3 + two bs 1 ≤ length bs → two bs 1 % 2 ≡ 0 → whole_field bs ≡ 3 + two bs 1
unfolding whole_field
whole_is bs l h = rw (le-leb (3 + two bs 1) (length bs) l, eq-eqb (two bs 1 % 2) 0 h)

pub whole_some : (bs : List ℕ) (n : ℕ) → n ≡ two bs 1 → 3 + n ≤ length bs → n % 2 ≡ 0
    → (3 + n ≡ whole_field bs) × (3 ≤ 3 + n) × (3 + n ≤ length bs)
whole_some bs n e l h = (rw e (sym (whole_is bs (rw (← e) l) (rw (← e) h))), omega arith, l)

-- ---- bytes and numbers

pub bytes_more : (bs : List ℕ) (i : ℕ) → i < length bs
    → shown_bytes (drop i bs) ≡ shown_byte (get_or bs i 0) ++ shown_bytes (drop (i + 1) bs)
unfolding shown_bytes
bytes_more bs i h = rw (drop-cons bs i 0 h, add-one)

pub bytes_none : (bs : List ℕ) (i : ℕ) → length bs ≤ i → shown_bytes (drop i bs) ≡ []
unfolding shown_bytes
bytes_none bs i h = rw (drop_of_length-le bs h)

pub numbers_more : (bs : List ℕ) (c i n : ℕ) → i + 1 < length bs → n ≡ two bs i
    → shown_numbers c (numbers_in (drop i bs)) ≡ (c ∷ decimal 5 n) ++ shown_numbers comma (numbers_in (drop (i + 2) bs))
unfolding shown_numbers numbers_in two
numbers_more bs c i n h e =
    rw (e, drop-cons bs i 0 (omega arith), drop-cons bs (suc i) 0 (omega arith), add-one, add-two)

few_numbers : (bs : List ℕ) → length bs ≤ 1 → numbers_in bs ≡ []
unfolding numbers_in
few_numbers [] h = refl
few_numbers (b ∷ []) h = refl
few_numbers (b ∷ b₂ ∷ bs) h = absurd (omega arith)

pub numbers_none : (bs : List ℕ) (c i : ℕ) → length bs ≤ i + 1 → shown_numbers c (numbers_in (drop i bs)) ≡ []
unfolding shown_numbers
numbers_none bs c i h = rw (few_numbers (drop i bs) (omega (arith, length-drop i bs)))

-- ---- a field and what follows it

-- what stands from a place on
pub rest_is : (bs : List ℕ) (k : ℕ) → take (length bs - k) (drop k bs) ≡ drop k bs
rest_is bs k = take_all (length bs - k) (drop k bs) (omega (arith, length-drop k bs))

pub rest_length : (bs : List ℕ) (k : ℕ) → length (take (length bs - k) (drop k bs)) ≡ length bs - k
rest_length bs k = ap length (rest_is bs k) ∙ length-drop k bs

test_fits : (b : Bool) (n l : ℕ) → (b ≡ true → n ≤ l) → 3 ≤ n → ((if b then n else 0) ≡ 0 → ⊥)
    → (3 ≤ (if b then n else 0)) × ((if b then n else 0) ≤ l)
test_fits true n l f g h = (g, f refl)
test_fits false n l f g h = absurd (h refl)

-- a whole field has a head, and all its bytes are there
pub whole_fits : (bs : List ℕ) (n : ℕ) → n ≡ whole_field bs → (n ≡ 0 → ⊥) → (3 ≤ n) × (n ≤ length bs)
unfolding whole_field
whole_fits bs n e h =
    let l = two bs 1 in
    rw e
    (test_fits (leb (3 + l) (length bs) && eqb (l % 2) 0) (3 + l) (length bs) (λ t. leb-true _ _ (and_left (leb (3 + l) (length bs)) (eqb (l % 2) 0) t)) (omega arith) (λ z. h (e ∙ z)))

pub no_field : (bs : List ℕ) → length bs ≡ 0 → whole_field bs ≡ 0
no_field bs h = whole_cut bs (omega arith)

pub no_bytes : (bs : List ℕ) → length bs ≡ 0 → shown_bytes bs ≡ []
unfolding shown_bytes
no_bytes [] h = refl
no_bytes (b ∷ bs) h = absurd (omega arith)

pub shown_bytes_lem : (k : ℕ) (bs : List ℕ) → whole_field bs ≡ 0 → shown_from k bs ≡ shown_bytes bs
unfolding shown_from
shown_bytes_lem zero bs e = refl
shown_bytes_lem (suc k) bs e = rw e

pub shown_field_lem : (k : ℕ) (bs : List ℕ) (n : ℕ) → n ≡ whole_field bs → (n ≡ 0 → ⊥)
    → shown_from (suc k) bs ≡ shown_field (take n bs) ++ gap (drop n bs) ++ shown_from k (drop n bs)
unfolding shown_from
shown_field_lem k bs n e h = rw (← e, ne_eqb n 0 h)

-- so many fields are enough
enough_by : (b : Bool) (k j : ℕ) (bs : List ℕ) → eqb (whole_field bs) 0 ≡ b
    → ((rest : List ℕ) → length rest ≤ k → length rest ≤ j → shown_from k rest ≡ shown_from j rest) → length bs ≤ suc k → length bs ≤ suc j
    → shown_from (suc k) bs ≡ shown_from (suc j) bs
enough_by true k j bs e ih f g =
    let z : whole_field bs ≡ 0 = eqb-true (whole_field bs) 0 e in
    shown_bytes_lem (suc k) bs z ∙ sym (shown_bytes_lem (suc j) bs z)
enough_by false k j bs e ih f g =
    let n = whole_field bs in
    let fits : (3 ≤ n) × (n ≤ length bs) = whole_fits bs n refl (eqb-false n 0 e) in
    let l : length (drop n bs) ≡ length bs - n = length-drop n bs in
    let h : shown_from k (drop n bs) ≡ shown_from j (drop n bs) = ih (drop n bs) (omega (arith, l, fits.0)) (omega (arith, l, fits.0)) in
    shown_field_lem k bs n refl (eqb-false n 0 e) ∙ ap (λ v. shown_field (take n bs) ++ gap (drop n bs) ++ v) h
    ∙ sym (shown_field_lem j bs n refl (eqb-false n 0 e))

pub shown_enough : (k j : ℕ) (bs : List ℕ) → length bs ≤ k → length bs ≤ j → shown_from k bs ≡ shown_from j bs
shown_enough zero j bs f g =
    let z : whole_field bs ≡ 0 = no_field bs (omega arith) in
    shown_bytes_lem zero bs z ∙ sym (shown_bytes_lem j bs z)
shown_enough (suc k) zero bs f g =
    let z : whole_field bs ≡ 0 = no_field bs (omega arith) in
    shown_bytes_lem (suc k) bs z ∙ sym (shown_bytes_lem zero bs z)
shown_enough (suc k) (suc j) bs f g = enough_by _ k j bs refl (shown_enough k j) f g

-- ---- the turns of the loop over what is left of a file

pub rest_field : (rest : List ℕ) (n : ℕ) → n ≡ whole_field rest → 3 ≤ n → n ≤ length rest
    → shown_from (length rest) rest
    ≡ shown_field (take n rest) ++ gap (drop n rest) ++ shown_from (length (drop n rest)) (drop n rest)
rest_field rest n e low high =
    let k = length rest - 1 in
    let behind = drop n rest in
    let s : length rest ≡ suc k = omega arith in
    let d : length behind ≡ length rest - n = length-drop n rest in
    let t : shown_from k behind ≡ shown_from (length behind) behind = shown_enough k (length behind) behind (omega (arith, s, d)) (omega arith) in
    ap (λ x. shown_from x rest) s ∙ shown_field_lem k rest n e (λ z. omega (arith, z)) ∙ ap (λ x. shown_field (take n rest) ++ gap behind ++ x) t

-- ---- the same turns by places in the file

drop_drop : (at n : ℕ) (bs : List ℕ) → drop n (drop at bs) ≡ drop (at + n) bs
drop_drop zero n bs = let e : 0 + n ≡ n = omega arith in rw e
drop_drop (suc at) n [] = drop-nil n ∙ sym (drop-nil (suc at + n))
drop_drop (suc at) n (b ∷ bs) = let e : suc at + n ≡ suc (at + n) = omega arith in rw e (drop_drop at n bs)

-- what stands from a place on, as it is lent
abbrev pub from : List ℕ → ℕ → List ℕ
from file at = take (length file - at) (drop at file)

module _ (file : List ℕ) (at n : ℕ) (l : at < length file) (e : n ≡ whole_field (from file at)) where
  pub turn_bytes : n ≡ 0 → shown_from (length file - at) (drop at file) ≡ shown_bytes (from file at)
  turn_bytes z = ap (λ x. shown_from (length file - at) x) (sym (rest_is file at)) ∙ shown_bytes_lem (length file - at) (from file at) (sym e ∙ z)

  pub turn_fits : (n ≡ 0 → ⊥) → (3 ≤ n) × (n ≤ length (from file at)) × (at + n ≤ length file)
  turn_fits h =
      let fits : (3 ≤ n) × (n ≤ length (from file at)) = whole_fits (from file at) n e h in
      (fits.0, fits.1, omega (arith, fits.1, rest_length file at))

  pub turn_field : (n ≡ 0 → ⊥)
      → shown_from (length file - at) (drop at file)
      ≡ shown_field (take n (from file at)) ++ gap (drop n (from file at)) ++ shown_from (length file - (at + n)) (drop (at + n) file)
  turn_field h =
      let rest = from file at in
      let k = length file - at - 1 in
      let more = length file - (at + n) in
      let s : length file - at ≡ suc k = omega arith in
      let m : length rest ≡ length file - at = rest_length file at in
      let d : length (drop n rest) ≡ length rest - n = length-drop n rest in
      let fits : (3 ≤ n) × (n ≤ length rest) = whole_fits rest n e h in
      let v : drop n rest ≡ drop (at + n) file = ap (λ x. drop n x) (rest_is file at) ∙ drop_drop at n file in
      let t : shown_from k (drop n rest) ≡ shown_from more (drop n rest) =
      shown_enough k more (drop n rest) (omega (arith, s, m, d, fits.0)) (omega (arith, m, d)) in
      ap (λ x. shown_from (length file - at) x) (sym (rest_is file at)) ∙ ap (λ x. shown_from x rest) s ∙ shown_field_lem k rest n e h
      ∙ ap (λ x. shown_field (take n rest) ++ gap (drop n rest) ++ x) (t ∙ ap (λ x. shown_from more x) v)

pub turn_end : (file : List ℕ) (at : ℕ) → length file ≤ at → shown_from (length file - at) (drop at file) ≡ []
turn_end file at h =
    let z : length (drop at file) ≡ 0 = omega (arith, length-drop at file) in
    shown_bytes_lem (length file - at) (drop at file) (no_field (drop at file) z) ∙ no_bytes (drop at file) z

pub turn_first : (text file : List ℕ) → Left text 0 (shown_from (length file) file) text 0 (shown_from (length file - 0) (drop 0 file))
turn_first text file = let e : length file - 0 ≡ length file = omega arith in rw e (left_all text 0 (shown_from (length file) file))

pub shown_put : (file text now : List ℕ) (end : ℕ) → length file ≤ most_shown → Put text 0 (shown_from (length file) file) now end
    → (end ≡ length (shown file)) × (now ≡ sets text 0 (shown file))
unfolding shown
shown_put file text now end l p = rw (le-leb (length file) most_shown l) (omega (arith, p.end_is), p.text_is)
