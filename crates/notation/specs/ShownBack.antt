-- The text of a file is spelled right, and read back it is the file.
-- Assumes nothing.
use Rattle.std.specs.Prelude.{if◌then◌else◌, ◌≡◌, refl, Bool, true, false, ◌&&◌, ℕ, zero, suc, ◌+◌, ◌*◌, ◌-◌, ◌/◌, ◌%◌, ◌<◌, ◌≤◌, eqb, leb, length, get_or, take, drop, Ok}
use Rattle.std.proofs.Common.{sym, ap, ◌∙◌, arith, length-append, length-drop, take-append-drop, length-take-le, get_or-take, le-leb, leb-true, leb-false, eqb-true, ne_eqb}
use mathlib.Core.List.{List, [], ◌∷◌, ◌++◌, append_assoc, append-nil}
use Rattle.std.proofs.lemmas.List.Edits.{sets, sets-eq}
use Rattle.std.proofs.Math.Seq.{take-append_seam}
use Rattle.std.proofs.lemmas.Bool.{eqb-false}
use Rattle.meaning.specs.File.{two_bytes}
use Rattle.meaning.specs.Grammar.{two}
use Rattle.spec_laws.specs.Tags.{and_right}
use Rattle.spec_laws.specs.Trees.{Bytes}
use Rattle.notation.specs.Notation.{Part, part, nothing, space, comma, dot, digit0, digit9, colon, field_from, is_digit, is_space, with_digit, numbered, fielded, dotted, after, read, most, encoded, limit, may_part, may_stand, spelled_from, spelled}
use Rattle.notation.specs.Shown.{decimal, shown_byte, shown_bytes, numbers_in, shown_numbers, shown_field, whole_field, gap, shown_from, most_shown, shown}
use Rattle.notation.specs.ShownTurns.{decimal_one, decimal_more, decimal_length, whole_fits, shown_bytes_lem, shown_field_lem, no_field, no_bytes}

-- ---- reading a text whose every character may stand

unfoldable pub Goes : Part → List ℕ → Part → Type 0
Goes p [] q = p ≡ q
Goes p (c ∷ text) q = (may_stand c p ≡ true) × Goes (after c p) text q

goes_both : (xs : List ℕ) (p : Part) (ys : List ℕ) (q r : Part) → Goes p xs q → Goes q ys r → Goes p (xs ++ ys) r
unfolding Goes
goes_both [] p ys q r g h = rw g h
goes_both (c ∷ xs) p ys q r g h = (g.0, goes_both xs (after c p) ys q r g.1 h)

goes_one : (p : Part) (c : ℕ) (q : Part) → may_stand c p ≡ true → after c p ≡ q → Goes p (c ∷ []) q
unfolding Goes
goes_one p c q s e = (s, e)

goes_read : (text : List ℕ) (p q : Part) → Goes p text q → read p text ≡ q
unfolding Goes read
goes_read [] p q g = g
goes_read (c ∷ text) p q g = goes_read text (after c p) q g.1

goes_right : (text : List ℕ) (p q : Part) (i : ℕ) → Goes p text q → may_stand space q ≡ true → spelled_from p i text ≡ Ok tt
unfolding Goes spelled_from
goes_right [] p q i g s = rw (g, s)
goes_right (c ∷ text) p q i g s = rw g.0 (goes_right text (after c p) q (i + 1) g.1 s)

-- ---- a number

-- the largest number in a place of a field: a tag and a single byte have one byte
abbrev large : List ℕ → ℕ
large ns = if eqb (length ns) 0 then 255 else 65535

is_digit_lem : (d : ℕ) → d ≤ 9 → is_digit (digit0 + d) ≡ true
unfolding is_digit
is_digit_lem d h = rw (le-leb digit0 (digit0 + d) (omega arith), le-leb (digit0 + d) digit9 (omega arith))

goes_digit : (bs ns : List ℕ) (b : Bool) (v d n : ℕ) → d ≤ 9 → n ≡ v * 10 + d → n ≤ large ns → n ≤ 65535
    → Goes (part bs ns b v) ((digit0 + d) ∷ []) (part bs ns true n)
unfolding may_stand after limit with_digit
goes_digit bs ns b v d n h e l m =
    let k : digit0 + d - digit0 ≡ d = omega arith in
    let w : n % 65536 ≡ n = omega arith in
    goes_one (part bs ns b v) (digit0 + d) (part bs ns true n)
    (rw (is_digit_lem d h, k, ← e) (le-leb n (large ns) l))
    (rw (is_digit_lem d h, k, ← e, w))

-- below it a number has at most so many digits
unfoldable pub tens : ℕ → ℕ
tens zero = 1
tens (suc k) = 10 * tens k

decimal_by : (b : Bool) (k n : ℕ) (bs ns : List ℕ) → leb n 9 ≡ b → 0 < k → n ≤ large ns → n ≤ 65535
    → (10 ≤ n → Goes (part bs ns false 0) (decimal (k - 1) (n / 10)) (part bs ns true (n / 10)))
    → Goes (part bs ns false 0) (decimal k n) (part bs ns true n)
decimal_by true k n bs ns e z l m ih =
    let s : n ≤ 9 = leb-true n 9 e in
    rw (decimal_one k n z (omega arith)) (goes_digit bs ns false 0 n n s (omega arith) l m)
decimal_by false k n bs ns e z l m ih =
    let s : 9 < n = leb-false n 9 e in
    rw (decimal_more k n z (omega arith))
    (goes_both (decimal (k - 1) (n / 10)) (part bs ns false 0) ((digit0 + n % 10) ∷ []) (part bs ns true (n / 10)) (part bs ns true n)
    (ih (omega arith)) (goes_digit bs ns true (n / 10) (n % 10) n (omega arith) (omega arith) l m))

goes_decimal : (k n : ℕ) (bs ns : List ℕ) → 0 < k → n < tens k → n ≤ large ns → n ≤ 65535
    → Goes (part bs ns false 0) (decimal k n) (part bs ns true n)
unfolding tens
goes_decimal zero n bs ns z t l m = absurd (omega arith)
goes_decimal (suc zero) n bs ns z t l m = decimal_by _ (suc zero) n bs ns refl z l m (λ h. absurd (omega (arith, t)))
goes_decimal (suc (suc k)) n bs ns z t l m =
    let e : suc (suc k) - 1 ≡ suc k = omega arith in
    decimal_by _ (suc (suc k)) n bs ns refl z l m
    (λ h. rw e (goes_decimal (suc k) (n / 10) bs ns (omega arith) (omega (arith, t)) (omega arith) (omega arith)))

-- ---- a byte on its own

goes_byte : (b : ℕ) (bs : List ℕ) → b ≤ 255 → Goes (part bs [] false 0) (shown_byte b) (part (bs ++ b ∷ []) [] false 0)
unfolding shown_byte may_stand after is_digit is_space may_part dotted numbered tens
goes_byte b bs h =
    let w : b % 256 ≡ b = omega arith in
    goes_both (decimal 3 b) (part bs [] false 0) (dot ∷ []) (part bs [] true b) (part (bs ++ b ∷ []) [] false 0)
    (goes_decimal 3 b bs [] (omega arith) (omega arith) h (omega arith))
    (goes_one (part bs [] true b) dot (part (bs ++ b ∷ []) [] false 0) refl (rw w))

bytes_take : (n : ℕ) (bs : List ℕ) → Bytes bs → Bytes (take n bs)
bytes_take zero bs h i = omega arith
bytes_take (suc n) [] h i = omega arith
bytes_take (suc n) (b ∷ bs) h zero = h 0
bytes_take (suc n) (b ∷ bs) h (suc i) = bytes_take n bs (λ j. h (suc j)) i

bytes_drop : (n : ℕ) (bs : List ℕ) → Bytes bs → Bytes (drop n bs)
bytes_drop zero bs h = h
bytes_drop (suc n) [] h = h
bytes_drop (suc n) (b ∷ bs) h = bytes_drop n bs (λ j. h (suc j))

goes_bytes : (file bs : List ℕ) → Bytes file → Goes (part bs [] false 0) (shown_bytes file) (part (bs ++ file) [] false 0)
unfolding shown_bytes Goes
goes_bytes [] bs h = rw (append-nil bs)
goes_bytes (b ∷ file) bs h =
    goes_both (shown_byte b) (part bs [] false 0) (shown_bytes file) (part (bs ++ b ∷ []) [] false 0) (part (bs ++ b ∷ file) [] false 0)
    (goes_byte b bs (h 0)) (rw (← append_assoc bs (b ∷ []) file) (goes_bytes file (bs ++ b ∷ []) (λ i. h (suc i))))

-- ---- the numbers of a field

-- where reading stands behind numbers: the last is not ended yet
unfoldable pub ended : List ℕ → List ℕ → ℕ → List ℕ → Part
ended bs pre v [] = part bs pre true v
ended bs pre v (n ∷ ns) = ended bs (pre ++ v ∷ []) n ns

ended_stands : (ns bs pre : List ℕ) (v : ℕ) → may_stand space (ended bs pre v ns) ≡ true
unfolding ended may_stand is_digit is_space
ended_stands [] bs pre v = refl
ended_stands (n ∷ ns) bs pre v = ended_stands ns bs (pre ++ v ∷ []) n

ended_field : (ns bs pre : List ℕ) (v : ℕ) → after space (ended bs pre v ns) ≡ part (bs ++ field_from (pre ++ v ∷ ns)) [] false 0
unfolding ended after is_digit is_space fielded numbered
ended_field [] bs pre v = refl
ended_field (n ∷ ns) bs pre v = rw (← append_assoc pre (v ∷ []) (n ∷ ns)) (ended_field ns bs (pre ++ v ∷ []) n)

goes_number : (c n : ℕ) (bs pre : List ℕ) (v : ℕ) → may_stand c (part bs pre true v) ≡ true → after c (part bs pre true v) ≡ part bs (pre ++ v ∷ []) false 0
    → n ≤ 65535 → Goes (part bs pre true v) (c ∷ decimal 5 n) (part bs (pre ++ v ∷ []) true n)
unfolding tens
goes_number c n bs pre v s e h =
    let l : large (pre ++ v ∷ []) ≡ 65535 = rw (ne_eqb (length (pre ++ v ∷ [])) 0 (λ z. omega (arith, z, length-append pre (v ∷ [])))) in
    goes_both (c ∷ []) (part bs pre true v) (decimal 5 n) (part bs (pre ++ v ∷ []) false 0) (part bs (pre ++ v ∷ []) true n)
    (goes_one (part bs pre true v) c (part bs (pre ++ v ∷ []) false 0) s e)
    (goes_decimal 5 n bs (pre ++ v ∷ []) (omega arith) (omega arith) (rw l h) h)

goes_numbers : (ns bs pre : List ℕ) (v : ℕ) → 0 < length pre → length pre + length ns ≤ 32767 → ((i : ℕ) → get_or ns i 0 ≤ 65535)
    → Goes (part bs pre true v) (shown_numbers comma ns) (ended bs pre v ns)
unfolding shown_numbers Goes ended may_stand after is_digit is_space may_part numbered
goes_numbers [] bs pre v z l h = refl
goes_numbers (n ∷ ns) bs pre v z l h =
    let k : length (pre ++ v ∷ []) ≡ length pre + 1 = length-append pre (v ∷ []) in
    goes_both (comma ∷ decimal 5 n) (part bs pre true v) (shown_numbers comma ns) (part bs (pre ++ v ∷ []) true n) (ended bs (pre ++ v ∷ []) n ns)
    (goes_number comma n bs pre v (rw (ne_eqb (length pre) 0 (λ e. omega (arith, e)), le-leb (length pre) 32766 (omega arith))) refl (h 0))
    (goes_numbers ns bs (pre ++ v ∷ []) n (omega (arith, k)) (omega (arith, k)) (λ i. h (suc i)))

goes_first : (ns bs : List ℕ) (t : ℕ) → length ns ≤ 32767 → ((i : ℕ) → get_or ns i 0 ≤ 65535)
    → Goes (part bs [] true t) (shown_numbers colon ns) (ended bs [] t ns)
unfolding shown_numbers Goes ended may_stand after is_digit is_space may_part numbered
goes_first [] bs t l h = refl
goes_first (n ∷ ns) bs t l h =
    goes_both (colon ∷ decimal 5 n) (part bs [] true t) (shown_numbers comma ns) (part bs (t ∷ []) true n) (ended bs (t ∷ []) n ns)
    (goes_number colon n bs [] t refl refl (h 0))
    (goes_numbers ns bs (t ∷ []) n (omega arith) (omega arith) (λ i. h (suc i)))

-- ---- a field

numbers_small : (bs : List ℕ) → Bytes bs → (i : ℕ) → get_or (numbers_in bs) i 0 ≤ 65535
unfolding numbers_in
numbers_small [] h i = omega arith
numbers_small (b ∷ []) h i = omega arith
numbers_small (b ∷ c ∷ bs) h zero = omega (arith, h 0, h 1)
numbers_small (b ∷ c ∷ bs) h (suc i) = numbers_small bs (λ j. h (suc (suc j))) i

numbers_length : (bs : List ℕ) → length bs % 2 ≡ 0 → 2 * length (numbers_in bs) ≡ length bs
unfolding numbers_in
numbers_length [] e = refl
numbers_length (b ∷ []) e = absurd (omega arith)
numbers_length (b ∷ c ∷ bs) e = omega (arith, numbers_length bs (omega arith))

numbers_back : (bs : List ℕ) → Bytes bs → length bs % 2 ≡ 0 → two_bytes (numbers_in bs) ≡ bs
unfolding numbers_in two_bytes
numbers_back [] h e = refl
numbers_back (b ∷ []) h e = absurd (omega arith)
numbers_back (b ∷ c ∷ bs) h e =
    let high : (b * 256 + c) / 256 ≡ b = omega (arith, h 1) in
    let low : (b * 256 + c) % 256 ≡ c = omega (arith, h 1) in
    rw (high, low, numbers_back bs (λ j. h (suc (suc j))) (omega arith))

field_back : (bs : List ℕ) → Bytes bs → length bs ≡ 3 + two bs 1 → two bs 1 % 2 ≡ 0 → field_from (get_or bs 0 0 ∷ numbers_in (drop 3 bs)) ≡ bs
unfolding field_from two two_bytes
field_back [] h l e = absurd (omega arith)
field_back (t ∷ []) h l e = absurd (omega arith)
field_back (t ∷ b ∷ []) h l e = absurd (omega (arith, l))
field_back (t ∷ b ∷ c ∷ bs) h l e =
    let n : 2 * length (numbers_in bs) ≡ length bs = numbers_length bs (omega arith) in
    let tag : t % 256 ≡ t = omega (arith, h 0) in
    let bytes : 2 * length (numbers_in bs) % 65536 ≡ b * 256 + c = omega (arith, n, h 1, h 2) in
    let high : (b * 256 + c) / 256 ≡ b = omega (arith, h 2) in
    let low : (b * 256 + c) % 256 ≡ c = omega (arith, h 2) in
    rw (tag, bytes, high, low, numbers_back bs (λ i. h (suc (suc (suc i)))) (omega arith))

goes_field : (bs at : List ℕ) → Bytes bs → length bs ≡ 3 + two bs 1 → two bs 1 % 2 ≡ 0
    → Goes (part at [] false 0) (shown_field bs) (ended at [] (get_or bs 0 0) (numbers_in (drop 3 bs)))
unfolding shown_field two tens
goes_field bs at h l e =
    let t = get_or bs 0 0 in
    let ns = numbers_in (drop 3 bs) in
    let d : length (drop 3 bs) ≡ length bs - 3 = length-drop 3 bs in
    let n : 2 * length ns ≡ length (drop 3 bs) = numbers_length (drop 3 bs) (omega (arith, d, l, e)) in
    goes_both (decimal 3 t) (part at [] false 0) (shown_numbers colon ns) (part at [] true t) (ended at [] t ns)
    (goes_decimal 3 t at [] (omega arith) (omega (arith, h 0)) (h 0) (omega (arith, h 0)))
    (goes_first ns at t (omega (arith, n, d, l, h 1, h 2)) (numbers_small (drop 3 bs) (bytes_drop 3 bs h)))

-- ---- a file

-- a text that may end where reading stands behind it, and gives these bytes then
pub record Ends (p : Part) (text bytes : List ℕ) : Type 0 where
  pub place : Part
  pub goes : Goes p text place
  pub stands : may_stand space place ≡ true
  pub bytes_are : (after space place).bytes ≡ bytes

ends_same : (p : Part) (text xs ys : List ℕ) → xs ≡ ys → Ends p text xs → Ends p text ys
ends_same p text xs ys e v = record { place = v.place; goes = v.goes; stands = v.stands; bytes_are = v.bytes_are ∙ e }

ends_bytes : (file bs : List ℕ) → Bytes file → Ends (part bs [] false 0) (shown_bytes file) (bs ++ file)
unfolding may_stand after is_digit is_space fielded numbered field_from
ends_bytes file bs h =
    record { place = part (bs ++ file) [] false 0; goes = goes_bytes file bs h; stands = refl; bytes_are = append-nil (bs ++ file) }

-- a field, and a gap behind it if something follows
ends_field : (k : ℕ) (f rest bs : List ℕ) → Bytes f → length f ≡ 3 + two f 1 → two f 1 % 2 ≡ 0
    → ((at : List ℕ) → Ends (part at [] false 0) (shown_from k rest) (at ++ rest))
    → Ends (part bs [] false 0) (shown_field f ++ gap rest ++ shown_from k rest) (bs ++ (f ++ rest))
unfolding gap
ends_field k f [] bs h l e ih =
    let t = get_or f 0 0 in
    let ns = numbers_in (drop 3 f) in
    let none : shown_from k [] ≡ [] = shown_bytes_lem k [] (no_field [] refl) ∙ no_bytes [] refl in
    rw (none, append-nil (shown_field f), append-nil (shown_field f), append-nil f)
    record {
      place = ended bs [] t ns;
      goes = goes_field f bs h l e;
      stands = ended_stands ns bs [] t;
      bytes_are = ap (λ p. p.bytes) (ended_field ns bs [] t) ∙ ap (λ x. bs ++ x) (field_back f h l e);
    }
ends_field k f (b ∷ rest) bs h l e ih =
    let t = get_or f 0 0 in
    let ns = numbers_in (drop 3 f) in
    let q = ended bs [] t ns in
    let v : Ends (part (bs ++ f) [] false 0) (shown_from k (b ∷ rest)) (bs ++ f ++ (b ∷ rest)) = ih (bs ++ f) in
    let s : after space q ≡ part (bs ++ f) [] false 0 = ended_field ns bs [] t ∙ ap (λ x. part (bs ++ x) [] false 0) (field_back f h l e) in
    let w : Goes (part bs [] false 0) (shown_field f ++ space ∷ []) (part (bs ++ f) [] false 0) =
    goes_both (shown_field f) (part bs [] false 0) (space ∷ []) q (part (bs ++ f) [] false 0)
    (goes_field f bs h l e) (goes_one q space (part (bs ++ f) [] false 0) (ended_stands ns bs [] t) s) in
    record {
      place = v.place;
      goes = goes_both (shown_field f ++ space ∷ []) (part bs [] false 0) (shown_from k (b ∷ rest)) (part (bs ++ f) [] false 0) v.place w v.goes;
      stands = v.stands;
      bytes_are = v.bytes_are ∙ append_assoc bs f (b ∷ rest);
    }

-- a whole field is as long as it says
whole_length : (b : Bool) (n l m : ℕ) → leb (3 + n) l && eqb (n % 2) 0 ≡ b → m ≡ (if b then 3 + n else 0) → (m ≡ 0 → ⊥)
    → (m ≡ 3 + n) × (n % 2 ≡ 0)
whole_length true n l m t e h = (e, eqb-true (n % 2) 0 (and_right (leb (3 + n) l) (eqb (n % 2) 0) t))
whole_length false n l m t e h = absurd (h e)

ends_by : (b : Bool) (k : ℕ) (file bs : List ℕ) → eqb (whole_field file) 0 ≡ b → Bytes file
    → ((at rest : List ℕ) → Bytes rest → Ends (part at [] false 0) (shown_from k rest) (at ++ rest))
    → Ends (part bs [] false 0) (shown_from (suc k) file) (bs ++ file)
unfolding whole_field two
ends_by true k file bs e h ih = rw (shown_bytes_lem (suc k) file (eqb-true (whole_field file) 0 e)) (ends_bytes file bs h)
ends_by false k file bs e h ih =
    let n = whole_field file in
    let some : n ≡ 0 → ⊥ = eqb-false n 0 e in
    let fits : (3 ≤ n) × (n ≤ length file) = whole_fits file n refl some in
    let w : (n ≡ 3 + two file 1) × (two file 1 % 2 ≡ 0) = whole_length _ (two file 1) (length file) n refl refl some in
    let f = take n file in
    let high : get_or f 1 0 ≡ get_or file 1 0 = get_or-take n file 1 0 (omega (arith, fits.0)) in
    let low : get_or f 2 0 ≡ get_or file 2 0 = get_or-take n file 2 0 (omega (arith, fits.0)) in
    let same : two f 1 ≡ two file 1 = rw (high, low) in
    let long : length f ≡ 3 + two f 1 = length-take-le n file fits.1 ∙ w.0 ∙ ap (λ x. 3 + x) (sym same) in
    let whole : Ends (part bs [] false 0) (shown_field f ++ gap (drop n file) ++ shown_from k (drop n file)) (bs ++ (f ++ drop n file)) =
    ends_field k f (drop n file) bs (bytes_take n file h) long (ap (λ x. x % 2) same ∙ w.1) (λ at. ih at (drop n file) (bytes_drop n file h)) in
    rw (shown_field_lem k file n refl some)
    (ends_same (part bs [] false 0) (shown_field f ++ gap (drop n file) ++ shown_from k (drop n file)) (bs ++ (f ++ drop n file)) (bs ++ file)
    (ap (λ x. bs ++ x) (take-append-drop n file)) whole)

pub shown_ends : (k : ℕ) (file bs : List ℕ) → Bytes file → Ends (part bs [] false 0) (shown_from k file) (bs ++ file)
unfolding shown_from
shown_ends zero file bs h = ends_bytes file bs h
shown_ends (suc k) file bs h = ends_by _ k file bs refl h (λ at rest r. shown_ends k rest at r)

-- ---- at most 4 characters for each byte

bytes_length : (bs : List ℕ) → length (shown_bytes bs) ≤ 4 * length bs
unfolding shown_bytes shown_byte
bytes_length [] = omega arith
bytes_length (b ∷ bs) =
    omega (arith, length-append (decimal 3 b ++ dot ∷ []) (shown_bytes bs), length-append (decimal 3 b) (dot ∷ []), decimal_length 3 b, bytes_length bs)

numbers_text : (c : ℕ) (ns : List ℕ) → length (shown_numbers c ns) ≤ 6 * length ns
unfolding shown_numbers
numbers_text c [] = omega arith
numbers_text c (n ∷ ns) =
    omega (arith, length-append (c ∷ decimal 5 n) (shown_numbers comma ns), decimal_length 5 n, numbers_text comma ns)

numbers_few : (bs : List ℕ) → 2 * length (numbers_in bs) ≤ length bs
unfolding numbers_in
numbers_few [] = omega arith
numbers_few (b ∷ []) = omega arith
numbers_few (b ∷ c ∷ bs) = omega (arith, numbers_few bs)

field_text : (bs : List ℕ) → 3 ≤ length bs → length (shown_field bs) + 1 ≤ 4 * length bs
unfolding shown_field
field_text bs h =
    let ns = numbers_in (drop 3 bs) in
    omega (arith, length-append (decimal 3 (get_or bs 0 0)) (shown_numbers colon ns), decimal_length 3 (get_or bs 0 0), numbers_text colon ns, numbers_few (drop 3 bs), length-drop 3 bs)

gap_length : (bs : List ℕ) → length (gap bs) ≤ 1
unfolding gap
gap_length [] = omega arith
gap_length (b ∷ bs) = omega arith

length_by : (b : Bool) (k : ℕ) (bs : List ℕ) → eqb (whole_field bs) 0 ≡ b → ((rest : List ℕ) → length (shown_from k rest) ≤ 4 * length rest)
    → length (shown_from (suc k) bs) ≤ 4 * length bs
length_by true k bs e ih = rw (shown_bytes_lem (suc k) bs (eqb-true (whole_field bs) 0 e)) (bytes_length bs)
length_by false k bs e ih =
    let n = whole_field bs in
    let some : n ≡ 0 → ⊥ = eqb-false n 0 e in
    let fits : (3 ≤ n) × (n ≤ length bs) = whole_fits bs n refl some in
    let f = take n bs in
    let rest = drop n bs in
    let l : length f ≡ n = length-take-le n bs fits.1 in
    let d : length rest ≡ length bs - n = length-drop n bs in
    let first : length (shown_field f) + 1 ≤ 4 * length f = field_text f (omega (arith, l, fits.0)) in
    rw (shown_field_lem k bs n refl some)
    (omega (arith, length-append (shown_field f ++ gap rest) (shown_from k rest), length-append (shown_field f) (gap rest), first, gap_length rest, l, d, fits.1, ih rest))

from_length : (k : ℕ) (bs : List ℕ) → length (shown_from k bs) ≤ 4 * length bs
unfolding shown_from
from_length zero bs = bytes_length bs
from_length (suc k) bs = length_by _ k bs refl (from_length k)

shown_by : (b : Bool) (file : List ℕ) → length (if b then shown_from (length file) file else []) ≤ 4 * length file
shown_by true file = from_length (length file) file
shown_by false file = omega arith

pub shown_length : (file : List ℕ) → length (shown file) ≤ 4 * length file
unfolding shown
shown_length file = shown_by (leb (length file) most_shown) file

-- ---- THE TEXT READ BACK, for every file that has one

module _ (file : List ℕ) (h : Bytes file) (l : length file ≤ most_shown) where
  whole_text : Ends nothing (shown file) file
  unfolding shown
  whole_text = rw (le-leb (length file) most_shown l) (shown_ends (length file) file [] h)

  short : length (shown file) ≤ most
  short = omega (arith, shown_length file, l)

  pub shown_back : encoded (shown file) ≡ file
  unfolding encoded
  shown_back =
      rw (le-leb (length (shown file)) most short, goes_read (shown file) nothing whole_text.place whole_text.goes) whole_text.bytes_are

  pub shown_right : spelled (shown file) ≡ Ok tt
  unfolding spelled
  shown_right =
      rw (le-leb (length (shown file)) most short) (goes_right (shown file) nothing whole_text.place 0 whole_text.goes whole_text.stands)

  -- from the text that `show` has filled, if it has room
  pub filled_back : (text : List ℕ) → length (shown file) ≤ length text
      → encoded (take (length (shown file)) (sets text 0 (shown file))) ≡ file
  filled_back text room =
      let z : 0 + length (shown file) ≡ length (shown file) = omega arith in
      let filled : sets text 0 (shown file) ≡ shown file ++ drop (0 + length (shown file)) text = sets-eq (shown file) text 0 (rw z room) in
      ap encoded (ap (λ x. take (length (shown file)) x) filled ∙ take-append_seam (shown file) (drop (0 + length (shown file)) text)) ∙ shown_back
