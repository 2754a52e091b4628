-- Bytes sets one after another, and how many bytes fields and rows take.
-- Assumes nothing.
use Rattle.std.specs.Prelude.{if◌then◌else◌, ◌≡◌, refl, List, [], ◌∷◌, ◌++◌, ℕ, zero, suc, ◌+◌, ◌*◌, ◌-◌, ◌/◌, ◌%◌, ◌≤◌, ◌<◌, length, set, take, drop, ltb}
use Rattle.std.proofs.Common.{sym, ap, ◌∙◌, append_assoc, add-one, arith, length-append, ne_eqb}
use Rattle.std.proofs.lemmas.List.Edits.{sets, sets-eq}
use Rattle.meaning.specs.Numbers.Tag
use Rattle.meaning.specs.File.{settings_bytes, scope_bytes, symbol_bytes, numbers_of, two_bytes}
use Rattle.spec_laws.specs.Trees.{numbers_most, numbers_few, two_length, sets_++}
use Rattle.writing.specs.Writing.{most_bytes, field_with, scope_field, symbol_field, record_field, rows_bytes, list_bytes}
use Rattle.tables.specs.declared.Row.{Row}

-- ---- one after another

-- over the front of a list that is long enough
pub sets_front : (bs out : List ℕ) → length bs ≤ length out → sets out 0 bs ≡ bs ++ drop (length bs) out
sets_front bs out h =
    let e : 0 + length bs ≡ length bs = omega arith in
    rw e at (sets-eq bs out 0 (omega arith))

-- ---- a field

take-length : (n a b c d : ℕ) → n ≤ 4 → length (take n (a ∷ b ∷ c ∷ d ∷ [])) ≡ n
take-length zero a b c d h = refl
take-length (suc zero) a b c d h = refl
take-length (suc (suc zero)) a b c d h = refl
take-length (suc (suc (suc zero))) a b c d h = refl
take-length (suc (suc (suc (suc zero)))) a b c d h = refl
take-length (suc (suc (suc (suc (suc n))))) a b c d h = absurd (omega arith)

pub field_long : (t a b c d : ℕ) → numbers_of t ≤ 4 → length (field_with t a b c d) ≡ 3 + 2 * numbers_of t
unfolding field_with two_bytes
field_long t a b c d h =
    let ns = take (numbers_of t) (a ∷ b ∷ c ∷ d ∷ []) in
    omega (arith, two_length ns, take-length (numbers_of t) a b c d h)

-- a number before others
two_more : (v : ℕ) (ns out : List ℕ) (at : ℕ)
    → sets out at (two_bytes (v ∷ ns)) ≡ sets (sets out at (two_bytes (v ∷ []))) (at + 2) (two_bytes ns)
unfolding two_bytes
two_more v ns out at =
    let e : suc (suc at) ≡ at + 2 = omega arith in
    ap (λ (m : ℕ). sets (set (set out at (v / 256)) (suc at) (v % 256)) m (two_bytes ns)) e

-- number i of a field with n numbers
abbrev pub put_number : ℕ → ℕ → List ℕ → ℕ → ℕ → List ℕ
put_number at n out i v = if ltb i n then sets out (at + 3 + 2 * i) (two_bytes (v ∷ [])) else out

unfoldable put_numbers : ℕ → List ℕ → ℕ → List ℕ → List ℕ
put_numbers at out i [] = out
put_numbers at out i (v ∷ ns) = put_numbers at (sets out (at + 3 + 2 * i) (two_bytes (v ∷ []))) (i + 1) ns

numbers_put : (ns out : List ℕ) (at i : ℕ) → sets out (at + 3 + 2 * i) (two_bytes ns) ≡ put_numbers at out i ns
unfolding two_bytes put_numbers
numbers_put [] out at i = refl
numbers_put (v ∷ ns) out at i =
    let e : at + 3 + 2 * i + 2 ≡ at + 3 + 2 * (i + 1) = omega arith in
    two_more v ns out (at + 3 + 2 * i) ∙ rw e (numbers_put ns (sets out (at + 3 + 2 * i) (two_bytes (v ∷ []))) at (i + 1))

-- the tag, the length, and each number in its place
head_put : (t n : ℕ) (ns out : List ℕ) (at : ℕ)
    → sets out at (t ∷ two_bytes (2 * n ∷ ns)) ≡ put_numbers at (sets (set out at t) (at + 1) (two_bytes (2 * n ∷ []))) 0 ns
head_put t n ns out at =
    let o = set out at t in
    let d : suc at + 2 ≡ at + 3 + 2 * 0 = omega arith in
    rw (add-one at) (two_more (2 * n) ns o (suc at) ∙ rw d (numbers_put ns (sets o (suc at) (two_bytes (2 * n ∷ []))) at 0))

each_put : (n a b c d at : ℕ) (out : List ℕ) → n ≤ 5
    → put_number at n (put_number at n (put_number at n (put_number at n out 0 a) 1 b) 2 c) 3 d ≡ put_numbers at out 0 (take n (a ∷ b ∷ c ∷ d ∷ []))
unfolding put_numbers
each_put zero a b c d at out h = refl
each_put (suc zero) a b c d at out h = refl
each_put (suc (suc zero)) a b c d at out h = refl
each_put (suc (suc (suc zero))) a b c d at out h = refl
each_put (suc (suc (suc (suc zero)))) a b c d at out h = refl
each_put (suc (suc (suc (suc (suc zero))))) a b c d at out h = refl
each_put (suc (suc (suc (suc (suc (suc n)))))) a b c d at out h = absurd (omega arith)

-- A FIELD, byte by byte.
pub field_put : (t a b c d at : ℕ) (out : List ℕ)
    → let n = numbers_of t in
    let o = sets (set out at t) (at + 1) (two_bytes (2 * n ∷ [])) in
    put_number at n (put_number at n (put_number at n (put_number at n o 0 a) 1 b) 2 c) 3 d ≡ sets out at (field_with t a b c d)
unfolding field_with
field_put t a b c d at out =
    let n = numbers_of t in
    let o = sets (set out at t) (at + 1) (two_bytes (2 * n ∷ [])) in
    each_put n a b c d at o (numbers_most t) ∙ sym (head_put t n (take n (a ∷ b ∷ c ∷ d ∷ [])) out at)

-- ---- rows

-- a record has at most four numbers
pub record_few : (t : ℕ) → numbers_of (t % 32) ≤ 4
record_few t = numbers_few (t % 32) (ne_eqb (t % 32) Tag.Symbol (λ e. omega arith))

pub record_length : (r : Row) → length (record_field r) ≡ 3 + 2 * numbers_of (r.tag % 32)
unfolding record_field
record_length r = field_long (r.tag % 32) _ _ _ r.n (record_few r.tag)

pub record_long : (r : Row) → length (record_field r) ≤ most_bytes
record_long r = omega (arith, record_few r.tag, record_length r)

rows_long : (f : ℕ → List ℕ) (w : ℕ) → ((k : ℕ) → length (f k) ≡ w) → (k n : ℕ) → length (rows_bytes f k n) ≡ w * n
unfolding rows_bytes
rows_long f w e k zero = omega arith
rows_long f w e k (suc n) = omega (arith, length-append (f k) (rows_bytes f (k + 1) n), e k, rows_long f w e (k + 1) n)

pub scope_long : (t : List ℕ) (new : ℕ → ℕ) (s : ℕ) → length (scope_field t new s) ≡ scope_bytes
unfolding scope_field numbers_of
scope_long t new s = field_long Tag.Scope _ _ 0 0 (omega arith)

pub symbol_long : (t : List ℕ) (new : ℕ → ℕ) (k : ℕ) → length (symbol_field t new k) ≡ symbol_bytes
unfolding symbol_field field_with numbers_of two_bytes
symbol_long t new k = refl

-- rows of a list, one part behind another
pub list_++ : (f : ℕ → List ℕ) (xs ys : List ℕ) → list_bytes f (xs ++ ys) ≡ list_bytes f xs ++ list_bytes f ys
unfolding list_bytes
list_++ f [] ys = refl
list_++ f (x ∷ xs) ys = rw (list_++ f xs ys, append_assoc)

pub list_long : (f : ℕ → List ℕ) (w : ℕ) → ((s : ℕ) → length (f s) ≡ w) → (ss : List ℕ) → length (list_bytes f ss) ≡ w * length ss
unfolding list_bytes
list_long f w e [] = omega arith
list_long f w e (s ∷ ss) = omega (arith, length-append (f s) (list_bytes f ss), e s, list_long f w e ss)

pub rows_turn : (f : ℕ → List ℕ) (r out out' : List ℕ) (at at' k n : ℕ) → r ≡ sets out at (rows_bytes f k (n - k)) → k < n
    → out' ≡ sets out at (f k) → at' ≡ at + length (f k) → r ≡ sets out' at' (rows_bytes f (k + 1) (n - (k + 1)))
unfolding rows_bytes
rows_turn f r out out' at at' k n e h o a =
    let d : n - k ≡ suc (n - (k + 1)) = omega arith in
    (rw d at e) ∙ (sets_++ (f k) (rows_bytes f (k + 1) (n - (k + 1))) out at ∙ rw (o, a))

pub rows_last : (f : ℕ → List ℕ) (r out : List ℕ) (at k n : ℕ) → r ≡ sets out at (rows_bytes f k (n - k)) → n ≤ k → out ≡ r
unfolding rows_bytes
rows_last f r out at k n e h = let d : n - k ≡ 0 = omega arith in rw d at (sym e)

-- ---- the file

pub file_put : (ss : List ℕ) (y m : ℕ) (f g h : ℕ → List ℕ) (a b : ℕ) (out : List ℕ) → ((k : ℕ) → length (f k) ≡ scope_bytes)
    → ((k : ℕ) → length (g k) ≡ symbol_bytes)
    → let x = field_with Tag.Settings a b 0 0 in
    let first = settings_bytes + scope_bytes * length ss in
    sets (sets (sets (sets out 0 x) settings_bytes (list_bytes f ss)) first (rows_bytes g 0 y)) (first + symbol_bytes * y) (rows_bytes h 0 m)
    ≡ sets out 0 (x ++ (list_bytes f ss ++ (rows_bytes g 0 y ++ rows_bytes h 0 m)))
unfolding numbers_of
file_put ss y m f g h a b out ef eg =
    let x = field_with Tag.Settings a b 0 0 in
    let rows = list_bytes f ss in
    let ys = rows_bytes g 0 y in
    let rs = rows_bytes h 0 m in
    let first = settings_bytes + scope_bytes * length ss in
    let l₁ : 0 + length x ≡ 7 = omega (arith, field_long 40 a b 0 0 (omega arith)) in
    let l₂ : settings_bytes + length rows ≡ first = omega (arith, list_long f scope_bytes ef ss) in
    let l₃ : first + length ys ≡ first + symbol_bytes * y = omega (arith, rows_long g symbol_bytes eg 0 y) in
    sym
    (sets_++ x (rows ++ (ys ++ rs)) out 0
    ∙ rw l₁ (sets_++ rows (ys ++ rs) (sets out 0 x) 7
    ∙ rw l₂ (sets_++ ys rs (sets (sets out 0 x) settings_bytes rows) first ∙ rw l₃)))
