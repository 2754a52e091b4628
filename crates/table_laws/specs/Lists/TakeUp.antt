-- Usings taken up by a context: the rows of a list become those of the list taken up.
-- Assumes nothing.
use Rattle.std.specs.Prelude.{if◌then◌else◌, ◌≡◌, Bool, ◌&&◌, eqb, ltb}
use Rattle.std.proofs.Math.Path.{refl, ap}
use Rattle.std.proofs.Common.{◌∙◌, zero-add, add_assoc, one-add, arith, ltb-true, ltb-false}
use mathlib.Core.List.{List, [], ◌∷◌, ◌++◌, append_assoc, append-nil}
use Rattle.std.proofs.Math.Bool.{true, false}
use Prim.Native.Nat.{ℕ, zero, suc, ◌+◌, ◌-◌, ◌≤◌, ◌<◌}
use Rattle.std.proofs.Math.Nat.{sub-zero, suc-sub-suc}
use Rattle.std.proofs.Math.Dec.{leb-zero, leb-suc-zero, leb-suc-suc}
use Rattle.std.proofs.Math.ListN.{length, length-append}
use Rattle.meaning.specs.Numbers.Tag
use Rattle.meaning.specs.Tree.{Head, Forest, none, more, one, count, size, ◌&◌}
use Rattle.meaning.specs.Statements.{is_using, is_await_using, letter_if, wrap_initializer, wrap_initializers, as_taken_up, take_up}
use Rattle.meaning.specs.Charges.{initializers, wraps}
use Rattle.tables.specs.Loops.{turns}
use Rattle.tables.specs.Table.{closed_row_f}
use Rattle.tables.specs.Stream.{emit_f, replace_row_f, copy_f}
use Rattle.tables.specs.declared.Row.{Row}
use Rattle.representation.specs.Gap.Cells.{line, rows_of, gapped, length_rows, rows_&}
use Rattle.representation.proofs.Gap.Rows.{length_snoc, next_gapped, pass_gapped, pass_as_gapped, emit_gapped}
use Rattle.representation.proofs.Gap.Streams.{copy_none, copy_all, copy_one_lem}
use Rattle.statements.specs.TakeUp.{
  has_initializer_f,
  take_up_declarator_f,
  take_up_declarators_f,
  as_const_f,
  take_up_item_f,
  take_up_f,
}
use Rattle.charge_laws.proofs.Growth.Trees.{list_taken}

-- what `initializers` and `wraps` add for one record
abbrev pub initializer : Head → Forest → ℕ
initializer h k = if eqb h.tag Tag.Declarator && ltb h.b (count k) then 1 else 0

abbrev pub item_wraps : Head → Forest → ℕ
item_wraps h k = if is_using h then initializers k else 0

-- what becomes of a Declarator's children, and of an item before others, by whether it is a using
abbrev wrapped : ℕ → ℕ → Head → Forest → Forest
wrapped letter ctx h k = if eqb h.tag Tag.Declarator then wrap_initializer letter ctx h.b k else k

abbrev item : Bool → ℕ → ℕ → Head → Forest → Forest → Forest
item b letter ctx h k r = if b then more (as_taken_up h) (wrap_initializers letter ctx k) r else more h k r

-- ---- how many records there are

count_wrapped : (letter ctx m : ℕ) (f : Forest) → count (wrap_initializer letter ctx m f) ≡ count f
unfolding wrap_initializer count ◌&◌
count_wrapped letter ctx m none = refl
count_wrapped letter ctx zero (more h k r) = refl
count_wrapped letter ctx (suc m) (more h k r) = ap suc (count_wrapped letter ctx m r)

size_wrapped : (letter ctx m : ℕ) (f : Forest) → size (wrap_initializer letter ctx m f) ≡ size f + (if ltb m (count f) then 1 else 0)
unfolding wrap_initializer count size ◌&◌
size_wrapped letter ctx m none = rw (leb-suc-zero m) (omega arith)
size_wrapped letter ctx zero (more h k r) = rw (leb-suc-suc 0 (count r), leb-zero (count r)) (omega arith)
size_wrapped letter ctx (suc m) (more h k r) = rw (leb-suc-suc (suc m) (count r)) (omega (arith, size_wrapped letter ctx m r))

size_declarator : (letter ctx : ℕ) (h : Head) (k : Forest) → size (wrapped letter ctx h k) ≡ size k + initializer h k
size_declarator letter ctx h k = by (eqb h.tag Tag.Declarator)
  where
    by : (b : Bool)
        → size (if b then wrap_initializer letter ctx h.b k else k) ≡ size k + (if b && ltb h.b (count k) then 1 else 0)
    by true = size_wrapped letter ctx h.b k
    by false = omega arith

count_declarator : (letter ctx : ℕ) (h : Head) (k : Forest) → count (wrapped letter ctx h k) ≡ count k
count_declarator letter ctx h k = by (eqb h.tag Tag.Declarator)
  where
    by : (b : Bool) → count (if b then wrap_initializer letter ctx h.b k else k) ≡ count k
    by true = count_wrapped letter ctx h.b k
    by false = refl

count_declarators : (letter ctx : ℕ) (f : Forest) → count (wrap_initializers letter ctx f) ≡ count f
unfolding wrap_initializers count
count_declarators letter ctx none = refl
count_declarators letter ctx (more h k r) = ap suc (count_declarators letter ctx r)

count_item : (b : Bool) (letter ctx : ℕ) (h : Head) (k r : Forest) → count (item b letter ctx h k r) ≡ suc (count r)
unfolding count
count_item true letter ctx h k r = refl
count_item false letter ctx h k r = refl

-- as many items
pub count_taken : (f : Forest) (ctx : ℕ) → count (take_up ctx f) ≡ count f
unfolding take_up count
count_taken none ctx = refl
count_taken (more h k r) ctx =
    count_item (is_using h) (letter_if (is_await_using h)) ctx h k (take_up ctx r)
    ∙ ap suc (count_taken r ctx)

-- ---- a using

-- there is nothing after the Names
unwrapped : (letter ctx m : ℕ) (f : Forest) → count f ≤ m → wrap_initializer letter ctx m f ≡ f
unfolding wrap_initializer count
unwrapped letter ctx m none i = refl
unwrapped letter ctx zero (more h k r) i = absurd (omega arith)
unwrapped letter ctx (suc m) (more h k r) i = ap (more h k) (unwrapped letter ctx m r (omega arith))

-- a row more, and those below it
pub length_line : (a : List Row) (x : Row) (k : Forest) → length (a ++ x ∷ rows_of k) ≡ length a + suc (size k)
length_line a x k = omega (arith, length-append a (x ∷ rows_of k), length_rows k)

-- the first row of some, and the free rows cut in two
pub first_row : (z : List ℕ) (h : Head) (k r : Forest) (a : List Row) (x y g : ℕ) (v : List Row)
    → gapped z a (x + y + g) (rows_of (more h k r) ++ v) ≡ gapped z a (x + (y + g)) (line h (count k) ∷ (rows_of k ++ (rows_of r ++ v)))
unfolding rows_of
first_row z h k r a x y g v = rw (add_assoc x y g, append_assoc (rows_of k) (rows_of r) v)

module _ (z : List ℕ) (letter ctx : ℕ) where
  -- the Names, the Call, and the initializer
  wrap_law : (m : ℕ) (f : Forest) (a : List Row) (g : ℕ) (v : List Row) → m < count f → length a + suc g + size f ≤ 65535
      → copy_f (emit_f (copy_f (gapped z a (suc g) (rows_of f ++ v)) m) (closed_row_f 27 letter ctx 0 1)) (count f - m)
      ≡ gapped z (a ++ rows_of (wrap_initializer letter ctx m f)) g v
  unfolding wrap_initializer count size rows_of ◌&◌
  wrap_law m none a g v i q = absurd (omega arith)
  wrap_law zero (more h k r) a g v i q =
      let y = closed_row_f 27 letter ctx 0 1 in
      let u = rows_of (more h k r) ++ v in
      rw (copy_none (gapped z a (suc g) u), emit_gapped z a g u y (omega arith), sub-zero)
      (copy_all z (more h k r) (a ++ y ∷ []) g v (omega (arith, length_snoc a y)) ∙ simp (append_assoc, append-nil))
  wrap_law (suc m) (more h k r) a g v i q =
      let x = line h (count k) in
      rw (copy_one_lem z h k r a (suc g) v m (omega arith), suc-sub-suc)
      (wrap_law m r (a ++ x ∷ rows_of k) g v (omega arith) (omega (arith, length_line a x k)) ∙ simp append_assoc)

  -- a Declarator's children, by the two tests, and a Declarator
  children_law : (b l : Bool) (m : ℕ) (k : Forest) (a : List Row) (g : ℕ) (v : List Row) → ltb m (count k) ≡ l
      → length a + ((if b && l then 1 else 0) + g) + size k ≤ 65535
      → (let b₁ = gapped z a ((if b && l then 1 else 0) + g) (rows_of k ++ v) in
      if b && l then copy_f (emit_f (copy_f b₁ m) (closed_row_f 27 letter ctx 0 1)) (count k - m) else copy_f b₁ (count k))
      ≡ gapped z (a ++ rows_of (if b then wrap_initializer letter ctx m k else k)) g v
  children_law true true m k a g v e q = rw one-add (wrap_law m k a g v (ltb-true m (count k) e) (omega arith))
  children_law true false m k a g v e q =
      rw (zero-add, unwrapped letter ctx m k (ltb-false m (count k) e)) (copy_all z k a g v (omega arith))
  children_law false l m k a g v e q = rw zero-add (copy_all z k a g v (omega arith))

  declarator_law : (h : Head) (k : Forest) (a : List Row) (g : ℕ) (v : List Row) → length a + (initializer h k + g) + size k < 65535
      → take_up_declarator_f letter ctx (gapped z a (initializer h k + g) (line h (count k) ∷ (rows_of k ++ v)))
      ≡ gapped z (a ++ line h (count k) ∷ rows_of (wrapped letter ctx h k)) g v
  unfolding take_up_declarator_f has_initializer_f
  declarator_law h k a g v q =
      let x = line h (count k) in
      let n = initializer h k + g in
      rw (next_gapped z a n x (rows_of k ++ v), pass_gapped z a n x (rows_of k ++ v) (omega arith))
      (children_law (eqb h.tag Tag.Declarator) (ltb h.b (count k)) h.b k (a ++ x ∷ []) g v refl (omega (arith, length_snoc a x))
      ∙ simp append_assoc)

  -- Declarators
  declarators_law : (f : Forest) (a : List Row) (g : ℕ) (v : List Row) → length a + (initializers f + g) + size f ≤ 65535
      → take_up_declarators_f (count f) letter ctx (gapped z a (initializers f + g) (rows_of f ++ v))
      ≡ gapped z (a ++ rows_of (wrap_initializers letter ctx f)) g v
  unfolding take_up_declarators_f turns wrap_initializers initializers count size rows_of
  declarators_law none a g v q = rw (zero-add, append-nil)
  declarators_law (more h k r) a g v q =
      let x = line h (count k) in
      let k' = wrapped letter ctx h k in
      ap (take_up_declarators_f (count r) letter ctx)
      (ap (take_up_declarator_f letter ctx) (first_row z h k r a (initializer h k) (initializers r) g v)
      ∙ declarator_law h k a (initializers r + g) (rows_of r ++ v) (omega arith))
      ∙ declarators_law r (a ++ x ∷ rows_of k') g v (omega (arith, length_line a x k', size_declarator letter ctx h k))
      ∙ rw (count_declarator letter ctx h k) (simp append_assoc)

-- ---- a list

as_const : (h : Head) (n : ℕ) → as_const_f (line h n) ≡ line (as_taken_up h) n
unfolding as_const_f as_taken_up
as_const h n = by (eqb h.b 0)
  where
    by : (b : Bool) → (if b then closed_row_f 5 2 0 0 n else closed_row_f 5 0 0 0 n) ≡ closed_row_f 5 (if b then 2 else 0) 0 0 n
    by true = refl
    by false = refl

item_& : (b : Bool) (letter ctx : ℕ) (h : Head) (k r : Forest) → item b letter ctx h k r ≡ item b letter ctx h k none & r
unfolding ◌&◌
item_& true letter ctx h k r = refl
item_& false letter ctx h k r = refl

module _ (z : List ℕ) where
  -- an item, first by whether it is a using
  one_law : (b : Bool) (letter ctx : ℕ) (h : Head) (k : Forest) (a : List Row) (g : ℕ) (v : List Row)
      → length a + ((if b then initializers k else 0) + g) + size k < 65535
      → (let x = line h (count k) in
      let b₁ = gapped z a ((if b then initializers k else 0) + g) (x ∷ (rows_of k ++ v)) in
      if b then take_up_declarators_f (count k) letter ctx (replace_row_f b₁ (as_const_f x)) else copy_f b₁ 1)
      ≡ gapped z (a ++ rows_of (item b letter ctx h k none)) g v
  unfolding rows_of count size
  one_law true letter ctx h k a g v q =
      let x = line h (count k) in
      let y = line (as_taken_up h) (count k) in
      let u = rows_of k ++ v in
      rw (as_const h (count k), pass_as_gapped z a (initializers k + g) x u y (omega arith))
      (declarators_law z letter ctx k (a ++ y ∷ []) g v (omega (arith, length_snoc a y))
      ∙ rw (count_declarators letter ctx k) (simp (append_assoc, append-nil)))
  one_law false letter ctx h k a g v q =
      rw (zero-add, append-nil) (rw append-nil at (copy_all z (more h k none) a g v (omega arith)))

  item_law : (ctx : ℕ) (h : Head) (k : Forest) (a : List Row) (g : ℕ) (v : List Row) → length a + (item_wraps h k + g) + size k < 65535
      → take_up_item_f ctx (gapped z a (item_wraps h k + g) (line h (count k) ∷ (rows_of k ++ v)))
      ≡ gapped z (a ++ rows_of (item (is_using h) (letter_if (is_await_using h)) ctx h k none)) g v
  unfolding take_up_item_f
  item_law ctx h k a g v q =
      rw (next_gapped z a (item_wraps h k + g) (line h (count k)) (rows_of k ++ v)) (one_law (is_using h) (letter_if (is_await_using h)) ctx h k a g v q)

  -- A LIST TAKEN UP, through a gap that is left with g rows
  pub take_up_law : (f : Forest) (ctx : ℕ) (a : List Row) (g : ℕ) (v : List Row)
      → length a + (wraps f + g) + size f ≤ 65535
      → take_up_f (count f) ctx (gapped z a (wraps f + g) (rows_of f ++ v))
      ≡ gapped z (a ++ rows_of (take_up ctx f)) g v
  unfolding take_up_f turns take_up wraps count size rows_of
  take_up_law none ctx a g v q = rw (zero-add, append-nil)
  take_up_law (more h k r) ctx a g v q =
      let rest = take_up ctx r in
      let w = item_wraps h k in
      let letter = letter_if (is_await_using h) in
      let first = item (is_using h) letter ctx h k none in
      let l : length (a ++ rows_of first) ≡ length a + suc (size k + w) =
      omega (arith, length-append a (rows_of first), length_rows first, list_taken (one h k) ctx) in
      ap (take_up_f (suc (count r)) ctx) (first_row z h k r a w (wraps r) g v)
      ∙ ap (take_up_f (count r) ctx) (item_law ctx h k a (wraps r + g) (rows_of r ++ v) (omega arith))
      ∙ take_up_law r ctx (a ++ rows_of first) g v (omega arith)
      ∙ rw (item_& (is_using h) letter ctx h k rest, rows_& first rest) (simp append_assoc)
