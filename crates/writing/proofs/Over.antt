-- A record whose numbers are stored over one another: the bytes are those of the record.
-- Assumes nothing.
use Rattle.std.specs.Prelude.{if◌then◌else◌}
use mathlib.Core.Path.{◌≡◌, refl, ◌∙◌}
use mathlib.Core.List.{List, [], ◌∷◌}
use mathlib.Core.Bool.{Bool, true, false}
use Prim.Native.Nat.{ℕ, zero, suc, ◌+◌, ◌*◌, ◌-◌, ◌/◌, ◌%◌, ◌≤◌, ◌<◌, min}
use native.Mathlib.Omega.{arith}
use lib.ListN.{set}
use lib.Seq.{sets, set-set, set_comm}
use lib.Dec.{ltb}
use borrow.Author.Tests.{lt-ltb, le-ltb}
use Rattle.meaning.specs.File.{numbers_of, has_children, own_numbers, two_bytes}
use Rattle.tables.specs.declared.Row.{Row}
use Rattle.writing.specs.Writing.{field_with, own_or, record_field, last_of, two_at, numbers_over}
use Rattle.writing.specs.Stored.{put_number, record_few, field_put}

-- ---- the head

pub head_is : (out : List ℕ) (at t len : ℕ) → len < 256
    → set (set (set out at t) (at + 1) 0) (at + 2) len ≡ sets (set out at t) (at + 1) (two_bytes (len ∷ []))
unfolding two_bytes
head_is out at t len h =
    let a : suc (at + 1) ≡ at + 2 = omega arith in
    let d : len / 256 ≡ 0 = omega arith in
    let m : len % 256 ≡ len = omega arith in
    rw (a, d, m)

-- ---- the numbers

two_over : (o : List ℕ) (p x y : ℕ) → two_at (two_at o p x) p y ≡ two_at o p y
unfolding two_bytes
two_over o p x y =
    rw (set_comm (set o p (x / 256)) (suc p) p (x % 256) (y / 256) (λ e. omega arith), set-set o p (x / 256) (y / 256), set-set (set o p (y / 256)) (suc p) (x % 256) (y % 256))

module _ (h : Bool) (at l : ℕ) (r : Row) (o : List ℕ) where
  one_over : l ≡ at + 3 → numbers_over h at l r o ≡ two_at o (at + 3 + 2 * 0) (if h then r.n else r.a)
  unfolding numbers_over last_of
  one_over e =
      let z : at + 3 + 2 * 0 ≡ at + 3 = omega arith in
      let a : ltb (at + 3) l ≡ false = le-ltb (at + 3) l (omega arith) in
      let f : min (at + 5) l ≡ l = omega arith in
      let g : min (at + 7) l ≡ l = omega arith in
      rw (a, f, g, e, z) (simp two_over)

  pair_over : l ≡ at + 5 → numbers_over h at l r o ≡ two_at (two_at o (at + 3 + 2 * 0) r.a) (at + 3 + 2 * 1) (if h then r.n else r.b)
  unfolding numbers_over last_of
  pair_over e =
      let z : at + 3 + 2 * 0 ≡ at + 3 = omega arith in
      let y : at + 3 + 2 * 1 ≡ at + 5 = omega arith in
      let a : ltb (at + 3) l ≡ true = lt-ltb (at + 3) l (omega arith) in
      let b : ltb (at + 5) l ≡ false = le-ltb (at + 5) l (omega arith) in
      let f : min (at + 5) l ≡ l = omega arith in
      let g : min (at + 7) l ≡ l = omega arith in
      rw (a, b, f, g, e, z, y) (simp two_over)

  three_over : l ≡ at + 7
      → numbers_over h at l r o ≡ two_at (two_at (two_at o (at + 3 + 2 * 0) r.a) (at + 3 + 2 * 1) r.b) (at + 3 + 2 * 2) (if h then r.n else r.c)
  unfolding numbers_over last_of
  three_over e =
      let z : at + 3 + 2 * 0 ≡ at + 3 = omega arith in
      let y : at + 3 + 2 * 1 ≡ at + 5 = omega arith in
      let x : at + 3 + 2 * 2 ≡ at + 7 = omega arith in
      let a : ltb (at + 3) l ≡ true = lt-ltb (at + 3) l (omega arith) in
      let b : ltb (at + 5) l ≡ true = lt-ltb (at + 5) l (omega arith) in
      let c : ltb (at + 7) l ≡ false = le-ltb (at + 7) l (omega arith) in
      let f : min (at + 5) l ≡ at + 5 = omega arith in
      let g : min (at + 7) l ≡ l = omega arith in
      rw (a, b, c, f, g, e, z, y, x, two_over)

  four_over : l ≡ at + 9
      → numbers_over h at l r o
      ≡ two_at (two_at (two_at (two_at o (at + 3 + 2 * 0) r.a) (at + 3 + 2 * 1) r.b) (at + 3 + 2 * 2) r.c) (at + 3 + 2 * 3) (if h then r.n else r.n)
  unfolding numbers_over last_of
  four_over e =
      let z : at + 3 + 2 * 0 ≡ at + 3 = omega arith in
      let y : at + 3 + 2 * 1 ≡ at + 5 = omega arith in
      let x : at + 3 + 2 * 2 ≡ at + 7 = omega arith in
      let u : at + 3 + 2 * 3 ≡ at + 9 = omega arith in
      let a : ltb (at + 3) l ≡ true = lt-ltb (at + 3) l (omega arith) in
      let b : ltb (at + 5) l ≡ true = lt-ltb (at + 5) l (omega arith) in
      let c : ltb (at + 7) l ≡ true = lt-ltb (at + 7) l (omega arith) in
      let f : min (at + 5) l ≡ at + 5 = omega arith in
      let g : min (at + 7) l ≡ at + 7 = omega arith in
      rw (a, b, c, f, g, e, z, y, x, u)

over : (h : Bool) (n at l : ℕ) (r : Row) (o : List ℕ) → (n ≡ 0 → ⊥) → n ≤ 4 → l ≡ at + 1 + 2 * n
    → let w = if h then n - 1 else n in
    numbers_over h at l r o
    ≡ put_number at n (put_number at n (put_number at n (put_number at n o 0 (own_or w 0 r.a r.n)) 1 (own_or w 1 r.b r.n)) 2 (own_or w 2 r.c r.n)) 3 r.n
unfolding own_or
over h zero at l r o s m e = absurd (s refl)
over true (suc zero) at l r o s m e = one_over true at l r o (omega arith)
over false (suc zero) at l r o s m e = one_over false at l r o (omega arith)
over true (suc (suc zero)) at l r o s m e = pair_over true at l r o (omega arith)
over false (suc (suc zero)) at l r o s m e = pair_over false at l r o (omega arith)
over true (suc (suc (suc zero))) at l r o s m e = three_over true at l r o (omega arith)
over false (suc (suc (suc zero))) at l r o s m e = three_over false at l r o (omega arith)
over true (suc (suc (suc (suc zero)))) at l r o s m e = four_over true at l r o (omega arith)
over false (suc (suc (suc (suc zero)))) at l r o s m e = four_over false at l r o (omega arith)
over h (suc (suc (suc (suc (suc n))))) at l r o s m e = absurd (omega arith)

-- A RECORD, its head and then its numbers.
pub record_over : (r : Row) (len at l : ℕ) (h : Bool) (out : List ℕ) → len ≡ 2 * numbers_of (r.tag % 32) → h ≡ has_children (r.tag % 32)
    → (len ≡ 0 → ⊥) → l ≡ at + 1 + len
    → numbers_over h at l r (sets (set out at (r.tag % 32)) (at + 1) (two_bytes (len ∷ []))) ≡ sets out at (record_field r)
unfolding record_field own_numbers
record_over r len at l h out e d s k =
    let n = numbers_of (r.tag % 32) in
    rw e (over h n at l r _ (λ z. s (omega arith)) (record_few r.tag) (omega arith) ∙ rw d (field_put (r.tag % 32) _ _ _ r.n at out))

bare : (t a b c d at : ℕ) (out : List ℕ) → numbers_of t ≡ 0
    → sets (set out at t) (at + 1) (two_bytes (2 * 0 ∷ [])) ≡ sets out at (field_with t a b c d)
bare t a b c d at out z = rw z at (field_put t a b c d at out)

pub bare_over : (r : Row) (len at : ℕ) (out : List ℕ) → len ≡ 2 * numbers_of (r.tag % 32) → len ≡ 0
    → sets (set out at (r.tag % 32)) (at + 1) (two_bytes (len ∷ [])) ≡ sets out at (record_field r)
unfolding record_field
bare_over r len at out e z = rw z (bare (r.tag % 32) _ _ _ r.n at out (omega arith))
