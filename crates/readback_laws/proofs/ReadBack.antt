-- The written bytes of a file, read back field by field.
-- Assumes nothing.
use Rattle.std.specs.Prelude.{if◌then◌else◌, ◌≡◌, Bool, ℕ, zero, suc, ◌+◌, ◌*◌, ◌/◌, ◌%◌, ◌≤◌, length, eqb}
use Rattle.std.proofs.Math.Path.{refl}
use Rattle.std.proofs.Common.{sym, ap, ap₂, ◌∙◌, length-append, take_at, drop_at, leb-true, ne_eqb}
use Rattle.std.proofs.Math.Bool.{true, false}
use mathlib.Core.List.{List, [], ◌∷◌, ◌++◌, append_assoc}
use native.Mathlib.Omega.{arith}
use Rattle.meaning.specs.Numbers.Tag
use Rattle.meaning.specs.Tree.{Forest, none, more, size, Row, flatten}
use Rattle.meaning.specs.Mentions.{mentions}
use Rattle.meaning.specs.File.{Scope, Symbol, File, two_bytes, field, record_numbers, scope_fields, symbol_fields, record_fields, written}
use Rattle.spec_laws.specs.Trees.{two_length}
use Rattle.readback_laws.specs.ReadBack.{numbers_in, Read, read_as, fields_in, fields_of, scope_reads, symbol_reads, record_reads, fields_for, field_count, is_record, Tagged}

-- ---- one field

halves : (n : ℕ) → 256 * (n / 256) + n % 256 ≡ n
halves n = omega arith

numbers_back : (ns : List ℕ) → numbers_in (two_bytes ns) ≡ ns
unfolding numbers_in two_bytes
numbers_back [] = refl
numbers_back (n ∷ ns) = ap₂ ◌∷◌ (halves n) (numbers_back ns)

pub field_length : (t : ℕ) (ns : List ℕ) → length (field t ns) ≡ 3 + 2 * length ns
unfolding field two_bytes
field_length t ns = omega (arith, two_length ns)

-- a field before other bytes is read first
field_back : (n t : ℕ) (ns bs : List ℕ) → fields_in (suc n) (field t ns ++ bs) ≡ read_as t ns ∷ fields_in n bs
unfolding fields_in field two_bytes
field_back n t ns bs =
    let m = 2 * length ns in
    let l = two_length ns in
    rw (halves m, take_at (two_bytes ns) bs m l, drop_at (two_bytes ns) bs m l, numbers_back ns)

-- ---- all fields

-- fields as written
unfoldable put : List Read → List ℕ
put [] = []
put (r ∷ rs) = field r.tag r.numbers ++ put rs

put_++ : (rs qs : List Read) → put (rs ++ qs) ≡ put rs ++ put qs
unfolding put
put_++ [] qs = refl
put_++ (r ∷ rs) qs =
    let x = field r.tag r.numbers in
    ap (λ (bs : List ℕ). x ++ bs) (put_++ rs qs) ∙ sym (append_assoc x (put rs) (put qs))

put_back : (n : ℕ) (rs : List Read) → length rs ≤ n → fields_in n (put rs) ≡ rs
unfolding fields_in put
put_back zero [] l = refl
put_back zero (r ∷ rs) l = absurd (omega arith)
put_back (suc n) [] l = refl
put_back (suc n) (r ∷ rs) l =
    field_back n r.tag r.numbers (put rs) ∙ ap (◌∷◌ r) (put_back n rs (omega arith))

-- a field has bytes
put_length : (rs : List Read) → length rs ≤ length (put rs)
unfolding put
put_length [] = omega arith
put_length (r ∷ rs) =
    omega (arith, length-append (field r.tag r.numbers) (put rs), field_length r.tag r.numbers, put_length rs)

-- ---- a file

scopes_put : (ss : List Scope) → scope_fields ss ≡ put (scope_reads ss)
unfolding scope_fields scope_reads put
scopes_put [] = refl
scopes_put (s ∷ ss) = ap (λ (bs : List ℕ). field 41 (s.parent ∷ s.flags ∷ []) ++ bs) (scopes_put ss)

symbols_put : (count : ℕ → ℕ) (k : ℕ) (ys : List Symbol) → symbol_fields count k ys ≡ put (symbol_reads count k ys)
unfolding symbol_fields symbol_reads put
symbols_put count k [] = refl
symbols_put count k (y ∷ ys) =
    ap (λ (bs : List ℕ). field 42 (y.name ∷ y.flags ∷ y.scope ∷ y.made ∷ count k ∷ []) ++ bs) (symbols_put count (suc k) ys)

records_put : (rs : List Row) → record_fields rs ≡ put (record_reads rs)
unfolding record_fields record_reads put
records_put [] = refl
records_put (r ∷ rs) = ap (λ (bs : List ℕ). field r.head.tag (record_numbers r) ++ bs) (records_put rs)

written_put : (g : File) → written g ≡ put (fields_for g)
unfolding written fields_for put
written_put g =
    rw (scopes_put g.scopes, symbols_put (λ y. mentions y g.tree) 1 g.symbols, records_put (flatten g.tree), put_++, put_++)

-- The written bytes of a file have its fields.
pub read_back : (g : File) → fields_of (written g) ≡ fields_for g
unfolding fields_of
read_back g = rw (written_put g) (put_back (length (put (fields_for g))) (fields_for g) (put_length (fields_for g)))

module _ (p : ℕ → Bool) where
  pub count_++ : (rs qs : List Read) → field_count p (rs ++ qs) ≡ field_count p rs + field_count p qs
  unfolding field_count
  count_++ [] qs = omega arith
  count_++ (r ∷ rs) qs = omega (arith, count_++ rs qs)

  pub rows_++ : (rs qs : List Row) → field_count p (record_reads (rs ++ qs)) ≡ field_count p (record_reads rs) + field_count p (record_reads qs)
  unfolding field_count record_reads
  rows_++ [] qs = omega arith
  rows_++ (r ∷ rs) qs = omega (arith, rows_++ rs qs)

  -- all fields of a kind are counted, or none
  pub scopes_count : (b : Bool) (ss : List Scope) → p 41 ≡ b → field_count p (scope_reads ss) ≡ (if b then length ss else 0)
  unfolding field_count scope_reads
  scopes_count true [] e = refl
  scopes_count false [] e = refl
  scopes_count true (s ∷ ss) e = rw e (omega (arith, scopes_count true ss e))
  scopes_count false (s ∷ ss) e = rw e (omega (arith, scopes_count false ss e))

  pub symbols_count : (b : Bool) (count : ℕ → ℕ) (k : ℕ) (ys : List Symbol) → p 42 ≡ b
      → field_count p (symbol_reads count k ys) ≡ (if b then length ys else 0)
  unfolding field_count symbol_reads
  symbols_count true count k [] e = refl
  symbols_count false count k [] e = refl
  symbols_count true count k (y ∷ ys) e = rw e (omega (arith, symbols_count true count (suc k) ys e))
  symbols_count false count k (y ∷ ys) e = rw e (omega (arith, symbols_count false count (suc k) ys e))

  records_count : (b : Bool) (f : Forest) → ((t : ℕ) → is_record t ≡ true → p t ≡ b) → Tagged f
      → field_count p (record_reads (flatten f)) ≡ (if b then size f else 0)
  unfolding field_count record_reads flatten size
  records_count true none e q = refl
  records_count false none e q = refl
  records_count true (more h k r) e q =
      rw (e h.tag q.0)
      (omega (arith, rows_++ (flatten k) (flatten r), records_count true k e q.1, records_count true r e q.2))
  records_count false (more h k r) e q =
      rw (e h.tag q.0)
      (omega (arith, rows_++ (flatten k) (flatten r), records_count false k e q.1, records_count false r e q.2))

  file_count : (g : File) (a b c : Bool)
      → p 40 ≡ false → p 41 ≡ a → p 42 ≡ b → ((t : ℕ) → is_record t ≡ true → p t ≡ c) → Tagged g.tree
      → field_count p (fields_of (written g))
      ≡ (if a then length g.scopes else 0) + ((if b then length g.symbols else 0) + (if c then size g.tree else 0))
  unfolding field_count fields_for
  file_count g a b c z e d i q =
      rw (read_back g, z, count_++, count_++)
      (omega (arith, scopes_count a g.scopes e, symbols_count b (λ y. mentions y g.tree) 1 g.symbols d, records_count c g.tree i q))

no_scope_lem : (t : ℕ) → is_record t ≡ true → eqb t Tag.Scope ≡ false
no_scope_lem t e = ne_eqb t Tag.Scope (λ d. omega (arith, leb-true t 29 e))

pub no_symbol_lem : (t : ℕ) → is_record t ≡ true → eqb t Tag.Symbol ≡ false
no_symbol_lem t e = ne_eqb t Tag.Symbol (λ d. omega (arith, leb-true t 29 e))

-- Of the written fields, as many are records, scope rows and symbol rows as the file has.
pub counts_back : (g : File) → Tagged g.tree
    → (field_count is_record (fields_of (written g)) ≡ size g.tree)
    × (field_count (λ t. eqb t Tag.Scope) (fields_of (written g)) ≡ length g.scopes)
    × (field_count (λ t. eqb t Tag.Symbol) (fields_of (written g)) ≡ length g.symbols)
counts_back g q = (
  omega (arith, file_count is_record g false false true refl refl refl (λ t e. e) q),
  omega (arith, file_count (λ t. eqb t Tag.Scope) g true false false refl refl refl no_scope_lem q),
  omega (arith, file_count (λ t. eqb t Tag.Symbol) g false true false refl refl refl no_symbol_lem q),
)
