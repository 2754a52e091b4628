-- How many bytes are written.
-- Assumes nothing.
use Rattle.std.specs.Prelude.{if◌then◌else◌, ◌≡◌, refl, Bool, true, false, ◌&&◌, List, [], ◌∷◌, ◌++◌, ℕ, zero, suc, ◌+◌, ◌*◌, ◌<◌, length, take, eqb, leb}
use Rattle.std.proofs.Common.{ap, ◌∙◌, arith, length-append, length-take-le, eqb-true, leb-true}
use Rattle.std.proofs.lemmas.Bool.{eqb-false}
use Rattle.meaning.specs.Tree.{Forest, none, more, Row, row, count, flatten}
use Rattle.meaning.specs.Mentions.{mentions}
use Rattle.meaning.specs.File.{
  scope_bytes,
  symbol_bytes,
  Scope,
  Symbol,
  File,
  numbers_of,
  has_children,
  own_numbers,
  field_bytes,
  field,
  record_numbers,
  scope_fields,
  symbol_fields,
  record_fields,
  written,
}
use Rattle.meaning.specs.Charges.{record_bytes, figures_in}
use Rattle.spec_laws.specs.Tags.{and_left, and_right}
use Rattle.readback_laws.specs.ReadBack.{is_record, Tagged}
use Rattle.readback_laws.proofs.ReadBack.{field_length}

-- ---- the numbers of a record

-- a test passes for every number below the one given
abbrev all_below : (ℕ → Bool) → ℕ → Bool
all_below p zero = true
all_below p (suc n) = p n && all_below p n

below_passes : (p : ℕ → Bool) (n t : ℕ) → all_below p n ≡ true → t < n → p t ≡ true
below_passes p zero t e l = absurd (omega arith)
below_passes p (suc n) t e l = go (eqb t n) refl (below_passes p n t (and_right (p n) (all_below p n) e))
  where
    go : (b : Bool) → eqb t n ≡ b → (t < n → p t ≡ true) → p t ≡ true
    go true d i = ap p (eqb-true t n d) ∙ and_left (p n) (all_below p n) e
    go false d i = i (omega (arith, eqb-false t n d))

-- those before n are at most three, and with n they are all
unfoldable pub complete : ℕ → Bool
complete t = leb (own_numbers t) 3 && eqb (own_numbers t + (if has_children t then 1 else 0)) (numbers_of t)

pub record_complete : (t : ℕ) → is_record t ≡ true → complete t ≡ true
unfolding complete own_numbers has_children numbers_of
record_complete t e = below_passes complete 30 t refl (omega (arith, leb-true t 29 e))

last_length : (b : Bool) (n : ℕ) → length (if b then n ∷ [] else []) ≡ (if b then 1 else 0)
last_length true n = refl
last_length false n = refl

pub numbers_length : (r : Row) → is_record r.head.tag ≡ true → length (record_numbers r) ≡ numbers_of r.head.tag
unfolding complete record_numbers
numbers_length r e =
    let t = r.head.tag in
    let own = r.head.a ∷ r.head.b ∷ r.head.c ∷ [] in
    let c = record_complete t e in
    let few = leb (own_numbers t) 3 in
    let all = own_numbers t + (if has_children t then 1 else 0) in
    omega (
      arith,
      length-append (take (own_numbers t) own) (if has_children t then r.n ∷ [] else []),
      length-take-le (own_numbers t) own (leb-true (own_numbers t) 3 (and_left few (eqb all (numbers_of t)) c)),
      last_length (has_children t) r.n,
      eqb-true all (numbers_of t) (and_right few (eqb all (numbers_of t)) c),
    )

-- ---- fields

scopes_length : (ss : List Scope) → length (scope_fields ss) ≡ scope_bytes * length ss
unfolding scope_fields
scopes_length [] = refl
scopes_length (s ∷ ss) =
    let ns = s.parent ∷ s.flags ∷ [] in
    omega (arith, length-append (field 41 ns) (scope_fields ss), field_length 41 ns, scopes_length ss)

symbols_length : (count : ℕ → ℕ) (k : ℕ) (ys : List Symbol) → length (symbol_fields count k ys) ≡ symbol_bytes * length ys
unfolding symbol_fields
symbols_length count k [] = refl
symbols_length count k (y ∷ ys) =
    let ns = y.name ∷ y.flags ∷ y.scope ∷ y.made ∷ count k ∷ [] in
    omega (arith, length-append (field 42 ns) (symbol_fields count (suc k) ys), field_length 42 ns, symbols_length count (suc k) ys)

records_++ : (rs qs : List Row) → length (record_fields (rs ++ qs)) ≡ length (record_fields rs) + length (record_fields qs)
unfolding record_fields
records_++ [] qs = omega arith
records_++ (r ∷ rs) qs =
    let x = field r.head.tag (record_numbers r) in
    omega (arith, length-append x (record_fields (rs ++ qs)), length-append x (record_fields rs), records_++ rs qs)

records_length : (f : Forest) → Tagged f → length (record_fields (flatten f)) ≡ record_bytes f
unfolding record_fields flatten record_bytes field_bytes
records_length none q = refl
records_length (more h k r) q =
    let x = row h (count k) in
    omega (
      arith,
      length-append (field h.tag (record_numbers x)) (record_fields (flatten k ++ flatten r)),
      field_length h.tag (record_numbers x),
      numbers_length x q.0,
      records_++ (flatten k) (flatten r),
      records_length k q.1,
      records_length r q.2,
    )

-- A file whose records have the tags of records is written with the bytes of its figures. (A record keeps three numbers besides n, and the figures
-- count five for the tag of a symbol row, 42: a record with that tag would be written shorter than counted.)
pub tagged_length : (g : File) → Tagged g.tree → length (written g) ≡ (figures_in g).bytes
unfolding written figures_in
tagged_length g q =
    let ns = g.mode ∷ g.is_module ∷ [] in
    let s = scope_fields g.scopes in
    let count : ℕ → ℕ = λ n. mentions n g.tree in
    let y = symbol_fields count 1 g.symbols in
    let r = record_fields (flatten g.tree) in
    omega (
      arith,
      length-append (field 40 ns) (s ++ (y ++ r)),
      field_length 40 ns,
      length-append s (y ++ r),
      length-append y r,
      scopes_length g.scopes,
      symbols_length count 1 g.symbols,
      records_length g.tree q,
    )
