-- How often the records in some bytes name a symbol, counted by a reader of the bytes; and that a written file says so in its symbol rows.
-- Assumes nothing.
use Rattle.std.specs.Prelude.{if◌then◌else◌, ◌≡◌, length, eqb}
use Rattle.std.proofs.Math.Path.{refl}
use Rattle.std.proofs.Common.{sym, ap, ap₂, ◌∙◌, ne_eqb}
use mathlib.Core.List.{List, [], ◌∷◌, ◌++◌, append_assoc, append-nil}
use Prim.Native.Nat.{ℕ, zero, suc, ◌+◌, ◌≤◌}
use native.Mathlib.Omega.{arith}
use Rattle.meaning.specs.Numbers.Tag
use Rattle.meaning.specs.Tree.{hd, Forest, none, more, count, Row, row, flatten}
use Rattle.meaning.specs.Mentions.{first_named, second_named, named, mentions}
use Rattle.meaning.specs.File.{Scope, Symbol, File, numbers_of, has_children, own_numbers, record_numbers, written}
use Rattle.mentions.specs.Sums.{counts_from}
use Rattle.spec_laws.specs.Tags.{Seen, other, here, there, seen}
use Rattle.readback_laws.specs.ReadBack.{Read, read_as, fields_of, scope_reads, symbol_reads, record_reads, fields_for, Tagged}
use Rattle.readback_laws.proofs.ReadBack.{read_back, no_symbol_lem}
use Rattle.readback_laws.specs.Counted.{names_in, often, mentions_in, counts_said}

-- ---- a written file

-- 0 is no symbol
none_named : (y : ℕ) → 1 ≤ y → ◌≡◌ {A = ℕ} (if eqb 0 y then 1 else 0) 0
none_named y l = rw (ne_eqb 0 y (λ e. omega arith))

-- a record names what its numbers say
names_of : (y : ℕ) {t : ℕ} (a b c n : ℕ) → Seen (Tag.Function ∷ Tag.Class ∷ Tag.Specifier ∷ Tag.Read ∷ Tag.Name ∷ Tag.Call ∷ Tag.Load ∷ Tag.Step ∷ []) t → 1 ≤ y
    → often y (names_in (read_as t (record_numbers (row (hd t a b c) n)))) ≡ named y (hd t a b c)
unfolding often names_in record_numbers own_numbers has_children numbers_of named first_named second_named
names_of y a b c n here l = omega (arith, none_named y l)
names_of y a b c n (there e₁₃ here) l = omega (arith, none_named y l)
names_of y a b c n (there e₁₃ (there e₁₅ here)) l = omega (arith, none_named y l)
names_of y a b c n (there e₁₃ (there e₁₅ (there e₂₀ here))) l = omega (arith, none_named y l)
names_of y a b c n (there e₁₃ (there e₁₅ (there e₂₀ (there e₂₅ here)))) l = omega (arith, none_named y l)
names_of y a b c n (there e₁₃ (there e₁₅ (there e₂₀ (there e₂₅ (there e₂₆ here))))) l = omega (arith, none_named y l)
names_of y a b c n (there e₁₃ (there e₁₅ (there e₂₀ (there e₂₅ (there e₂₆ (there e₂₇ here)))))) l = omega (arith, none_named y l)
names_of y a b c n (there e₁₃ (there e₁₅ (there e₂₀ (there e₂₅ (there e₂₆ (there e₂₇ (there e₂₈ here))))))) l = omega arith
names_of y a b c n (there e₁₃ (there e₁₅ (there e₂₀ (there e₂₅ (there e₂₆ (there e₂₇ (there e₂₈ (there e₂₉ other)))))))) l =
    rw (e₁₃, e₁₅, e₂₀, e₂₅, e₂₆, e₂₇, e₂₈, e₂₉) (omega (arith, none_named y l))

module _ (y : ℕ) (l : 1 ≤ y) where
  mentions_++ : (xs ys : List Read) → mentions_in y (xs ++ ys) ≡ mentions_in y xs + mentions_in y ys
  unfolding mentions_in
  mentions_++ [] ys = omega arith
  mentions_++ (x ∷ xs) ys = omega (arith, mentions_++ xs ys)

  rows_++ : (rs qs : List Row) → mentions_in y (record_reads (rs ++ qs)) ≡ mentions_in y (record_reads rs) + mentions_in y (record_reads qs)
  unfolding mentions_in record_reads
  rows_++ [] qs = omega arith
  rows_++ (r ∷ rs) qs = omega (arith, rows_++ rs qs)

  records_named : (f : Forest) → mentions_in y (record_reads (flatten f)) ≡ mentions y f
  unfolding mentions_in record_reads flatten mentions
  records_named none = refl
  records_named (more h k r) =
      let tags = Tag.Function ∷ Tag.Class ∷ Tag.Specifier ∷ Tag.Read ∷ Tag.Name ∷ Tag.Call ∷ Tag.Load ∷ Tag.Step ∷ [] in
      omega (
        arith,
        names_of y h.a h.b h.c (count k) (seen tags h.tag) l,
        rows_++ (flatten k) (flatten r),
        records_named k,
        records_named r,
      )

  -- settings and rows name none
  scopes_named : (ss : List Scope) → mentions_in y (scope_reads ss) ≡ 0
  unfolding mentions_in scope_reads often names_in
  scopes_named [] = refl
  scopes_named (s ∷ ss) = omega (arith, scopes_named ss)

  symbols_named : (counts : ℕ → ℕ) (k : ℕ) (ys : List Symbol) → mentions_in y (symbol_reads counts k ys) ≡ 0
  unfolding mentions_in symbol_reads often names_in
  symbols_named counts k [] = refl
  symbols_named counts k (x ∷ ys) = omega (arith, symbols_named counts (suc k) ys)

  -- THE MENTIONS in the written bytes are those of the tree.
  pub mentions_back : (g : File) → mentions_in y (fields_of (written g)) ≡ mentions y g.tree
  unfolding mentions_in fields_for often names_in
  mentions_back g =
      let counts : ℕ → ℕ = λ n. mentions n g.tree in
      rw (read_back g)
      (omega (
        arith,
        mentions_++ (scope_reads g.scopes) (symbol_reads counts 1 g.symbols ++ record_reads (flatten g.tree)),
        mentions_++ (symbol_reads counts 1 g.symbols) (record_reads (flatten g.tree)),
        scopes_named g.scopes,
        symbols_named counts 1 g.symbols,
        records_named g.tree,
      ))

-- ---- the counts

scopes_passed : (ss : List Scope) (rest : List Read) → counts_said (scope_reads ss ++ rest) ≡ counts_said rest
unfolding counts_said scope_reads
scopes_passed [] rest = refl
scopes_passed (s ∷ ss) rest = scopes_passed ss rest

symbols_counted : (counts : ℕ → ℕ) (k : ℕ) (ys : List Symbol) (rest : List Read)
    → counts_said (symbol_reads counts k ys ++ rest) ≡ counts_from counts (length ys) k ++ counts_said rest
unfolding counts_said symbol_reads counts_from
symbols_counted counts k [] rest = refl
symbols_counted counts k (y ∷ ys) rest = ap (◌∷◌ (counts k)) (symbols_counted counts (suc k) ys rest)

records_passed : (f : Forest) (rest : List Row) → Tagged f → counts_said (record_reads (flatten f ++ rest)) ≡ counts_said (record_reads rest)
unfolding counts_said record_reads flatten
records_passed none rest q = refl
records_passed (more h k r) rest q =
    rw (no_symbol_lem h.tag q.0, append_assoc (flatten k) (flatten r) rest)
    (records_passed k (flatten r ++ rest) q.1 ∙ records_passed r rest q.2)

-- THE COUNTS in the written bytes are those of the tree,
counts_read : (g : File) → Tagged g.tree → counts_said (fields_of (written g)) ≡ counts_from (λ y. mentions y g.tree) (length g.symbols) 1
unfolding counts_said fields_for record_reads
counts_read g q =
    let counts : ℕ → ℕ = λ n. mentions n g.tree in
    let rows = flatten g.tree in
    ap counts_said (read_back g)
    ∙ scopes_passed g.scopes (symbol_reads counts 1 g.symbols ++ record_reads rows)
    ∙ symbols_counted counts 1 g.symbols (record_reads rows)
    ∙ ap (λ (rs : List Row). counts_from counts (length g.symbols) 1 ++ counts_said (record_reads rs)) (sym (append-nil rows))
    ∙ ap (◌++◌ (counts_from counts (length g.symbols) 1)) (records_passed g.tree [] q)
    ∙ append-nil (counts_from counts (length g.symbols) 1)

same_counts : (c d : ℕ → ℕ) (n y : ℕ) → 1 ≤ y → ((j : ℕ) → 1 ≤ j → c j ≡ d j) → counts_from c n y ≡ counts_from d n y
unfolding counts_from
same_counts c d zero y l e = refl
same_counts c d (suc n) y l e = ap₂ ◌∷◌ (e y l) (same_counts c d n (suc y) (omega arith) e)

-- and of a reader who counts the records in these bytes.
pub counts_said_lem : (g : File) → Tagged g.tree
    → let fields = fields_of (written g) in counts_said fields ≡ counts_from (λ y. mentions_in y fields) (length g.symbols) 1
counts_said_lem g q =
    counts_read g q ∙ same_counts _ _ (length g.symbols) 1 (omega arith) (λ y l. sym (mentions_back y l g))
