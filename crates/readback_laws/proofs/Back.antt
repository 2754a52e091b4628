-- The tree read off the written bytes of a file is the file's tree, with 0 for the numbers that are not written; it gives the same hints.
-- Assumes nothing.
use Rattle.std.specs.Prelude.{if◌then◌else◌, ◌≡◌, refl, Bool, true, false, List, [], ◌∷◌, ◌++◌, ℕ, zero, suc, ◌+◌, ◌≤◌, length, take, get_or, eqb, leb, ltb}
use Rattle.std.proofs.Common.{sym, ap, ◌∙◌, append_assoc, append-nil, arith, length-append, eqb-true, leb-true, lt-ltb}
use Rattle.meaning.specs.Numbers.Tag
use Rattle.meaning.specs.Tree.{one_of, Head, hd, Forest, none, more, count, size, Row, row, flatten}
use Rattle.meaning.specs.Mentions.{mentions}
use Rattle.meaning.specs.File.{Scope, Symbol, File, numbers_of, has_children, own_numbers, record_numbers, written}
use Rattle.meaning.specs.Grammar.{scope_first, scope_second}
use Rattle.meaning.specs.Renumbering.{with_scope}
use Rattle.spec_laws.specs.Tags.{and_left}
use Rattle.hint_laws.specs.Hints.{of_source, given}
use Rattle.readback_laws.specs.ReadBack.{Read, read_as, fields_of, scope_reads, symbol_reads, record_reads, fields_for, is_record, Tagged}
use Rattle.readback_laws.proofs.ReadBack.{read_back}
use Rattle.readback_laws.proofs.Length.{complete, record_complete}
use Rattle.readback_laws.proofs.Mapped.{mapped, mapped_count, KeepsHints, mapped_gives}
use Rattle.readback_laws.specs.Decoded.{row_of, records_of, trees_from, tree_of, tree_in}

-- a record's head as it is written: numbers that are not its own are 0
unfoldable pub plain_head : Head → Head
plain_head h =
    let own = own_numbers h.tag in
    hd h.tag (if ltb 0 own then h.a else 0) (if ltb 1 own then h.b else 0) (if ltb 2 own then h.c else 0)

-- every head of the forest
abbrev pub plain : Forest → Forest
plain f = mapped plain_head f

-- a record whose n is not written has no children
abbrev pub Childless : Forest → Type 0
Childless none = Unit {0}
Childless (more h k r) = (has_children h.tag ≡ false → k ≡ none) × Childless k × Childless r

-- ---- a record read back

-- its numbers, as many as are its own, and n
numbers_back : (own : ℕ) (c : Bool) (t x y z n : ℕ) → own ≤ 3
    → let ns = take own (x ∷ y ∷ z ∷ []) ++ (if c then n ∷ [] else []) in
    row
    (hd t (if ltb 0 own then get_or ns 0 0 else 0) (if ltb 1 own then get_or ns 1 0 else 0) (if ltb 2 own then get_or ns 2 0 else 0))
    (if c then get_or ns own 0 else 0)
    ≡ row (hd t (if ltb 0 own then x else 0) (if ltb 1 own then y else 0) (if ltb 2 own then z else 0)) (if c then n else 0)
numbers_back zero true t x y z n l = refl
numbers_back zero false t x y z n l = refl
numbers_back (suc zero) true t x y z n l = refl
numbers_back (suc zero) false t x y z n l = refl
numbers_back (suc (suc zero)) true t x y z n l = refl
numbers_back (suc (suc zero)) false t x y z n l = refl
numbers_back (suc (suc (suc zero))) true t x y z n l = refl
numbers_back (suc (suc (suc zero))) false t x y z n l = refl
numbers_back (suc (suc (suc (suc m)))) c t x y z n l = absurd (omega arith)

few_numbers : (t : ℕ) → is_record t ≡ true → own_numbers t ≤ 3
unfolding complete
few_numbers t e =
    let few = leb (own_numbers t) 3 in
    let all = eqb (own_numbers t + (if has_children t then 1 else 0)) (numbers_of t) in
    leb-true (own_numbers t) 3 (and_left few all (record_complete t e))

row_back : (h : Head) (n : ℕ) → is_record h.tag ≡ true
    → row_of (read_as h.tag (record_numbers (row h n))) ≡ row (plain_head h) (if has_children h.tag then n else 0)
unfolding row_of record_numbers plain_head
row_back h n e =
    let t = h.tag in
    numbers_back (own_numbers t) (has_children t) t h.a h.b h.c n (few_numbers t e)

-- with no children n is 0, written or not
children_back : (c : Bool) (k : Forest) → (c ≡ false → k ≡ none) → (if c then count k else 0) ≡ count (plain k)
unfolding count mapped
children_back true k e = sym (mapped_count plain_head k)
children_back false k e = ap (λ (f : Forest). count (plain f)) (sym (e refl))

-- ---- the records of the fields

records_back : (f : Forest) (rest : List Row) → Tagged f → Childless f
    → records_of (record_reads (flatten f ++ rest)) ≡ flatten (plain f) ++ records_of (record_reads rest)
unfolding records_of record_reads flatten mapped
records_back none rest q c = refl
records_back (more h k r) rest q c =
    rw (q.0, row_back h (count k) q.0, children_back (has_children h.tag) k c.0, append_assoc (flatten k) (flatten r) rest, append_assoc)
    (ap (◌∷◌ (row (plain_head h) (count (plain k))))
    (records_back k (flatten r ++ rest) q.1 c.1
    ∙ ap (λ (rs : List Row). flatten (plain k) ++ rs) (records_back r rest q.2 c.2)))

scopes_skipped : (ss : List Scope) (rest : List Read) → records_of (scope_reads ss ++ rest) ≡ records_of rest
unfolding records_of scope_reads
scopes_skipped [] rest = refl
scopes_skipped (s ∷ ss) rest = scopes_skipped ss rest

symbols_skipped : (count : ℕ → ℕ) (k : ℕ) (ys : List Symbol) (rest : List Read) → records_of (symbol_reads count k ys ++ rest) ≡ records_of rest
unfolding records_of symbol_reads
symbols_skipped count k [] rest = refl
symbols_skipped count k (y ∷ ys) rest = symbols_skipped count (suc k) ys rest

rows_back : (g : File) → Tagged g.tree → Childless g.tree → records_of (fields_of (written g)) ≡ flatten (plain g.tree)
unfolding records_of fields_for record_reads
rows_back g q c =
    let tree = g.tree in
    let rows = record_reads (flatten tree) in
    let counts : ℕ → ℕ = λ y. mentions y tree in
    ap records_of (read_back g)
    ∙ scopes_skipped g.scopes (symbol_reads counts 1 g.symbols ++ rows)
    ∙ symbols_skipped counts 1 g.symbols rows
    ∙ ap (λ (rs : List Row). records_of (record_reads rs)) (sym (append-nil (flatten tree)))
    ∙ records_back tree [] q c
    ∙ append-nil (flatten (plain tree))

-- ---- the tree of the records

-- a forest before other rows
forest_back : (f : Forest) (fuel : ℕ) (rest : List Row) → size f ≤ fuel → trees_from fuel (count f) (flatten f ++ rest) ≡ (f, rest)
unfolding trees_from count size flatten
forest_back none zero rest l = refl
forest_back none (suc fuel) rest l = refl
forest_back (more h k r) zero rest l = absurd (omega arith)
forest_back (more h k r) (suc fuel) rest l =
    rw (append_assoc, forest_back k fuel (flatten r ++ rest) (omega arith), forest_back r fuel rest (omega arith))

-- nothing is read behind the last row
all_back : (f : Forest) (fuel n : ℕ) → size f ≤ fuel → count f ≤ n → trees_from fuel n (flatten f) ≡ (f, [])
unfolding trees_from count size flatten
all_back none zero n l m = refl
all_back none (suc fuel) zero l m = refl
all_back none (suc fuel) (suc n) l m = refl
all_back (more h k r) zero n l m = absurd (omega arith)
all_back (more h k r) (suc fuel) zero l m = absurd (omega arith)
all_back (more h k r) (suc fuel) (suc n) l m =
    rw (forest_back k fuel (flatten r) (omega arith), all_back r fuel n (omega arith) (omega arith))

flatten_size : (f : Forest) → (length (flatten f) ≡ size f) × (count f ≤ size f)
unfolding flatten count size
flatten_size none = (refl, omega arith)
flatten_size (more h k r) =
    let i = flatten_size k in
    let j = flatten_size r in
    (omega (arith, length-append (flatten k) (flatten r)), omega arith)

-- The tree of the records of a tree is that tree.
pub tree_flat : (f : Forest) → tree_of (flatten f) ≡ f
tree_flat f =
    let s = flatten_size f in
    ap (λ (e : Forest × List Row). e.0) (all_back f (length (flatten f)) (length (flatten f)) (omega arith) (omega arith))

-- The tree read off the written bytes is the tree, with 0 for what is not written.
pub tree_back : (g : File) → Tagged g.tree → Childless g.tree → tree_in (written g) ≡ plain g.tree
unfolding tree_in
tree_back g q c = ap (λ (rs : List Row). tree_of rs) (rows_back g q c) ∙ tree_flat (plain g.tree)

-- ---- the hints

-- numbers that a tag has are kept
keeps_a : (h : Head) (t : ℕ) → ltb 0 (own_numbers t) ≡ true → eqb h.tag t ≡ true → (plain_head h).a ≡ h.a
unfolding plain_head
keeps_a h t o e = rw (eqb-true h.tag t e, o)

keeps_b : (h : Head) (t : ℕ) → ltb 1 (own_numbers t) ≡ true → eqb h.tag t ≡ true → (plain_head h).b ≡ h.b
unfolding plain_head
keeps_b h t o e = rw (eqb-true h.tag t e, o)

-- what is written of a record is what was written of it
numbers_kept : (own x y z : ℕ)
    → take own ((if ltb 0 own then x else 0) ∷ (if ltb 1 own then y else 0) ∷ (if ltb 2 own then z else 0) ∷ [])
    ≡ take own (x ∷ y ∷ z ∷ [])
numbers_kept zero x y z = refl
numbers_kept (suc zero) x y z = refl
numbers_kept (suc (suc zero)) x y z = refl
numbers_kept (suc (suc (suc n))) x y z =
    let own = suc (suc (suc n)) in
    rw (lt-ltb 0 own (omega arith), lt-ltb 1 own (omega arith), lt-ltb 2 own (omega arith))

record_written : (h : Head) (n : ℕ) → record_numbers (row (plain_head h) n) ≡ record_numbers (row h n)
unfolding record_numbers plain_head
record_written h n =
    let t = h.tag in
    ap (λ (ns : List ℕ). ns ++ (if has_children t then n ∷ [] else [])) (numbers_kept (own_numbers t) h.a h.b h.c)

-- with 0 for the scope
zero_kept : (b : Bool) → ◌≡◌ {A = ℕ} (if b then 0 else 0) 0
zero_kept true = refl
zero_kept false = refl

unscoped_plain : (h : Head) → with_scope (plain_head h) 0 ≡ plain_head (with_scope h 0)
unfolding with_scope plain_head
unscoped_plain h = go (one_of scope_first h.tag) (one_of scope_second h.tag)
  where
    own : ℕ
    own = own_numbers h.tag

    p : Head
    p = plain_head h

    go : (x y : Bool)
        → (if x then hd h.tag 0 p.b p.c else if y then hd h.tag p.a 0 p.c else p)
        ≡ plain_head (if x then hd h.tag 0 h.b h.c else if y then hd h.tag h.a 0 h.c else h)
    go true y = ap (λ (a : ℕ). hd h.tag a p.b p.c) (sym (zero_kept (ltb 0 own)))
    go false true = ap (λ (b : ℕ). hd h.tag p.a b p.c) (sym (zero_kept (ltb 1 own)))
    go false false = refl

unscoped_written : (h : Head) (n : ℕ) → record_numbers (row (with_scope (plain_head h) 0) n) ≡ record_numbers (row (with_scope h 0) n)
unscoped_written h n = ap (λ (x : Head). record_numbers (row x n)) (unscoped_plain h) ∙ record_written (with_scope h 0) n

keeps_hints : KeepsHints plain_head
unfolding plain_head own_numbers has_children numbers_of
keeps_hints =
    record {
      tag = λ h. refl;
      symbol = λ h e. keeps_a h Tag.Name refl e;
      names = λ h e. keeps_b h Tag.Declarator refl e;
      letter = λ h e. keeps_a h Tag.Call refl e;
      context = λ h e. keeps_b h Tag.Call refl e;
      written = unscoped_written;
    }

-- The tree read off the written bytes gives the hints of the tree: what is not written changes none.
pub hints_back : (w : List ℕ → List ℕ → ℕ → ℕ) (read : ℕ) (g : File) → Tagged g.tree → Childless g.tree
    → given w read (tree_in (written g)) ≡ given w read g.tree
unfolding given
hints_back w read g q c = ap (given w read) (tree_back g q c) ∙ mapped_gives plain_head keeps_hints (of_source read w) read g.tree
