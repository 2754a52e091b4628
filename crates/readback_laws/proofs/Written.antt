-- An accepted file is written as it was read: its bytes are those that writing makes of what is read.
-- Assumes nothing.
use Rattle.std.specs.Prelude.{Ok, if◌then◌else◌, ◌≡◌, Bool, true, false, not, length, take, eqb, leb, ltb}
use Rattle.std.proofs.Math.Path.{refl, ap}
use Rattle.std.proofs.Common.{sym, ap₂, subst, ◌∙◌, eqb-true, ne_eqb, leb-true, le-leb}
use mathlib.Core.List.{List, [], ◌∷◌, ◌++◌, append_assoc, append-nil}
use Prim.Native.Nat.{ℕ, zero, suc, ◌+◌, ◌*◌, ◌/◌, ◌%◌, ◌≤◌, ◌<◌}
use native.Mathlib.Omega.{arith}
use Rattle.std.proofs.Math.ListN.{get_or, drop}
use Rattle.std.proofs.Math.Seq.{drop-cons}
use Rattle.meaning.specs.Numbers.Tag
use Rattle.meaning.specs.Tree.{Head, Forest, count, Row, row, flatten}
use Rattle.meaning.specs.File.{scope_bytes, symbol_bytes, File, numbers_of, has_children, own_numbers, field_bytes, two_bytes, field, record_numbers, scope_fields, symbol_fields, record_fields, written}
use Rattle.meaning.specs.Grammar.{tags_of, two, number, field_of, children_of, head_of, parent_in}
use Rattle.meaning.specs.Mentions.{mentions}
use Rattle.meaning.specs.Reading.{scopes_in, symbols_in, wrong_count, read_file}
use Rattle.meaning.specs.declared.Place.{Place}
use Rattle.meaning.specs.declared.Place.TheVariants.{Settings, ScopeRow, SymbolRow}
use Rattle.meaning.specs.declared.Field.{Field}
use Rattle.spec_laws.specs.Tags.{and_left, and_right}
use Rattle.spec_laws.specs.Trees.{Bytes, numbers_few}
use Rattle.parsing.specs.Parsed.{FieldAt, Parsed, parsed_none, parsed_more, ParsedFile}
use Rattle.parsing.specs.Fields.{only_tag}
use Rattle.parsing.specs.Files.{file_parsed}
use Rattle.bound_laws.specs.NumbersFit.{tag_most}
use Rattle.readback_laws.proofs.Length.{complete, record_complete}
use Rattle.readback_laws.specs.Written.{numbers_from}

-- the bytes from one offset to another
abbrev Cut : List ℕ → ℕ → List ℕ → ℕ → Type 0
Cut f at bs next = drop at f ≡ bs ++ drop next f

cut_then : (f : List ℕ) (at mid next : ℕ) (xs ys : List ℕ) → Cut f at xs mid → Cut f mid ys next → Cut f at (xs ++ ys) next
cut_then f at mid next xs ys p q = p ∙ ap (λ (zs : List ℕ). xs ++ zs) q ∙ sym (append_assoc xs ys (drop next f))

-- those of a field
abbrev numbers_in : Field → List ℕ
numbers_in x = take (numbers_of x.tag) (x.a ∷ x.b ∷ x.c ∷ x.d ∷ [])

-- ---- a field

module _ (f : List ℕ) (bytes : Bytes f) where
  two_cut : (at : ℕ) → at + 2 ≤ length f → drop at f ≡ two f at / 256 ∷ two f at % 256 ∷ drop (at + 2) f
  unfolding two
  two_cut at l =
      let hi = bytes at in
      let lo = bytes (at + 1) in
      let e₁ : (get_or f at 0 * 256 + get_or f (at + 1) 0) / 256 ≡ get_or f at 0 = omega arith in
      let e₂ : (get_or f at 0 * 256 + get_or f (at + 1) 0) % 256 ≡ get_or f (at + 1) 0 = omega arith in
      let n₁ : suc at ≡ at + 1 = omega arith in
      let n₂ : suc (at + 1) ≡ at + 2 = omega arith in
      rw (e₁, e₂)
      (drop-cons f at 0 (omega arith)
      ∙ ap (λ (n : ℕ). get_or f at 0 ∷ drop n f) n₁
      ∙ ap (λ (xs : List ℕ). get_or f at 0 ∷ xs) (drop-cons f (at + 1) 0 (omega arith) ∙ ap (λ (n : ℕ). get_or f (at + 1) 0 ∷ drop n f) n₂))

  numbers_cut : (n at : ℕ) → at + 2 * n ≤ length f → Cut f at (two_bytes (numbers_from f at n)) (at + 2 * n)
  unfolding numbers_from two_bytes
  numbers_cut zero at l = let e : at ≡ at + 0 = omega arith in ap (λ (i : ℕ). drop i f) e
  numbers_cut (suc n) at l =
      let e : at + 2 + 2 * n ≡ at + 2 * suc n = omega arith in
      two_cut at (omega arith)
      ∙ ap (λ (xs : List ℕ). two f at / 256 ∷ two f at % 256 ∷ xs)
      (subst (λ (i : ℕ). Cut f (at + 2) (two_bytes (numbers_from f (at + 2) n)) i) e (numbers_cut n (at + 2) (omega arith)))

  -- at most four numbers
  four : (at len : ℕ) → len ≤ 4
      → take len (number f at len 0 ∷ number f at len 1 ∷ number f at len 2 ∷ number f at len 3 ∷ []) ≡ numbers_from f (at + 3) len
  unfolding number numbers_from
  four at zero l = refl
  four at (suc zero) l = let e₀ : at + 3 + 0 ≡ at + 3 = omega arith in rw e₀
  four at (suc (suc zero)) l = let e₀ : at + 3 + 0 ≡ at + 3 = omega arith in rw e₀
  four at (suc (suc (suc zero))) l =
      let e₀ : at + 3 + 0 ≡ at + 3 = omega arith in
      let e₄ : at + 3 + 2 + 2 ≡ at + 3 + 4 = omega arith in
      rw (e₀, e₄)
  four at (suc (suc (suc (suc zero)))) l =
      let e₀ : at + 3 + 0 ≡ at + 3 = omega arith in
      let e₆ : at + 3 + 2 + 2 + 2 ≡ at + 3 + 6 = omega arith in
      let e₄ : at + 3 + 2 + 2 ≡ at + 3 + 4 = omega arith in
      rw (e₀, e₆, e₄)
  four at (suc (suc (suc (suc (suc n))))) l = absurd (omega arith)

  from_length : (n at : ℕ) → length (numbers_from f at n) ≡ n
  unfolding numbers_from
  from_length zero at = refl
  from_length (suc n) at = ap suc (from_length n (at + 2))

  -- those of a record
  few_numbers : (at : ℕ) → (field_of f at).tag ≤ 29 → numbers_in (field_of f at) ≡ numbers_from f (at + 3) (numbers_of (field_of f at).tag)
  unfolding field_of
  few_numbers at l = let t = get_or f at 0 in four at (numbers_of t) (numbers_few t (ne_eqb t Tag.Symbol (λ e. omega arith)))

  -- A FIELD THAT IS READ is tag, length and numbers as they are written.
  field_cut : {p : Place} {at : ℕ} → FieldAt f p at
      → let x = field_of f at in Cut f at (field x.tag (numbers_from f (at + 3) (numbers_of x.tag))) x.next
  unfolding field_of field_bytes field two_bytes
  field_cut {p} {at} y =
      let t = get_or f at 0 in
      let len = numbers_of t in
      let whole = y.ends in
      let next : at + 3 + 2 * len ≡ at + (3 + 2 * len) = omega arith in
      let a₁ : suc at ≡ at + 1 = omega arith in
      let a₃ : at + 1 + 2 ≡ at + 3 = omega arith in
      let head = drop-cons f at 0 (omega arith) ∙ ap (λ (n : ℕ). t ∷ drop n f) a₁ in
      let size = rw (y.sized, a₃) at (two_cut (at + 1) (omega arith)) in
      let rest = numbers_cut len (at + 3) (omega arith) in
      rw (from_length len (at + 3), ← next)
      (head ∙ ap (λ (xs : List ℕ). t ∷ xs) (size ∙ ap (λ (xs : List ℕ). 2 * len / 256 ∷ 2 * len % 256 ∷ xs) rest))

-- ---- records

-- own numbers and n are all
all_numbers : (own : ℕ) (c : Bool) (x y z u : ℕ) → own ≤ 3
    → take own ((if ltb 0 own then x else 0) ∷ (if ltb 1 own then y else 0) ∷ (if ltb 2 own then z else 0) ∷ [])
    ++ (if c then (if not c then 0 else if eqb own 0 then x else if eqb own 1 then y else if eqb own 2 then z else u) ∷ [] else [])
    ≡ take (own + (if c then 1 else 0)) (x ∷ y ∷ z ∷ u ∷ [])
all_numbers zero true x y z u l = refl
all_numbers zero false x y z u l = refl
all_numbers (suc zero) true x y z u l = refl
all_numbers (suc zero) false x y z u l = refl
all_numbers (suc (suc zero)) true x y z u l = refl
all_numbers (suc (suc zero)) false x y z u l = refl
all_numbers (suc (suc (suc zero))) true x y z u l = refl
all_numbers (suc (suc (suc zero))) false x y z u l = refl
all_numbers (suc (suc (suc (suc n)))) c x y z u l = absurd (omega arith)

record_numbers_lem : (x : Field) → x.tag ≤ 29 → record_numbers (row (head_of x) (children_of x)) ≡ numbers_in x
unfolding record_numbers head_of children_of complete
record_numbers_lem x e =
    let t = x.tag in
    let c = record_complete t (le-leb t 29 e) in
    let few = leb (own_numbers t) 3 in
    let all = eqb (own_numbers t + (if has_children t then 1 else 0)) (numbers_of t) in
    let n = eqb-true _ (numbers_of t) (and_right few all c) in
    rw (← n) (all_numbers (own_numbers t) (has_children t) x.a x.b x.c x.d (leb-true (own_numbers t) 3 (and_left few all c)))

fields_++ : (rs qs : List Row) → record_fields (rs ++ qs) ≡ record_fields rs ++ record_fields qs
unfolding record_fields
fields_++ [] qs = refl
fields_++ (r ∷ rs) qs =
    let x = field r.head.tag (record_numbers r) in
    ap (λ (bs : List ℕ). x ++ bs) (fields_++ rs qs) ∙ sym (append_assoc x (record_fields rs) (record_fields qs))

-- a record as it stands in the tree
record_of : (x : Field) (h : Head) (n : ℕ) → h ≡ head_of x → n ≡ children_of x → x.tag ≤ 29
    → field h.tag (record_numbers (row h n)) ≡ field x.tag (numbers_in x)
unfolding head_of
record_of x h n e d t = rw (e, d) (ap (field x.tag) (record_numbers_lem x t))

module _ (f : List ℕ) (bytes : Bytes f) (syms : ℕ) where
  records_cut : {place : ℕ → Place} {i cur at next : ℕ} {m n : List ℕ} {t : Forest} → Parsed f syms place i cur at m t next n
      → Cut f at (record_fields (flatten t)) next
  unfolding flatten record_fields
  records_cut parsed_none = refl
  records_cut (parsed_more {place} {i} {cur} {at} {mid} {next} {m} {n} {o} {h} {k} {r} y ks rs) =
      let x = field_of f at in
      let low = tag_most (leb x.tag Tag.Step) (place i) syms x refl y.numbers in
      let own = record_of x h (count k) y.head y.children low in
      let ns = numbers_from f (at + 3) (numbers_of x.tag) in
      rw (own, few_numbers f bytes at low, fields_++ (flatten k) (flatten r))
      (cut_then f at x.next next (field x.tag ns) _ (field_cut f bytes y.field)
      (cut_then f x.next mid next (record_fields (flatten k)) _ (records_cut ks) (records_cut rs)))

-- ---- rows

two_numbers : (f : List ℕ) (at : ℕ) → numbers_from f (at + 3) 2 ≡ two f (at + 3) ∷ two f (at + 5) ∷ []
unfolding numbers_from
two_numbers f at = let e₂ : at + 3 + 2 ≡ at + 5 = omega arith in rw e₂

five_numbers : (f : List ℕ) (at : ℕ)
    → numbers_from f (at + 3) 5 ≡ two f (at + 3) ∷ two f (at + 5) ∷ two f (at + 7) ∷ two f (at + 9) ∷ two f (at + 11) ∷ []
unfolding numbers_from
five_numbers f at =
    let e₈ : at + 3 + 2 + 2 + 2 + 2 ≡ at + 11 = omega arith in
    let e₆ : at + 3 + 2 + 2 + 2 ≡ at + 9 = omega arith in
    let e₄ : at + 3 + 2 + 2 ≡ at + 7 = omega arith in
    let e₂ : at + 3 + 2 ≡ at + 5 = omega arith in
    rw (e₈, e₆, e₄, e₂)

module _ (f : List ℕ) (bytes : Bytes f) where
  -- a field of a known tag, by its numbers
  known_cut : {p : Place} (at t : ℕ) (ns : List ℕ) → FieldAt f p at → (field_of f at).tag ≡ t → numbers_from f (at + 3) (numbers_of t) ≡ ns
      → Cut f at (field t ns) (at + field_bytes t)
  known_cut at t ns y e n =
      subst (λ (i : ℕ). Cut f at (field t ns) i) (y.bytes ∙ ap (λ (u : ℕ). at + field_bytes u) e)
      (subst (λ (bs : List ℕ). Cut f at bs (field_of f at).next)
      (ap₂ field e (ap (λ (u : ℕ). numbers_from f (at + 3) (numbers_of u)) e ∙ n)) (field_cut f bytes y))

  settings_cut : FieldAt f Settings 0 → Cut f 0 (field Tag.Settings (two f 3 ∷ two f 5 ∷ [])) 7
  unfolding tags_of field_bytes numbers_of
  settings_cut y =
      let t = only_tag Tag.Settings refl y in
      known_cut 0 Tag.Settings _ y t (two_numbers f 0)

  scope_cut : (at : ℕ) → FieldAt f ScopeRow at → Cut f at (field Tag.Scope (two f (at + 3) ∷ two f (at + 5) ∷ [])) (at + 7)
  unfolding tags_of field_bytes numbers_of
  scope_cut at y =
      let t = only_tag Tag.Scope refl y in
      known_cut at Tag.Scope _ y t (two_numbers f at)

  symbol_cut : (at : ℕ) → FieldAt f SymbolRow at
      → Cut f at (field Tag.Symbol (two f (at + 3) ∷ two f (at + 5) ∷ two f (at + 7) ∷ two f (at + 9) ∷ two f (at + 11) ∷ [])) (at + symbol_bytes)
  unfolding tags_of field_bytes numbers_of
  symbol_cut at y =
      let t = only_tag Tag.Symbol refl y in
      known_cut at Tag.Symbol _ y t (five_numbers f at)

  -- the rows behind the first
  behind : {p : Place} (width from n : ℕ) → ((j : ℕ) → j < suc n → FieldAt f p (from + width * j))
      → (j : ℕ) → j < n → FieldAt f p (from + width + width * j)
  behind {p} width from n rows j l =
      let e : from + width * suc j ≡ from + width + width * j = omega arith in
      subst (FieldAt f p) e (rows (suc j) (omega arith))

  first : {p : Place} (width from n : ℕ) → ((j : ℕ) → j < suc n → FieldAt f p (from + width * j)) → FieldAt f p from
  first {p} width from n rows =
      let e : from + width * 0 ≡ from = omega arith in
      subst (FieldAt f p) e (rows 0 (omega arith))

  scopes_cut : (n s : ℕ) → ((j : ℕ) → j < n → FieldAt f ScopeRow (scope_bytes * s + scope_bytes * j))
      → Cut f (scope_bytes * s) (scope_fields (scopes_in f n s)) (scope_bytes * s + scope_bytes * n)
  unfolding scopes_in scope_fields parent_in
  scopes_cut zero s rows = let e : scope_bytes * s ≡ scope_bytes * s + 0 = omega arith in ap (λ (i : ℕ). drop i f) e
  scopes_cut (suc n) s rows =
      let e : scope_bytes * s + scope_bytes ≡ scope_bytes * suc s = omega arith in
      let d : scope_bytes * suc s + scope_bytes * n ≡ scope_bytes * s + scope_bytes * suc n = omega arith in
      let rest = scopes_cut n (suc s) (subst (λ (a : ℕ). (j : ℕ) → j < n → FieldAt f ScopeRow (a + scope_bytes * j)) e (behind scope_bytes (scope_bytes * s) n rows)) in
      let row = field Tag.Scope (two f (scope_bytes * s + 3) ∷ two f (scope_bytes * s + 5) ∷ []) in
      cut_then f (scope_bytes * s) (scope_bytes * suc s) (scope_bytes * s + scope_bytes * suc n) row (scope_fields (scopes_in f n (suc s)))
      (subst (λ (i : ℕ). Cut f (scope_bytes * s) row i) e (scope_cut (scope_bytes * s) (first scope_bytes (scope_bytes * s) n rows)))
      (subst (λ (i : ℕ). Cut f (scope_bytes * suc s) (scope_fields (scopes_in f n (suc s))) i) d rest)

  -- no count is wrong: the first is right, and so are those behind it
  right_counts : (b : Bool) (count : ℕ → ℕ) (n y at : ℕ) → eqb (two f (at + 11)) (count y) ≡ b
      → suc n ≤ (if b then 1 + wrong_count f count n (suc y) (at + symbol_bytes) else 0)
      → (two f (at + 11) ≡ count y) × (n ≤ wrong_count f count n (suc y) (at + symbol_bytes))
  right_counts true count n y at e l = (eqb-true _ _ e, omega arith)
  right_counts false count n y at e l = absurd (omega arith)

  symbols_cut : (count : ℕ → ℕ) (n y from : ℕ) → ((j : ℕ) → j < n → FieldAt f SymbolRow (from + symbol_bytes * j))
      → n ≤ wrong_count f count n y from
      → Cut f from (symbol_fields count y (symbols_in f n from)) (from + symbol_bytes * n)
  unfolding symbols_in symbol_fields wrong_count
  symbols_cut count zero y from rows right = let e : from ≡ from + 0 = omega arith in ap (λ (i : ℕ). drop i f) e
  symbols_cut count (suc n) y from rows right =
      let d : from + symbol_bytes + symbol_bytes * n ≡ from + symbol_bytes * suc n = omega arith in
      let c = right_counts (eqb (two f (from + 11)) (count y)) count n y from refl right in
      let row = field Tag.Symbol (two f (from + 3) ∷ two f (from + 5) ∷ two f (from + 7) ∷ two f (from + 9) ∷ count y ∷ []) in
      let rest = symbol_fields count (suc y) (symbols_in f n (from + symbol_bytes)) in
      cut_then f from (from + symbol_bytes) (from + symbol_bytes * suc n) row rest
      (rw c.0 at (symbol_cut from (first symbol_bytes from n rows)))
      (subst (λ (i : ℕ). Cut f (from + symbol_bytes) rest i) d
      (symbols_cut count n (suc y) (from + symbol_bytes) (behind symbol_bytes from n rows) c.1))

-- ---- the file

no_more : (f : List ℕ) → drop (length f) f ≡ []
no_more [] = refl
no_more (x ∷ f) = no_more f

parsed_written : (f : List ℕ) (g : File) → Bytes f → ParsedFile f g → written g ≡ f
unfolding written
parsed_written f g bytes q =
    let head = field Tag.Settings (two f 3 ∷ two f 5 ∷ []) in
    let ss = scope_fields (scopes_in f q.scope_number_lem 1) in
    let counts : ℕ → ℕ = λ y. mentions y g.tree in
    let ys = symbol_fields counts 1 (symbols_in f q.symbol_number_lem q.first) in
    let rs = record_fields (flatten g.tree) in
    let scopes : Cut f 7 ss q.first =
    subst (λ (i : ℕ). Cut f 7 ss i) (sym q.scope_rows.next_is) (scopes_cut f bytes q.scope_number_lem 1 q.scope_rows.field) in
    let symbols : Cut f q.first ys q.root =
    subst (λ (i : ℕ). Cut f q.first ys i) (sym q.symbol_rows.next_is)
    (symbols_cut f bytes counts q.symbol_number_lem 1 q.first q.symbol_rows.field q.all_counted_lem) in
    let whole : f ≡ (head ++ (ss ++ (ys ++ rs))) ++ drop (length f) f =
    cut_then f 0 7 (length f) head (ss ++ (ys ++ rs)) (settings_cut f bytes q.settings)
    (cut_then f 7 q.first (length f) ss (ys ++ rs) scopes
    (cut_then f q.first q.root (length f) ys rs symbols (records_cut f bytes q.symbol_number_lem q.tree))) in
    rw (q.mode, q.esm, q.scopes, q.symbols) (sym (whole ∙ ap (λ (xs : List ℕ). (head ++ (ss ++ (ys ++ rs))) ++ xs) (no_more f) ∙ append-nil _))

-- AN ACCEPTED FILE IS WRITTEN AS IT WAS READ.
pub file_written : (bytes : List ℕ) (f : File) → Bytes bytes → read_file bytes ≡ Ok f → written f ≡ bytes
file_written bytes f b e = parsed_written bytes f b (file_parsed bytes f e)
