-- The bytes of tables that hold the end of a walk are 01's file.
-- Assumes nothing.
use Rattle.std.specs.Prelude.{if◌then◌else◌, ◌≡◌, Bool, true, false, take, drop, replicate, leb}
use Rattle.std.proofs.Math.Path.{refl, ap, ap₂}
use Rattle.std.proofs.Common.{sym, ◌∙◌, leb-true, eqb-true}
use mathlib.Core.List.{List, [], ◌∷◌, ◌++◌, map, append_assoc, map-append}
use Prim.Native.Nat.{ℕ, zero, suc, ◌+◌, ◌*◌, ◌-◌, ◌/◌, ◌%◌, ◌≤◌, ◌<◌}
use native.Mathlib.Omega.{arith}
use Rattle.std.proofs.Math.ListN.{length, get_or}
use Rattle.tables.specs.Columns.RecordTable
use Rattle.tables.specs.Columns.ScopeTable
use Rattle.tables.specs.Columns.SymbolTable
use Rattle.meaning.specs.Tree.{Head, Forest, none, more, count, row, flatten}
use Rattle.meaning.specs.Mentions.{mentions}
use Rattle.meaning.specs.File.{
  Scope,
  Symbol,
  numbers_of,
  has_children,
  own_numbers,
  two_bytes,
  field,
  record_numbers,
  scope_fields,
  symbol_fields,
  record_fields,
  written,
}
use Rattle.meaning.specs.Grammar.{is_row, scope_of}
use Rattle.meaning.specs.Scoping.{Store, no_scope, no_symbol}
use Rattle.meaning.specs.Agreement.{ScopesAgree}
use Rattle.meaning.specs.Renumbering.{scope_named, named_scopes, new_number, with_scope, renumbered_tree, renumbered_scope, renumbered_symbol, renumbered}
use Rattle.meaning.specs.Walk.{over, store_at, tree_at, file_at}
use Rattle.spec_laws.specs.Tags.{clash, and_left, and_right}
use Rattle.tables.specs.Table.{column_f, row_f, head_f, new_numbers_at, counts_at}
use Rattle.tables.specs.declared.Row.{Row}
use Rattle.path.specs.Path.{Tables}
use Rattle.renumbering.specs.Numbers.{number_in, named_in, numbered_f, with_scope_f, renumbered_row}
use Rattle.representation.specs.Gap.Cells.{table, free, line, rows_of}
use Rattle.representation.specs.Store.Held.{scope_cells, symbol_cells}
use Rattle.representation.specs.Spots.Spots.{Rest, visited_at, rest_at, walk_at, held}
use Rattle.writing.specs.Writing.{field_with, scope_field, symbol_field, own_or, record_field, rows_bytes, list_bytes, record_at, file_bytes}
use Rattle.bound_laws.specs.Numbers.{All}
use Rattle.readback_laws.specs.ReadBack.{is_record, Tagged}
use Rattle.readback_laws.proofs.Length.{complete, record_complete, numbers_length}
use Rattle.renumbering_laws.specs.Trees.{renumbered_count, renumbered_tagged, renumbered_mentions}
use Rattle.renumbering_laws.specs.Named.{named_rows_lem, no_zero, no_more}
use Rattle.lowering.specs.Numbered.{numbered_is, numbers_in_lem}

-- ---- rows behind the first

module _ (f g : ℕ → List ℕ) (e : (k : ℕ) → f (k + 1) ≡ g k) where
  behind : (k n : ℕ) → rows_bytes f (k + 1) n ≡ rows_bytes g k n
  unfolding rows_bytes
  behind k zero = refl
  behind k (suc n) = ap₂ ◌++◌ (e k) (behind (k + 1) n)

  behind_first : (n : ℕ) → rows_bytes f (0 + 1) n ≡ rows_bytes g 0 n
  behind_first n = behind 0 n

-- ---- scope rows

-- row j, counted from 0
cells_row : (ss : List Scope) (z : List ℕ) (j : ℕ) → j < length ss
    → (get_or (scope_cells ss z) (j * ScopeTable.Numbers) 0 ≡ (get_or ss j no_scope).parent)
    × (get_or (scope_cells ss z) (j * ScopeTable.Numbers + 1) 0 ≡ (get_or ss j no_scope).flags)
unfolding scope_cells
cells_row [] z j l = absurd (omega arith)
cells_row (s ∷ ss) z zero l = (refl, refl)
cells_row (s ∷ ss) z (suc j) l =
    let e₀ : suc j * ScopeTable.Numbers ≡ suc (suc (j * ScopeTable.Numbers)) = omega arith in
    let e₁ : suc (suc (j * ScopeTable.Numbers)) + 1 ≡ suc (suc (j * ScopeTable.Numbers + 1)) = omega arith in
    rw (e₀, e₁) (cells_row ss z j (omega arith))

module _ (new : ℕ → ℕ) (ss : List Scope) (z : List ℕ) where
  scope_is : (s : ℕ) → is_row (length ss) s ≡ true
      → let row = renumbered_scope new ss s in scope_field (scope_cells ss z) new s ≡ field 41 (row.parent ∷ row.flags ∷ [])
  unfolding scope_field renumbered_scope field_with numbers_of field
  scope_is zero e = absurd (clash refl e)
  scope_is (suc j) e =
      let row = cells_row ss z j (leb-true (suc j) (length ss) (and_right (leb 1 (suc j)) (leb (suc j) (length ss)) e)) in
      let d : suc j - 1 ≡ j = omega arith in
      rw (d, row.0, row.1)

  scopes_are : (order : List ℕ) → All (λ s. is_row (length ss) s ≡ true) order
      → list_bytes (scope_field (scope_cells ss z) new) order ≡ scope_fields (map (renumbered_scope new ss) order)
  unfolding list_bytes scope_fields
  scopes_are [] p = refl
  scopes_are (s ∷ order) p = ap₂ ◌++◌ (scope_is s p.0) (scopes_are order p.1)

-- ---- symbol rows

-- one with its count from a column, and the new number of its scope
unfoldable row_with : (ℕ → ℕ) → List ℕ → (ℕ → ℕ) → ℕ → List ℕ
row_with new t column k =
    let at = k * SymbolTable.Numbers in
    field_with 42 (get_or t at 0) (get_or t (at + 1) 0) (new (get_or t (at + 2) 0)) (get_or t (at + 3) 0) ++ two_bytes (column k ∷ [])

module _ (new : ℕ → ℕ) where
  next_symbol_lem : (a b c d e : ℕ) (t : List ℕ) (column : ℕ → ℕ) (k : ℕ)
      → row_with new (a ∷ b ∷ c ∷ d ∷ e ∷ t) column (k + 1) ≡ row_with new t (λ i. column (i + 1)) k
  unfolding row_with
  next_symbol_lem a b c d e t column k =
      let e₀ : (k + 1) * SymbolTable.Numbers ≡ suc (suc (suc (suc (suc (k * SymbolTable.Numbers))))) = omega arith in
      let e₁ : suc (suc (suc (suc (suc (k * SymbolTable.Numbers))))) + 1 ≡ suc (suc (suc (suc (suc (k * SymbolTable.Numbers + 1))))) = omega arith in
      let e₂ : suc (suc (suc (suc (suc (k * SymbolTable.Numbers))))) + 2 ≡ suc (suc (suc (suc (suc (k * SymbolTable.Numbers + 2))))) = omega arith in
      let e₃ : suc (suc (suc (suc (suc (k * SymbolTable.Numbers))))) + 3 ≡ suc (suc (suc (suc (suc (k * SymbolTable.Numbers + 3))))) = omega arith in
      rw (e₀, e₁, e₂, e₃)

  first_symbol_lem : (a b c d e : ℕ) (t : List ℕ) (column : ℕ → ℕ)
      → row_with new (a ∷ b ∷ c ∷ d ∷ e ∷ t) column 0 ≡ field 42 (a ∷ b ∷ new c ∷ d ∷ column 0 ∷ [])
  unfolding row_with field_with numbers_of field two_bytes
  first_symbol_lem a b c d e t column = refl

  -- rows whose counts are known, from row n on
  symbols_are : (count column : ℕ → ℕ) (n : ℕ) (ys rs : List Symbol) (z : List ℕ) → ((k : ℕ) → k < length ys → column k ≡ count (n + k))
      → rows_bytes (row_with new (symbol_cells ys rs z) column) 0 (length ys) ≡ symbol_fields count n (map (renumbered_symbol new) ys)
  unfolding rows_bytes symbol_cells symbol_fields renumbered_symbol
  symbols_are count column n [] rs z known = refl
  symbols_are count column n (y ∷ ys) rs z known =
      let t = symbol_cells ys (drop 1 rs) z in
      let r = (get_or rs 0 no_symbol).scope in
      let n₀ : n + 0 ≡ n = omega arith in
      let later : (k : ℕ) → k < length ys → column (k + 1) ≡ count (suc n + k) =
      λ k l. let s : suc n + k ≡ n + (k + 1) = omega arith in rw s (known (k + 1) (omega arith)) in
      ap₂ ◌++◌
      (first_symbol_lem y.name y.flags y.scope y.made r t column
      ∙ ap (λ (v : ℕ). field 42 (y.name ∷ y.flags ∷ new y.scope ∷ y.made ∷ v ∷ [])) (rw n₀ at (known 0 (omega arith))))
      (behind_first _ (row_with new t (λ i. column (i + 1))) (next_symbol_lem y.name y.flags y.scope y.made r t column) (length ys)
      ∙ symbols_are count (λ i. column (i + 1)) (suc n) ys (drop 1 rs) z later)

-- ---- records

unfoldable bytes_of : List Row → List ℕ
bytes_of [] = []
bytes_of (r ∷ rs) = record_field r ++ bytes_of rs

seven : (i f : ℕ) → (i + 1) * RecordTable.Numbers + f ≡ suc (suc (suc (suc (suc (suc (suc (i * RecordTable.Numbers + f)))))))
seven i f = omega arith

next_row_lem : (r : Row) (t : List ℕ) (k : ℕ) → row_f (r.tag ∷ r.a ∷ r.b ∷ r.c ∷ r.n ∷ r.up ∷ r.left ∷ t) (k + 1) ≡ row_f t k
unfolding row_f column_f
next_row_lem r t k = rw (seven k 0, seven k 1, seven k 2, seven k 3, seven k 4, seven k 5, seven k 6)

records_are : (new : ℕ → ℕ) (rs vs : List Row) (z : List ℕ)
    → rows_bytes (record_at (table (rs ++ vs) z) new) 0 (length rs) ≡ bytes_of (map (renumbered_row new) rs)
unfolding rows_bytes table bytes_of row_f column_f
records_are new [] vs z = refl
records_are new (r ∷ rs) vs z =
    let t = table (rs ++ vs) z in
    ap (◌++◌ (record_field (renumbered_row new r)))
    (behind_first _ (record_at t new) (λ k. ap (λ (x : Row). record_field (renumbered_row new x)) (next_row_lem r t k)) (length rs) ∙ records_are new rs vs z)

-- the scopes that rows name
unfoldable named_rows : List Row → List ℕ
named_rows [] = []
named_rows (r ∷ rs) = scope_named (head_f r) ++ named_rows rs

named_behind : (r : Row) (t : List ℕ) (k n : ℕ)
    → named_in (r.tag ∷ r.a ∷ r.b ∷ r.c ∷ r.n ∷ r.up ∷ r.left ∷ t) (k + 1) n ≡ named_in t k n
unfolding named_in
named_behind r t k zero = refl
named_behind r t k (suc n) = ap₂ ◌++◌ (ap (λ (x : Row). scope_named (head_f x)) (next_row_lem r t k)) (named_behind r t (k + 1) n)

named_are : (rs vs : List Row) (z : List ℕ) → named_in (table (rs ++ vs) z) 0 (length rs) ≡ named_rows rs
unfolding named_in table named_rows row_f column_f
named_are [] vs z = refl
named_are (r ∷ rs) vs z = ap (◌++◌ (scope_named (head_f r))) (first_behind r (table (rs ++ vs) z) (length rs) ∙ named_are rs vs z)
  where
    first_behind : (r : Row) (t : List ℕ) (n : ℕ)
        → named_in (r.tag ∷ r.a ∷ r.b ∷ r.c ∷ r.n ∷ r.up ∷ r.left ∷ t) (0 + 1) n ≡ named_in t 0 n
    first_behind r t n = named_behind r t 0 n

named_++ : (rs qs : List Row) → named_rows (rs ++ qs) ≡ named_rows rs ++ named_rows qs
unfolding named_rows
named_++ [] qs = refl
named_++ (r ∷ rs) qs = rw (named_++ rs qs, append_assoc)

named_tree : (f : Forest) → named_rows (rows_of f) ≡ named_scopes f
unfolding named_rows rows_of named_scopes
named_tree none = refl
named_tree (more h k r) =
    ap (◌++◌ (scope_named h)) (named_++ (rows_of k) (rows_of r) ∙ ap₂ ◌++◌ (named_tree k) (named_tree r))

bytes_++ : (rs qs : List Row) → bytes_of (rs ++ qs) ≡ bytes_of rs ++ bytes_of qs
unfolding bytes_of
bytes_++ [] qs = refl
bytes_++ (r ∷ rs) qs = rw (bytes_++ rs qs, append_assoc)

fields_++ : (rs qs : List Rattle.meaning.specs.Tree.Row) → record_fields (rs ++ qs) ≡ record_fields rs ++ record_fields qs
unfolding record_fields
fields_++ [] qs = refl
fields_++ (r ∷ rs) qs = rw (fields_++ rs qs, append_assoc)

-- a record's own numbers, and n behind them if it has children
own_numbers_lem : (own : ℕ) (has : Bool) (a b c n : ℕ) → own ≤ 3
    → take (own + (if has then 1 else 0)) (own_or own 0 a n ∷ own_or own 1 b n ∷ own_or own 2 c n ∷ n ∷ [])
    ≡ take own (a ∷ b ∷ c ∷ []) ++ (if has then n ∷ [] else [])
unfolding own_or
own_numbers_lem zero true a b c n h = refl
own_numbers_lem zero false a b c n h = refl
own_numbers_lem (suc zero) true a b c n h = refl
own_numbers_lem (suc zero) false a b c n h = refl
own_numbers_lem (suc (suc zero)) true a b c n h = refl
own_numbers_lem (suc (suc zero)) false a b c n h = refl
own_numbers_lem (suc (suc (suc zero))) true a b c n h = refl
own_numbers_lem (suc (suc (suc zero))) false a b c n h = refl
own_numbers_lem (suc (suc (suc (suc m)))) has a b c n h = absurd (omega arith)

record_is : (h : Head) (n : ℕ) → is_record h.tag ≡ true → record_field (line h n) ≡ field h.tag (record_numbers (row h n))
unfolding record_field field_with record_numbers complete field
record_is h n e =
    let t = h.tag in
    let c = record_complete t e in
    let few = leb (own_numbers t) 3 in
    let all = own_numbers t + (if has_children t then 1 else 0) in
    let small : t % 32 ≡ t = omega (arith, leb-true t 29 e) in
    let sum : all ≡ numbers_of t = eqb-true all (numbers_of t) (and_right few _ c) in
    let numbers = own_numbers_lem (own_numbers t) (has_children t) h.a h.b h.c n (leb-true (own_numbers t) 3 (and_left few _ c)) in
    rw small (ap₂ (λ (m : ℕ) (ns : List ℕ). t ∷ two_bytes (2 * m ∷ ns)) (sym (numbers_length (row h n) e)) (rw sum at numbers))

tree_is : (f : Forest) → Tagged f → bytes_of (rows_of f) ≡ record_fields (flatten f)
unfolding bytes_of rows_of flatten record_fields
tree_is none q = refl
tree_is (more h k r) q =
    ap₂ ◌++◌ (record_is h (count k) q.0)
    (bytes_++ (rows_of k) (rows_of r) ∙ (ap₂ ◌++◌ (tree_is k q.1) (tree_is r q.2) ∙ sym (fields_++ (flatten k) (flatten r))))

-- the rows of a tree, numbered anew, are those of the tree numbered anew
rows_renumbered : (new : ℕ → ℕ) (f : Forest) → map (renumbered_row new) (rows_of f) ≡ rows_of (renumbered_tree new f)
unfolding rows_of renumbered_tree renumbered_row with_scope_f
rows_renumbered new none = refl
rows_renumbered new (more h k r) =
    ap₂ ◌∷◌ (ap (line (with_scope h (new (scope_of h)))) (sym (renumbered_count new k)))
    (map-append (renumbered_row new) (rows_of k) (rows_of r) ∙ ap₂ ◌++◌ (rows_renumbered new k) (rows_renumbered new r))

-- ---- the file

-- THE BYTES of tables that hold the end of a walk, with the counts of its tree and zeros behind the scope rows, are the file as written, its
-- scopes numbered in tree order.
module _ (tree : Forest) (st : Store) (g : ℕ) (z : Rest) (m : ℕ) (tagged : Tagged tree) (agree : ScopesAgree st.scopes tree)
    (zeros : z.scopes ≡ replicate m 0)
    (room : length st.scopes ≤ (ScopeTable.Numbers * length st.scopes + m) / ScopeTable.Lent) where
  abbrev q : Tables
  q = held (over tree st) g z

  abbrev numbered : List ℕ
  numbered = numbered_f q.records q.walk.visited.0 q.scopes

  abbrev order : List ℕ
  order = named_scopes tree

  abbrev new : ℕ → ℕ
  new = new_number order

  named_order : named_in q.records 0 q.walk.visited.0 ≡ order
  unfolding held walk_at visited_at rest_at
  named_order = named_are (rows_of tree) (free g ++ []) z.records ∙ named_tree tree

  scopes_zero : q.scopes ≡ scope_cells st.scopes (replicate m 0)
  unfolding held store_at
  scopes_zero = ap (scope_cells st.scopes) zeros

  numbered_cells : (rest : List ℕ) × (numbered ≡ scope_cells st.scopes rest)
  numbered_cells =
      (_, ap (numbered_f q.records q.walk.visited.0) scopes_zero ∙ numbered_is st.scopes m room q.records q.walk.visited.0)

  new_numbers : number_in (drop (new_numbers_at numbered) numbered) ≡ new
  new_numbers =
      ap (λ (s : List ℕ). let t = numbered_f q.records q.walk.visited.0 s in number_in (drop (new_numbers_at t) t)) scopes_zero
      ∙ numbers_in_lem st.scopes m room q.records q.walk.visited.0 order named_order (no_zero st.scopes tree agree) (no_more st.scopes tree agree)

  scope_bytes_lem : list_bytes (scope_field numbered new) (named_in q.records 0 q.walk.visited.0) ≡ scope_fields (map (renumbered_scope new st.scopes) order)
  scope_bytes_lem =
      ap (list_bytes (scope_field numbered new)) named_order
      ∙ ap (λ (t : List ℕ). list_bytes (scope_field t new) order) numbered_cells.1
      ∙ scopes_are new st.scopes numbered_cells.0 order (named_rows_lem st.scopes tree agree)

  -- the symbols name as often as before
  same_counts : ◌≡◌ {A = ℕ → ℕ} (λ y. mentions y tree) (λ y. mentions y (renumbered_tree new tree))
  same_counts = λ i y. sym (renumbered_mentions new y tree) i

  module _ (known : (k : ℕ) → k < length st.symbols → get_or q.symbols (counts_at q.symbols + k) 0 ≡ mentions (1 + k) tree) where
    symbol_bytes_lem : rows_bytes (symbol_field q.symbols new) 0 (length st.symbols)
        ≡ symbol_fields (λ y. mentions y (renumbered_tree new tree)) 1 (map (renumbered_symbol new) st.symbols)
    unfolding held store_at symbol_field row_with
    symbol_bytes_lem =
        let t = symbol_cells st.symbols st.as_read z.symbols in
        let column : ℕ → ℕ = λ k. get_or t (counts_at t + k) 0 in
        symbols_are new (λ y. mentions y tree) column 1 st.symbols st.as_read z.symbols known
        ∙ ap (λ (c : ℕ → ℕ). symbol_fields c 1 (map (renumbered_symbol new) st.symbols)) same_counts

    record_bytes_lem : rows_bytes (record_at q.records new) 0 q.walk.visited.0 ≡ record_fields (flatten (renumbered_tree new tree))
    unfolding held walk_at visited_at rest_at
    record_bytes_lem =
        records_are new (rows_of tree) (free g ++ []) z.records
        ∙ ap bytes_of (rows_renumbered new tree)
        ∙ tree_is (renumbered_tree new tree) (renumbered_tagged new tree tagged)

    pub held_bytes : file_bytes q.records numbered q.symbols q.walk ≡ written (renumbered (file_at (over tree st)))
    unfolding file_bytes written file_at store_at tree_at renumbered walk_at held field_with numbers_of field
    held_bytes =
        ap (λ (n : ℕ → ℕ). bytes_by n) new_numbers
        ∙ ap (◌++◌ (field 40 (st.mode ∷ st.is_module ∷ []))) (ap₂ ◌++◌ scope_bytes_lem (ap₂ ◌++◌ symbol_bytes_lem record_bytes_lem))
      where
        bytes_by : (ℕ → ℕ) → List ℕ
        bytes_by n =
            field 40 (st.mode ∷ st.is_module ∷ [])
            ++ (list_bytes (scope_field numbered n) (named_in q.records 0 q.walk.visited.0)
            ++ (rows_bytes (symbol_field q.symbols n) 0 (length st.symbols) ++ rows_bytes (record_at q.records n) 0 q.walk.visited.0))
