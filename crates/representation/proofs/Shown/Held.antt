-- Tables that hold where the walk stands show its tree, its scopes and its symbols.
-- Assumes nothing.
use Rattle.std.specs.Prelude.{◌≡◌, length, get_or, drop}
use Rattle.std.proofs.Math.Path.{refl, ap₂}
use Rattle.std.proofs.Common.{sym, ap, subst, ◌∙◌, arith, length-append}
use mathlib.Core.List.{List, [], ◌∷◌, ◌++◌, append_assoc, append-nil}
use Prim.Native.Nat.{ℕ, zero, suc, ◌+◌, ◌*◌, ◌-◌}
use Rattle.std.proofs.Math.Seq.{append_snoc}
use Rattle.tables.specs.Columns.SymbolTable
use Rattle.meaning.specs.Tree.{Forest, none, more, count, size, ◌&◌, Row as Record, row, flatten}
use Rattle.meaning.specs.File.{Scope, Symbol}
use Rattle.meaning.specs.Scoping.{no_symbol}
use Rattle.meaning.specs.Walk.{Crumb, crumb, Spot, at, leaving, over, plug, tree_at, store_at}
use Rattle.tables.specs.Table.{head_f}
use Rattle.tables.specs.declared.Row.{Row}
use Rattle.representation.specs.Gap.Cells.{table, free, rows_of, length_free, count_&}
use Rattle.representation.proofs.Gap.Rows.{row_at_lem, length_snoc}
use Rattle.representation.specs.Store.Held.{scope_cells, symbol_cells}
use Rattle.representation.specs.Spots.Spots.{open_rows_of, after_rows_of, opens_at, visited_at, rest_at, Rest, walk_at, held}
use Rattle.representation.specs.Shown.Shown.{list_from, record_in, records_in, scope_in, scopes_in, symbol_in, symbols_in}

-- ---- what rows show

-- the records in rows; the last two columns are the walk's
unfoldable shown_in : List Row → List Record
shown_in [] = []
shown_in (r ∷ rs) = row (head_f r) r.n ∷ shown_in rs

shown_++ : (rs qs : List Row) → shown_in (rs ++ qs) ≡ shown_in rs ++ shown_in qs
unfolding shown_in
shown_++ [] qs = refl
shown_++ (r ∷ rs) qs = rw (shown_++ rs qs)

-- the rows of a table behind others
records_at_lem : (z : List ℕ) (a v w : List Row) → list_from (record_in (table (a ++ (v ++ w)) z)) (length a) (length v) ≡ shown_in v
unfolding list_from shown_in
records_at_lem z a [] w = refl
records_at_lem z a (x ∷ v) w =
    ap₂ ◌∷◌
    (ap (λ (r : Row). row (head_f r) r.n) (row_at_lem z a x (v ++ w)))
    (rw (← length_snoc a x)
    (subst (λ (u : List Row). list_from (record_in (table u z)) (length (a ++ x ∷ [])) (length v) ≡ shown_in v)
    (append_snoc a x (v ++ w)) (records_at_lem z (a ++ x ∷ []) v w)))

-- ---- the tree

flatten_& : (f g : Forest) → flatten (f & g) ≡ flatten f ++ flatten g
unfolding flatten ◌&◌
flatten_& none g = refl
flatten_& (more h k r) g = rw (flatten_& r g, append_assoc)

-- the records in file order are all there are
pub flatten_size : (f : Forest) → length (flatten f) ≡ size f
unfolding flatten size
flatten_size none = refl
flatten_size (more h k r) = omega (arith, length-append (flatten k) (flatten r), flatten_size k, flatten_size r)

shown_rows : (f : Forest) → shown_in (rows_of f) ≡ flatten f
unfolding shown_in rows_of flatten
shown_rows none = refl
shown_rows (more h k r) = rw (shown_++, shown_rows k, shown_rows r)

-- a forest at the end of a path: the open rows, its records, and what comes after are the whole tree
shown_plug : (path : List Crumb) (f : Forest) (n left : ℕ) → n ≡ count f
    → shown_in (open_rows_of path n left) ++ (flatten f ++ shown_in (after_rows_of path)) ≡ flatten (plug f path)
unfolding open_rows_of after_rows_of plug shown_in flatten count
shown_plug [] f n left e = append-nil (flatten f)
shown_plug (crumb h before after ∷ path) f n left e =
    let beside = count before + suc (count after) in
    let i = shown_plug path (before & more h f after) beside (count after) (sym (count_& before (more h f after))) in
    simp (shown_++, shown_rows, append_assoc, e) (simp (flatten_&, append_assoc) at i)

-- the rows visited and those to visit
shown_tree : (s : Spot) → shown_in (visited_at s) ++ shown_in (rest_at s) ≡ flatten (tree_at s)
unfolding visited_at rest_at opens_at after_rows_of tree_at plug shown_in count
shown_tree (at done h k r path st) =
    let n = count done + suc (count r) in
    let i = shown_plug path (done & more h k r) n (suc (count r)) (sym (count_& done (more h k r))) in
    simp (shown_++, shown_rows, append_assoc) (simp (flatten_&, append_assoc) at i)
shown_tree (leaving kids h before after path st) =
    let i = shown_plug (crumb h before after ∷ path) kids (count kids) 0 refl in
    simp (shown_++, shown_rows, append_assoc) (simp (shown_++, shown_rows) at i)
shown_tree (over tree st) = rw (append-nil, shown_rows)

-- the free rows are passed over
rest_shown : (z : List ℕ) (a : List Row) (g : ℕ) (v : List Row)
    → list_from (record_in (table (a ++ (free g ++ v)) z)) (length a + g) (length a + g + length v - (length a + g)) ≡ shown_in v
rest_shown z a g v =
    let e : length (a ++ free g) ≡ length a + g = rw (length-append, length_free) in
    let c : length a + g + length v - (length a + g) ≡ length v = omega arith in
    rw c (rw (e, append-nil, append_assoc) at (records_at_lem z (a ++ free g) v []))

-- THE RECORDS are those of the tree.
pub held_records : (s : Spot) (g : ℕ) (z : Rest) → records_in (held s g z) ≡ flatten (tree_at s)
unfolding records_in held walk_at
held_records s g z =
    ap₂ ◌++◌ (records_at_lem z.records [] (visited_at s) (free g ++ rest_at s)) (rest_shown z.records (visited_at s) g (rest_at s))
    ∙ shown_tree s

-- ---- scopes and symbols

-- rows behind the first
module _ {A : Type 0} (f g : ℕ → A) (e : (k : ℕ) → f (k + 1) ≡ g k) where
  behind : (k n : ℕ) → list_from f (k + 1) n ≡ list_from g k n
  unfolding list_from
  behind k zero = refl
  behind k (suc n) = ap₂ ◌∷◌ (e k) (behind (k + 1) n)

next_scope_lem : (p f : ℕ) (t : List ℕ) (k : ℕ) → scope_in (p ∷ f ∷ t) (k + 1) ≡ scope_in t k
next_scope_lem p f t k =
    let e₀ : (k + 1) * 2 ≡ suc (suc (k * 2)) = omega arith in
    let e₁ : suc (suc (k * 2)) + 1 ≡ suc (suc (k * 2 + 1)) = omega arith in
    rw (e₀, e₁)

scopes_are : (ss : List Scope) (z : List ℕ) → list_from (scope_in (scope_cells ss z)) 0 (length ss) ≡ ss
unfolding list_from scope_cells
scopes_are [] z = refl
scopes_are (s ∷ ss) z =
    let t = scope_cells ss z in
    ap (◌∷◌ s) (behind _ (scope_in t) (next_scope_lem s.parent s.flags t) 0 (length ss) ∙ scopes_are ss z)

next_symbol_lem : (a b c d e : ℕ) (t : List ℕ) (k : ℕ) → symbol_in (a ∷ b ∷ c ∷ d ∷ e ∷ t) (k + 1) ≡ symbol_in t k
next_symbol_lem a b c d e t k =
    let e₀ : (k + 1) * SymbolTable.Numbers ≡ suc (suc (suc (suc (suc (k * SymbolTable.Numbers))))) = omega arith in
    let e₁ : suc (suc (suc (suc (suc (k * SymbolTable.Numbers))))) + 1 ≡ suc (suc (suc (suc (suc (k * SymbolTable.Numbers + 1))))) = omega arith in
    let e₂ : suc (suc (suc (suc (suc (k * SymbolTable.Numbers))))) + 2 ≡ suc (suc (suc (suc (suc (k * SymbolTable.Numbers + 2))))) = omega arith in
    let e₃ : suc (suc (suc (suc (suc (k * SymbolTable.Numbers))))) + 3 ≡ suc (suc (suc (suc (suc (k * SymbolTable.Numbers + 3))))) = omega arith in
    rw (e₀, e₁, e₂, e₃)

symbols_are : (ys rs : List Symbol) (z : List ℕ) → list_from (symbol_in (symbol_cells ys rs z)) 0 (length ys) ≡ ys
unfolding list_from symbol_cells
symbols_are [] rs z = refl
symbols_are (y ∷ ys) rs z =
    let t = symbol_cells ys (drop 1 rs) z in
    let r = (get_or rs 0 no_symbol).scope in
    ap (◌∷◌ y)
    (behind _ (symbol_in t) (next_symbol_lem y.name y.flags y.scope y.made r t) 0 (length ys) ∙ symbols_are ys (drop 1 rs) z)

-- THE SCOPES AND SYMBOLS are those of the store.
pub held_scopes : (s : Spot) (g : ℕ) (z : Rest) → scopes_in (held s g z) ≡ (store_at s).scopes
unfolding scopes_in held walk_at
held_scopes s g z = scopes_are (store_at s).scopes z.scopes

pub held_symbols : (s : Spot) (g : ℕ) (z : Rest) → symbols_in (held s g z) ≡ (store_at s).symbols
unfolding symbols_in held walk_at
held_symbols s g z = symbols_are (store_at s).symbols (store_at s).as_read z.symbols
