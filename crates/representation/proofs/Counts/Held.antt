-- Counts behind the rows of a symbol table that holds a store.
-- Assumes nothing.
use Rattle.std.specs.Prelude.{◌≡◌, refl, ℕ, ◌+◌, ◌*◌, ◌-◌, ◌≤◌, length, get_or, drop, replicate}
use Rattle.std.proofs.Common.{sym, ap, ap₂, ◌∙◌, arith, take_at, drop_at}
use mathlib.Core.List.{List, [], ◌∷◌, ◌++◌, append_assoc, append-nil}
use Rattle.std.proofs.Math.ListN.{length-append}
use Rattle.std.proofs.lemmas.List.{replicate-append-replicate}
use Rattle.meaning.specs.Tree.{Head}
use Rattle.meaning.specs.File.{Symbol}
use Rattle.meaning.specs.Scoping.{no_symbol}
use Rattle.meaning.specs.Walk.{Spot, store_at}
use Rattle.tables.specs.Columns.SymbolTable
use Rattle.tables.specs.Table.{counts_at, counts_few}
use Rattle.tables.specs.Loops.{turns}
use Rattle.mentions.specs.Counters.{counting, next_row, on_counts}
use Rattle.mentions.specs.Sums.{all}
use Rattle.representation.specs.Gap.Cells.{free, length_free}
use Rattle.representation.specs.Store.Held.{symbol_cells}
use Rattle.representation.specs.Spots.Spots.{visited_at, rest_at, Rest, walk_at, held}
use Rattle.representation.proofs.Counts.Rows.{heads, some_rows}

-- the rest of the tables, with counts behind the symbol rows
abbrev pub with_counts : Rest → List ℕ → Rest
with_counts z c = record { records = z.records; scopes = z.scopes; symbols = z.symbols ++ c }

pub cells_++ : (ys rs : List Symbol) (z c : List ℕ) → symbol_cells ys rs (z ++ c) ≡ symbol_cells ys rs z ++ c
unfolding symbol_cells
cells_++ [] rs z c = refl
cells_++ (y ∷ ys) rs z c =
    ap (λ (t : List ℕ). y.name ∷ y.flags ∷ y.scope ∷ y.made ∷ (get_or rs 0 no_symbol).scope ∷ t) (cells_++ ys (drop 1 rs) z c)

pub cells_length : (ys rs : List Symbol) (z : List ℕ) → length (symbol_cells ys rs z) ≡ SymbolTable.Numbers * length ys + length z
unfolding symbol_cells
cells_length [] rs z = omega arith
cells_length (y ∷ ys) rs z = omega (arith, cells_length ys (drop 1 rs) z)

-- where the table is 0 behind m rows, so many are before the counts, and so many are counts
pub zeros_split : (y : List ℕ) (m : ℕ) → SymbolTable.Numbers * m ≤ counts_at y
    → replicate {A = ℕ} (length y - SymbolTable.Numbers * m) 0
    ≡ replicate {A = ℕ} (counts_at y - SymbolTable.Numbers * m) 0 ++ replicate {A = ℕ} (length y - counts_at y) 0
zeros_split y m h =
    let before = counts_at y - SymbolTable.Numbers * m in
    let counts = length y - counts_at y in
    let n : length y - SymbolTable.Numbers * m ≡ before + counts = omega (arith, counts_few y (counts_at y) refl) in
    ap (λ (k : ℕ). replicate {A = ℕ} k 0) n ∙ sym (replicate-append-replicate {A = ℕ} before counts 0)

-- counts behind other numbers
pub on_behind : (f : List ℕ → List ℕ) (a c : List ℕ) → counts_at (a ++ c) ≡ length a → on_counts f (a ++ c) ≡ a ++ f c
unfolding on_counts
on_behind f a c e = rw e (ap₂ ◌++◌ (take_at a c (length a) refl) (ap f (drop_at a c (length a) refl)))

-- THE COUNTS OF A HELD SPOT, changed
pub on_held : (f : List ℕ → List ℕ) (s : Spot) (g : ℕ) (z : Rest) (c : List ℕ)
    → counts_at (held s g (with_counts z c)).symbols ≡ length (held s g z).symbols
    → on_counts f (held s g (with_counts z c)).symbols ≡ (held s g (with_counts z (f c))).symbols
unfolding held
on_held f s g z c e =
    let st = store_at s in
    let rows = symbol_cells st.symbols st.as_read z.symbols in
    let split = cells_++ st.symbols st.as_read z.symbols in
    ap (on_counts f) (split c) ∙ on_behind f rows c (rw (split c) at e) ∙ sym (split (f c))

-- ---- rows of a held spot, one after the other

module _ (one : List ℕ → Head → List ℕ) (s : Spot) (g : ℕ) (z : Rest) where
  -- some of the visited ones
  pub some_visited : (ps qs ws : List Head) (t : List ℕ) (from many : ℕ) → heads (visited_at s) ≡ ps ++ (qs ++ ws) → from ≡ length ps
      → many ≡ length qs
      → (turns many (next_row one (held s g z).records) (counting t from)).t ≡ all one t qs
  unfolding held
  some_visited ps qs ws t from many e f m =
      some_rows one z.records [] (visited_at s) (free g ++ rest_at s) ps qs ws t from many e (omega arith) m

  -- those behind some of them
  pub visited_rows : (ps qs : List Head) (t : List ℕ) (from many : ℕ) → heads (visited_at s) ≡ ps ++ qs → from ≡ length ps → many ≡ length qs
      → (turns many (next_row one (held s g z).records) (counting t from)).t ≡ all one t qs
  visited_rows ps qs t from many e f m = some_visited ps qs [] t from many (e ∙ ap (◌++◌ ps) (sym (append-nil qs))) f m

  -- the first of those to visit
  pub rest_rows : (qs ws : List Head) (t : List ℕ) (many : ℕ) → heads (rest_at s) ≡ qs ++ ws → many ≡ length qs
      → (turns many (next_row one (held s g z).records) (counting t (held s g z).walk.gap.0)).t ≡ all one t qs
  unfolding held walk_at
  rest_rows qs ws t many e m =
      let before = visited_at s ++ free g in
      let rows : visited_at s ++ (free g ++ rest_at s) ≡ before ++ (rest_at s ++ []) = simp (append_assoc, append-nil) in
      rw rows
      (some_rows one z.records before (rest_at s) [] [] qs ws t _ many e (omega (arith, length-append (visited_at s) (free g), length_free g)) m)
