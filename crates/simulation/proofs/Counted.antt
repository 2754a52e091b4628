-- A visit that keeps the counts of symbols leaves those of the tree after it.
-- Assumes nothing.
use Rattle.std.specs.Prelude.{◌≡◌, false, ℕ, zero, suc, ◌+◌, ◌*◌, ◌-◌, ◌/◌, ◌≤◌, ◌<◌}
use Rattle.std.proofs.Math.Path.{refl, sym, ap}
use Rattle.std.proofs.Common.{ap₂, ◌∙◌, zero-add, arith, length-append, get_or-append-add}
use mathlib.Core.List.{List, [], ◌∷◌, ◌++◌}
use Rattle.std.proofs.Math.ListN.{length, get_or}
use Rattle.meaning.specs.Tree.{size}
use Rattle.meaning.specs.Mentions.{mentions}
use Rattle.meaning.specs.Walk.{Spot, is_over, visit, tree_at, store_at}
use Rattle.meaning.specs.Charges.{Figures}
use Rattle.tables.specs.Columns.SymbolTable
use Rattle.tables.specs.Table.{counts_at}
use Rattle.mentions.specs.Counters.{add_record_f, take_record_f, add_rows_f, take_rows_f, on_counts}
use Rattle.mentions.specs.Sums.{
  named_by,
  named_++,
  all,
  all_length,
  record_added,
  record_taken,
  counter,
  added_at,
  taken_at,
  whole_sum,
  counts_from,
  known_counts,
  from_at,
  count_at,
  counts_length,
}
use Rattle.path.specs.Path.{Tables, tables}
use Rattle.representation.specs.Store.Held.{symbol_cells}
use Rattle.representation.specs.Spots.Spots.{visited_at, rest_at, Rest, walk_at, held}
use Rattle.representation.proofs.Counts.Rows.{heads, heads_length}
use Rattle.representation.proofs.Counts.Heads.{spot_mentions}
use Rattle.representation.proofs.Counts.Held.{with_counts, cells_++, cells_length, on_behind, visited_rows, rest_rows}
use Rattle.representation.specs.Shown.Shown.{list_from, counts_in}
use Rattle.scoping_laws.specs.Created.Held.{free_symbols}
use Rattle.walk.specs.Visit.{visit_f}
use Rattle.walk.specs.Counted.{part_f, discount_part_f, count_part_f, visit_counted_f, visit_steps}
use Rattle.simulation.proofs.Rewritten.Replaced.{with_free}
use Rattle.simulation.proofs.Rows.{rows_size}
use Rattle.simulation.proofs.Parts.{Parts, parts}
use Rattle.simulation.proofs.Visits.{held_in}

-- ---- counts behind free rows

pub free_++ : (n : ℕ) (z c : List ℕ) → free_symbols n (z ++ c) ≡ free_symbols n z ++ c
unfolding free_symbols
free_++ zero z c = refl
free_++ (suc n) z c = ap (λ (t : List ℕ). 0 ∷ 0 ∷ 0 ∷ 0 ∷ 0 ∷ t) (free_++ n z c)

free_length : (n : ℕ) (z : List ℕ) → length (free_symbols n z) ≡ SymbolTable.Numbers * n + length z
unfolding free_symbols
free_length zero z = omega arith
free_length (suc n) z = omega (arith, free_length n z)

placed_at : (t : List ℕ) (b n : ℕ) → length t ≡ b + n → (b + n) / SymbolTable.Lent * SymbolTable.Numbers ≡ b → counts_at t ≡ b
unfolding counts_at
placed_at t b n l e = rw l e

-- ---- sums

left_over : (m v r kept old old_rest behind c d e : ℕ) → m ≡ v + r → v ≡ kept + old → r ≡ old_rest + behind → c ≡ m → d ≡ c - old → e ≡ d - old_rest
    → e ≡ kept + behind
left_over m v r kept old old_rest behind c d e p q t u w y = omega arith

list_same : (f count : ℕ → ℕ) (n i y : ℕ) → ((j : ℕ) → j < n → f (i + j) ≡ count (y + j)) → list_from f i n ≡ counts_from count n y
unfolding list_from counts_from
list_same f count zero i y e = refl
list_same f count (suc n) i y e =
    let i₀ : i + 0 ≡ i = omega arith in
    let y₀ : y + 0 ≡ y = omega arith in
    ap₂ ◌∷◌ (rw (i₀, y₀) at (e 0 (omega arith)))
    (list_same f count n (i + 1) (suc y)
    (λ j l.
    let i₁ : i + 1 + j ≡ i + suc j = omega arith in
    let y₁ : suc y + j ≡ y + suc j = omega arith in
    rw (i₁, y₁) (e (suc j) (omega arith))))

-- The tables of a spot, with n counts behind x's symbol rows and z.
module _ (x : Figures) (z : Rest) (n : ℕ) where
  -- the numbers before the counts
  abbrev pub before : ℕ
  before = SymbolTable.Numbers * x.symbols + length z.symbols

  -- the counts stand where the table has them
  abbrev pub Placed : Type 0
  Placed = (before + n) / SymbolTable.Lent * SymbolTable.Numbers ≡ before

  abbrev pub with_in : List ℕ → Spot → Tables
  with_in c s = held_in x (with_counts z c) s

  -- THOSE OF ITS TREE
  abbrev pub counted_in : Spot → Tables
  counted_in s = with_in (counts_from (λ y. mentions y (tree_at s)) n 1) s

  -- ---- the symbol table

  module _ (s : Spot) (placed : Placed) (most : length (store_at s).symbols ≤ x.symbols) where
    -- the symbol rows, the free ones and z
    abbrev rows_before : List ℕ
    rows_before =
        let st = store_at s in
        symbol_cells st.symbols st.as_read (free_symbols (x.symbols - length st.symbols) z.symbols)

    before_long : length rows_before ≡ before
    before_long =
        let st = store_at s in
        let free = x.symbols - length st.symbols in
        cells_length st.symbols st.as_read (free_symbols free z.symbols) ∙ omega (arith, free_length free z.symbols)

    behind_rows : (c : List ℕ) → (with_in c s).symbols ≡ rows_before ++ c
    unfolding held
    behind_rows c =
        let st = store_at s in
        let free = x.symbols - length st.symbols in
        ap (symbol_cells st.symbols st.as_read) (free_++ free z.symbols c)
        ∙ cells_++ st.symbols st.as_read (free_symbols free z.symbols) c

    counts_there : (c : List ℕ) → length c ≡ n → counts_at (rows_before ++ c) ≡ before
    counts_there c l =
        let long : length (rows_before ++ c) ≡ before + n = length-append rows_before c ∙ omega (arith, before_long) in
        placed_at (rows_before ++ c) before n long placed

    -- the counts changed
    on_rows : (f : List ℕ → List ℕ) (c : List ℕ) → length c ≡ n → on_counts f (with_in c s).symbols ≡ (with_in (f c) s).symbols
    on_rows f c l = ap (on_counts f) (behind_rows c) ∙ on_behind f rows_before c (counts_there c l ∙ sym before_long) ∙ sym (behind_rows (f c))

    -- and read
    pub count_shown : (c : List ℕ) → length c ≡ n → (i : ℕ) → get_or (with_in c s).symbols (counts_at (with_in c s).symbols + i) 0 ≡ get_or c i 0
    count_shown c l i = rw (behind_rows c, counts_there c l, ← before_long) (get_or-append-add rows_before c i 0)

  pub on_counts_lem : (f : List ℕ → List ℕ) (c : List ℕ) (s : Spot) → Placed → length (store_at s).symbols ≤ x.symbols → length c ≡ n
      → on_counts f (with_in c s).symbols ≡ (with_in (f c) s).symbols
  on_counts_lem f c s placed most l = on_rows s placed most f c l

  -- ---- one visit

  module _ (s : Spot) (goes_on : is_over s ≡ false) (small : x.records ≤ 65535)
      (rows : (size (tree_at s) ≤ x.records) × (size (tree_at (visit s)) ≤ x.records)) where
    abbrev gap : ℕ
    gap = x.records - size (tree_at s)

    abbrev gap_after : ℕ
    gap_after = x.records - size (tree_at (visit s))

    -- what is behind the rows, with some counts
    abbrev behind : List ℕ → Rest
    behind c = with_free (x.scopes - length (store_at s).scopes) (x.symbols - length (store_at s).symbols) (with_counts z c)

    abbrev behind_after : List ℕ → Rest
    behind_after c =
        with_free (x.scopes - length (store_at (visit s)).scopes) (x.symbols - length (store_at (visit s)).symbols) (with_counts z c)

    abbrev now : Tables
    now = with_in [] s

    abbrev next : Tables
    next = with_in [] (visit s)

    part : Parts s gap (behind [])
    part = parts s gap (behind []) goes_on (omega (arith, rows_size s))

    abbrev from : ℕ
    from = (part_f now.records now.walk).from.0

    abbrev end : ℕ
    end = (part_f now.records now.walk).end.0

    visited_lengths : (length (visited_at s) ≡ length part.kept + length part.old)
        × (length (visited_at (visit s)) ≡ length part.kept + length part.new)
    visited_lengths = (
      sym (heads_length (visited_at s)) ∙ ap length part.visited ∙ length-append part.kept part.old,
      sym (heads_length (visited_at (visit s))) ∙ ap length part.visited_after ∙ length-append part.kept part.new,
    )

    rest_lengths : (length (rest_at s) ≡ length part.old_rest + length part.behind)
        × (length (rest_at (visit s)) ≡ length part.new_rest + length part.behind)
    rest_lengths = (
      sym (heads_length (rest_at s)) ∙ ap length part.rest ∙ length-append part.old_rest part.behind,
      sym (heads_length (rest_at (visit s))) ∙ ap length part.rest_after ∙ length-append part.new_rest part.behind,
    )

    -- the rows taken off, and those added
    take_visited : (c : List ℕ) → take_rows_f now.records from now.walk.visited.0 c ≡ all take_record_f c part.old
    unfolding take_rows_f held walk_at
    take_visited c =
        visited_rows take_record_f s gap (behind []) part.kept part.old c from _ part.visited part.from
        (omega (arith, visited_lengths.0, part.from))

    take_rest : (c : List ℕ) → take_rows_f now.records now.walk.gap.0 end c ≡ all take_record_f c part.old_rest
    unfolding take_rows_f
    take_rest c =
        rest_rows take_record_f s gap (behind []) part.old_rest part.behind c _ part.rest (omega (arith, part.end))

    add_visited : (c : List ℕ) → add_rows_f next.records from next.walk.visited.0 c ≡ all add_record_f c part.new
    unfolding add_rows_f held walk_at
    add_visited c =
        visited_rows add_record_f (visit s) gap_after (behind_after []) part.kept part.new c from _ part.visited_after part.from
        (omega (arith, visited_lengths.1, part.from))

    -- no row behind the part moves
    ends_there : end - next.walk.gap.0 ≡ length part.new_rest
    unfolding held walk_at
    ends_there = omega (arith, part.end, rest_lengths, rows_size s, rows_size (visit s), rows)

    add_rest : (c : List ℕ) → add_rows_f next.records next.walk.gap.0 end c ≡ all add_record_f c part.new_rest
    unfolding add_rows_f
    add_rest c = rest_rows add_record_f (visit s) gap_after (behind_after []) part.new_rest part.behind c _ part.rest_after ends_there

    -- ---- the counts

    abbrev counts : List ℕ
    counts = counts_from (λ y. mentions y (tree_at s)) n 1

    abbrev taken : List ℕ
    taken = all take_record_f (all take_record_f counts part.old) part.old_rest

    abbrev added : List ℕ
    added = all add_record_f (all add_record_f taken part.new) part.new_rest

    taken_length : length taken ≡ n
    taken_length =
        all_length take_record_f record_taken (all take_record_f counts part.old) part.old_rest
        ∙ all_length take_record_f record_taken counts part.old
        ∙ counts_length (λ y. mentions y (tree_at s)) n 1

    new_length : length (all add_record_f taken part.new) ≡ n
    new_length = all_length add_record_f record_added taken part.new ∙ taken_length

    -- what is left when the part is taken off
    left : (y : ℕ) → 1 ≤ y → y ≤ n → counter taken y ≡ named_by y part.kept + named_by y part.behind
    left y some in_table =
        let m = named_by y in
        let l₀ = counts_length (λ y. mentions y (tree_at s)) n 1 in
        let l₁ = all_length take_record_f record_taken counts part.old in
        let c₀ = count_at (λ y. mentions y (tree_at s)) n y some in_table in
        let c₁ = taken_at y some counts part.old (omega arith) in
        let c₂ = taken_at y some (all take_record_f counts part.old) part.old_rest (omega arith) in
        let v : m (heads (visited_at s)) ≡ m part.kept + m part.old = ap m part.visited ∙ named_++ y part.kept part.old in
        let r : m (heads (rest_at s)) ≡ m part.old_rest + m part.behind = ap m part.rest ∙ named_++ y part.old_rest part.behind in
        left_over _ _ _ _ _ _ _ _ _ _ (spot_mentions y s) v r c₀ c₁ c₂

    -- and the mentions of the tree after the visit
    after_mentions : (y : ℕ)
        → mentions y (tree_at (visit s)) ≡ named_by y part.kept + named_by y part.behind + named_by y part.new + named_by y part.new_rest
    after_mentions y =
        let m = named_by y in
        let v : m (heads (visited_at (visit s))) ≡ m part.kept + m part.new = ap m part.visited_after ∙ named_++ y part.kept part.new in
        let r : m (heads (rest_at (visit s))) ≡ m part.new_rest + m part.behind = ap m part.rest_after ∙ named_++ y part.new_rest part.behind in
        omega (arith, spot_mentions y (visit s), v, r)

    -- THE COUNTS after the visit are those of the tree.
    counts_after : ((y : ℕ) → 1 ≤ y → mentions y (tree_at (visit s)) ≤ 65535) → added ≡ counts_from (λ y. mentions y (tree_at (visit s))) n 1
    counts_after fits =
        known_counts (λ y. mentions y (tree_at (visit s))) n added (all_length add_record_f record_added (all add_record_f taken part.new) part.new_rest ∙ new_length)
        (λ y some in_table.
        let a = left y some in_table in
        let b = after_mentions y in
        let f = fits y some in
        let c₃ = whole_sum _ _ _ _ _ a (added_at y some taken part.new (omega (arith, taken_length)) (omega arith)) refl (omega arith) in
        whole_sum _ _ _ _ _ c₃ (added_at y some (all add_record_f taken part.new) part.new_rest (omega (arith, new_length)) (omega arith)) b f)

    -- ---- the tables

    module _ (placed : Placed) (most : (length (store_at s).symbols ≤ x.symbols) × (length (store_at (visit s)).symbols ≤ x.symbols)) where
      discounted : let q = counted_in s in discount_part_f q.records (part_f q.records q.walk) q.walk q.symbols ≡ (with_in taken s).symbols
      unfolding discount_part_f held
      discounted =
          let first = take_rows_f now.records from now.walk.visited.0 in
          let second = take_rows_f now.records now.walk.gap.0 end in
          let old = all take_record_f counts part.old in
          let l = counts_length (λ y. mentions y (tree_at s)) n 1 in
          ap (on_counts second) (on_counts_lem first counts s placed most.0 l ∙ ap (λ (c : List ℕ). (with_in c s).symbols) (take_visited counts))
          ∙ on_counts_lem second old s placed most.0 (all_length take_record_f record_taken counts part.old ∙ l)
          ∙ ap (λ (c : List ℕ). (with_in c s).symbols) (take_rest old)

      counted : let q = with_in taken (visit s) in count_part_f q.records (part_f now.records now.walk) q.walk q.symbols ≡ (with_in added (visit s)).symbols
      unfolding count_part_f held
      counted =
          let first = add_rows_f next.records from next.walk.visited.0 in
          let second = add_rows_f next.records next.walk.gap.0 end in
          let new = all add_record_f taken part.new in
          ap (on_counts second) (on_counts_lem first taken (visit s) placed most.1 taken_length ∙ ap (λ (c : List ℕ). (with_in c (visit s)).symbols) (add_visited taken))
          ∙ on_counts_lem second new (visit s) placed most.1 new_length
          ∙ ap (λ (c : List ℕ). (with_in c (visit s)).symbols) (add_rest new)

      -- A VISIT KEEPS THE COUNTS
      pub visit_counted : ((r : Rest) → visit_f (held_in x r s) ≡ held_in x r (visit s)) → ((y : ℕ) → 1 ≤ y → mentions y (tree_at (visit s)) ≤ 65535)
          → visit_counted_f (counted_in s) ≡ counted_in (visit s)
      unfolding held
      visit_counted visits fits =
          sym (visit_steps (counted_in s) (with_in taken (visit s)) _ _ _ refl (sym discounted) (sym (visits (with_counts z taken))) (sym counted))
          ∙ ap (λ (c : List ℕ). with_in c (visit s)) (counts_after fits)

  -- ---- what a reader finds

  module _ (s : Spot) (placed : Placed) (most : length (store_at s).symbols ≤ x.symbols) where
    -- THE COUNTS of the symbol rows are those of the tree.
    pub counts_shown : length (store_at s).symbols ≤ n
        → counts_in (counted_in s) ≡ counts_from (λ y. mentions y (tree_at s)) (length (store_at s).symbols) 1
    unfolding counts_in held walk_at
    counts_shown few =
        let counts = counts_from (λ y. mentions y (tree_at s)) n 1 in
        list_same _ _ (length (store_at s).symbols) 0 1
        (λ i l.
        count_shown s placed most counts (counts_length (λ y. mentions y (tree_at s)) n 1) (0 + i)
        ∙ ap (λ (j : ℕ). get_or counts j 0) (zero-add i)
        ∙ from_at (λ y. mentions y (tree_at s)) n 1 i (omega arith))
