-- The counts of symbols that start leaves are those of the tree just read.
-- Assumes nothing.
use Rattle.std.specs.Prelude.{Ok, ◌≡◌, ℕ, ◌*◌, ◌-◌, ◌≤◌}
use Rattle.std.proofs.Math.Path.{sym, ap}
use Rattle.std.proofs.Common.{◌∙◌}
use mathlib.Core.List.{List, [], ◌++◌, append-nil}
use native.Mathlib.Omega.{arith}
use Rattle.std.proofs.Math.ListN.{length, replicate, length-append, length-replicate}
use Rattle.meaning.specs.Tree.{none}
use Rattle.meaning.specs.Mentions.{mentions}
use Rattle.meaning.specs.File.{File}
use Rattle.meaning.specs.Walk.{store_at, store_of, start}
use Rattle.meaning.specs.Lowering.{admit}
use Rattle.parsing.specs.Counts.{size_bytes}
use Rattle.charge_laws.proofs.Totals.Fits.{accepted_room}
use Rattle.tables.specs.Columns.SymbolTable
use Rattle.tables.specs.Table.{counts_at}
use Rattle.mentions.specs.Counters.{add_record_f, add_rows_f}
use Rattle.mentions.specs.Sums.{heads_of, two_a_record, counts_from, counted_tree}
use Rattle.path.specs.Path.{Tables, tables}
use Rattle.representation.specs.Spots.Spots.{rest_at, Rest, walk_at, held}
use Rattle.representation.proofs.Spots.Lengths.{store_settled}
use Rattle.representation.proofs.Counts.Rows.{heads_length}
use Rattle.representation.proofs.Counts.Heads.{after_heads, settle_stands}
use Rattle.representation.proofs.Counts.Held.{with_counts, cells_length, zeros_split, on_held, rest_rows}
use Rattle.start.specs.Start.{lent_in, free_rows, zeros_behind, counts_behind}
use Rattle.start.specs.Flat.{counted_f}
use Rattle.start.specs.Filled.{read_most, admitted}

module _ (bytes r s y : List ℕ) (f : File) (e : admit bytes (lent_in r s y) ≡ Ok f) where
  few_mentions : (n : ℕ) → mentions n f.tree ≤ 65535
  few_mentions n =
      let room = accepted_room bytes f (admitted bytes r s y f e).0 in
      omega (arith, two_a_record n f.tree, size_bytes f.tree, room.bytes)

  abbrev padding : ℕ
  padding = counts_at y - SymbolTable.Numbers * length f.symbols

  abbrev counters : ℕ
  counters = length y - counts_at y

  -- before the counts the table is 0
  abbrev padded : Rest
  padded =
      let z = zeros_behind f r s y in
      record { records = z.records; scopes = z.scopes; symbols = replicate padding 0 }

  rows_lent : SymbolTable.Numbers * length f.symbols ≤ counts_at y
  unfolding counts_at lent_in
  rows_lent = omega (arith, read_most f, (admitted bytes r s y f e).3)

  behind_split : zeros_behind f r s y ≡ with_counts padded (replicate counters 0)
  unfolding zeros_behind
  behind_split =
      let z = zeros_behind f r s y in
      λ i. record { records = z.records; scopes = z.scopes; symbols = zeros_split y (length f.symbols) rows_lent i }

  abbrev first : List ℕ → Tables
  first c = held (start f) (free_rows f) (with_counts padded c)

  -- where the counts stand
  counts_there : (c : List ℕ) → length c ≡ counters → counts_at (first c).symbols ≡ length (held (start f) (free_rows f) padded).symbols
  unfolding counts_at held start store_of
  counts_there c l =
      let z = replicate {A = ℕ} padding 0 in
      let st = store_at (start f) in
      let same : length st.symbols ≡ length f.symbols = rw (store_settled (store_of f) [] none f.tree) in
      omega (
        arith,
        cells_length st.symbols st.as_read (z ++ c),
        cells_length st.symbols st.as_read z,
        length-append z c,
        length-replicate {A = ℕ} padding 0,
        rows_lent,
      )

  -- all records of the tree are added
  rows_law : (c : List ℕ) → add_rows_f (first c).records (first c).walk.gap.0 (first c).walk.end.0 (replicate counters 0)
      ≡ counts_from (λ n. mentions n f.tree) counters 1
  unfolding add_rows_f start after_heads held walk_at
  rows_law c =
      let stands = settle_stands [] none f.tree (store_of f) in
      let rows = rest_at (start f) in
      let all_rows : length rows ≡ length (heads_of f.tree) = sym (heads_length rows) ∙ ap length (stands.rest ∙ append-nil (heads_of f.tree)) in
      rest_rows add_record_f (start f) (free_rows f) (with_counts padded c) (heads_of f.tree) [] (replicate counters 0) _ stands.rest (omega arith)
      ∙ counted_tree f.tree counters (λ n _. few_mentions n)

  -- THE COUNTS of the tree just read
  pub counted_law : counted_f (held (start f) (free_rows f) (zeros_behind f r s y)) ≡ held (start f) (free_rows f) (counts_behind f r s y)
  unfolding counted_f counts_behind held
  counted_law =
      let zeros = replicate {A = ℕ} counters 0 in
      let q = first zeros in
      let w = q.walk in
      let added = add_rows_f q.records w.gap.0 w.end.0 in
      ap (λ (z : Rest). counted_f (held (start f) (free_rows f) z)) behind_split
      ∙ ap (λ (t : List ℕ). tables q.records q.scopes t w)
      (on_held added (start f) (free_rows f) padded zeros (counts_there zeros (length-replicate counters 0)))
      ∙ ap (λ (c : List ℕ). tables q.records q.scopes (first c).symbols w) (rows_law zeros)
