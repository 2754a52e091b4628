-- The visits on the tables that start leaves.
-- Assumes nothing.
use Rattle.std.specs.Prelude.{Ok, ◌≡◌, refl, List, [], ◌∷◌, ℕ, zero, suc, ◌+◌, ◌*◌, ◌-◌, ◌≤◌, replicate}
use Rattle.std.proofs.Common.{ap, ◌∙◌, zero-add, arith}
use Rattle.std.proofs.Math.ListN.{length, length-replicate}
use Rattle.tables.specs.Columns.RecordTable
use Rattle.tables.specs.Table.{counts_at, counts_few}
use Rattle.mentions.specs.Sums.{counts_from}
use Rattle.tables.specs.Columns.SymbolTable
use Rattle.meaning.specs.Tree.{none, size, ◌&◌}
use Rattle.meaning.specs.Mentions.{mentions}
use Rattle.meaning.specs.File.{File}
use Rattle.meaning.specs.Walk.{Spot, store_of, start, visits, plug, tree_at, store_at}
use Rattle.meaning.specs.ImportLine.{completed}
use Rattle.meaning.specs.Charges.{final_figures}
use Rattle.meaning.specs.Lowering.{admit}
use Rattle.charge_laws.proofs.Counts.Figures.{settled}
use Rattle.charge_laws.proofs.Fit.Final.{never_above}
use Rattle.tables.specs.Loops.{turns}
use Rattle.representation.specs.Spots.Spots.{Rest, held}
use Rattle.representation.proofs.Spots.Lengths.{store_settled}
use Rattle.representation.proofs.Counts.Held.{zeros_split}
use Rattle.scoping_laws.specs.Created.Held.{free_scopes, free_symbols}
use Rattle.start.specs.Start.{lent_in, free_rows, zeros_behind, counts_behind}
use Rattle.start.specs.Filled.{admitted}
use Rattle.walk.specs.Visit.{visit_f}
use Rattle.simulation.proofs.Rows.{settled_size}
use Rattle.walk.specs.Call.{visit_call_f}
use Rattle.simulation.proofs.Visits.{held_in, at_spot, visits_hold_tables}
use Rattle.simulation.proofs.Counted.{free_++, Placed, with_in, counted_in}
use Rattle.simulation.proofs.Calls.{calls_hold_tables}

-- ---- its free rows

scope_zeros : (n m : ℕ) → replicate (2 * n + m) 0 ≡ free_scopes n (replicate m 0)
unfolding free_scopes
scope_zeros zero m = rw zero-add
scope_zeros (suc n) m =
    let e : 2 * suc n + m ≡ suc (suc (2 * n + m)) = omega arith in
    rw e (ap (λ (t : List ℕ). 0 ∷ 0 ∷ t) (scope_zeros n m))

symbol_zeros : (n m : ℕ) → replicate (SymbolTable.Numbers * n + m) 0 ≡ free_symbols n (replicate m 0)
unfolding free_symbols
symbol_zeros zero m = rw zero-add
symbol_zeros (suc n) m =
    let e : SymbolTable.Numbers * suc n + m ≡ suc (suc (suc (suc (suc (SymbolTable.Numbers * n + m))))) = omega arith in
    rw e (ap (λ (t : List ℕ). 0 ∷ 0 ∷ 0 ∷ 0 ∷ 0 ∷ t) (symbol_zeros n m))

-- behind the rows that it takes the tables are 0
abbrev pub zeros_after : File → List ℕ → List ℕ → List ℕ → Rest
zeros_after f r s y =
    let x = final_figures f in
    record {
      records = replicate (length r - RecordTable.Numbers * x.records) 0;
      scopes = replicate (length s - 2 * x.scopes) 0;
      symbols = replicate (length y - SymbolTable.Numbers * x.symbols) 0;
    }

-- and between these rows and the counts of symbols
abbrev pub zeros_before : File → List ℕ → List ℕ → List ℕ → Rest
zeros_before f r s y =
    let z = zeros_after f r s y in
    record {
      records = z.records;
      scopes = z.scopes;
      symbols = replicate (counts_at y - SymbolTable.Numbers * (final_figures f).symbols) 0;
    }

-- ---- the tables before the first visit

start_size : (f : File) → size (tree_at (start f)) ≡ size f.tree
unfolding start plug ◌&◌
start_size f = settled_size (store_of f) [] none f.tree

start_tree : (f : File) → tree_at (start f) ≡ f.tree
unfolding start plug ◌&◌
start_tree f = (settled [] none f.tree (store_of f)).0

start_store : (f : File) → store_at (start f) ≡ store_of f
unfolding start
start_store f = store_settled (store_of f) [] none f.tree

module _ (bytes r s y : List ℕ) (f : File) (e : admit bytes (lent_in r s y) ≡ Ok f) where
  started : held (start f) (free_rows f) (zeros_behind f r s y) ≡ held_in (final_figures f) (zeros_after f r s y) (start f)
  unfolding free_rows zeros_behind lent_in store_of visits
  started =
      let x = final_figures f in
      let st = start_store f in
      let l₁ : length (store_at (start f)).scopes ≡ length f.scopes = rw st in
      let l₂ : length (store_at (start f)).symbols ≡ length f.symbols = rw st in
      let m = never_above bytes f 0 (admitted bytes r s y f e).0 in
      let i = at_spot (start f) in
      let m₁ = x.scopes - length f.scopes in
      let m₂ = x.symbols - length f.symbols in
      let e₁ : length s - 2 * length f.scopes ≡ 2 * m₁ + (length s - 2 * x.scopes) = omega (arith, admitted bytes r s y f e, m, i) in
      let e₂ : length y - SymbolTable.Numbers * length f.symbols ≡ SymbolTable.Numbers * m₂ + (length y - SymbolTable.Numbers * x.symbols) = omega (arith, admitted bytes r s y f e, m, i) in
      rw (
        start_size f,
        l₁,
        l₂,
        e₁,
        e₂,
        scope_zeros m₁ (length s - 2 * x.scopes),
        symbol_zeros m₂ (length y - SymbolTable.Numbers * x.symbols),
      )

  -- THE VISITS AFTER START. If start admits a file, the tables that it leaves hold after any number of visits what 01 has after so many.
  pub visits_after_start : (k : ℕ)
      → turns k visit_f (held (start f) (free_rows f) (zeros_behind f r s y))
      ≡ held_in (final_figures f) (zeros_after f r s y) (visits k (start f))
  visits_after_start k = ap (turns k visit_f) started ∙ visits_hold_tables bytes f (admitted bytes r s y f e).0 k (zeros_after f r s y)

  -- ---- with the counts

  abbrev pub counters : ℕ
  counters = length y - counts_at y

  rows_lent : SymbolTable.Numbers * (final_figures f).symbols ≤ counts_at y
  unfolding counts_at lent_in
  rows_lent = omega (arith, (admitted bytes r s y f e).3)

  pub placed : Placed (final_figures f) (zeros_before f r s y) counters
  unfolding counts_at
  placed =
      let p = counts_at y - SymbolTable.Numbers * (final_figures f).symbols in
      let b : SymbolTable.Numbers * (final_figures f).symbols + length (replicate {A = ℕ} p 0) ≡ counts_at y =
      omega (arith, length-replicate {A = ℕ} p 0, rows_lent) in
      let l : counts_at y + counters ≡ length y = omega (arith, counts_few y (counts_at y) refl) in
      rw (b, l)

  -- where no visit has counted, the counts are 0
  pub uncounted : (spot : Spot)
      → held_in (final_figures f) (zeros_after f r s y) spot ≡ with_in (final_figures f) (zeros_before f r s y) counters (replicate counters 0) spot
  uncounted spot =
      let z = zeros_after f r s y in
      ap (λ (t : List ℕ). held_in (final_figures f) (record { records = z.records; scopes = z.scopes; symbols = t }) spot)
      (zeros_split y (final_figures f).symbols rows_lent)

  counts_started : held (start f) (free_rows f) (counts_behind f r s y) ≡ counted_in (final_figures f) (zeros_before f r s y) counters (start f)
  unfolding free_rows zeros_behind counts_behind lent_in store_of visits
  counts_started =
      let x = final_figures f in
      let st = start_store f in
      let tree : tree_at (start f) ≡ f.tree = start_tree f in
      let l₁ : length (store_at (start f)).scopes ≡ length f.scopes = rw st in
      let l₂ : length (store_at (start f)).symbols ≡ length f.symbols = rw st in
      let m = never_above bytes f 0 (admitted bytes r s y f e).0 in
      let i = at_spot (start f) in
      let m₁ = x.scopes - length f.scopes in
      let m₂ = x.symbols - length f.symbols in
      let p = counts_at y - SymbolTable.Numbers * x.symbols in
      let e₁ : length s - 2 * length f.scopes ≡ 2 * m₁ + (length s - 2 * x.scopes) = omega (arith, admitted bytes r s y f e, m, i) in
      let e₂ : counts_at y - SymbolTable.Numbers * length f.symbols ≡ SymbolTable.Numbers * m₂ + p = omega (arith, rows_lent, m, i) in
      rw (
        tree,
        l₁,
        l₂,
        e₁,
        e₂,
        scope_zeros m₁ (length s - 2 * x.scopes),
        symbol_zeros m₂ p,
        free_++ m₂ (replicate {A = ℕ} p 0) (counts_from (λ n. mentions n f.tree) counters 1),
      )

  -- THE CALLS AFTER START: with the import line from the last visit's call on, and the counts of the tree after each.
  pub calls_after_start : (k : ℕ)
      → turns k visit_call_f (held (start f) (free_rows f) (counts_behind f r s y))
      ≡ counted_in (final_figures f) (zeros_before f r s y) counters (completed (visits k (start f)))
  calls_after_start k =
      ap (turns k visit_call_f) counts_started
      ∙ calls_hold_tables bytes f (admitted bytes r s y f e).0 (zeros_before f r s y) counters placed k
