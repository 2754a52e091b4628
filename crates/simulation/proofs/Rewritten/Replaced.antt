-- A record and the free rows before it make place for another record.
-- Assumes nothing.
use Rattle.std.specs.Prelude.{◌≡◌, List, ◌∷◌, ◌++◌, ℕ, zero, suc, ◌+◌, ◌-◌, ◌≤◌}
use Rattle.std.proofs.Math.Path.{refl}
use Rattle.std.proofs.Common.{ap, ◌∙◌, append_assoc, add-zero, add-suc}
use native.Mathlib.Omega.{arith}
use Rattle.std.proofs.Math.ListN.{length}
use Rattle.meaning.specs.Tree.{Head, Forest, Node, one, size}
use Rattle.meaning.specs.Scoping.{Store}
use Rattle.meaning.specs.Walk.{Crumb, Spot, at, store_at}
use Rattle.tables.specs.Stream.{Buf}
use Rattle.path.specs.Path.{tables, charged_f, with_ctx_f}
use Rattle.representation.specs.Gap.Cells.{table, zeros, free, rows_of, gapped}
use Rattle.representation.specs.Store.Held.{scope_cells, symbol_cells, ctx_of}
use Rattle.representation.specs.Spots.Spots.{after_rows_of, opens_at, visited_at, rest_at, Rest, walk_at, held}
use Rattle.representation.proofs.Spots.Lengths.{rest_at_lem, walk_eq}
use Rattle.table_laws.specs.Streamed.Places.{more_rows}
use Rattle.scoping_laws.specs.Created.Held.{free_scopes, free_symbols}
use Rattle.simulation.proofs.Rewritten.Standing.{before, behind, rows_here, gap_here}
use Rattle.representation.proofs.Gap.Rows.{length_left}

-- what is behind the rows of the tables, with so many free scope and symbol rows first
abbrev pub with_free : ℕ → ℕ → Rest → Rest
with_free s y z = record { records = z.records; scopes = free_scopes s z.scopes; symbols = free_symbols y z.symbols }

-- before what was put in a record's place
abbrev pub rewritten : Forest → Forest → List Crumb → Node × Store → Spot
rewritten done r path e = at done e.0.head e.0.children r path e.1

free_sum : (n g : ℕ) → free (n + g) ≡ free g ++ free n
unfolding free
free_sum n zero = rw add-zero
free_sum n (suc g) = rw (add-suc n g) (ap (◌∷◌ zeros) (free_sum n g))

module _ (done : Forest) (h : Head) (k r : Forest) (path : List Crumb) (st : Store) (n g : ℕ) (z : Rest) where
  abbrev here : Spot
  here = at done h k r path st

  -- ---- before

  start_rows : (held here (n + g) z).records ≡ (gapped z.records (before here g) n (rows_of (one h k) ++ behind r path)).t
  unfolding gapped
  start_rows = rows_here done h k r path st (n + g) z ∙ rw (free_sum n g) (simp append_assoc)

  -- ITS ROWS are read behind the n free ones that a rewrite is charged, and what it writes starts before these
  pub start_law : (let q = held here (n + g) z in
      ◌≡◌ {A = Buf}
      (record { t = q.records; read = q.walk.gap.0; written = (charged_f q.walk n).gap.0 })
      (gapped z.records (before here g) n (rows_of (one h k) ++ behind r path)))
  unfolding gapped charged_f
  start_law =
      let l₁ = gap_here done h k r path st (n + g) z in
      let l₂ = length_left (visited_at here) (n + g) in
      let l₃ = length_left (visited_at here) g in
      let read : (held here (n + g) z).walk.gap.0 ≡ length (before here g) + n = omega arith in
      let written : (held here (n + g) z).walk.gap.0 - n ≡ length (before here g) = omega arith in
      λ i. record { t = start_rows i; read = read i; written = written i }

  pub start_room : length (visited_at here) + (n + g) + length (rest_at here) ≤ 65535
      → length (before here g) + n + suc (size k) ≤ 65535
  unfolding size
  start_room fits = omega (arith, length_left (visited_at here) g, rest_at_lem st done h k r path)

  -- ---- after

  -- ANOTHER RECORD, LARGER BY n, STANDS IN ITS PLACE, with any store
  pub replaced_law : (h' : Head) (k' : Forest) (st' : Store) (z₀ : Rest) → size (one h' k') ≡ size (one h k) + n
      → tables
      (gapped z.records (before here g ++ rows_of (one h' k')) 0 (behind r path)).t
      (scope_cells st'.scopes z.scopes)
      (symbol_cells st'.symbols st'.as_read z.symbols)
      (with_ctx_f (charged_f (held here (n + g) z₀).walk n) (ctx_of st'))
      ≡ held (at done h' k' r path st') g z
  unfolding gapped free held visited_at opens_at rest_at walk_at with_ctx_f charged_f store_at size
  replaced_law h' k' st' z₀ e =
      let s' = at done h' k' r path st' in
      let l₁ = rest_at_lem st done h k r path in
      let l₂ = rest_at_lem st' done h' k' r path in
      let rows : table ((before here g ++ rows_of (one h' k')) ++ behind r path) z.records
      ≡ table (visited_at s' ++ (free g ++ rest_at s')) z.records =
      rw (more_rows h' k' r (after_rows_of path)) (simp append_assoc) in
      let walk : with_ctx_f (charged_f (walk_at here (n + g)) n) (ctx_of st') ≡ walk_at s' g =
      walk_eq refl (omega arith) (omega arith) refl refl in
      λ i. tables (rows i) (scope_cells st'.scopes z.scopes) (symbol_cells st'.symbols st'.as_read z.symbols) (walk i)
