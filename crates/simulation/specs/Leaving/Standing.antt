-- The tables while a StaticBlock is left: its row is closed, and the records around it are still to be settled.
-- Assumes nothing.
use Rattle.std.specs.Prelude.{◌≡◌, List, ◌++◌, length}
use Rattle.std.proofs.Math.Path.{refl, ap}
use Rattle.std.proofs.Common.{◌∙◌, append_assoc, arith}
use Prim.Native.Nat.{ℕ, suc, ◌+◌}
use Rattle.std.proofs.Math.ListN.{length-append}
use Rattle.meaning.specs.Tree.{Head, Forest, one, count, size, ◌&◌}
use Rattle.meaning.specs.Scoping.{Store}
use Rattle.meaning.specs.Walk.{Crumb, leaving, settle, store_at}
use Rattle.tables.specs.declared.Row.{Row}
use Rattle.path.specs.Path.{Tables, tables, open_rows, with_inner_f, close_f, settle_f}
use Rattle.path.specs.declared.Walk.{Walk}
use Rattle.representation.specs.Gap.Cells.{table, free, rows_of, length_rows, size_&, rows_&}
use Rattle.representation.specs.Store.Held.{scope_cells, symbol_cells, ctx_of}
use Rattle.representation.specs.Spots.Spots.{after_rows_of, opens_at, rest_at, Rest, walk_at, held}
use Rattle.representation.proofs.Spots.Scopes.{depth_law, outer, under, inner_number}
use Rattle.representation.proofs.Spots.Settle.{records_at, records_in, counted, close_law, settle_law}
use Rattle.representation.proofs.Spots.Lengths.{visited_leaving, visited_settled, rest_settled, store_settled, walk_eq}

module _ (before after : Forest) (path : List Crumb) where
  -- the rows behind the StaticBlock
  abbrev pub behind : List Row
  behind = rows_of after ++ after_rows_of path

  -- the walk, behind its rows
  abbrev pub walk_in : Head → Forest → Store → ℕ → Walk
  walk_in h k st g =
      let visited = length (under before after path) + size (one h k) in
      record {
        visited = record { 0 = visited };
        gap = record { 0 = visited + g };
        end = record { 0 = visited + g + length behind };
        inner = record { 0 = suc (length (under before after path)) };
        ctx = ctx_of st;
      }

  -- its rows and those around them
  abbrev pub rows_in : Head → Forest → ℕ → List ℕ → List ℕ
  rows_in h k g z = table (under before after path ++ (rows_of (one h k) ++ (free g ++ behind))) z

  abbrev pub standing : Head → Forest → Store → ℕ → Rest → Tables
  standing h k st g z =
      tables
      (rows_in h k g z.records)
      (scope_cells st.scopes z.scopes)
      (symbol_cells st.symbols st.as_read z.symbols)
      (walk_in h k st g)

  -- the record counts among those done
  among_done : (h : Head) (k : Forest) (g : ℕ) (z : List ℕ)
      → records_in (before & one h k) after path g z ≡ open_rows (rows_in h k g z) (length (outer before after path))
  among_done h k g z = rw (← counted h k before after, rows_& before (one h k)) (simp append_assoc)

  module _ (h : Head) (k : Forest) (st : Store) (g : ℕ) (z : Rest) where
    -- ITS ROW IS CLOSED
    pub closed_rows :
        (let q = held (leaving k h before after path st) g z in
        close_f (open_rows q.records q.walk.inner.0) ≡ open_rows (rows_in h k g z.records) (length (outer before after path)))
    unfolding held walk_at
    closed_rows = close_law g z.records k h before after path st ∙ among_done h k g z.records

    pub closed_tables :
        (let q = held (leaving k h before after path st) g z in
        tables (rows_in h k g z.records) q.scopes q.symbols q.walk ≡ standing h k st g z)
    unfolding held walk_at store_at rest_at opens_at size
    closed_tables =
        let l₁ = inner_number h before after path (count k) 0 in
        let l₂ = visited_leaving st k h before after path (count k) 0 in
        ap
        (tables
        (rows_in h k g z.records)
        (scope_cells st.scopes z.scopes)
        (symbol_cells st.symbols st.as_read z.symbols))
        (walk_eq (omega arith) (omega arith) (omega arith) l₁ refl)

    -- THE RECORDS AROUND IT ARE SETTLED
    pub settled_law :
        (let q = standing h k st g z in
        let p = settle_f q.walk.visited.0 (open_rows q.records (length (outer before after path))) in
        tables p.t q.scopes q.symbols (with_inner_f q.walk p.at) ≡ held (settle (before & one h k) after path st) g z)
    unfolding held walk_at with_inner_f size
    settled_law =
        let s = settle (before & one h k) after path st in
        let n = count before + suc (count after) in
        let w = walk_in h k st g in
        let l₁ = length-append (outer before after path) (rows_of before) in
        let l₂ = length_rows before in
        let l₃ = size_& before (one h k) in
        let l₄ = visited_settled st path (before & one h k) after n (count after) in
        let l₅ = rest_settled st path (before & one h k) after in
        let l₆ = length-append (rows_of after) (after_rows_of path) in
        let l₇ = length_rows after in
        let e = store_settled st path (before & one h k) after in
        rw (
          ← among_done h k g z.records,
          settle_law g z.records path (before & one h k) after st w.visited.0 (omega (arith, depth_law path n (count after))),
          e,
        )
        (ap
        (tables
        (records_at s g z.records).t
        (scope_cells st.scopes z.scopes)
        (symbol_cells st.symbols st.as_read z.symbols))
        (walk_eq (omega arith) (omega arith) (omega arith) refl refl))
