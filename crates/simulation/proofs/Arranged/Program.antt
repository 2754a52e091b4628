-- The rewrite of a Program.
-- Assumes nothing.
use Rattle.std.specs.Prelude.{◌≡◌}
use Rattle.std.proofs.Math.Path.{refl, ap}
use Rattle.std.proofs.Common.{sym, length-append}
use mathlib.Core.List.{List, [], ◌∷◌, ◌++◌, append_assoc}
use Prim.Native.Nat.{ℕ, suc, ◌+◌, ◌≤◌, ◌<◌}
use native.Mathlib.Omega.{arith}
use Rattle.std.proofs.Math.ListN.{length}
use Rattle.meaning.specs.Numbers.Tag
use Rattle.meaning.specs.Tree.{Head, hd, Forest, Node, one, count, size, ◌&◌}
use Rattle.meaning.specs.File.{Scope}
use Rattle.meaning.specs.Scoping.{Store, create_child_scope, insert_scope_below}
use Rattle.meaning.specs.Program.{Split, program_items, enter_program}
use Rattle.meaning.specs.Charges.{line_charge, total}
use Rattle.meaning.specs.Walk.{Crumb, Spot, at, store_at}
use Rattle.charge_laws.proofs.Growth.Rows.{scope_below}
use Rattle.charge_laws.proofs.Growth.Items.{Exports}
use Rattle.charge_laws.proofs.Growth.Program.{program_pays}
use Rattle.tables.specs.Table.{cap_one, capped, closed_row_f}
use Rattle.tables.specs.Stream.{replace_row_f}
use Rattle.tables.specs.declared.Row.{Row}
use Rattle.representation.specs.Gap.Cells.{table, free, line, rows_of, gapped, length_rows, count_&, rows_&}
use Rattle.representation.proofs.Gap.Rows.{length_snoc, pass_as_gapped}
use Rattle.representation.specs.Store.Held.{scope_cells, symbol_cells, ctx_of, scopes_held}
use Rattle.representation.proofs.Store.Agreed.{Agreed, below_agreed}
use Rattle.path.specs.Path.{Tables}
use Rattle.representation.specs.Spots.Spots.{visited_at, rest_at, Rest, walk_at, held}
use Rattle.creation.specs.Scopes.{insert_scope_below_f}
use Rattle.scoping_laws.specs.Created.Held.{free_scopes, free_symbols, Room}
use Rattle.scoping_laws.specs.Created.Scopes.{below_symbols, insert_below_law}
use Rattle.table_laws.specs.Streamed.Places.{one_row}
use Rattle.scoping_laws.proofs.Itemized.Items.{items_rows, items_symbols}
use Rattle.scoping_laws.proofs.Itemized.Program.{items_store}
use Rattle.rewrite_program.specs.Plan.{plan, plan_program_f}
use Rattle.rewrite_program.specs.Program.{enter_program_f}
use Rattle.simulation.proofs.Rewritten.Standing.{before, behind, to_list, row_is, list_here}
use Rattle.simulation.proofs.Rewritten.Replaced.{with_free, rewritten, start_law, start_room, replaced_law}
use Rattle.simulation.proofs.Arranged.Plan.{items_size, plan_program_law}
use Rattle.spec_laws.specs.SameScopes.{items_scopes}
use Rattle.simulation.proofs.Arranged.Rewrite.{block_row, rewrite_items_law}
use Rattle.spec_laws.specs.Trees.{count_size}

module _ (done : Forest) (h : Head) (k r : Forest) (path : List Crumb) (st : Store) (g : ℕ) (z : Rest) (x : Exports k) where
  abbrev here : Spot
  here = at done h k r path st

  abbrev s : Split
  s = (program_items k st).0

  abbrev st' : Store
  st' = (program_items k st).1

  abbrev e : Node × Store
  e = enter_program h k st

  -- the rows charged, and the tables with them
  abbrev n : ℕ
  n = items_rows k + 1

  abbrev z₀ : Rest
  z₀ = with_free 1 (items_symbols k) z

  abbrev q : Tables
  q = held here (n + g) z₀

  -- ---- the store

  scopes_are : q.scopes ≡ scope_cells st'.scopes (free_scopes 1 z.scopes)
  unfolding held store_at
  scopes_are = ap (λ (ss : List Scope). scope_cells ss (free_scopes 1 z.scopes)) (sym (items_scopes k st))

  symbols_are : q.symbols ≡ symbol_cells st.symbols st.as_read (free_symbols (items_symbols k) z.symbols)
  unfolding held store_at
  symbols_are = refl

  ctx_is : q.walk.ctx ≡ ctx_of st
  unfolding held walk_at store_at
  ctx_is = refl

  -- ---- the rows

  -- up to the items, with the Program's new row, and all of them
  abbrev top : List Row
  top = before here g ++ closed_row_f h.tag h.a h.b h.c (count s.kept + 1) ∷ []

  abbrev rows : List ℕ
  rows = table (top ++ ((rows_of s.kept ++ block_row k st ∷ rows_of s.moved) ++ behind r path)) z.records

  rows_are : rows ≡ (gapped z.records (before here g ++ rows_of (one e.0.head e.0.children)) 0 (behind r path)).t
  unfolding enter_program insert_scope_below create_child_scope gapped free count
  rows_are =
      let b = hd Tag.Block (suc (length st'.scopes)) 0 0 in
      let c : length st'.scopes + 1 ≡ suc (length st'.scopes) = omega arith in
      rw (
        one_row h (s.kept & one b s.moved),
        rows_& s.kept (one b s.moved),
        count_& s.kept (one b s.moved),
        one_row b s.moved,
        c,
      )
      (simp append_assoc)

  larger : size (one e.0.head e.0.children) ≡ size (one h k) + n
  unfolding total line_charge
  larger = omega (arith, (program_pays h k st x).records)

  module _ (fits : length (visited_at here) + (n + g) + length (rest_at here) ≤ 65535) where
    room : length (before here g) + n + suc (size k) ≤ 65535
    room = start_room done h k r path st n g z fits

    plan_is : plan_program_f q.records (capped q.walk.gap.0 1) (count k)
        ≡ plan (length (to_list here (n + g) h k) + size k) (items_rows k) (count s.kept) (count s.moved)
    plan_is =
        let l = list_here done h k r path st (n + g) z₀ fits in
        rw l.0 (plan_program_law z.records k st (to_list here (n + g) h k) (behind r path) _ l.1 l.2 (omega (arith, room)) x)

    passed : replace_row_f (gapped z.records (before here g) n (rows_of (one h k) ++ behind r path))
        (closed_row_f h.tag h.a h.b h.c (capped (count s.kept) 1))
        ≡ gapped z.records top n (rows_of k ++ behind r path)
    passed =
        let l = items_size k st x in
        let c = count_size s.kept in
        rw (one_row h k, cap_one (count s.kept) (omega (arith, room)))
        (pass_as_gapped z.records (before here g) n (line h (count k)) (rows_of k ++ behind r path) _ (omega (arith, room)))

    moved_scopes : length st'.scopes < 65535
        → insert_scope_below_f rows (scopes_held st' (free_scopes 1 z.scopes)) h.a (length top + size s.kept + 1) (count s.moved)
        ≡ scopes_held (insert_scope_below h.a s.moved st').1 z.scopes
    moved_scopes i =
        let b = block_row k st in
        let a = top ++ (rows_of s.kept ++ b ∷ []) in
        let l : length a ≡ length top + size s.kept + 1 =
        omega (arith, length-append top (rows_of s.kept ++ b ∷ []), length_snoc (rows_of s.kept) b, length_rows s.kept) in
        rw (← l)
        (insert_below_law z.scopes z.records s.moved a (behind r path) rows (simp append_assoc)
        (omega (arith, room, items_size k st x, length_snoc (before here g) (line h (count s.kept + 1))))
        st' h.a (omega arith))

    entered : Agreed st → Room e.1 → enter_program_f q ≡ held (rewritten done r path e) g z
    unfolding enter_program_f enter_program
    entered a o =
        let st'' = (insert_scope_below h.a s.moved st').1 in
        let new = scope_below h.a s.moved st' in
        let i₁ : length st'.scopes < 65535 = omega (arith, new.scopes) in
        let i₂ : length st'.symbols ≤ 65535 = omega (arith, new.symbols) in
        let l = length_snoc (before here g) (line h (count s.kept + 1)) in
        rw (
          row_is done h k r path st (n + g) z₀,
          plan_is,
          cap_one (items_rows k) (omega (arith, room)),
          start_law done h k r path st n g z₀,
          passed,
          symbols_are,
          ctx_is,
          rewrite_items_law z.records k st top (behind r path) z.symbols x a i₂ i₁ (omega (arith, room)) _,
          scopes_are,
          moved_scopes i₁,
          below_symbols h.a s.moved st' z.symbols,
          rows_are,
        )
        (replaced_law done h k r path st n g z e.0.head e.0.children st'' z₀ larger)

-- A PROGRAM
pub program_law : (done : Forest) (h : Head) (k r : Forest) (path : List Crumb) (st : Store) (g : ℕ) (z : Rest)
    → (let s = at done h k r path st in
    let e = enter_program h k st in
    let n = items_rows k + 1 in
    length (visited_at s) + (n + g) + length (rest_at s) ≤ 65535 → Agreed st → Room e.1 → Exports k
    → enter_program_f (held s (n + g) (with_free 1 (items_symbols k) z)) ≡ held (rewritten done r path e) g z)
program_law done h k r path st g z fits a o x = entered done h k r path st g z x fits a o

-- AFTER IT the symbol rows agree with those read, if they did before
pub program_kept : (h : Head) (k : Forest) (st : Store) → Exports k → Agreed st → Agreed (enter_program h k st).1
unfolding enter_program
program_kept h k st x a = let (s, st') = program_items k st in below_agreed st' (items_store k st x a).0 h.a s.moved
