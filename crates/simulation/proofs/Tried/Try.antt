-- The next record to enter is a Try, and its parts are rewritten.
-- Assumes nothing.
use Rattle.std.specs.Prelude.{◌≡◌, List, ◌++◌, ℕ, ◌+◌, ◌≤◌, length}
use Rattle.std.proofs.Common.{sym, ◌∙◌, append_assoc, add-zero, arith}
use Rattle.std.proofs.Math.Path.{ap}
use Rattle.meaning.specs.Tree.{Head, Forest, one, count, size}
use Rattle.meaning.specs.Scoping.{Store}
use Rattle.meaning.specs.Contexts.{transform_try_parts, enter_try_statement}
use Rattle.meaning.specs.Walk.{Crumb, Spot, at, current_scope, hoist_scope}
use Rattle.tables.specs.Table.{capped, column_f}
use Rattle.tables.specs.Stream.{Buf, copy_row_f}
use Rattle.tables.specs.declared.Row.{Row}
use Rattle.path.specs.Path.{Tables, tables, charged_f, with_ctx_f}
use Rattle.representation.specs.Gap.Cells.{line, rows_of, gapped, length_rows}
use Rattle.representation.proofs.Gap.Rows.{length_snoc, pass_gapped}
use Rattle.representation.proofs.Store.Agreed.{Agreed}
use Rattle.representation.specs.Spots.Spots.{visited_at, rest_at, Rest, held}
use Rattle.creation.specs.Creation.{InRows}
use Rattle.scoping_laws.specs.Created.Held.{Room}
use Rattle.rewrite_contexts.specs.Lists.{current_in, hoist_in}
use Rattle.rewrite_contexts.specs.Tries.{PartingF, parting_f, transform_children_f, plan_try_f, enter_try_statement_f}
use Rattle.table_laws.specs.Streamed.Places.{one_row}
use Rattle.table_laws.specs.Streamed.Parts.{try_rows}
use Rattle.table_laws.proofs.Streamed.Parts.{Catches, plan_try_law}
use Rattle.simulation.proofs.Rewritten.Standing.{before, to_list, behind, n_is, store_is, current_is, hoist_is, list_here}
use Rattle.simulation.proofs.Rewritten.Replaced.{with_free, rewritten, start_law, start_room, replaced_law}
use Rattle.simulation.proofs.Tried.Passing.{passing, new_scopes, new_symbols}
use Rattle.simulation.proofs.Tried.Parts.{parts_count}
use Rattle.simulation.proofs.Tried.Children.{children_law}

-- a Try's row passes, m record rows being charged
abbrev begun : ℕ → Tables → PartingF
begun m q =
    let w = q.walk in
    parting_f (copy_row_f (record { t = q.records; read = w.gap.0; written = (charged_f w m).gap.0 })) q.scopes q.symbols w.ctx

-- the steps of `enter_try_statement_f`
enter_form : (m : ℕ) (q : Tables) (cur hoist n : ℕ) (s o : PartingF)
    → current_in q ≡ cur
    → hoist_in q ≡ hoist
    → column_f q.records q.walk.gap.0 4 ≡ n
    → begun m q ≡ s
    → transform_children_f cur hoist n s ≡ o
    → enter_try_statement_f m q ≡ tables o.buf.t o.scopes o.symbols (with_ctx_f (charged_f q.walk m) o.ctx)
unfolding enter_try_statement_f
enter_form m q cur hoist n s o e₁ e₂ e₃ e₄ e₅ = rw (e₁, e₂, e₃, e₄, e₅)

module _ (done : Forest) (h : Head) (k r : Forest) (path : List Crumb) (st : Store) where
  abbrev here : Spot
  here = at done h k r path st

  -- THE ROWS THAT ITS PARTS GET, counted where it stands
  pub try_plan : (g : ℕ) (z : Rest) → length (visited_at here) + g + length (rest_at here) ≤ 65535 → try_rows k ≤ 65535
      → plan_try_f (held here g z).records (capped (held here g z).walk.gap.0 1) (count k) ≡ try_rows k
  try_plan g z fits i =
      let l = list_here done h k r path st g z fits in
      rw l.0 (plan_try_law z.records k (to_list here g h k) (behind r path) _ l.1 l.2 i)

  module _ (g : ℕ) (z : Rest) where
    abbrev after : Forest × Store
    after = transform_try_parts (current_scope path) (hoist_scope path) k st

    abbrev tail : Rest
    tail = with_free (new_scopes st after.1) (new_symbols st after.1) z

    begin_law : length (visited_at here) + (try_rows k + g) + length (rest_at here) ≤ 65535
        → begun (try_rows k) (held here (try_rows k + g) tail)
        ≡ passing z.records tail.scopes tail.symbols (to_list here g h k) (try_rows k) (rows_of k ++ behind r path) st
    begin_law fits =
        let n = try_rows k in
        let q = held here (n + g) tail in
        let u = rows_of k ++ behind r path in
        let m = start_room done h k r path st n g z fits in
        ap (λ (b : Buf). parting_f (copy_row_f b) q.scopes q.symbols q.walk.ctx)
        (start_law done h k r path st n g tail
        ∙ ap (λ (w : List Row). gapped z.records (before here g) n (w ++ behind r path)) (one_row h k))
        ∙ ap (λ (b : Buf). parting_f b q.scopes q.symbols q.walk.ctx)
        (pass_gapped z.records (before here g) n (line h (count k)) u (omega arith))
        ∙ ap (λ (i : InRows). parting_f (gapped z.records (to_list here g h k) n u) i.scopes i.symbols i.ctx)
        (store_is done h k r path st (n + g) tail)

    -- A TRY
    pub try_law :
        (let e = enter_try_statement (current_scope path) (hoist_scope path) h k st in
        let n = try_rows k in
        length (visited_at here) + (n + g) + length (rest_at here) ≤ 65535 → Agreed st → Room e.1 → Catches k
        → enter_try_statement_f n (held here (n + g) (with_free (new_scopes st e.1) (new_symbols st e.1) z))
        ≡ held (rewritten done r path e) g z)
    unfolding enter_try_statement size
    try_law fits ag room c =
        let cur = current_scope path in
        let hoist = hoist_scope path in
        let n = try_rows k in
        let k' = after.0 in
        let a₁ = to_list here g h k in
        let v = behind r path in
        let p = children_law k cur hoist st c ag in
        let l = length_snoc (before here g) (line h (count k)) in
        let m = start_room done h k r path st n g z fits in
        let rows : a₁ ++ rows_of k' ≡ before here g ++ rows_of (one h k') =
        rw (one_row h k', parts_count k cur hoist st) (simp append_assoc) in
        let s : PartingF = passing z.records tail.scopes tail.symbols a₁ (n + 0) (rows_of k ++ v) st in
        enter_form n (held here (n + g) tail) cur hoist (count k) s
        (passing z.records z.scopes z.symbols (a₁ ++ rows_of k') 0 v after.1)
        (current_is done h k r path st (n + g) tail)
        (hoist_is done h k r path st (n + g) tail)
        (n_is done h k r path st (n + g) tail)
        (begin_law fits
        ∙ ap (λ (i : ℕ). passing z.records tail.scopes tail.symbols a₁ i (rows_of k ++ v) st) (sym (add-zero n)))
        (p.passes z.records z.scopes z.symbols a₁ 0 v room (omega (arith, length_rows k)))
        ∙ rw rows
        (replaced_law done h k r path st n g z h k' after.1 tail (omega (arith, p.longer, length_rows k, length_rows k')))

-- the symbol rows agree with those read, if they did before
pub try_agreed : (cur hoist : ℕ) (h : Head) (k : Forest) (st : Store) → Catches k → Agreed st
    → Agreed (enter_try_statement cur hoist h k st).1
unfolding enter_try_statement
try_agreed cur hoist h k st c a = (children_law k cur hoist st c a).agreed
