-- Block and function body.
-- Assumes nothing.
use Rattle.std.specs.Prelude.{◌≡◌, refl, List, ℕ, ◌+◌, ◌≤◌, length}
use Rattle.std.proofs.Common.{arith}
use Rattle.meaning.specs.Tree.{Head, Forest, count, size}
use Rattle.meaning.specs.Scoping.{Store}
use Rattle.meaning.specs.Statements.{take_up}
use Rattle.meaning.specs.Contexts.{transform_block_statement, enter_function_body}
use Rattle.meaning.specs.Charges.{wraps}
use Rattle.meaning.specs.Walk.{Crumb, at, current_scope, hoist_scope}
use Rattle.meaning.specs.Due.{missing}
use Rattle.charge_laws.proofs.Growth.Rows.{one_if}
use Rattle.tables.specs.Table.{capped, column_f, closed_row_f}
use Rattle.representation.proofs.Store.Agreed.{Agreed}
use Rattle.representation.specs.Spots.Spots.{visited_at, rest_at, Rest, held}
use Rattle.charge_laws.proofs.Growth.Trees.{list_taken}
use Rattle.table_laws.specs.Lists.Plan.{awaits, cap_sum}
use Rattle.creation.specs.Kinds.{for_block_f, for_body_f}
use Rattle.scoping_laws.specs.Created.Held.{Room}
use Rattle.scoping_laws.specs.Created.Lists.{block_parts, block_held, block_node, block_room, body_parts, body_held, body_node, body_room}
use Rattle.rewrite_contexts.specs.Lists.{list_scope, block_rows_f, wrapped_rows_f, transform_block_statement_f, enter_function_body_f}
use Rattle.table_laws.proofs.Streamed.Lists.{block_rows_law, wrapped_rows_law}
use Rattle.simulation.proofs.Rewritten.Standing.{to_list, behind, list_plan, n_is, list_here, list_plan_lem}
use Rattle.simulation.proofs.Rewritten.Replaced.{with_free, rewritten}
use Rattle.simulation.proofs.Rewritten.Contexts.{try_size, context_law}

module _ (done : Forest) (h : Head) (k r : Forest) (path : List Crumb) (st : Store) (g : ℕ) (z : Rest) where
  -- A BLOCK
  pub block_law :
      (let s = at done h k r path st in
      let e = transform_block_statement (current_scope path) (hoist_scope path) h k st in
      let n = wraps k + 11 in
      let q = held s (n + g) (with_free 3 (2 + one_if (missing st)) z) in
      length (visited_at s) + (n + g) + length (rest_at s) ≤ 65535 → Agreed st → Room e.1
      → transform_block_statement_f (list_plan q (count k)) q ≡ held (rewritten done r path e) g z)
  unfolding transform_block_statement_f size
  block_law fits a room =
      let cur = current_scope path in
      let hoist = hoist_scope path in
      let n = wraps k + 11 in
      let z₀ = with_free 3 (2 + one_if (missing st)) z in
      let q = held (at done h k r path st) (n + g) z₀ in
      let p = block_parts cur hoist k st (awaits k) in
      let c = p.context.0 in
      let plan = list_plan_lem done h k r path st (n + g) z₀ fits in
      context_law done h k r path st n g z 3 (λ i cur hoist. for_block_f i cur hoist (list_plan q (count k)).awaits) _ block_rows_f
      (transform_block_statement cur hoist h k st)
      _
      p
      (rw plan (block_held cur hoist h k st z.scopes z.symbols (awaits k) a room))
      (rw plan (cap_sum (wraps k) 11 (omega arith)))
      (block_node cur hoist h k st (awaits k) refl)
      (omega (arith, try_size h.a (take_up c k) p, list_taken k c))
      (λ i. block_rows_law z.records h k p _ 0 (behind r path) i (block_room cur hoist h k st (awaits k) room))
      fits

  -- A FUNCTION BODY
  pub body_law :
      (let s = at done h k r path st in
      let e = enter_function_body (current_scope path) (hoist_scope path) k st in
      let n = wraps k + 12 in
      let q = held s (n + g) (with_free 4 (2 + one_if (missing st)) z) in
      length (visited_at s) + (n + g) + length (rest_at s) ≤ 65535 → Agreed st → Room e.1
      → enter_function_body_f (list_plan q (count k)) q ≡ held (rewritten done r path e) g z)
  unfolding enter_function_body_f size
  body_law fits a room =
      let cur = current_scope path in
      let hoist = hoist_scope path in
      let n = wraps k + 12 in
      let z₀ = with_free 4 (2 + one_if (missing st)) z in
      let s = at done h k r path st in
      let q = held s (n + g) z₀ in
      let read = q.walk.gap.0 in
      let p = body_parts cur hoist k st (awaits k) in
      let c = p.context.0 in
      let plan = list_plan_lem done h k r path st (n + g) z₀ fits in
      let l = list_here done h k r path st (n + g) z₀ fits in
      context_law done h k r path st n g z 4
      (λ i cur hoist.
      for_body_f q.records i cur hoist (capped read 1) (column_f q.records read 4) (list_plan q (count k)).awaits)
      _
      (λ p. wrapped_rows_f (closed_row_f 14 0 0 0 1) (list_scope p) p)
      (enter_function_body cur hoist k st)
      _
      p
      (rw (plan, n_is done h k r path st (n + g) z₀, l.0)
      (body_held cur hoist k st z.scopes z.symbols z.records (to_list s (n + g) h k) (behind r path) _ (awaits k) l.1 l.2 a
      room))
      (rw plan (cap_sum (wraps k) 12 (omega arith)))
      (body_node cur hoist k st (awaits k) refl)
      (omega (arith, try_size (list_scope p) (take_up c k) p, list_taken k c))
      (λ i.
      wrapped_rows_law z.records 14 0 h k (list_scope p) p _ 0 (behind r path) i (body_room cur hoist k st (awaits k) room))
      fits
