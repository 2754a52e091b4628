-- Switch and For.
-- Assumes nothing.
use Rattle.std.specs.Prelude.{◌≡◌, refl, List, true, ℕ, ◌+◌, ◌≤◌, length}
use Rattle.std.proofs.Common.{arith}
use Rattle.meaning.specs.Tree.{Head, Forest, one, count, size}
use Rattle.meaning.specs.Scoping.{Store}
use Rattle.meaning.specs.Statements.{any_using}
use Rattle.meaning.specs.Contexts.{for_list, take_up_for, transform_for_statement, take_up_cases, transform_switch_statement}
use Rattle.meaning.specs.Charges.{wraps, case_wraps}
use Rattle.meaning.specs.Walk.{Crumb, at, current_scope, hoist_scope}
use Rattle.meaning.specs.Due.{missing}
use Rattle.charge_laws.proofs.Growth.Rows.{one_if}
use Rattle.charge_laws.proofs.Growth.Trees.{for_taken, cases_taken}
use Rattle.charge_laws.proofs.Counts.TakenUp.{Labelled}
use Rattle.tables.specs.Table.{column_f}
use Rattle.representation.proofs.Store.Agreed.{Agreed}
use Rattle.representation.specs.Spots.Spots.{visited_at, rest_at, Rest, held}
use Rattle.table_laws.specs.Lists.Plan.{awaits, cap_sum}
use Rattle.creation.specs.Kinds.{for_loop_f, for_switch_f}
use Rattle.scoping_laws.specs.Created.Held.{Room}
use Rattle.scoping_laws.specs.Created.Loops.{for_parts, for_held, for_node, for_room, switch_parts, switch_held, switch_node, switch_room}
use Rattle.rewrite_contexts.specs.Lists.{list_scope}
use Rattle.rewrite_for_switch.specs.For.{plan_for_f, for_rows_f, transform_for_statement_f}
use Rattle.rewrite_for_switch.specs.Switch.{switch_rows_f, transform_switch_statement_f}
use Rattle.table_laws.proofs.Streamed.Cases.{case_awaits, any_case_awaits}
use Rattle.table_laws.proofs.Streamed.Switch.{switch_rows_law}
use Rattle.table_laws.proofs.Streamed.For.{for_rows_law}
use Rattle.simulation.proofs.Rewritten.Standing.{before, behind, cases_plan, rows_here, gap_here, a_is, room_here, cases_plan_lem, for_plan}
use Rattle.simulation.proofs.Rewritten.Replaced.{with_free, rewritten}
use Rattle.simulation.proofs.Rewritten.Contexts.{try_size, context_law}

module _ (done : Forest) (h : Head) (k r : Forest) (path : List Crumb) (st : Store) (g : ℕ) (z : Rest) where
  -- A SWITCH
  pub switch_law :
      (let s = at done h k r path st in
      let e = transform_switch_statement (current_scope path) h k st in
      let n = case_wraps k + 12 in
      let q = held s (n + g) (with_free 4 (2 + one_if (missing st)) z) in
      length (visited_at s) + (n + g) + length (rest_at s) ≤ 65535 → Agreed st → Room e.1
      → transform_switch_statement_f (cases_plan q (count k)) q ≡ held (rewritten done r path e) g z)
  unfolding transform_switch_statement_f size
  switch_law fits a room =
      let cur = current_scope path in
      let n = case_wraps k + 12 in
      let z₀ = with_free 4 (2 + one_if (missing st)) z in
      let q = held (at done h k r path st) (n + g) z₀ in
      let p = switch_parts cur h st (case_awaits k) in
      let c = p.context.0 in
      let plan = cases_plan_lem done h k r path st (n + g) z₀ fits in
      context_law done h k r path st n g z 4
      (λ i cur hoist. for_switch_f i cur (column_f q.records q.walk.gap.0 1) (cases_plan q (count k)).awaits)
      _
      switch_rows_f
      (transform_switch_statement cur h k st)
      _
      p
      (rw (plan, a_is done h k r path st (n + g) z₀) (switch_held cur h k st z.scopes z.symbols (case_awaits k) a room))
      (rw plan (cap_sum (case_wraps k) 12 (omega arith)))
      (switch_node cur h k st (case_awaits k) (any_case_awaits k))
      (omega (arith, try_size (list_scope p) (one h (take_up_cases c k)) p, cases_taken k c))
      (λ i. switch_rows_law z.records h k p _ 0 (behind r path) i (switch_room cur h k st (case_awaits k) room))
      fits

  -- A FOR, with its Labels
  pub for_law :
      (let s = at done h k r path st in
      let e = transform_for_statement (current_scope path) (hoist_scope path) h k st in
      let n = wraps (for_list (one h k)) + 12 in
      let q = held s (n + g) (with_free 4 (2 + one_if (missing st)) z) in
      length (visited_at s) + (n + g) + length (rest_at s) ≤ 65535 → Agreed st → Room e.1
      → Labelled (one h k) → any_using (for_list (one h k)) ≡ true
      → transform_for_statement_f (plan_for_f q.records q.walk.gap.0) q ≡ held (rewritten done r path e) g z)
  unfolding transform_for_statement_f
  for_law fits a room o u =
      let cur = current_scope path in
      let hoist = hoist_scope path in
      let f = for_list (one h k) in
      let n = wraps f + 12 in
      let z₀ = with_free 4 (2 + one_if (missing st)) z in
      let s = at done h k r path st in
      let q = held s (n + g) z₀ in
      let read = q.walk.gap.0 in
      let p = for_parts cur hoist h k st (awaits f) in
      let c = p.context.0 in
      let plan = for_plan done h k r path st (n + g) z₀ fits o in
      context_law done h k r path st n g z 4
      (λ i cur hoist. for_loop_f q.records i cur hoist read (plan_for_f q.records read).awaits)
      _
      for_rows_f
      (transform_for_statement cur hoist h k st)
      _
      p
      (rw (plan.1, gap_here done h k r path st (n + g) z₀)
      (for_held cur hoist h k st z.scopes z.symbols z.records (before s (n + g)) (behind r path) _ (awaits f)
      (rows_here done h k r path st (n + g) z₀)
      (room_here done h k r path st (n + g) z₀ fits)
      a
      room))
      (rw plan.2 (cap_sum (wraps f) 12 (omega arith)))
      (for_node cur hoist h k st (awaits f) refl)
      (omega (arith, try_size (list_scope p) (take_up_for c (one h k)) p, for_taken (one h k) c u))
      (λ i. for_rows_law z.records h k p _ 0 (behind r path) o u i (for_room cur hoist h k st (awaits f) room))
      fits
