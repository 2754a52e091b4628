-- Blocks, function bodies, Switches and Fors: what the tables decide is what 01 decides.
-- Assumes nothing.
use Rattle.std.specs.Prelude.{◌≡◌, Bool, not, List, [], ◌∷◌, ℕ, ◌+◌, ◌≤◌, eqb, length}
use Rattle.std.proofs.Math.Path.{refl}
use Rattle.std.proofs.Math.Bool.{true, false}
use Rattle.std.proofs.Common.{arith}
use Rattle.meaning.specs.Numbers.Tag
use Rattle.meaning.specs.Tree.{Head, Forest, one, count}
use Rattle.meaning.specs.Scoping.{Store}
use Rattle.meaning.specs.Statements.{any_using}
use Rattle.meaning.specs.Contexts.{any_case_using, for_list}
use Rattle.meaning.specs.Charges.{
  of_block,
  of_body,
  of_for,
  of_switch,
  context,
  wrapped,
  context_charge,
  line_charge,
  total,
  wraps,
  case_wraps,
}
use Rattle.meaning.specs.Due.{is_context, any_context, missing}
use Rattle.meaning.specs.Walk.{Crumb, Spot, at, block, function_body, for_loop, switch, act_if, enter_as, current_scope, hoist_scope}
use Rattle.charge_laws.proofs.Growth.Rows.{one_if}
use Rattle.charge_laws.proofs.Growth.Contexts.{block_pays, body_pays, for_pays, switch_pays}
use Rattle.charge_laws.proofs.Counts.TakenUp.{Labelled}
use Rattle.path.specs.Path.{Tables}
use Rattle.representation.specs.Spots.Spots.{visited_at, rest_at, Rest, held}
use Rattle.table_laws.specs.Lists.Plan.{usings, any_usings}
use Rattle.rewrite_for_switch.specs.For.{plan_for_f}
use Rattle.table_laws.proofs.Streamed.Cases.{case_usings, any_case_usings}
use Rattle.simulation.proofs.Rewritten.Standing.{list_plan, cases_plan, n_is, list_plan_lem, cases_plan_lem, for_plan}
use Rattle.simulation.proofs.Rewritten.Replaced.{with_free}
use Rattle.simulation.proofs.Rewritten.Lists.{block_law, body_law}
use Rattle.simulation.proofs.Rewritten.Loops.{for_law, switch_law}
use Rattle.walk.specs.Visit.{plan_next_f, rewrite_block_f, rewrite_body_f, rewrite_for_f, rewrite_switch_f}
use Rattle.simulation.proofs.Rewrite.{By, done_by, kept_by, counts_some, context_takes, list_takes}

module _ (done : Forest) (h : Head) (k r : Forest) (path : List Crumb) (st : Store) where
  abbrev s : Spot
  s = at done h k r path st

  -- ---- what the tables decide, with any free rows

  module _ (g : ℕ) (z : Rest) (fits : length (visited_at s) + g + length (rest_at s) ≤ 65535) where
    abbrev q : Tables
    q = held s g z

    pub in_list_lem : (b : Bool) → any_using k ≡ b → eqb (list_plan q (count k)).usings 0 ≡ not b
    in_list_lem b u = rw (list_plan_lem done h k r path st g z fits, ← u) (counts_some (any_using k) (usings k) (any_usings k))

    in_cases : (b : Bool) → any_case_using k ≡ b → eqb (cases_plan q (count k)).usings 0 ≡ not b
    in_cases b u = rw (cases_plan_lem done h k r path st g z fits, ← u) (counts_some (any_case_using k) (case_usings k) (any_case_usings k))

    in_for : (b : Bool) → Labelled (one h k) → any_using (for_list (one h k)) ≡ b
        → eqb (plan_for_f q.records q.walk.gap.0).usings 0 ≡ not b
    in_for b o u =
        let f = for_list (one h k) in
        rw ((for_plan done h k r path st g z fits o).0, ← u) (counts_some (any_using f) (usings f) (any_usings f))

  -- ---- what is done, first by what is decided

  module _ (g : ℕ) (z : Rest) where
    -- the free rows for a context with m scopes
    abbrev context_free : ℕ → Rest
    context_free m = with_free m (2 + one_if (missing st)) z

    pub block_by : (b : Bool) → any_using k ≡ b → h.tag ≡ Tag.Block → By done h k r path st g z rewrite_block_f (act_if b block)
    unfolding rewrite_block_f plan_next_f enter_as context_charge
    block_by true u t =
        let n = wraps k + 11 in
        done_by done h k r path st g z rewrite_block_f _ n 3 (2 + one_if (missing st))
        (λ a. list_takes h k st _ of_block k (block_pays (current_scope path) (hoist_scope path) h k st t u) u refl)
        (λ fits a room.
        rw (n_is done h k r path st (n + g) (context_free 3), in_list_lem (n + g) (context_free 3) fits true u)
        (block_law done h k r path st g z fits a room))
    block_by false u t =
        kept_by done h k r path st g z rewrite_block_f (λ fits a. rw (n_is done h k r path st g z, in_list_lem g z fits false u))

    pub body_by : (b : Bool) → any_using k ≡ b → h.tag ≡ Tag.Body → By done h k r path st g z rewrite_body_f (act_if b function_body)
    unfolding rewrite_body_f plan_next_f enter_as context_charge
    body_by true u t =
        let n = wraps k + 12 in
        done_by done h k r path st g z rewrite_body_f _ n 4 (2 + one_if (missing st))
        (λ a. list_takes h k st _ of_body k (body_pays (current_scope path) (hoist_scope path) h k st t u) u refl)
        (λ fits a room.
        rw (n_is done h k r path st (n + g) (context_free 4), in_list_lem (n + g) (context_free 4) fits true u)
        (body_law done h k r path st g z fits a room))
    body_by false u t =
        kept_by done h k r path st g z rewrite_body_f (λ fits a. rw (n_is done h k r path st g z, in_list_lem g z fits false u))

    pub for_by : (b : Bool) → any_using (for_list (one h k)) ≡ b → Labelled (one h k)
        → By done h k r path st g z rewrite_for_f (act_if b for_loop)
    unfolding rewrite_for_f enter_as context_charge
    for_by true u o =
        let n = wraps (for_list (one h k)) + 12 in
        done_by done h k r path st g z rewrite_for_f _ n 4 (2 + one_if (missing st))
        (λ a. list_takes h k st _ of_for (for_list (one h k)) (for_pays (current_scope path) (hoist_scope path) h k st u) u refl)
        (λ fits a room.
        rw (in_for (n + g) (context_free 4) fits true o u) (for_law done h k r path st g z fits a room o u))
    for_by false u o = kept_by done h k r path st g z rewrite_for_f (λ fits a. rw (in_for g z fits false o u))

    pub switch_by_lem : (b : Bool) → any_case_using k ≡ b → By done h k r path st g z rewrite_switch_f (act_if b switch)
    unfolding rewrite_switch_f enter_as context_charge total line_charge any_context is_context
    switch_by_lem true u =
        let n = case_wraps k + 12 in
        done_by done h k r path st g z rewrite_switch_f _ n 4 (2 + one_if (missing st))
        (λ a.
        context_takes h k st _ (context of_switch ∷ wrapped (case_wraps k) ∷ []) n 4 (switch_pays (current_scope path) h k st) refl
        (omega arith))
        (λ fits a room.
        rw (n_is done h k r path st (n + g) (context_free 4), in_cases (n + g) (context_free 4) fits true u)
        (switch_law done h k r path st g z fits a room))
    switch_by_lem false u =
        kept_by done h k r path st g z rewrite_switch_f (λ fits a. rw (n_is done h k r path st g z, in_cases g z fits false u))
