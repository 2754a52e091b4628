-- Trys, ForOfs and Programs.
-- Assumes nothing.
use Rattle.std.specs.Prelude.{if◌then◌else◌, ◌≡◌, refl, Bool, ◌&&◌, List, ℕ, ◌+◌, ◌≤◌}
use Rattle.std.proofs.Math.Path.{ap}
use Rattle.std.proofs.Common.{◌∙◌, arith}
use Rattle.std.proofs.Math.Bool.{true, false, not}
use borrow.Author.Tests.{eqb-true}
use Rattle.std.proofs.Math.Dec.{eqb}
use Rattle.std.proofs.Math.ListN.{length}
use Rattle.meaning.specs.Numbers.Tag
use Rattle.meaning.specs.Tree.{Head, Forest, none, more, one, size}
use Rattle.meaning.specs.Scoping.{Store}
use Rattle.meaning.specs.Statements.{is_using, any_using}
use Rattle.meaning.specs.Contexts.{any_part_using, transform_try_parts, enter_try_statement}
use Rattle.meaning.specs.Program.{program_items, enter_program}
use Rattle.meaning.specs.Charges.{for_of, for_of_block, line_charge, total}
use Rattle.meaning.specs.Due.{is_context, missing}
use Rattle.meaning.specs.ForOf.{binds_identifier, bound_symbol, binds_name, ForOfAct, as_is, insert, wrap, for_of_act}
use Rattle.meaning.specs.Walk.{Crumb, at, keep, program, try_parts, act_if, of_for_of, enter_as, current_scope, hoist_scope}
use Rattle.spec_laws.specs.Tags.{and_left}
use Rattle.charge_laws.proofs.Growth.Rows.{scope_below}
use Rattle.charge_laws.proofs.Growth.Items.{Exports}
use Rattle.charge_laws.proofs.Growth.Program.{program_pays}
use Rattle.charge_laws.proofs.Growth.ForOf.{insert_pays, wrap_pays}
use Rattle.charge_laws.proofs.Counts.Enter.{Left}
use Rattle.representation.specs.Gap.Cells.{length_rows}
use Rattle.scoping.specs.Changes.{in_symbols}
use Rattle.representation.proofs.Store.Agreed.{Agreed}
use Rattle.path.specs.Path.{Tables}
use Rattle.representation.specs.Spots.Spots.{visited_at, rest_at, Rest, held}
use Rattle.rewrite_for_of.specs.ForOf.{takes_using_f, inserts_f, insert_using_f, wrap_body_f}
use Rattle.table_laws.specs.Streamed.Parts.{try_rows}
use Rattle.table_laws.proofs.Streamed.Parts.{Catches, any_try}
use Rattle.simulation.proofs.Rewritten.Standing.{n_is}
use Rattle.simulation.proofs.Rewritten.Replaced.{with_free}
use Rattle.simulation.proofs.Rewritten.Sides.{for_of_act_f, for_of_act_law}
use Rattle.simulation.proofs.Rewritten.ForOf.{insert_law, wrap_law}
use Rattle.simulation.proofs.Tried.Passing.{new_scopes, new_symbols}
use Rattle.simulation.proofs.Tried.Children.{children_law}
use Rattle.simulation.proofs.Tried.Try.{try_plan, try_law}
use Rattle.scoping_laws.proofs.Itemized.Items.{items_rows, items_symbols}
use Rattle.scoping_laws.proofs.Itemized.Program.{items_store}
use Rattle.spec_laws.specs.SameScopes.{items_scopes}
use Rattle.simulation.proofs.Arranged.Program.{program_law}
use Rattle.walk.specs.Visit.{plan_next_f, rewrite_program_f, rewrite_try_f, rewrite_for_of_f}
use Rattle.simulation.proofs.Rewrite.{Takes, By, done_by, kept_by, counts_some, line_takes}
use Rattle.simulation.proofs.Lists.{in_list_lem}
use Rattle.spec_laws.specs.Bools.{and-false}

module _ (done : Forest) (h : Head) (k r : Forest) (path : List Crumb) (st : Store) (g : ℕ) (z : Rest) where
  -- ---- a Try

  try_larger : Catches k → Agreed st
      → (let e = enter_try_statement (current_scope path) (hoist_scope path) h k st in
      Takes h k st e (try_rows k) (new_scopes st e.1) (new_symbols st e.1))
  unfolding enter_try_statement size
  try_larger c a =
      let p = children_law k (current_scope path) (hoist_scope path) st c a in
      let k' = (transform_try_parts (current_scope path) (hoist_scope path) k st).0 in
      (omega (arith, p.longer, length_rows k, length_rows k'), omega (arith, p.later), omega (arith, p.later))

  pub try_by : (b : Bool) → any_part_using k ≡ b → Catches k → By done h k r path st g z rewrite_try_f (act_if b try_parts)
  unfolding rewrite_try_f enter_as
  try_by true u c =
      let n = try_rows k in
      let e = enter_try_statement (current_scope path) (hoist_scope path) h k st in
      let z₀ = with_free (new_scopes st e.1) (new_symbols st e.1) z in
      let some : eqb n 0 ≡ false = counts_some (any_part_using k) n (any_try k c) ∙ ap not u in
      done_by done h k r path st g z rewrite_try_f _ n (new_scopes st e.1) (new_symbols st e.1)
      (try_larger c)
      (λ fits a room.
      rw (n_is done h k r path st (n + g) z₀, try_plan done h k r path st (n + g) z₀ fits (omega arith), some)
      (try_law done h k r path st g z fits a room c))
  try_by false u c =
      let n = try_rows k in
      let nothing : eqb n 0 ≡ true = counts_some (any_part_using k) n (any_try k c) ∙ ap not u in
      let zero_rows : n ≡ 0 = eqb-true n 0 nothing in
      kept_by done h k r path st g z rewrite_try_f
      (λ fits a. rw (n_is done h k r path st g z, try_plan done h k r path st g z fits (omega arith), nothing))

  -- ---- a Program

  program_larger : Exports k → Agreed st → Takes h k st (enter_program h k st) (items_rows k + 1) 1 (items_symbols k)
  unfolding enter_program total line_charge
  program_larger x a =
      let s = (program_items k st).0 in
      let st' = (program_items k st).1 in
      let new = scope_below h.a s.moved st' in (
        omega (arith, (program_pays h k st x).records),
        omega (arith, new.scopes, ap length (items_scopes k st)),
        omega (arith, rw (and-false (missing st')) at new.symbols, (items_store k st x a).1),
      )

  pub program_by : (b : Bool) → any_using k ≡ b → (b ≡ true → Exports k) → By done h k r path st g z rewrite_program_f (act_if b program)
  unfolding rewrite_program_f plan_next_f enter_as
  program_by true u x =
      let n = items_rows k + 1 in
      let z₀ = with_free 1 (items_symbols k) z in
      done_by done h k r path st g z rewrite_program_f _ n 1 (items_symbols k) (program_larger (x refl))
      (λ fits a room.
      rw (n_is done h k r path st (n + g) z₀, in_list_lem done h k r path st (n + g) z₀ fits true u)
      (program_law done h k r path st g z fits a room (x refl)))
  program_by false u x =
      kept_by done h k r path st g z rewrite_program_f
      (λ fits a. rw (n_is done h k r path st g z, in_list_lem done h k r path st g z fits false u))

-- ---- a ForOf

-- what an act does to the tables
abbrev done_as : ForOfAct → Tables → Tables
done_as as_is q = q
done_as insert q = insert_using_f q
done_as wrap q = wrap_body_f q

as_decided : (q : Tables) → rewrite_for_of_f q ≡ done_as (for_of_act_f q) q
unfolding rewrite_for_of_f
as_decided q =
    let gap = q.walk.gap.0 in
    by (takes_using_f q.records gap) (inserts_f q.records (in_symbols q.symbols q.walk.ctx) gap)
  where
    by : (b c : Bool)
        → (if b then (if c then insert_using_f q else wrap_body_f q) else q)
        ≡ done_as (if b then (if c then insert else wrap) else as_is) q
    by true true = refl
    by true false = refl
    by false c = refl

-- 01's act is done
acts : (done : Forest) (h : Head) (k r : Forest) (path : List Crumb) (st : Store) (g : ℕ) (z : Rest) (a : ForOfAct)
    → (let s = at done h k r path st in
    length (visited_at s) + g + length (rest_at s) ≤ 65535 → Agreed st → Left k → for_of_act st.as_read k ≡ a
    → rewrite_for_of_f (held s g z) ≡ done_as a (held s g z))
acts done h k r path st g z a fits ag l e =
    let q = held (at done h k r path st) g z in
    as_decided q ∙ ap (λ (x : ForOfAct). done_as x q) (for_of_act_law done h k r path st g z fits ag l ∙ e)

-- without three children, or without a using
plain_by : (done : Forest) (h : Head) (k r : Forest) (path : List Crumb) (st : Store) (g : ℕ) (z : Rest) → Left k
    → for_of_act st.as_read k ≡ as_is → By done h k r path st g z rewrite_for_of_f keep
unfolding enter_as
plain_by done h k r path st g z l e =
    kept_by done h k r path st g z rewrite_for_of_f (λ fits a. acts done h k r path st g z as_is fits a l e)

module _ (done : Forest) (h h₁ : Head) (k₁ : Forest) (h₂ : Head) (k₂ : Forest) (h₃ : Head) (k₃ r₃ r : Forest) (path : List Crumb)
    (st : Store) (g : ℕ) (z : Rest) where
  abbrev k : Forest
  k = more h₁ k₁ (more h₂ k₂ (more h₃ k₃ r₃))

  abbrev takes : Bool
  takes = is_using h₁ && binds_identifier k₁

  abbrev inserts : Bool
  inserts = eqb h₃.tag Tag.Block && not (binds_name st.as_read h₃.a (bound_symbol k₁))

  is_using_lem : takes ≡ true → is_using h₁ ≡ true
  is_using_lem e = and_left (is_using h₁) (binds_identifier k₁) e

  three_by : (b c : Bool) → takes ≡ b → inserts ≡ c → Left k
      → By done h k r path st g z rewrite_for_of_f (of_for_of (if b then (if c then insert else wrap) else as_is))
  unfolding enter_as for_of_act line_charge is_context
  three_by true true e d l =
      done_by done h k r path st g z rewrite_for_of_f _ 4 0 1
      (λ a. line_takes h k st _ for_of (insert_pays h h₁ k₁ h₂ k₂ h₃ k₃ r₃ st (is_using_lem e) (l e).0) refl)
      (λ fits a room.
      acts done h k r path st (4 + g) (with_free 0 1 z) insert fits a l (rw (e, d))
      ∙ insert_law done h h₁ k₁ h₂ k₂ h₃ k₃ r₃ r path st g z (l e).1 fits a room)
  three_by true false e d l =
      done_by done h k r path st g z rewrite_for_of_f _ 5 1 1
      (λ a. line_takes h k st _ for_of_block (wrap_pays h h₁ k₁ h₂ k₂ h₃ k₃ r₃ st (is_using_lem e) (l e).0) refl)
      (λ fits a room.
      acts done h k r path st (5 + g) (with_free 1 1 z) wrap fits a l (rw (e, d))
      ∙ wrap_law done h h₁ k₁ h₂ k₂ h₃ k₃ r₃ r path st g z (l e).1 fits a room)
  three_by false c e d l = plain_by done h k r path st g z l (rw e)

pub for_of_by : (done : Forest) (h : Head) (k r : Forest) (path : List Crumb) (st : Store) (g : ℕ) (z : Rest) → Left k
    → By done h k r path st g z rewrite_for_of_f (of_for_of (for_of_act st.as_read k))
unfolding for_of_act
for_of_by done h none r path st g z l = plain_by done h none r path st g z l refl
for_of_by done h (more h₁ k₁ none) r path st g z l = plain_by done h (one h₁ k₁) r path st g z l refl
for_of_by done h (more h₁ k₁ (more h₂ k₂ none)) r path st g z l = plain_by done h (more h₁ k₁ (one h₂ k₂)) r path st g z l refl
for_of_by done h (more h₁ k₁ (more h₂ k₂ (more h₃ k₃ r₃))) r path st g z l =
    three_by done h h₁ k₁ h₂ k₂ h₃ k₃ r₃ r path st g z _ _ refl refl l
