-- After any number of visits the numbers keep to the bound.
-- Assumes nothing.
use Rattle.std.proofs.Math.Bool.{true, false}
use mathlib.Core.List.{List, [], ◌∷◌}
use Prim.Native.Nat.{ℕ, zero, suc, ◌≤◌}
use native.Mathlib.Omega.{arith}
use Rattle.std.specs.Prelude.{eqb}
use Rattle.meaning.specs.Numbers.Tag
use Rattle.meaning.specs.Tree.{one_of, Head, Forest, none, more, one, ◌&◌}
use Rattle.meaning.specs.Grammar.{scope_of}
use Rattle.meaning.specs.Scoping.{Store}
use Rattle.meaning.specs.Statements.{any_using}
use Rattle.meaning.specs.Walk.{
  Act,
  keep,
  program,
  block,
  function_body,
  try_parts,
  for_loop,
  switch,
  for_of_insert,
  for_of_wrap,
  act_of,
  enter_as,
  enter,
  is_static_block,
  leave,
  Crumb,
  crumb,
  Spot,
  at,
  leaving,
  over,
  current_scope,
  hoist_scope,
  settle,
  visit,
  visits,
  plug,
  tree_at,
  store_at,
}
use Rattle.charge_laws.proofs.Counts.Figures.{settled}
use Rattle.bound_laws.specs.Numbers.{
  All,
  UpTo,
  HeadWithin,
  TreeWithin,
  StoreWithin,
  RowsWithin,
  Rewritten,
  gives,
  branch,
  either,
  within_&,
  scope_of_lem,
}
use Rattle.bound_laws.specs.NumbersContexts.{block_kept, body_kept, static_kept, tries_kept, for_kept, switch_kept}
use Rattle.bound_laws.specs.NumbersProgram.{for_of_kept, program_kept}

-- ---- where the walk stands

abbrev CrumbWithin : ℕ → Crumb → Type 0
CrumbWithin B (crumb h before after) = HeadWithin B h × TreeWithin B before × TreeWithin B after

abbrev pub SpotWithin : ℕ → Spot → Type 0
SpotWithin B (over tree st) = TreeWithin B tree × StoreWithin B st
SpotWithin B (at earlier h k r path st) =
    TreeWithin B earlier × HeadWithin B h × TreeWithin B k × TreeWithin B r × All (CrumbWithin B) path × StoreWithin B st
SpotWithin B (leaving kids h before after path st) =
    TreeWithin B kids × HeadWithin B h × TreeWithin B before × TreeWithin B after × All (CrumbWithin B) path × StoreWithin B st

module _ {B : ℕ} (big : 32 ≤ B) where
  current_most : (path : List Crumb) → All (CrumbWithin B) path → current_scope path ≤ B
  unfolding current_scope
  current_most [] p = omega arith
  current_most (crumb h before after ∷ path) p =
      either (UpTo B) (eqb (scope_of h) 0) (current_most path p.1) (scope_of_lem big h p.0.0)

  hoist_most : (path : List Crumb) → All (CrumbWithin B) path → hoist_scope path ≤ B
  unfolding hoist_scope
  hoist_most [] p = omega arith
  hoist_most (crumb h before after ∷ path) p =
      either (UpTo B) (one_of (Tag.Program ∷ Tag.Function ∷ Tag.StaticBlock ∷ []) h.tag) (scope_of_lem big h p.0.0) (hoist_most path p.1)

  pub settled_within : (path : List Crumb) (earlier f : Forest) (st : Store) → All (CrumbWithin B) path → TreeWithin B earlier → TreeWithin B f
      → StoreWithin B st → SpotWithin B (settle earlier f path st)
  unfolding settle
  settled_within [] earlier none st p d w s = (d, s)
  settled_within [] earlier (more h k r) st p d w s = (d, w.0, w.1, w.2, tt, s)
  settled_within (crumb h before after ∷ path) earlier none st p d w s =
      let c = p.0 in
      either (SpotWithin B) (is_static_block h) (d, c.0, c.1, c.2, p.1, s)
      (settled_within path (before & one h earlier) after st p.1 (within_& big before (one h earlier) c.1 (c.0, d, tt)) c.2 s)
  settled_within (crumb h before after ∷ path) earlier (more h₁ k₁ r₁) st p d w s = (d, w.0, w.1, w.2, p, s)

  plugged : (f : Forest) (path : List Crumb) → TreeWithin B f → All (CrumbWithin B) path → TreeWithin B (plug f path)
  unfolding plug
  plugged f [] w p = w
  plugged f (crumb h before after ∷ path) w p =
      let c = p.0 in
      plugged (before & more h f after) path (within_& big before (more h f after) c.1 (c.0, w, c.2)) p.1

  pub tree_within : (s : Spot) → SpotWithin B s → TreeWithin B (tree_at s)
  unfolding tree_at
  tree_within (over tree st) i = i.0
  tree_within (at earlier h k r path st) i =
      plugged (earlier & more h k r) path (within_& big earlier (more h k r) i.0 (i.1, i.2, i.3)) i.4
  tree_within (leaving kids h before after path st) i =
      plugged (before & more h kids after) path (within_& big before (more h kids after) i.2 (i.1, i.0, i.3)) i.4

  pub store_within : (s : Spot) → SpotWithin B s → StoreWithin B (store_at s)
  unfolding store_at
  store_within (over tree st) i = i.1
  store_within (at earlier h k r path st) i = i.5
  store_within (leaving kids h before after path st) i = i.5

  -- ---- visits

  act_kept : (a : Act) (cur hoist : ℕ) (h : Head) (k : Forest) (st : Store) → cur ≤ B → hoist ≤ B → HeadWithin B h → TreeWithin B k
      → Rewritten B st (enter_as a cur hoist h k st)
  unfolding enter_as
  act_kept keep cur hoist h k st c d p w = gives (λ _. (p, w))
  act_kept program cur hoist h k st c d p w = program_kept big h k st p w
  act_kept block cur hoist h k st c d p w = block_kept big cur hoist h k st c d p w
  act_kept function_body cur hoist h k st c d p w = body_kept big cur hoist k st c d w
  act_kept try_parts cur hoist h k st c d p w = tries_kept big cur hoist h k st d p w
  act_kept for_loop cur hoist h k st c d p w = for_kept big cur hoist h k st c d p w
  act_kept switch cur hoist h k st c d p w = switch_kept big cur h k st c p w
  act_kept for_of_insert cur hoist h k st c d p w = for_of_kept big false h k st p w
  act_kept for_of_wrap cur hoist h k st c d p w = for_of_kept big true h k st p w

  leave_kept : (h : Head) (k : Forest) (st : Store) → HeadWithin B h → TreeWithin B k → Rewritten B st (leave h k st)
  unfolding leave
  leave_kept h k st p w = branch (any_using k) _ _ st (static_kept big h k st p w) (gives (λ _. (p, w)))

  visit_within : (s : Spot) → SpotWithin B s → RowsWithin B (store_at (visit s)) → SpotWithin B (visit s)
  unfolding visit enter
  visit_within (over tree st) i r = i
  visit_within (at earlier h k after path st) i r =
      let cur = current_scope path in
      let hoist = hoist_scope path in
      let e = enter cur hoist h k st in
      let a = act_kept (act_of st.as_read h k) cur hoist h k st (current_most path i.4) (hoist_most path i.4) i.1 i.2 in
      let p = a.kept tt i.5 (rw (settled (crumb e.0.head earlier after ∷ path) none e.0.children e.1).1 at r) in
      settled_within (crumb e.0.head earlier after ∷ path) none e.0.children e.1 ((p.0.0, i.0, i.3), i.4) tt p.0.1 p.1
  visit_within (leaving kids h before after path st) i r =
      let e = leave h kids st in
      let now = before & one e.0.head e.0.children in
      let p = (leave_kept h kids st i.1 i.0).kept tt i.5 (rw (settled path now after e.1).1 at r) in
      settled_within path now after e.1 i.4
      (within_& big before (one e.0.head e.0.children) i.2 (p.0.0, p.0.1, tt)) i.3 p.1

  pub visits_within : (n : ℕ) (s : Spot) → SpotWithin B s → ((k : ℕ) → RowsWithin B (store_at (visits k s))) → SpotWithin B (visits n s)
  unfolding visits
  visits_within zero s i r = i
  visits_within (suc n) s i r = visits_within n (visit s) (visit_within s i (r 1)) (λ k. r (suc k))
