-- No visit adds to the rows and the tree's weight.
-- Assumes nothing.
use Rattle.std.specs.Prelude.{if◌then◌else◌, ◌≡◌, Bool, List, [], ◌∷◌, ℕ, zero, suc, ◌+◌, ◌≤◌, eqb}
use Rattle.std.proofs.Math.Path.{refl}
use Rattle.std.proofs.Common.{sym, ap, le_refl}
use Rattle.std.proofs.Math.Bool.{true, false}
use native.Mathlib.Omega.{arith}
use borrow.Author.Tests.{eq-eqb}
use Rattle.meaning.specs.Numbers.Tag
use Rattle.meaning.specs.Tree.{Head, Forest, none, more, one, Node, node, ◌&◌}
use Rattle.meaning.specs.File.{File}
use Rattle.meaning.specs.Scoping.{Store, return}
use Rattle.meaning.specs.Statements.{is_using, any_using}
use Rattle.meaning.specs.Contexts.{exit_static_block}
use Rattle.meaning.specs.Walk.{
  Act,
  enter_as,
  enter,
  is_static_block,
  leave,
  Crumb,
  crumb,
  Spot,
  at,
  leaving,
  over,
  current_scope,
  hoist_scope,
  settle,
  visit,
  visits,
  start,
  store_of,
  plug,
  tree_at,
  store_at,
}
use Rattle.spec_laws.specs.Tags.{clash}
use Rattle.charge_laws.specs.Growth.Chosen.{Chosen, kept, as_program, as_block, as_body, as_try, as_for, as_switch, as_insert, as_wrap}
use Rattle.charge_laws.proofs.Growth.Chosen.{chosen}
use Rattle.bound_laws.specs.Rows.{RowKind, rows}
use Rattle.bound_laws.specs.Weights.{Role, plain, below, weigh, weight, next, after, weigh_&}
use Rattle.bound_laws.specs.Contexts.{Within, block_within, body_within, static_within, try_within, for_within, switch_within}
use Rattle.bound_laws.specs.Rewrites.{for_of_within, program_within}

-- ---- entering and leaving

module _ (K : RowKind) (r : Role) where
  act_within : {a : Act} {h : Head} {k : Forest} (cur hoist : ℕ) (st : Store) → Chosen a h k
      → Within K r h k st (enter_as a cur hoist h k st)
  unfolding enter_as
  act_within cur hoist st (kept i) = omega arith
  act_within {h = h} {k = k} cur hoist st (as_program e u) = program_within K r h k st (eq-eqb h.tag Tag.Program e) u
  act_within {h = h} {k = k} cur hoist st (as_block e u) = block_within K r cur hoist h k st u (eq-eqb h.tag Tag.Block e)
  act_within {h = h} {k = k} cur hoist st (as_body e u) = body_within K r cur hoist h k st u (eq-eqb h.tag Tag.Body e)
  act_within {h = h} {k = k} cur hoist st (as_try e u) = try_within K r cur hoist h k st (eq-eqb h.tag Tag.Try e)
  act_within {h = h} {k = k} cur hoist st (as_for e u) = for_within K r cur hoist h k st e u
  act_within {h = h} {k = k} cur hoist st (as_switch e u) = switch_within K r cur h k st (eq-eqb h.tag Tag.Switch e) u
  act_within {h = h} cur hoist st (as_insert {h₁ = h₁} {h₂ = h₂} {h₃ = h₃} {k₁ = k₁} {k₂ = k₂} {k₃ = k₃} {r = f} e b two) =
      for_of_within K r false h h₁ k₁ h₂ k₂ h₃ k₃ f st (eq-eqb h.tag Tag.ForOf e) b.uses b.identifier (λ _. eq-eqb h₃.tag Tag.Block two)
  act_within {h = h} cur hoist st (as_wrap {h₁ = h₁} {h₂ = h₂} {h₃ = h₃} {k₁ = k₁} {k₂ = k₂} {k₃ = k₃} {r = f} e b) =
      for_of_within K r true h h₁ k₁ h₂ k₂ h₃ k₃ f st (eq-eqb h.tag Tag.ForOf e) b.uses b.identifier (λ n. absurd (clash n refl))

  enter_within : (cur hoist : ℕ) (h : Head) (k : Forest) (st : Store) → Within K r h k st (enter cur hoist h k st)
  unfolding enter
  enter_within cur hoist h k st = act_within cur hoist st (chosen st.as_read h k)

  leave_if : (b : Bool) (h : Head) (k : Forest) (st : Store) → eqb h.tag Tag.StaticBlock ≡ true → any_using k ≡ b
      → Within K r h k st ((if b then exit_static_block h k else return (node h k)) st)
  leave_if true h k st e any = static_within K r h k st any e
  leave_if false h k st e any = omega arith

  leave_within : (h : Head) (k : Forest) (st : Store) → eqb h.tag Tag.StaticBlock ≡ true → Within K r h k st (leave h k st)
  unfolding leave
  leave_within h k st e = leave_if (any_using k) h k st e refl

-- ---- the tree around a spot

&-none : (f : Forest) → (f & none) ≡ f
unfolding ◌&◌
&-none none = refl
&-none (more h k r) = ap (more h k) (&-none r)

&-one : (f : Forest) (h : Head) (k g : Forest) → ((f & one h k) & g) ≡ (f & more h k g)
unfolding ◌&◌
&-one none h k g = refl
&-one (more h₁ k₁ r) h k g = ap (more h₁ k₁) (&-one r h k g)

-- the role of the records below a path
role_at : List Crumb → Role
role_at [] = plain
role_at (crumb h before rest ∷ path) = below (after before (role_at path)) h.tag (is_using h)

weigh_between : (K : RowKind) (r : Role) (before : Forest) (h : Head) (k rest : Forest)
    → weigh K r (before & more h k rest) ≡ weigh K r before + weight K (after before r) h k + weigh K (next (after before r)) rest
unfolding weigh
weigh_between K r before h k rest = omega (arith, weigh_& K r before (more h k rest))

plugged : (K : RowKind) (m n : ℕ) (path : List Crumb) (f g : Forest) → m + weigh K (role_at path) f ≤ n + weigh K (role_at path) g
    → m + weigh K plain (plug f path) ≤ n + weigh K plain (plug g path)
unfolding role_at plug
plugged K m n [] f g l = l
plugged K m n (crumb h before rest ∷ path) f g l =
    plugged K m n path (before & more h f rest) (before & more h g rest)
    (omega (arith, weigh_between K (role_at path) before h f rest, weigh_between K (role_at path) before h g rest))

-- a record in its place, before and after its rewrite
rewritten : (K : RowKind) (path : List Crumb) (before : Forest) (h : Head) (k rest : Forest) (st : Store) (e : Node × Store)
    → Within K (after before (role_at path)) h k st e
    → rows K e.1 + weigh K plain (plug (before & more e.0.head e.0.children rest) path)
    ≤ rows K st + weigh K plain (plug (before & more h k rest) path)
rewritten K path before h k rest st e w =
    plugged K (rows K e.1) (rows K st) path (before & more e.0.head e.0.children rest) (before & more h k rest)
    (omega (
      arith,
      weigh_between K (role_at path) before h k rest,
      weigh_between K (role_at path) before e.0.head e.0.children rest,
    ))

-- ---- settling

-- only a StaticBlock is left in a visit
abbrev Fine : Spot → Type 0
Fine (over tree st) = Unit {0}
Fine (at earlier h k r path st) = Unit {0}
Fine (leaving kids h before rest path st) = eqb h.tag Tag.StaticBlock ≡ true

record Settled (f : Forest) (st : Store) (s : Spot) : Type 0 where
  tree : tree_at s ≡ f
  store : store_at s ≡ st
  fine : Fine s

settled_if : (b : Bool) (earlier : Forest) (h : Head) (before rest : Forest) (path : List Crumb) (st : Store) → is_static_block h ≡ b
    → Settled (plug ((before & one h earlier) & rest) path) st (settle (before & one h earlier) rest path st)
    → Settled (plug (before & more h earlier rest) path) st
    (if b then leaving earlier h before rest path st else settle (before & one h earlier) rest path st)
unfolding tree_at store_at
settled_if true earlier h before rest path st e i = record { tree = refl; store = refl; fine = e }
settled_if false earlier h before rest path st e i = rw (&-one before h earlier rest) at i

settled : (path : List Crumb) (earlier f : Forest) (st : Store) → Settled (plug (earlier & f) path) st (settle earlier f path st)
unfolding settle plug tree_at store_at
settled [] earlier none st = record { tree = sym (&-none earlier); store = refl; fine = tt }
settled [] earlier (more h k r) st = record { tree = refl; store = refl; fine = tt }
settled (crumb h before rest ∷ path) earlier none st =
    rw (&-none earlier) (settled_if (is_static_block h) earlier h before rest path st refl (settled path (before & one h earlier) rest st))
settled (crumb h before rest ∷ path) earlier (more h₁ k₁ r₁) st = record { tree = refl; store = refl; fine = tt }

-- ---- visits

-- the rows, with the tree's weight
abbrev pub total : RowKind → Spot → ℕ
total K s = rows K (store_at s) + weigh K plain (tree_at s)

-- a spot with this tree and store is fine, and its total no more
abbrev Next : RowKind → ℕ → Spot → Type 0
Next K n s = Fine s × (total K s ≤ n)

next_spot : (K : RowKind) (n : ℕ) (f : Forest) (st : Store) (s : Spot) → Settled f st s → rows K st + weigh K plain f ≤ n → Next K n s
next_spot K n f st s i l = (i.fine, rw (i.tree, i.store) l)

visit_within : (K : RowKind) (s : Spot) → Fine s → Next K (total K s) (visit s)
unfolding visit tree_at store_at ◌&◌ plug
visit_within K (over tree st) i = (tt, omega arith)
visit_within K (at earlier h k r path st) i =
    let e = enter (current_scope path) (hoist_scope path) h k st in
    next_spot K _ _ _ _ (settled (crumb e.0.head earlier r ∷ path) none e.0.children e.1)
    (rewritten K path earlier h k r st e (enter_within K (after earlier (role_at path)) (current_scope path) (hoist_scope path) h k st))
visit_within K (leaving kids h before rest path st) i =
    let e = leave h kids st in
    next_spot K _ _ _ _ (settled path (before & one e.0.head e.0.children) rest e.1)
    (rw (&-one before e.0.head e.0.children rest)
    (rewritten K path before h kids rest st e (leave_within K (after before (role_at path)) h kids st i)))

visits_within : (K : RowKind) (n : ℕ) (s : Spot) → Fine s → total K (visits n s) ≤ total K s
unfolding visits
visits_within K zero s i = omega arith
visits_within K (suc n) s i =
    let v = visit_within K s i in
    omega (arith, v.1, visits_within K n (visit s) v.0)

start_within : (K : RowKind) (f : File) → Next K (rows K (store_of f) + weigh K plain f.tree) (start f)
unfolding start plug ◌&◌
start_within K f = next_spot K _ _ _ _ (settled [] none f.tree (store_of f)) (le_refl _)

-- NEVER MORE. After any number of visits, the rows and the tree's weight are no more than those of the file.
pub walk_within : (K : RowKind) (n : ℕ) (f : File) → total K (visits n (start f)) ≤ rows K (store_of f) + weigh K plain f.tree
walk_within K n f =
    let i = start_within K f in
    omega (arith, visits_within K n (start f) i.0, i.1)
