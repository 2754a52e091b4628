-- At every spot of an accepted file's walk, records without n have no children.
-- Assumes nothing.
use Rattle.std.specs.Prelude.{Ok, ◌≡◌, refl, true, false, List, [], ◌∷◌, ℕ, zero, suc}
use Rattle.std.proofs.Common.{sym, ap, subst, ◌∙◌, arith}
use Rattle.meaning.specs.Tree.{Head, Forest, none, more, one, count, single, ◌&◌}
use Rattle.meaning.specs.File.{File, has_children}
use Rattle.meaning.specs.Grammar.{children_of, place_of}
use Rattle.meaning.specs.Reading.{read_file}
use Rattle.meaning.specs.Walk.{enter, leave, Crumb, crumb, Spot, at, leaving, over, current_scope, hoist_scope, visit, visits, store_of, start, plug, tree_at}
use Rattle.meaning.specs.ImportLine.{with_import, completed}
use Rattle.meaning.specs.declared.Place.{Place}
use Rattle.meaning.specs.declared.Place.TheVariants.{Program}
use Rattle.meaning.specs.declared.Field.{Field}
use Rattle.charge_laws.proofs.Counts.Visits.{&-assoc}
use Rattle.charge_laws.proofs.Counts.Pending.{Pending, pending_start, pending_visit}
use Rattle.charge_laws.proofs.Fit.Placed.{same_tag, Placed, accepted_placed}
use Rattle.charge_laws.proofs.Fit.Accepted.{accepted_fit}
use Rattle.charge_laws.proofs.Fit.Root.{root, accepted_root}
use Rattle.spec_laws.specs.Tags.{clash}
use Rattle.spec_laws.specs.Calls.{completed_keeps}
use Rattle.charge_laws.proofs.Counts.Figures.{settled}
use Rattle.readback_laws.proofs.Back.{Childless}
use Rattle.readback_laws.proofs.Contexts.{leave_childless}
use Rattle.readback_laws.proofs.Entered.{filled, enter_childless}

-- ---- as read

no_count : (k : Forest) → count k ≡ 0 → k ≡ none
unfolding count
no_count none e = refl
no_count (more h k r) e = absurd (omega arith)

no_children : (x : Field) → has_children x.tag ≡ false → children_of x ≡ 0
unfolding children_of
no_children x e = rw e

placed_childless : (syms : ℕ) (f : Forest) (place : ℕ → Place) (i : ℕ) → Placed syms place i f → Childless f
placed_childless syms none place i q = tt
placed_childless syms (more h k r) place i q =
    let x = q.0 in
    let a = q.1 in (
      (λ e. no_count k (a.children ∙ no_children x (ap has_children (sym (same_tag a)) ∙ e))),
      placed_childless syms k (place_of (place i) x) 0 q.2,
      placed_childless syms r place (suc i) q.3,
    )

-- ---- the tree around a spot

-- a record beside others is replaced
beside : (d : Forest) (h h' : Head) (k k' r : Forest) → (Childless (one h k) → Childless (one h' k'))
    → Childless (d & more h k r) → Childless (d & more h' k' r)
unfolding ◌&◌
beside none h h' k k' r s p = let q = s (p.0, p.1, tt) in (q.0, q.1, p.2)
beside (more x y z) h h' k k' r s p = (p.0, p.1, beside z h h' k k' r s p.2)

-- a record is there, with others or alone
filled_beside : (d : Forest) (h : Head) (k r : Forest) → d & more h k r ≡ none → ⊥
unfolding ◌&◌
filled_beside none h k r e = filled h k r e
filled_beside (more x y z) h k r e = filled x y (z & more h k r) e

-- around the open records, which have children then as before
plugged : (p : List Crumb) (d : Forest) (h h' : Head) (k k' r : Forest) → (Childless (one h k) → Childless (one h' k'))
    → Childless (plug (d & more h k r) p) → Childless (plug (d & more h' k' r) p)
unfolding plug
plugged [] d h h' k k' r s q = beside d h h' k k' r s q
plugged (crumb x d₀ r₀ ∷ p) d h h' k k' r s q =
    plugged p d₀ x x (d & more h k r) (d & more h' k' r) r₀
    (λ o. ((λ e. absurd (filled_beside d h k r (o.0 e))), beside d h h' k k' r s o.1, tt))
    q

-- ---- visits

visit_childless : (s : Spot) → Pending s → Childless (tree_at s) → Childless (tree_at (visit s))
unfolding visit tree_at plug ◌&◌
visit_childless (over tree st) q p = p
visit_childless (at d h k r path st) q p =
    let e = enter (current_scope path) (hoist_scope path) h k st in
    subst Childless (sym (settled (crumb e.0.head d r ∷ path) none e.0.children e.1).0)
    (plugged path d h e.0.head k e.0.children r (enter_childless (current_scope path) (hoist_scope path) h k st q.0.0) p)
visit_childless (leaving k h d r path st) q p =
    let e = leave h k st in
    subst Childless
    (sym ((settled path (d & single e.0) r e.1).0 ∙ ap (λ (f : Forest). plug f path) (&-assoc d (single e.0) r)))
    (plugged path d h e.0.head k e.0.children r (leave_childless h k st) p)

visits_childless : (k : ℕ) (s : Spot) → Pending s → Childless (tree_at s) → Childless (tree_at (visits k s))
unfolding visits
visits_childless zero s q p = p
visits_childless (suc k) s q p = visits_childless k (visit s) (pending_visit s q) (visit_childless s q p)

-- At every spot of an accepted file's walk, records without n have no children.
pub accepted_childless : (b : List ℕ) (f : File) (k : ℕ) → read_file b ≡ Ok f → Childless (tree_at (visits k (start f)))
unfolding start plug ◌&◌
accepted_childless b f k e =
    let q = accepted_placed b f e in
    visits_childless k (start f) (pending_start f (accepted_fit b f e))
    (subst Childless (sym (settled [] none f.tree (store_of f)).0) (placed_childless q.0 f.tree (λ _. Program) 0 q.1))

-- ---- with the import line

import_childless : (y : ℕ) (tree : Forest) → has_children (root tree).tag ≡ true → Childless tree → Childless (with_import y tree)
unfolding with_import root has_children ◌&◌
import_childless y none e q = tt
import_childless y (more h k r) e q = (
  λ d. absurd (clash d e),
  ((λ d. absurd (clash d refl)), ((λ d. refl), tt, tt), q.1),
  q.2,
)

-- The same where calls for visits lead.
pub calls_childless : (b : List ℕ) (f : File) (k : ℕ) → read_file b ≡ Ok f → Childless (tree_at (completed (visits k (start f))))
unfolding has_children
calls_childless b f k e =
    let q = accepted_childless b f k e in
    completed_keeps Childless (visits k (start f)) q
    (import_childless _ _ (ap (λ (h : Head). has_children h.tag) (accepted_root b f k e)) q)
