-- Each visit keeps the scope rows in agreement with the tree, and so does the import line.
-- Assumes nothing.
use Rattle.std.specs.Prelude.{◌≡◌, refl, List, ◌∷◌, ℕ, zero, suc, ◌+◌}
use Rattle.std.proofs.Common.{sym, ap, subst, ◌∙◌, arith}
use Rattle.meaning.specs.Tree.{Head, Forest, none, more, one, Node, ◌&◌}
use Rattle.meaning.specs.Grammar.{scope_of}
use Rattle.meaning.specs.Agreement.{names_scope}
use Rattle.meaning.specs.Scoping.{Store}
use Rattle.meaning.specs.Walk.{
  enter,
  leave,
  Crumb,
  crumb,
  Spot,
  at,
  leaving,
  over,
  current_scope,
  hoist_scope,
  settle,
  visit,
  visits,
  plug,
  tree_at,
  store_at,
}
use Rattle.meaning.specs.ImportLine.{with_import, completed}
use Rattle.spec_laws.specs.Calls.{completed_store, completed_keeps}
use Rattle.charge_laws.proofs.Counts.Visits.{&-assoc}
use Rattle.charge_laws.proofs.Counts.Pending.{Pending, pending_visit}
use Rattle.charge_laws.proofs.Counts.Figures.{settled}
use Rattle.agreement_laws.specs.Weights.{Weight, demanded, Offers, offers_same}
use Rattle.agreement_laws.specs.Demands.{demanded_more, demanded_&, around, demanded_plug}
use Rattle.agreement_laws.specs.Tries.{Keeps}
use Rattle.agreement_laws.specs.Entered.{enter_keeps, leave_keeps}

-- the rows offer what the tree demands
abbrev pub AgreeAt : Spot → Type 0
AgreeAt s = Offers (store_at s).scopes (λ w. demanded w 0 (tree_at s))

-- ---- one visit

-- a record in its tree
in_tree : (w : Weight) (d : Forest) (h : Head) (k r : Forest) (p : List Crumb)
    → demanded w 0 (plug (d & more h k r) p)
    ≡ demanded w (current_scope p) (one h k) + (demanded w (current_scope p) d + (demanded w (current_scope p) r + around w p))
in_tree w d h k r p =
    let cur = current_scope p in
    omega (arith, demanded_plug w p (d & more h k r), demanded_& w cur d (more h k r), demanded_more w cur h k r)

replaced : (d : Forest) (h : Head) (k r : Forest) (p : List Crumb) (st : Store) (e : Node × Store) → Keeps (current_scope p) h k st e
    → Offers st.scopes (λ w. demanded w 0 (plug (d & more h k r) p))
    → Offers e.1.scopes (λ w. demanded w 0 (plug (d & more e.0.head e.0.children r) p))
replaced d h k r p st e keeps o =
    let cur = current_scope p in
    let o₁ = keeps (λ w. demanded w cur d + (demanded w cur r + around w p)) (λ w. omega (arith, o w, in_tree w d h k r p)) in
    λ w. omega (arith, o₁ w, in_tree w d e.0.head e.0.children r p)

-- going on changes neither tree nor rows
pub at_settled : (d f : Forest) (p : List Crumb) (st : Store) → Offers st.scopes (λ w. demanded w 0 (plug (d & f) p)) → AgreeAt (settle d f p st)
at_settled d f p st o =
    let s = settled p d f st in
    offers_same (ap (λ (x : Store). x.scopes) s.1) (λ w. o w ∙ ap (demanded w 0) (sym s.0))

visit_agrees : (s : Spot) → Pending s → AgreeAt s → AgreeAt (visit s)
unfolding visit tree_at store_at plug ◌&◌
visit_agrees (over tree st) q o = o
visit_agrees (at d h k r p st) q o =
    let e = enter (current_scope p) (hoist_scope p) h k st in
    at_settled none e.0.children (crumb e.0.head d r ∷ p) e.1
    (replaced d h k r p st e (enter_keeps (current_scope p) (hoist_scope p) h k st q.0.0) o)
visit_agrees (leaving k h d r p st) q o =
    let e = leave h k st in
    let single = one e.0.head e.0.children in
    at_settled (d & single) r p e.1
    (subst (λ (f : Forest). Offers e.1.scopes (λ w. demanded w 0 (plug f p))) (sym (&-assoc d single r))
    (replaced d h k r p st e (leave_keeps (current_scope p) h k st q.0) o))

-- ---- any number of visits

pub visits_agree : (k : ℕ) (s : Spot) → Pending s → AgreeAt s → AgreeAt (visits k s)
unfolding visits
visits_agree zero s q o = o
visits_agree (suc k) s q o = visits_agree k (visit s) (pending_visit s q) (visit_agrees s q o)

-- ---- the import line

-- it demands nothing
import_demands : (w : Weight) (y : ℕ) (tree : Forest) → demanded w 0 (with_import y tree) ≡ demanded w 0 tree
unfolding with_import demanded names_scope scope_of ◌&◌
import_demands w y none = refl
import_demands w y (more h k r) = omega arith

pub completed_agrees : (s : Spot) → AgreeAt s → AgreeAt (completed s)
completed_agrees s o =
    offers_same (ap (λ (x : Store). x.scopes) (completed_store s))
    (completed_keeps (λ tree. Offers (store_at s).scopes (λ w. demanded w 0 tree)) s o
    (λ w. o w ∙ sym (import_demands w (store_at s).helper (tree_at s))))
