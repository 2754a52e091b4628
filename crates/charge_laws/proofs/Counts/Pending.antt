-- What is still to be visited stays fit.
-- Assumes nothing.
use Rattle.std.specs.Prelude.{if◌then◌else◌, ◌≡◌, refl, Bool, true, false, List, [], ◌∷◌, ℕ, zero, suc}
use Rattle.meaning.specs.Tree.{Head, Forest, none, more, one, single, ◌&◌}
use Rattle.meaning.specs.File.{File}
use Rattle.meaning.specs.Scoping.{Store}
use Rattle.meaning.specs.Walk.{
  is_static_block,
  enter,
  leave,
  Crumb,
  crumb,
  Spot,
  at,
  leaving,
  over,
  current_scope,
  hoist_scope,
  settle,
  visit,
  visits,
  store_of,
  start,
}
use Rattle.charge_laws.proofs.Counts.Left.{Ready}
use Rattle.charge_laws.proofs.Counts.Fits.{Fits}
use Rattle.charge_laws.proofs.Counts.FitEntered.{enter_fits}

-- behind the open records
abbrev pub FitsBehind : List Crumb → Type 0
FitsBehind [] = Unit {0}
FitsBehind (crumb h d r ∷ p) = Fits r × FitsBehind p

-- from a spot on; the walk leaves StaticBlocks only
abbrev pub Pending : Spot → Type 0
Pending (over tree st) = Unit {0}
Pending (at d h k r p st) = Fits (more h k r) × FitsBehind p
Pending (leaving k h d r p st) = (is_static_block h ≡ true) × Fits r × FitsBehind p

pub ready : (s : Spot) → Pending s → Ready s
ready (over tree st) q = tt
ready (at d h k r p st) q = q.0.0
ready (leaving k h d r p st) q = q.0

pending_if : (b : Bool) (h : Head) (d d₀ r₀ : Forest) (p : List Crumb) (st : Store) → is_static_block h ≡ b → Fits r₀ → FitsBehind p
    → Pending (settle (d₀ & one h d) r₀ p st)
    → Pending (if b then leaving d h d₀ r₀ p st else settle (d₀ & one h d) r₀ p st)
pending_if true h d d₀ r₀ p st e q o i = (e, q, o)
pending_if false h d d₀ r₀ p st e q o i = i

pending_settle : (p : List Crumb) (d f : Forest) (st : Store) → Fits f → FitsBehind p → Pending (settle d f p st)
unfolding settle
pending_settle [] d none st q o = tt
pending_settle [] d (more h k r) st q o = (q, o)
pending_settle (crumb h d₀ r₀ ∷ p) d none st q o =
    pending_if (is_static_block h) h d d₀ r₀ p st refl o.0 o.1 (pending_settle p (d₀ & one h d) r₀ st o.0 o.1)
pending_settle (c ∷ p) d (more h k r) st q o = (q, o)

pub pending_visit : (s : Spot) → Pending s → Pending (visit s)
unfolding visit
pending_visit (over tree st) q = tt
pending_visit (at d h k r p st) q =
    let e = enter (current_scope p) (hoist_scope p) h k st in
    pending_settle (crumb e.0.head d r ∷ p) none e.0.children e.1
    (enter_fits (current_scope p) (hoist_scope p) h k st q.0.0 q.0.1)
    (q.0.2, q.1)
pending_visit (leaving k h d r p st) q =
    let e = leave h k st in
    pending_settle p (d & single e.0) r e.1 q.1 q.2

-- ---- a file

pub pending_start : (f : File) → Fits f.tree → Pending (start f)
unfolding start
pending_start f q = pending_settle [] none f.tree (store_of f) q tt

pending_visits : (k : ℕ) (s : Spot) → Pending s → Pending (visits k s)
unfolding visits
pending_visits zero s q = q
pending_visits (suc k) s q = pending_visits k (visit s) (pending_visit s q)

-- At every spot of the walk of a fit file, what is still to be visited is fit.
pub spot_fits : (k : ℕ) (f : File) → Fits f.tree → Pending (visits k (start f))
spot_fits k f q = pending_visits k (start f) (pending_start f q)
