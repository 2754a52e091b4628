-- When the walk is over, no using is left that should have been taken up.
-- Assumes nothing.
use Rattle.std.specs.Prelude.{Ok, ◌≡◌, refl, true, List, [], ◌∷◌, ℕ, zero, suc}
use Rattle.meaning.specs.Tree.{Forest, none, more, one, ◌&◌}
use Rattle.meaning.specs.File.{File}
use Rattle.meaning.specs.Reading.{read_file}
use Rattle.meaning.specs.Statements.{is_using, any_using}
use Rattle.meaning.specs.Shapes.{import_helper}
use Rattle.meaning.specs.Walk.{
  enter,
  leave,
  crumb,
  Spot,
  at,
  leaving,
  over,
  is_over,
  current_scope,
  hoist_scope,
  visit,
  visits,
  store_of,
  start,
  tree_at,
}
use Rattle.meaning.specs.ImportLine.{with_import, completed}
use Rattle.spec_laws.specs.Tags.{clash}
use Rattle.spec_laws.specs.Calls.{completed_keeps}
use Rattle.charge_laws.proofs.Counts.Visits.{&-assoc}
use Rattle.charge_laws.proofs.Counts.Pending.{Pending, pending_visit, pending_start}
use Rattle.charge_laws.proofs.Fit.Accepted.{accepted_fit}
use Rattle.hint_laws.proofs.Outline.{same_&}
use Rattle.hint_laws.proofs.Lowered.Quiet.{Quiet, AllQuiet, calm, quiet_&}
use Rattle.hint_laws.proofs.Lowered.Paths.{QuietPath, QuietAt, quiet_settle, path_same}
use Rattle.hint_laws.proofs.Lowered.Entered.{first_held, enter_opens}
use Rattle.hint_laws.proofs.Lowered.Left.{leave_quiet}

-- one visit, and any number
quiet_visit : (s : Spot) → Pending s → QuietAt s → QuietAt (visit s)
unfolding visit QuietAt QuietPath AllQuiet ◌&◌
quiet_visit (over tree st) w q = q
quiet_visit (at d h k r p st) w q =
    let e = enter (current_scope p) (hoist_scope p) h k st in
    let o = enter_opens (current_scope p) (hoist_scope p) h k st w.0.0 in
    quiet_settle (crumb e.0.head d r ∷ p) none e.0.children e.1 tt
    (o.0, q.0, path_same p (d & more h k r) (d & more e.0.head e.0.children r) (same_& d _ _ (o.1 r)) q.1)
quiet_visit (leaving k h d r p st) w q =
    let e = leave h k st in
    let o = leave_quiet h k st q.0 q.1 in
    quiet_settle p (d & one e.0.head e.0.children) r e.1
    (quiet_& d (one e.0.head e.0.children) q.2 o.0)
    (rw &-assoc (path_same p (d & more h k r) (d & more e.0.head e.0.children r) (same_& d _ _ (o.1 r)) q.3))

quiet_visits : (k : ℕ) (s : Spot) → Pending s → QuietAt s → QuietAt (visits k s)
unfolding visits
quiet_visits zero s w q = q
quiet_visits (suc k) s w q = quiet_visits k (visit s) (pending_visit s w) (quiet_visit s w q)

-- At every spot of the walk of an accepted file, what is done is quiet, and so is each open record but a StaticBlock.
pub visits_quiet : (k : ℕ) (b : List ℕ) (f : File) → read_file b ≡ Ok f → QuietAt (visits k (start f))
unfolding start AllQuiet QuietPath
visits_quiet k b f e = quiet_visits k (start f) (pending_start f (accepted_fit b f e)) (quiet_settle [] none f.tree (store_of f) tt tt)

-- ---- the end

over_at : (s : Spot) → is_over s ≡ true → QuietAt s → AllQuiet (tree_at s)
unfolding is_over tree_at QuietAt
over_at (over tree st) o q = q
over_at (at d h k r p st) o q = absurd (clash refl o)
over_at (leaving k h d r p st) o q = absurd (clash refl o)

-- So the lowered tree is quiet: no using is left that is to be taken up.
pub over_quiet : (b : List ℕ) (f : File) (k : ℕ) → read_file b ≡ Ok f → is_over (visits k (start f)) ≡ true
    → AllQuiet (tree_at (visits k (start f)))
over_quiet b f k e o = over_at (visits k (start f)) o (visits_quiet k b f e)

-- The import line is no using, and none stands in it.
line_quiet : (y : ℕ) (k : Forest) → AllQuiet k → AllQuiet (import_helper y & k)
unfolding AllQuiet ◌&◌
line_quiet y k q = (calm _ _ refl refl, (calm _ _ refl refl, tt, tt), q)

import_quiet : (y : ℕ) (tree : Forest) → AllQuiet tree → AllQuiet (with_import y tree)
unfolding with_import AllQuiet Quiet any_using is_using ◌&◌
import_quiet y none q = tt
import_quiet y (more h k r) q = ((q.0.0, (λ e. first_held _ _ k refl)), line_quiet y k q.1, q.2)

pub completed_quiet : (b : List ℕ) (f : File) (k : ℕ) → read_file b ≡ Ok f → is_over (visits k (start f)) ≡ true
    → AllQuiet (tree_at (completed (visits k (start f))))
completed_quiet b f k e o =
    let q = over_quiet b f k e o in
    completed_keeps AllQuiet (visits k (start f)) q (import_quiet _ _ q)
