-- The walk of an accepted file is over after twice as many visits as there are records in the end.
-- Assumes nothing.
use Rattle.std.specs.Prelude.{Ok, if◌then◌else◌, ◌≡◌, refl, Bool, true, false, List, [], ◌∷◌, ℕ, zero, suc, ◌+◌, ◌*◌, ◌≤◌, ◌<◌, leb}
use Rattle.std.proofs.Common.{sym, ap, ◌∙◌, arith, leb-true, leb-false}
use Rattle.meaning.specs.Tree.{Head, Forest, none, more, one, size, ◌&◌}
use Rattle.meaning.specs.File.{File}
use Rattle.meaning.specs.Scoping.{Store}
use Rattle.meaning.specs.Reading.{read_file}
use Rattle.meaning.specs.Walk.{
  is_static_block,
  enter,
  leave,
  Crumb,
  crumb,
  Spot,
  at,
  leaving,
  over,
  is_over,
  current_scope,
  hoist_scope,
  settle,
  visit,
  visits,
  start,
  plug,
  tree_at,
}
use Rattle.meaning.specs.ImportLine.{completed, visit_calls}
use Rattle.meaning.specs.Charges.{figures_at, final_figures}
use Rattle.meaning.specs.Lowering.{last_spot, final_spot}
use Rattle.spec_laws.specs.Tags.{clash}
use Rattle.charge_laws.proofs.Growth.Trees.{more_&}
use Rattle.charge_laws.proofs.Growth.Charged.{counts}
use Rattle.charge_laws.proofs.Growth.Enter.{left}
use Rattle.charge_laws.proofs.Counts.Pending.{Pending, pending_start, pending_visit}
use Rattle.charge_laws.proofs.Counts.Left.{over_stays_lem}
use Rattle.charge_laws.proofs.Counts.Figures.{whole_at}
use Rattle.charge_laws.proofs.Fit.Accepted.{accepted_fit}
use Rattle.charge_laws.proofs.Fit.Final.{never_above}
use Rattle.charge_laws.proofs.Fit.Import.{calls_final}
use Rattle.spec_laws.specs.Calls.{completed_over, calls_are}

-- The last spot is where twice as many visits lead as there are records in the end.
pub last_spot_lem : (f : File) → last_spot f ≡ visits (2 * (final_figures f).records) (start f)
unfolding last_spot
last_spot_lem f = refl

-- ---- each visit uses up one of two for each record

-- Two for each record that is done, one for each open record: those before the end of a path, and before a spot.
unfoldable used_before : List Crumb → ℕ
used_before [] = 0
used_before (crumb h d r ∷ p) = suc (2 * size d + used_before p)

unfoldable used : Spot → ℕ
used (over tree st) = 2 * size tree
used (at d h k r p st) = 2 * size d + used_before p
used (leaving k h d r p st) = suc (2 * size k + (2 * size d + used_before p))

settle_if : (b : Bool) (h : Head) (d d₀ r₀ : Forest) (p : List Crumb) (st : Store)
    → 2 * size (d₀ & one h d) + used_before p ≤ used (settle (d₀ & one h d) r₀ p st)
    → suc (2 * size d + (2 * size d₀ + used_before p)) ≤ used (if b then leaving d h d₀ r₀ p st else settle (d₀ & one h d) r₀ p st)
unfolding used size
settle_if true h d d₀ r₀ p st i = omega arith
settle_if false h d d₀ r₀ p st i = omega (arith, more_& d₀ (one h d))

-- going on takes nothing back
settle_used : (p : List Crumb) (d f : Forest) (st : Store) → 2 * size d + used_before p ≤ used (settle d f p st)
unfolding settle used used_before
settle_used [] d none st = omega arith
settle_used [] d (more h k r) st = omega arith
settle_used (crumb h d₀ r₀ ∷ p) d none st =
    omega (arith, settle_if (is_static_block h) h d d₀ r₀ p st (settle_used p (d₀ & one h d) r₀ st))
settle_used (c ∷ p) d (more h k r) st = omega arith

-- nor does leaving a StaticBlock, which makes it no smaller
leave_used : (h : Head) (k : Forest) (st : Store) → is_static_block h ≡ true → let e = leave h k st in size k ≤ size e.0.children
unfolding counts size
leave_used h k st e = omega (arith, (left h k st e).adds)

visit_used : (s : Spot) → Pending s → is_over s ≡ false → used s < used (visit s)
unfolding visit used used_before is_over size
visit_used (over tree st) q o = absurd (clash o refl)
visit_used (at d h k r p st) q o =
    let e = enter (current_scope p) (hoist_scope p) h k st in
    omega (arith, settle_used (crumb e.0.head d r ∷ p) none e.0.children e.1)
visit_used (leaving k h d r p st) q o =
    let e = leave h k st in
    let done = one e.0.head e.0.children in
    omega (arith, settle_used p (d & done) r e.1, more_& d done, leave_used h k st q.0)

-- ---- it lasts until the walk is over

-- a walk that is not over has used up one for each visit
visits_used : (k : ℕ) (s : Spot) → Pending s → is_over (visits k s) ≡ false → used s + k ≤ used (visits k s)
unfolding visits
visits_used zero s q o = omega arith
visits_used (suc k) s q o = go (is_over s) refl (visits_used k (visit s) (pending_visit s q) o)
  where
    go : (b : Bool) → is_over s ≡ b → used (visit s) + k ≤ used (visits k (visit s)) → used s + suc k ≤ used (visits k (visit s))
    go true e i = absurd (clash (sym (ap is_over (over_stays_lem (suc k) s e)) ∙ o) e)
    go false e i = omega (arith, visit_used s q e)

plug_used : (p : List Crumb) (f : Forest) → 2 * size f + used_before p ≤ 2 * size (plug f p)
unfolding plug used_before size
plug_used [] f = omega arith
plug_used (crumb h d r ∷ p) f = omega (arith, plug_used p (d & more h f r), more_& d (more h f r))

-- and some is left
tree_used : (s : Spot) → is_over s ≡ false → used s < 2 * size (tree_at s)
unfolding used tree_at is_over size
tree_used (over tree st) o = absurd (clash o refl)
tree_used (at d h k r p st) o = omega (arith, plug_used p (d & more h k r), more_& d (more h k r))
tree_used (leaving k h d r p st) o = omega (arith, plug_used p (d & more h k r), more_& d (more h k r))

-- ---- a file

enough : (b : List ℕ) (f : File) → read_file b ≡ Ok f → is_over (visits (2 * (final_figures f).records) (start f)) ≡ true
enough b f e = go (is_over s) refl
  where
    s : Spot
    s = visits (2 * (final_figures f).records) (start f)

    go : (o : Bool) → is_over s ≡ o → is_over s ≡ true
    go true o = o
    go false o =
        absurd
        (omega (
          arith,
          visits_used (2 * (final_figures f).records) (start f) (pending_start f (accepted_fit b f e)) o,
          tree_used s o,
          whole_at s,
          never_above b f (2 * (final_figures f).records) e,
        ))

-- The walk of an accepted file is over at its last spot.
pub last_over : (b : List ℕ) (f : File) → read_file b ≡ Ok f → is_over (last_spot f) ≡ true
last_over b f e = ap is_over (last_spot_lem f) ∙ enough b f e

-- a walk that is over after m visits stands there after more
more_stays : (m k : ℕ) (s : Spot) → m ≤ k → is_over (visits m s) ≡ true → visits k s ≡ visits m s
unfolding visits
more_stays zero k s l o = over_stays_lem k s o
more_stays (suc m) zero s l o = absurd (omega arith)
more_stays (suc m) (suc k) s l o = more_stays m k (visit s) (omega arith) o

-- Wherever the walk is over is its last spot.
pub last_is : (b : List ℕ) (f : File) (k : ℕ) → read_file b ≡ Ok f → is_over (visits k (start f)) ≡ true → visits k (start f) ≡ last_spot f
last_is b f k e o = go (leb n k) refl ∙ sym (last_spot_lem f)
  where
    n : ℕ
    n = 2 * (final_figures f).records

    go : (d : Bool) → leb n k ≡ d → visits k (start f) ≡ visits n (start f)
    go true d = more_stays n k (start f) (leb-true n k d) (enough b f e)
    go false d = sym (more_stays k n (start f) (omega (arith, leb-false n k d)) o)

-- ---- with the import line

-- Where the last call leaves the walk it is over,
pub final_over : (b : List ℕ) (f : File) → read_file b ≡ Ok f → is_over (final_spot f) ≡ true
unfolding final_spot
final_over b f e = completed_over (last_spot f) ∙ last_over b f e

-- it has the final figures,
pub final_figures_lem : (b : List ℕ) (f : File) → read_file b ≡ Ok f → figures_at (final_spot f) ≡ final_figures f
unfolding final_spot
final_figures_lem b f e =
    ap (λ (s : Spot). figures_at (completed s)) (last_spot_lem f) ∙ calls_final b f e (2 * (final_figures f).records) (enough b f e)

-- and wherever calls for visits find it over is that spot.
pub final_is : (b : List ℕ) (f : File) (k : ℕ) → read_file b ≡ Ok f → is_over (visits k (start f)) ≡ true
    → visit_calls k (start f) ≡ final_spot f
unfolding final_spot
final_is b f k e o = calls_are k f ∙ ap completed (last_is b f k e o)
