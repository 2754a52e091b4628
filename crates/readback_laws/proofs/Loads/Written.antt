-- The Loads in the written bytes are those in the bytes read, and one for each context.
-- Assumes nothing.
use Rattle.std.specs.Prelude.{Ok, ◌≡◌, refl, false, List, [], ◌∷◌, ℕ, zero, suc, ◌+◌, ◌*◌}
use Rattle.std.proofs.Common.{ap, arith}
use Rattle.meaning.specs.Numbers.Tag
use Rattle.meaning.specs.Tree.{Forest, none, more, single, flatten, ◌&◌}
use Rattle.meaning.specs.Mentions.{mentions}
use Rattle.meaning.specs.File.{File, written}
use Rattle.meaning.specs.Scoping.{Store}
use Rattle.meaning.specs.Reading.{read_file}
use Rattle.meaning.specs.Walk.{enter, leave, Crumb, crumb, Spot, at, leaving, over, current_scope, hoist_scope, settle, visit, visits, store_of, start, plug, tree_at, store_at}
use Rattle.meaning.specs.ImportLine.{with_import, completed}
use Rattle.meaning.specs.Charges.{Figures, final_figures}
use Rattle.meaning.specs.Lowering.{last_spot, final_spot}
use Rattle.spec_laws.specs.Calls.{completed_store, completed_keeps}
use Rattle.charge_laws.proofs.Counts.Enter.{proper}
use Rattle.charge_laws.proofs.Counts.Pending.{Pending, pending_start, pending_visit}
use Rattle.charge_laws.proofs.Fit.Accepted.{accepted_fit}
use Rattle.bound_laws.specs.Last.{last_spot_lem, final_figures_lem}
use Rattle.readback_laws.specs.ReadBack.{record_reads, fields_for, fields_of, field_count}
use Rattle.readback_laws.proofs.ReadBack.{read_back, count_++, rows_++, scopes_count, symbols_count}
use Rattle.charge_laws.proofs.Counts.Figures.{settled, whole_at}
use Rattle.readback_laws.specs.Loads.Contexts.{load_of, loads}
use Rattle.readback_laws.proofs.Loads.Contexts.{loads_&}
use Rattle.readback_laws.proofs.Loads.Entered.{enter_loads, leave_loads}
use Rattle.readback_laws.specs.Loads.Written.{is_load}

-- ---- visits

plug_loads : (p : List Crumb) (f g : Forest) → loads (plug f p) + loads g ≡ loads (plug g p) + loads f
unfolding plug loads
plug_loads [] f g = omega arith
plug_loads (crumb h d r ∷ p) f g =
    omega (arith, plug_loads p (d & more h f r) (d & more h g r), loads_& d (more h f r), loads_& d (more h g r))

-- between two spots as many Loads are added as contexts are made
abbrev Paid : Spot → Spot → Type 0
Paid s t = loads (tree_at t) + (store_at s).contexts ≡ loads (tree_at s) + (store_at t).contexts

contexts_settled : (p : List Crumb) (d f : Forest) (st : Store) → (store_at (settle d f p st)).contexts ≡ st.contexts
contexts_settled p d f st = ap (λ (s : Store). s.contexts) (settled p d f st).1

visit_paid : (s : Spot) → Pending s → Paid s (visit s)
unfolding visit tree_at store_at plug loads ◌&◌
visit_paid (over tree st) q = refl
visit_paid (at d h k r p st) q =
    let e = enter (current_scope p) (hoist_scope p) h k st in
    let now = more e.0.head e.0.children r in
    omega (
      arith,
      ap loads (settled (crumb e.0.head d r ∷ p) none e.0.children e.1).0,
      contexts_settled (crumb e.0.head d r ∷ p) none e.0.children e.1,
      plug_loads p (d & now) (d & more h k r),
      loads_& d now,
      loads_& d (more h k r),
      enter_loads (current_scope p) (hoist_scope p) h k st (proper h k q.0.0),
    )
visit_paid (leaving k h d r p st) q =
    let e = leave h k st in
    let now = single e.0 in
    omega (
      arith,
      ap loads (settled p (d & now) r e.1).0,
      contexts_settled p (d & now) r e.1,
      plug_loads p ((d & now) & r) (d & more h k r),
      loads_& (d & now) r,
      loads_& d now,
      loads_& d (more h k r),
      leave_loads h k st q.0,
    )

visits_paid : (k : ℕ) (s : Spot) → Pending s → Paid s (visits k s)
unfolding visits
visits_paid zero s q = refl
visits_paid (suc k) s q = omega (arith, visit_paid s q, visits_paid k (visit s) (pending_visit s q))

-- ---- a file

start_loads : (f : File) → (loads (tree_at (start f)) ≡ loads f.tree) × ((store_at (start f)).contexts ≡ 0)
unfolding start plug store_of ◌&◌
start_loads f = (ap loads (settled [] none f.tree (store_of f)).0, contexts_settled [] none f.tree (store_of f))

-- the import line has no Load
import_loads : (y : ℕ) (tree : Forest) → loads (with_import y tree) ≡ loads tree
unfolding with_import loads load_of ◌&◌
import_loads y none = refl
import_loads y (more h k r) = omega arith

completed_loads : (s : Spot) → loads (tree_at (completed s)) ≡ loads (tree_at s)
completed_loads s = completed_keeps (λ (t : Forest). loads t ≡ loads (tree_at s)) s refl (import_loads (store_at s).helper (tree_at s))

pub final_loads : (bytes : List ℕ) (f : File) → read_file bytes ≡ Ok f
    → loads (tree_at (final_spot f)) ≡ loads f.tree + (final_figures f).contexts
unfolding final_spot
final_loads bytes f e =
    let n = 2 * (final_figures f).records in
    omega (
      arith,
      completed_loads (last_spot f),
      ap (λ (st : Store). st.contexts) (completed_store (last_spot f)),
      ap (λ (s : Spot). loads (tree_at s)) (last_spot_lem f),
      ap (λ (s : Spot). (store_at s).contexts) (last_spot_lem f),
      visits_paid n (start f) (pending_start f (accepted_fit bytes f e)),
      start_loads f,
      whole_at (final_spot f),
      ap (λ (x : Figures). x.contexts) (final_figures_lem bytes f e),
    )

records_loads : (f : Forest) → field_count is_load (record_reads (flatten f)) ≡ loads f
unfolding field_count record_reads flatten loads load_of
records_loads none = refl
records_loads (more h k r) = omega (arith, rows_++ is_load (flatten k) (flatten r), records_loads k, records_loads r)

-- the Loads of a file can be counted in its bytes
pub loads_back : (g : File) → field_count is_load (fields_of (written g)) ≡ loads g.tree
unfolding field_count fields_for
loads_back g =
    rw (read_back g, count_++ is_load, count_++ is_load)
    (omega (
      arith,
      scopes_count is_load false g.scopes refl,
      symbols_count is_load false (λ y. mentions y g.tree) 1 g.symbols refl,
      records_loads g.tree,
    ))
