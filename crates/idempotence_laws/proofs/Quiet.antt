-- A file in which no using is left to take up is left as it is by the walk, and its final figures are its own counts.
-- Assumes nothing.
use Rattle.std.specs.Prelude.{Ok, if◌then◌else◌, ◌≡◌, refl, Bool, true, false, ◌&&◌, List, [], ◌∷◌, ℕ, zero, suc, ◌*◌, eqb}
use Rattle.std.proofs.Math.Path.{sym, ap}
use Rattle.std.proofs.Common.{subst, ◌∙◌, arith, eqb-true, eq-eqb}
use Rattle.meaning.specs.Numbers.Tag
use Rattle.meaning.specs.Tree.{Head, Forest, none, more, one, node, ◌&◌}
use Rattle.meaning.specs.File.{File}
use Rattle.meaning.specs.Scoping.{Store}
use Rattle.meaning.specs.Reading.{read_file}
use Rattle.meaning.specs.Statements.{any_using}
use Rattle.meaning.specs.Contexts.{any_part_using, any_case_using, for_list}
use Rattle.meaning.specs.Walk.{
  Act,
  keep,
  enter_as,
  is_static_block,
  enter,
  leave,
  Crumb,
  crumb,
  Spot,
  at,
  leaving,
  over,
  current_scope,
  hoist_scope,
  settle,
  visit,
  visits,
  store_of,
  start,
  plug,
  tree_at,
  store_at,
  file_at,
}
use Rattle.meaning.specs.ImportLine.{import_due}
use Rattle.meaning.specs.Charges.{figures_in, figures_at, final_figures}
use Rattle.meaning.specs.Lowering.{last_spot, final_spot}
use Rattle.spec_laws.specs.Tags.{clash}
use Rattle.spec_laws.specs.Bools.{and-false}
use Rattle.spec_laws.specs.Figures.{figures_same}
use Rattle.spec_laws.specs.Calls.{completed_none, none_loaded}
use Rattle.charge_laws.specs.Growth.Chosen.{held_using, Chosen, kept, as_program, as_block, as_body, as_try, as_for, as_switch, as_insert, as_wrap}
use Rattle.charge_laws.proofs.Growth.Chosen.{chosen}
use Rattle.charge_laws.proofs.Counts.Visits.{&-assoc}
use Rattle.charge_laws.proofs.Counts.Fits.{Fits}
use Rattle.charge_laws.proofs.Counts.Pending.{Pending, pending_visit, pending_start}
use Rattle.charge_laws.proofs.Counts.Figures.{settled}
use Rattle.charge_laws.proofs.Fit.Accepted.{accepted_fit}
use Rattle.bound_laws.specs.Last.{last_spot_lem, final_figures_lem}
use Rattle.hint_laws.specs.Hints.{takes_up}
use Rattle.hint_laws.proofs.Lowered.Quiet.{Quiet, AllQuiet}

-- ---- what stands in quiet records

-- no using stands directly in a quiet record of a tag that takes them up
list_quiet : (t : ℕ) (h : Head) (k : Forest) → takes_up t ≡ true → Quiet h k → (eqb h.tag t && any_using k) ≡ false
unfolding Quiet
list_quiet t h k u q = go (eqb h.tag t) refl
  where
    go : (b : Bool) → eqb h.tag t ≡ b → (b && any_using k) ≡ false
    go true e = q.0 (ap takes_up (eqb-true h.tag t e) ∙ u)
    go false e = refl

-- nor in a part of a Try, in a Case or in a For below Labels
parts_quiet : (f : Forest) → AllQuiet f → any_part_using f ≡ false
unfolding AllQuiet any_part_using
parts_quiet none q = refl
parts_quiet (more h k r) q =
    rw (list_quiet Tag.Block h k refl q.0, parts_quiet k q.1, and-false (eqb h.tag Tag.Catch), parts_quiet r q.2)

cases_quiet : (f : Forest) → AllQuiet f → any_case_using f ≡ false
unfolding AllQuiet any_case_using
cases_quiet none q = refl
cases_quiet (more h k r) q = rw (list_quiet Tag.Case h k refl q.0, cases_quiet r q.2)

loop_quiet : (l c : Bool) (k : Forest) → any_using (for_list k) ≡ false → (c && any_using k) ≡ false
    → any_using (if l then for_list k else if c then k else none) ≡ false
unfolding any_using
loop_quiet true c k i u = i
loop_quiet false true k i u = u
loop_quiet false false k i u = refl

for_quiet : (f : Forest) → AllQuiet f → any_using (for_list f) ≡ false
unfolding AllQuiet for_list any_using
for_quiet none q = refl
for_quiet (more h k r) q =
    loop_quiet (eqb h.tag Tag.Label) (eqb h.tag Tag.For) k (for_quiet k q.1) (list_quiet Tag.For h k refl q.0)

-- ---- quiet records are kept

-- BY THE VIEW of a visit
act_kept : {a : Act} {h : Head} {k : Forest} → Quiet h k → AllQuiet k → Chosen a h k → a ≡ keep
unfolding Quiet AllQuiet held_using
act_kept q d (kept i) = refl
act_kept q d (as_program e u) = absurd (clash (q.0 (ap takes_up e)) u)
act_kept q d (as_block e u) = absurd (clash (q.0 (ap takes_up e)) u)
act_kept q d (as_body e u) = absurd (clash (q.0 (ap takes_up e)) u)
act_kept {k = k} q d (as_try e u) = absurd (clash (parts_quiet k d) u)
act_kept {h = h} {k = k} q d (as_for e u) = absurd (clash (for_quiet (one h k) (q, d, tt)) u)
act_kept {k = k} q d (as_switch e u) = absurd (clash (cases_quiet k d) u)
act_kept {h = h} q d (as_insert e b two) = absurd (clash (q.1 (eq-eqb h.tag Tag.ForOf e)) b.both)
act_kept {h = h} q d (as_wrap e b) = absurd (clash (q.1 (eq-eqb h.tag Tag.ForOf e)) b.both)

entered : (cur hoist : ℕ) (h : Head) (k : Forest) (st : Store) → Quiet h k → AllQuiet k → enter cur hoist h k st ≡ (node h k, st)
unfolding enter enter_as
entered cur hoist h k st q d = ap (λ (a : Act). enter_as a cur hoist h k st) (act_kept q d (chosen st.as_read h k))

left : (h : Head) (k : Forest) (st : Store) → is_static_block h ≡ true → Quiet h k → leave h k st ≡ (node h k, st)
unfolding leave Quiet
left h k st e q =
    let none_left : any_using k ≡ false = q.0 (ap takes_up (eqb-true h.tag Tag.StaticBlock e)) in
    rw none_left

-- ---- visits

quiet_behind : (d f : Forest) → AllQuiet (d & f) → AllQuiet f
unfolding AllQuiet ◌&◌
quiet_behind none f q = q
quiet_behind (more h k r) f q = quiet_behind r f q.2

quiet_inside : (p : List Crumb) (f : Forest) → AllQuiet (plug f p) → AllQuiet f
unfolding AllQuiet plug
quiet_inside [] f q = q
quiet_inside (crumb h d r ∷ p) f q = (quiet_behind d (more h f r) (quiet_inside p (d & more h f r) q)).1

-- a spot has this tree and this store
abbrev Has : Forest → Store → Spot → Type 0
Has tree st s = (tree_at s ≡ tree) × (store_at s ≡ st)

has_settled : (p : List Crumb) (d f tree : Forest) (st st' : Store) → plug (d & f) p ≡ tree → st' ≡ st → Has tree st (settle d f p st')
has_settled p d f tree st st' e i = let s = settled p d f st' in (s.0 ∙ e, s.1 ∙ i)

quiet_visit : (s : Spot) (tree : Forest) (st : Store) → Pending s → AllQuiet tree → Has tree st s → Has tree st (visit s)
unfolding visit tree_at store_at plug ◌&◌ AllQuiet
quiet_visit (over t st') tree st q o e = e
quiet_visit (at d h k r p st') tree st q o e =
    let here = quiet_behind d (more h k r) (quiet_inside p (d & more h k r) (subst AllQuiet (sym e.0) o)) in
    rw (entered (current_scope p) (hoist_scope p) h k st' here.0 here.1)
    (has_settled (crumb h d r ∷ p) none k tree st st' e.0 e.1)
quiet_visit (leaving k h d r p st') tree st q o e =
    let here = quiet_behind d (more h k r) (quiet_inside p (d & more h k r) (subst AllQuiet (sym e.0) o)) in
    rw (left h k st' q.0 here.0)
    (has_settled p (d & one h k) r tree st st' (ap (λ (f : Forest). plug f p) (&-assoc d (one h k) r) ∙ e.0) e.1)

quiet_visits : (k : ℕ) (s : Spot) (tree : Forest) (st : Store) → Pending s → AllQuiet tree → Has tree st s → Has tree st (visits k s)
unfolding visits
quiet_visits zero s tree st q o e = e
quiet_visits (suc k) s tree st q o e = quiet_visits k (visit s) tree st (pending_visit s q) o (quiet_visit s tree st q o e)

quiet_walk : (k : ℕ) (f : File) → Fits f.tree → AllQuiet f.tree → Has f.tree (store_of f) (visits k (start f))
unfolding start plug ◌&◌
quiet_walk k f q o =
    quiet_visits k (start f) f.tree (store_of f) (pending_start f q) o
    (has_settled [] none f.tree f.tree (store_of f) (store_of f) refl refl)

-- ---- a file

module _ (b : List ℕ) (f : File) (e : read_file b ≡ Ok f) (quiet : AllQuiet f.tree) where
  stays : Has f.tree (store_of f) (last_spot f)
  stays = rw (last_spot_lem f) (quiet_walk (2 * (final_figures f).records) f (accepted_fit b f e) quiet)

  -- no helper is loaded, so no line is put
  no_line : final_spot f ≡ last_spot f
  unfolding final_spot
  no_line = completed_none (last_spot f) (ap import_due stays.1 ∙ none_loaded f)

  -- A QUIET FILE STAYS AS IT IS,
  pub quiet_file : file_at (final_spot f) ≡ f
  unfolding file_at store_of
  quiet_file = rw (no_line, stays.1, stays.0)

  -- and its final figures are its own counts.
  pub quiet_figures : final_figures f ≡ figures_in f
  unfolding figures_at store_of
  quiet_figures =
      let no_contexts : (store_at (final_spot f)).contexts ≡ 0 =
      ap (λ (s : Spot). (store_at s).contexts) no_line ∙ ap (λ (st : Store). st.contexts) stays.1 in
      sym (final_figures_lem b f e) ∙ figures_same _ _ (rw (no_contexts, quiet_file) (omega arith))
