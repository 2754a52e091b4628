-- The import line of an accepted file's walk: when it is due, and what it adds (02, request 1).
-- Assumes nothing.
use Rattle.std.specs.Prelude.{Ok, if◌then◌else◌, ◌≡◌, refl, Bool, true, false, not, ◌&&◌, ℕ, zero, suc, ◌+◌, ◌≤◌, length, eqb, leb}
use Rattle.std.proofs.Math.Path.{ap}
use Rattle.std.proofs.Common.{◌∙◌, ne_eqb}
use mathlib.Core.List.{List, [], ◌∷◌, ◌++◌}
use native.Mathlib.Omega.{arith}
use Rattle.meaning.specs.Numbers.Mode
use Rattle.meaning.specs.Tree.{Forest, none, more, Node, size, ◌&◌}
use Rattle.meaning.specs.File.{File, field_bytes, numbers_of}
use Rattle.meaning.specs.Scoping.{Store}
use Rattle.meaning.specs.Reading.{read_file}
use Rattle.meaning.specs.Walk.{
  enter,
  leave,
  Spot,
  at,
  leaving,
  over,
  is_over,
  current_scope,
  hoist_scope,
  visit,
  visits,
  store_of,
  start,
  tree_at,
  store_at,
  file_at,
}
use Rattle.meaning.specs.ImportLine.{import_due, with_import, completed}
use Rattle.meaning.specs.Charges.{
  Line,
  helper,
  import_line,
  Figures,
  ◌⊕◌,
  line_charge,
  total,
  record_bytes,
  figures_in,
  figures_at,
  walk_figures,
  import_lines,
  final_figures,
}
use Rattle.meaning.specs.Due.{any_context, missing, dues, import_dues}
use Rattle.spec_laws.specs.Tags.{clash}
use Rattle.spec_laws.specs.Bools.{and-false, and-true}
use Rattle.spec_laws.specs.Trees.{count_size}
use Rattle.spec_laws.specs.Figures.{Same, figures_same, total_++}
use Rattle.spec_laws.specs.Calls.{not_yet}
use Rattle.parsing.specs.Files.{file_parsed}
use Rattle.charge_laws.specs.VisitCharges.{visit_charges}
use Rattle.charge_laws.proofs.Growth.Names.{HelperRow}
use Rattle.charge_laws.proofs.Growth.Charged.{counts, helper_line, Visited}
use Rattle.charge_laws.proofs.Growth.Enter.{entered, left}
use Rattle.charge_laws.proofs.Counts.Enter.{proper}
use Rattle.charge_laws.proofs.Counts.Pending.{Pending, pending_start, pending_visit}
use Rattle.charge_laws.specs.Counts.Figures.{joined}
use Rattle.charge_laws.proofs.Counts.Figures.{settled, whole_at}
use Rattle.charge_laws.proofs.Totals.Total.{helper_contexts}
use Rattle.charge_laws.proofs.Fit.Accepted.{accepted_fit, accepted_charged}
use Rattle.charge_laws.proofs.Fit.Ends.{walk_ends}
use Rattle.charge_laws.proofs.Fit.Final.{Agree, contexts_agree, AtMost, accepted_final, never_above}

-- ---- in runtime mode a helper is loaded just if a context was made

-- the settings are the file's; the helper is made with the first context, and has a row
pub record HelperIn (f : File) (st : Store) : Type 0 where
  pub mode : st.mode ≡ f.mode
  pub is_module : st.is_module ≡ f.is_module
  pub helper : eqb st.helper 0 ≡ not (eqb f.mode Mode.Runtime && not (eqb st.contexts 0))
  pub row : HelperRow st

-- some contexts more, u if there are any
still : (m u : Bool) (c n : ℕ) → Agree u n
    → (not (m && not (eqb c 0)) && not (m && u)) ≡ not (m && not (eqb (c + n) 0))
still false u c n a = refl
still true true c n a =
    let some : eqb (c + n) 0 ≡ false = ne_eqb (c + n) 0 (λ e. omega arith) in
    rw some (and-false (not (not (eqb c 0))))
still true false c n a =
    let same : c + n ≡ c = omega arith in
    rw same (and-true (not (not (eqb c 0))))

visited_helper : {f : File} {ls : List Line} {k : Forest} {st : Store} {e : Node × Store} → Visited ls k st e → HelperIn f st → HelperIn f e.1
unfolding counts helper_line
visited_helper {f} {ls} {st = st} {e = e} v l =
    let more : e.1.contexts ≡ st.contexts + (total ls).contexts = omega (arith, v.adds, helper_contexts (missing st && any_context ls)) in
    record {
      mode = v.mode ∙ l.mode;
      is_module = v.is_module ∙ l.is_module;
      helper = rw (v.helper, l.helper, l.mode, more) (still (eqb f.mode Mode.Runtime) (any_context ls) st.contexts (total ls).contexts (contexts_agree ls));
      row = v.row l.row;
    }

visit_helper : (f : File) (s : Spot) → Pending s → HelperIn f (store_at s) → HelperIn f (store_at (visit s))
unfolding visit store_at
visit_helper f (over tree st) q l = l
visit_helper f (at d h k r p st) q l =
    let e = enter (current_scope p) (hoist_scope p) h k st in
    rw (settled _ none e.0.children e.1).1 (visited_helper (entered (current_scope p) (hoist_scope p) h k st (proper h k q.0.0)) l)
visit_helper f (leaving k h d r p st) q l =
    let e = leave h k st in
    rw (settled p _ r e.1).1 (visited_helper (left h k st q.0) l)

visits_helper : (f : File) (k : ℕ) (s : Spot) → Pending s → HelperIn f (store_at s) → HelperIn f (store_at (visits k s))
unfolding visits
visits_helper f zero s q l = l
visits_helper f (suc k) s q l = visits_helper f k (visit s) (pending_visit s q) (visit_helper f s q l)

none_yet : (m : Bool) → true ≡ not (m && false)
none_yet true = refl
none_yet false = refl

start_helper : (f : File) → HelperIn f (store_at (start f))
unfolding start store_of
start_helper f =
    rw (settled [] none f.tree (store_of f)).1
    (record { mode = refl; is_module = refl; helper = none_yet (eqb f.mode Mode.Runtime); row = λ e. absurd (clash e refl) })

-- THE HELPER after any number of visits of an accepted file's walk.
pub accepted_helper : (b : List ℕ) (f : File) (k : ℕ) → read_file b ≡ Ok f → HelperIn f (store_at (visits k (start f)))
accepted_helper b f k e = visits_helper f k (start f) (pending_start f (accepted_fit b f e)) (start_helper f)

-- ---- when the line is due

module_loads : (m i c : Bool) → (m && i && not (not (m && c))) ≡ (m && i && c)
module_loads true true true = refl
module_loads true true false = refl
module_loads true false c = refl
module_loads false i c = refl

-- in a runtime module with a context
pub due_if : {f : File} {st : Store} → HelperIn f st
    → import_due st ≡ (eqb f.mode Mode.Runtime && eqb f.is_module 1 && not (eqb st.contexts 0))
unfolding import_due
due_if {f} {st} l =
    rw (l.mode, l.is_module, l.helper)
    (module_loads (eqb f.mode Mode.Runtime) (eqb f.is_module 1) (not (eqb st.contexts 0)))

over_due : (f : File) (s : Spot) → HelperIn f (store_at s) → is_over s ≡ true → import_dues s ≡ import_lines f.mode f.is_module (figures_at s)
unfolding import_dues import_lines store_at is_over
over_due f (over tree st) l o = rw ((whole_at (over tree st)).3, due_if l)
over_due f (at d h k r p st) l o = absurd (clash refl o)
over_due f (leaving k h d r p st) l o = absurd (clash refl o)

none_due : (s : Spot) → is_over s ≡ false → import_dues s ≡ []
unfolding import_dues is_over
none_due (over tree st) o = absurd (clash o refl)
none_due (at d h k r p st) o = refl
none_due (leaving k h d r p st) o = refl

-- ---- what it adds

pub line_grows : (y : ℕ) (tree : Forest) → 1 ≤ size tree
    → (size (with_import y tree) ≡ size tree + 2) × (record_bytes (with_import y tree) ≡ record_bytes tree + 16)
unfolding with_import size record_bytes field_bytes numbers_of ◌&◌
line_grows y none l = absurd (omega arith)
line_grows y (more h k r) l = omega arith

completed_if : (b : Bool) (tree : Forest) (st : Store) → 1 ≤ size tree
    → Same (figures_at (over (if b then with_import st.helper tree else tree) st)) (figures_at (over tree st) ⊕ total (if b then import_line ∷ [] else []))
unfolding figures_at figures_in file_at tree_at store_at total line_charge
completed_if true tree st l = omega (arith, line_grows st.helper tree l)
completed_if false tree st l = omega arith

completed_adds : (s : Spot) → 1 ≤ size (tree_at s) → Same (figures_at (completed s)) (figures_at s ⊕ total (import_dues s))
unfolding completed import_dues tree_at total
completed_adds (over tree st) l = completed_if (import_due st) tree st l
completed_adds (at d h k r p st) l = omega arith
completed_adds (leaving k h d r p st) l = omega arith

-- ---- an accepted file

module _ (b : List ℕ) (f : File) (e : read_file b ≡ Ok f) (k : ℕ) where
  abbrev spot : Spot
  spot = visits k (start f)

  -- there is a Program
  pub some_records : 1 ≤ size (tree_at spot)
  unfolding figures_in
  some_records =
      omega (
        arith,
        (file_parsed b f e).one_program,
        count_size f.tree,
        whole_at spot,
        ap (λ (x : Figures). x.records) (accepted_charged b f k e),
      )

  -- After k calls the figures are those read, what the visits are charged, and the import line from the last one on.
  pub calls_charged : figures_at (completed spot) ≡ figures_in f ⊕ total (joined (dues k (start f)) ++ import_dues spot)
  calls_charged =
      let c = accepted_charged b f k e in
      figures_same _ _
      (omega (
        arith,
        completed_adds spot some_records,
        total_++ (joined (dues k (start f))) (import_dues spot),
        ap (λ (x : Figures). x.records) c,
        ap (λ (x : Figures). x.scopes) c,
        ap (λ (x : Figures). x.symbols) c,
        ap (λ (x : Figures). x.contexts) c,
        ap (λ (x : Figures). x.bytes) c,
      ))

  -- The line is charged from the last visit's call on, in a runtime module with a context: this follows from the source.
  pub imports_are
      : import_dues spot ≡ (if leb (length (visit_charges f)) k then import_lines f.mode f.is_module (walk_figures f) else [])
  imports_are = rw (← walk_ends b f k e) (go (is_over spot) refl)
    where
      go : (o : Bool) → is_over spot ≡ o → import_dues spot ≡ (if o then import_lines f.mode f.is_module (walk_figures f) else [])
      go true o =
          over_due f spot (accepted_helper b f k e) o ∙ ap (import_lines f.mode f.is_module) (accepted_final b f k e o)
      go false o = none_due spot o

  -- Once the walk is over the figures are the final ones,
  pub calls_final : is_over spot ≡ true → figures_at (completed spot) ≡ final_figures f
  unfolding final_figures
  calls_final o =
      let x = accepted_final b f k e o in
      figures_same _ _ (completed_adds spot some_records)
      ∙ ap (λ (ls : List Line). figures_at spot ⊕ total ls) (over_due f spot (accepted_helper b f k e) o)
      ∙ ap (λ (x : Figures). x ⊕ total (import_lines f.mode f.is_module x)) x

  -- and before that none is above its final one.
  pub calls_above : AtMost (figures_at (completed spot)) (final_figures f)
  calls_above = go (is_over spot) refl
    where
      go : (o : Bool) → is_over spot ≡ o → AtMost (figures_at (completed spot)) (final_figures f)
      go true o = rw (calls_final o) (omega arith)
      go false o = rw (not_yet spot o) (never_above b f k e)
