-- Calls for visits make the visits of the walk; from the last one on the import line stands, if it is due (02, request 1).
-- Assumes nothing.
use Rattle.std.specs.Prelude.{if◌then◌else◌, ◌≡◌, refl, Bool, true, false, not, ◌&&◌, [], ℕ, zero, suc, eqb}
use Rattle.std.proofs.Common.{sym, ap, ◌∙◌}
use Rattle.meaning.specs.Numbers.Mode
use Rattle.meaning.specs.Tree.{Forest, none, more}
use Rattle.meaning.specs.File.{File}
use Rattle.meaning.specs.Scoping.{Store}
use Rattle.meaning.specs.Walk.{Spot, at, leaving, over, is_over, visit, visits, settle, store_of, start, tree_at, store_at}
use Rattle.meaning.specs.ImportLine.{import_due, with_import, completed, visit_call, visit_calls}
use Rattle.spec_laws.specs.Tags.{clash}

-- ---- the line changes neither the store nor whether the walk is over

pub completed_store : (s : Spot) → store_at (completed s) ≡ store_at s
unfolding completed store_at
completed_store (over tree st) = refl
completed_store (at d h k r p st) = refl
completed_store (leaving k h d r p st) = refl

pub completed_over : (s : Spot) → is_over (completed s) ≡ is_over s
unfolding completed is_over
completed_over (over tree st) = refl
completed_over (at d h k r p st) = refl
completed_over (leaving k h d r p st) = refl

-- what holds of the tree, and of the tree with the line, holds where the line is put if it is due
pub completed_keeps : (P : Forest → Type 0) (s : Spot) → P (tree_at s) → P (with_import (store_at s).helper (tree_at s)) → P (tree_at (completed s))
unfolding completed tree_at store_at
completed_keeps P (over tree st) p q = either (import_due st)
  where
    either : (b : Bool) → P (if b then with_import st.helper tree else tree)
    either true = q
    either false = p
completed_keeps P (at d h k r path st) p q = p
completed_keeps P (leaving k h d r path st) p q = p

-- before the end nothing is put
pub not_yet : (s : Spot) → is_over s ≡ false → completed s ≡ s
unfolding completed is_over
not_yet (over tree st) o = absurd (clash o refl)
not_yet (at d h k r p st) o = refl
not_yet (leaving k h d r p st) o = refl

-- nor where it is not due
pub completed_none : (s : Spot) → import_due (store_at s) ≡ false → completed s ≡ s
unfolding completed store_at
completed_none (over tree st) e = rw e
completed_none (at d h k r p st) e = refl
completed_none (leaving k h d r p st) e = refl

-- ---- calls

pub calls_complete : (k : ℕ) (s : Spot) → visit_calls k (completed s) ≡ completed (visits k s)
unfolding visit_calls visit_call completed visits visit
calls_complete zero s = refl
calls_complete (suc k) (over tree st) = calls_complete k (over tree st)
calls_complete (suc k) (at d h k₁ r p st) = calls_complete k (visit (at d h k₁ r p st))
calls_complete (suc k) (leaving k₁ h d r p st) = calls_complete k (visit (leaving k₁ h d r p st))

no_load : (m i : Bool) → (m && i && not true) ≡ false
no_load true true = refl
no_load true false = refl
no_load false i = refl

settled_complete : (f : Forest) (st : Store) → import_due st ≡ false → completed (settle none f [] st) ≡ settle none f [] st
unfolding settle completed
settled_complete none st e = rw e
settled_complete (more h k r) st e = refl

-- before the first visit no helper is loaded
pub none_loaded : (f : File) → import_due (store_of f) ≡ false
unfolding store_of import_due
none_loaded f = no_load (eqb f.mode Mode.Runtime) (eqb f.is_module 1)

pub start_complete : (f : File) → completed (start f) ≡ start f
unfolding start
start_complete f = settled_complete f.tree (store_of f) (none_loaded f)

-- AFTER k CALLS the walk stands where k visits lead, with the line once it is over.
pub calls_are : (k : ℕ) (f : File) → visit_calls k (start f) ≡ completed (visits k (start f))
calls_are k f = ap (visit_calls k) (sym (start_complete f)) ∙ calls_complete k (start f)
