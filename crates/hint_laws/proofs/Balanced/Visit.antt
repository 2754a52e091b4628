-- Each visit keeps what a tree gives and still asks for.
-- Assumes nothing.
use Rattle.std.specs.Prelude.{Ok, ◌≡◌, List, [], ◌∷◌, ℕ, zero, suc, ◌≤◌, length}
use Rattle.std.proofs.Math.Path.{refl, ap}
use Rattle.std.proofs.Common.{sym, ◌∙◌, arith}
use borrow.Author.Tests.{lt-ltb}
use Rattle.meaning.specs.Tree.{Head, Forest, none, more, one, Node, count, ◌&◌}
use Rattle.meaning.specs.Scoping.{Store}
use Rattle.meaning.specs.Reading.{read_file}
use Rattle.meaning.specs.Walk.{
  enter,
  leave,
  Crumb,
  crumb,
  Spot,
  at,
  leaving,
  over,
  current_scope,
  hoist_scope,
  visit,
  visits,
  store_of,
  start,
  plug,
  tree_at,
  store_at,
  file_at,
}
use Rattle.meaning.specs.Charges.{Figures, figures_in, figures_at}
use Rattle.charge_laws.proofs.Counts.Visits.{&-assoc}
use Rattle.charge_laws.proofs.Counts.Figures.{settled}
use Rattle.charge_laws.proofs.Counts.Pending.{Pending, spot_fits}
use Rattle.charge_laws.proofs.Fit.Accepted.{accepted_fit, accepted_after}
use Rattle.meaning.specs.File.{File, numbers_of, has_children, own_numbers, record_numbers}
use Rattle.meaning.specs.Renumbering.{with_scope}
use Rattle.hint_laws.specs.Hints.{shown, as_in_source, of_source}
use Rattle.hint_laws.proofs.Outline.{same_&}
use Rattle.hint_laws.specs.Balanced.Balance.{balance_of, balance}
use Rattle.hint_laws.proofs.Balanced.Sums.{balance_&, beside}
use Rattle.hint_laws.proofs.Balanced.Alike.{plug_same}
use Rattle.hint_laws.proofs.Balanced.ForOf.{Unseen}
use Rattle.hint_laws.proofs.Balanced.Entered.{Opens, enter_keeps, leave_keeps}
use Rattle.hint_laws.proofs.Balanced.Once.{SourceAt, visits_source}
use Rattle.spec_laws.specs.Trees.{visits_last as more_visits}

-- ---- one visit

module _ (w : List ℕ → List ℕ → ℕ → ℕ) (read : ℕ) where
  -- a record is replaced in the tree
  replaced : (d : Forest) (h : Head) (k r : Forest) (p : List Crumb) (e : Node × Store) → Opens w read h k e
      → balance_of w read (plug (d & more e.0.head e.0.children r) p) ≡ balance_of w read (plug (d & more h k r) p)
  replaced d h k r p e o =
      let h' = e.0.head in
      let k' = e.0.children in
      sym
      (plug_same w read p (d & more h k r) (d & more h' k' r) (same_& d (more h k r) (more h' k' r) (o.1 r))
      (omega (
        arith,
        balance_& w read d (more h k r),
        balance_& w read d (more h' k' r),
        beside w read h h' k k' r r o.0 refl,
      )))

  kept_at : Unseen w read → (s : Spot) → SourceAt read s → Pending s → read ≤ length (store_at s).symbols
      → balance_of w read (tree_at (visit s)) ≡ balance_of w read (tree_at s)
  unfolding visit tree_at store_at plug ◌&◌
  kept_at unseen (over tree st) src q new = refl
  kept_at unseen (at d h k r p st) src q new =
      let e = enter (current_scope p) (hoist_scope p) h k st in
      ap (balance_of w read) (settled (crumb e.0.head d r ∷ p) none e.0.children e.1).0
      ∙ replaced d h k r p e (enter_keeps w read unseen (current_scope p) (hoist_scope p) h k st new src q.0.0)
  kept_at unseen (leaving k h d r p st) src q new =
      let e = leave h k st in
      let single = one e.0.head e.0.children in
      ap (balance_of w read) ((settled p (d & single) r e.1).0 ∙ ap (λ (f : Forest). plug f p) (&-assoc d single r))
      ∙ replaced d h k r p e (leave_keeps w read h k st new q.0)

  -- a Read of a new symbol is taken for no initializer
  unseen_read : Unseen (of_source read w) read
  unfolding as_in_source shown with_scope count record_numbers own_numbers has_children numbers_of
  unseen_read y t letter new = let e = lt-ltb read t new in rw e

-- A VISIT KEEPS WHAT THE TREE GIVES AND STILL ASKS FOR.
pub visit_balance : (w : List ℕ → List ℕ → ℕ → ℕ) (read : ℕ) (s : Spot) → SourceAt read s → Pending s → read ≤ length (store_at s).symbols
    → balance w read (tree_at (visit s)) ≡ balance w read (tree_at s)
unfolding balance
visit_balance w read s src q new = kept_at (of_source read w) read (unseen_read w read) s src q new

-- ---- all visits

-- rows are only added
symbols_grow : (b : List ℕ) (f : File) (k : ℕ) → read_file b ≡ Ok f → length f.symbols ≤ length (store_at (visits k (start f))).symbols
unfolding figures_at figures_in file_at
symbols_grow b f k e = omega (arith, ap (λ (x : Figures). x.symbols) (accepted_after b f k e))

-- SO THE WALK OF AN ACCEPTED FILE KEEPS WHAT ITS TREE ASKS FOR AND GIVES.
pub visits_balance : (w : List ℕ → List ℕ → ℕ → ℕ) (b : List ℕ) (f : File) (k : ℕ) → read_file b ≡ Ok f
    → balance w (length f.symbols) (tree_at (visits k (start f))) ≡ balance w (length f.symbols) f.tree
unfolding visits start plug ◌&◌
visits_balance w b f zero e = ap (balance w (length f.symbols)) (settled [] none f.tree (store_of f)).0
visits_balance w b f (suc k) e =
    let read = length f.symbols in
    let s = visits k (start f) in
    ap (λ (x : Spot). balance w read (tree_at x)) (more_visits k (start f))
    ∙ visit_balance w read s (visits_source b f k e) (spot_fits k f (accepted_fit b f e)) (symbols_grow b f k e)
    ∙ visits_balance w b f k e
