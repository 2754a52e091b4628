-- After any number of visits the figures are those before and the charges so far.
-- Assumes nothing.
use Rattle.std.specs.Prelude.{if◌then◌else◌, ◌≡◌, refl, Bool, true, false, not, ◌&&◌, List, [], ◌∷◌, ◌++◌, ℕ, zero, suc, ◌+◌, ◌*◌, length, take, eqb}
use Rattle.std.proofs.Common.{sym, ap, ap₂, subst, ◌∙◌, arith}
use Rattle.meaning.specs.Tree.{Head, Forest, none, more, one, Node, single, size, ◌&◌}
use Rattle.meaning.specs.File.{settings_bytes, scope_bytes, symbol_bytes, File}
use Rattle.meaning.specs.Scoping.{Store}
use Rattle.meaning.specs.Walk.{is_static_block, enter, leave, Crumb, crumb, Spot, at, leaving, over, is_over, current_scope, hoist_scope, settle, opened, closed, visit, visits, store_of, start, plug, tree_at, store_at, file_at}
use Rattle.meaning.specs.Charges.{Line, helper, Figures, figures, ◌⊕◌, total, record_bytes, figures_in, figures_at}
use Rattle.meaning.specs.Due.{any_context, missing, rewrite_lines, due, dues}
use Rattle.charge_laws.specs.VisitCharges.{standing, add_helper, visits_in, visit_charges}
use Rattle.charge_laws.proofs.Growth.Trees.{more_&}
use Rattle.spec_laws.specs.Figures.{Same, figures_same, total_++}
use Rattle.charge_laws.proofs.Growth.Charged.{counts, helper_line, Visited}
use Rattle.charge_laws.proofs.Growth.Enter.{entered}
use Rattle.charge_laws.proofs.Counts.Visits.{++-nil, &-none, &-assoc}
use Rattle.charge_laws.proofs.Counts.Enter.{Fit, proper}
use Rattle.charge_laws.proofs.Counts.Fits.{Fits}
use Rattle.charge_laws.proofs.Counts.Pending.{Pending, ready, pending_start, pending_visit}
use Rattle.charge_laws.proofs.Counts.Left.{rest, left, left_settle, Ready, visit_left, over_left, over_stays_lem}
use Rattle.spec_laws.specs.Bools.{and-true}
use Rattle.charge_laws.specs.Counts.Figures.{joined}

-- ---- the tree and the store at a spot

settled_if : (b : Bool) (h : Head) (d d₀ r₀ : Forest) (p : List Crumb) (st : Store)
    → (tree_at (settle (d₀ & one h d) r₀ p st) ≡ plug ((d₀ & one h d) & r₀) p) × (store_at (settle (d₀ & one h d) r₀ p st) ≡ st)
    → let s = (if b then leaving d h d₀ r₀ p st else settle (d₀ & one h d) r₀ p st) in
    (tree_at s ≡ plug (d₀ & more h (d & none) r₀) p) × (store_at s ≡ st)
unfolding tree_at store_at ◌&◌
settled_if true h d d₀ r₀ p st i = (ap (λ (f : Forest). plug (d₀ & more h f r₀) p) (sym (&-none d)), refl)
settled_if false h d d₀ r₀ p st i =
    (i.0 ∙ ap (λ (f : Forest). plug f p) (&-assoc d₀ (one h d) r₀ ∙ ap (λ (f : Forest). d₀ & more h f r₀) (sym (&-none d))), i.1)

-- going on changes neither
pub settled : (p : List Crumb) (d f : Forest) (st : Store) → (tree_at (settle d f p st) ≡ plug (d & f) p) × (store_at (settle d f p st) ≡ st)
unfolding settle tree_at plug store_at
settled [] d none st = (sym (&-none d), refl)
settled [] d (more h k r) st = (refl, refl)
settled (crumb h d₀ r₀ ∷ p) d none st = settled_if (is_static_block h) h d d₀ r₀ p st (settled p (d₀ & one h d) r₀ st)
settled (c ∷ p) d (more h k r) st = (refl, refl)

-- what stands around the end of a path
around : List Crumb → ℕ × ℕ
around [] = (0, 0)
around (crumb h d r ∷ p) = (size (more h none d) + (size r + (around p).0), record_bytes (more h none d) + (record_bytes r + (around p).1))

plugged : (p : List Crumb) (f : Forest) → (size (plug f p) ≡ size f + (around p).0) × (record_bytes (plug f p) ≡ record_bytes f + (around p).1)
unfolding plug around size record_bytes
plugged [] f = omega arith
plugged (crumb h d r ∷ p) f = omega (arith, plugged p (d & more h f r), more_& d (more h f r))

-- the figures of a tree and a store
abbrev pub whole : Forest → Store → Figures
whole f st =
    figures
    (size f)
    (length st.scopes)
    (length st.symbols)
    st.contexts
    (settings_bytes + (scope_bytes * length st.scopes + (symbol_bytes * length st.symbols + record_bytes f)))

pub whole_at : (s : Spot) → Same (figures_at s) (whole (tree_at s) (store_at s))
unfolding figures_at figures_in file_at
whole_at s = omega arith

whole_settled : (p : List Crumb) (d f : Forest) (st : Store) → Same (figures_at (settle d f p st)) (whole (plug (d & f) p) st)
whole_settled p d f st =
    let s = settle d f p st in
    let t = settled p d f st in
    subst (λ (x : Figures). Same (figures_at s) x) (ap₂ whole t.0 t.1) (whole_at s)

-- a record that is replaced on the path adds to the whole what it adds to itself
replaced : (d r : Forest) (p : List Crumb) (h h' : Head) (k k' : Forest) (st st' : Store) (x : Figures)
    → Same (counts st' (one h' k')) (counts st (one h k) ⊕ x)
    → Same (whole (plug (d & more h' k' r) p) st') (whole (plug (d & more h k r) p) st ⊕ x)
unfolding counts size record_bytes
replaced d r p h h' k k' st st' x e =
    omega (
      arith,
      plugged p (d & more h k r),
      plugged p (d & more h' k' r),
      more_& d (more h k r),
      more_& d (more h' k' r),
    )

-- ---- one visit

-- it adds what it is charged, and the helper with it
abbrev Charged : Spot → Spot → Type 0
Charged s s' =
    Same (figures_at s') (figures_at s ⊕ (total (rewrite_lines s) ⊕ total (helper_line (store_at s) (rewrite_lines s))))
    × (missing (store_at s') ≡ (missing (store_at s) && not (any_context (rewrite_lines s))))

still_missing : (m h u : Bool) → (m && (h && not (m && u))) ≡ ((m && h) && not u)
still_missing true true u = refl
still_missing true false u = refl
still_missing false h u = refl

missing_then : {ls : List Line} {f : Forest} {st : Store} {e : Node × Store} → Visited ls f st e
    → missing e.1 ≡ (missing st && not (any_context ls))
missing_then {ls} {st = st} {e = e} v =
    ap₂ (λ (m : ℕ) (b : Bool). eqb m 0 && b) v.mode v.helper ∙ still_missing (eqb st.mode 0) (eqb st.helper 0) (any_context ls)

enter_charged : (cur hoist : ℕ) (d : Forest) (h : Head) (k r : Forest) (p : List Crumb) (st : Store) → Fit h k
    → Charged (at d h k r p st) (opened d r p (enter cur hoist h k st))
unfolding rewrite_lines tree_at store_at plug ◌&◌
enter_charged cur hoist d h k r p st fit =
    let e = enter cur hoist h k st in
    let v = entered cur hoist h k st (proper h k fit) in
    let path = crumb e.0.head d r ∷ p in (
      omega (
        arith,
        whole_at (at d h k r p st),
        whole_settled path none e.0.children e.1,
        replaced d r p h e.0.head k e.0.children st e.1 _ v.adds,
      ),
      ap missing (settled path none e.0.children e.1).1 ∙ missing_then v,
    )

leave_charged : (d : Forest) (h : Head) (k r : Forest) (p : List Crumb) (st : Store) → is_static_block h ≡ true
    → Charged (leaving k h d r p st) (closed d r p (leave h k st))
unfolding rewrite_lines tree_at store_at ◌&◌
leave_charged d h k r p st static =
    let e = leave h k st in
    let v = Rattle.charge_laws.proofs.Growth.Enter.left h k st static in
    let done = d & single e.0 in (
      omega (
        arith,
        whole_at (leaving k h d r p st),
        rw (&-assoc d (single e.0) r) at (whole_settled p done r e.1),
        replaced d r p h e.0.head k e.0.children st e.1 _ v.adds,
      ),
      ap missing (settled p done r e.1).1 ∙ missing_then v,
    )

over_charged : (tree : Forest) (st : Store) → Charged (over tree st) (over tree st)
unfolding rewrite_lines total helper_line any_context store_at
over_charged tree st = free_of (missing st)
  where
    free_of : (m : Bool)
        → Same (figures_at (over tree st)) (figures_at (over tree st) ⊕ (total [] ⊕ total (if m && false then helper ∷ [] else [])))
        × (m ≡ (m && true))
    free_of true = (omega arith, refl)
    free_of false = (omega arith, refl)

visit_charged : (s : Spot) → Ready s → Charged s (visit s)
unfolding visit
visit_charged (over tree st) ready = over_charged tree st
visit_charged (at d h k r p st) ready = enter_charged (current_scope p) (hoist_scope p) d h k r p st ready
visit_charged (leaving k h d r p st) ready = leave_charged d h k r p st ready

with_helper_lem : (b : Bool) (ls : List Line) → Same (total (if b then helper ∷ ls else ls)) (total ls ⊕ total (if b then helper ∷ [] else []))
unfolding total
with_helper_lem true ls = omega arith
with_helper_lem false ls = omega arith

none_due : (k : ℕ) (s : Spot) → is_over s ≡ true → [] ≡ take (suc k) (add_helper (missing (store_at s)) (left s))
unfolding add_helper
none_due k s o = rw (over_left s o)

one_due : (k : ℕ) (s : Spot) → left s ≡ rewrite_lines s ∷ left (visit s)
    → missing (store_at (visit s)) ≡ (missing (store_at s) && not (any_context (rewrite_lines s)))
    → dues k (visit s) ≡ take k (add_helper (missing (store_at (visit s))) (left (visit s)))
    → due s ∷ dues k (visit s) ≡ take (suc k) (add_helper (missing (store_at s)) (left s))
unfolding add_helper due
one_due k s e m i = rw e (ap (◌∷◌ (due s)) (rw m at i))

sum_over_lem : (k : ℕ) (s : Spot) → is_over s ≡ true → Same (figures_at (visits k (visit s))) (figures_at s ⊕ total (joined []))
unfolding visits joined total
sum_over_lem k s o = rw (over_stays_lem (suc k) s o) (omega arith)

-- The charges of the next k visits are the first k of those that are left.
dues_left : (k : ℕ) (s : Spot) → Pending s → dues k s ≡ take k (add_helper (missing (store_at s)) (left s))
unfolding dues
dues_left zero s q = refl
dues_left (suc k) s q = go (is_over s) refl (dues_left k (visit s) (pending_visit s q))
  where
    go : (b : Bool) → is_over s ≡ b → dues k (visit s) ≡ take k (add_helper (missing (store_at (visit s))) (left (visit s)))
        → (if b then [] else (due s ∷ dues k (visit s))) ≡ take (suc k) (add_helper (missing (store_at s)) (left s))
    go true e i = none_due k s e
    go false e i = one_due k s (visit_left s (ready s q) e) (visit_charged s (ready s q)).1 i

-- the figures after so many visits
abbrev Sum : ℕ → Spot → Spot → List (List Line) → Type 0
Sum k s s₀ ls = Same (figures_at (visits k s)) (figures_at s₀ ⊕ total (joined ls))

sum_step : (k : ℕ) (s : Spot) → Charged s (visit s) → Sum k (visit s) (visit s) (dues k (visit s))
    → Sum k (visit s) s (due s ∷ dues k (visit s))
unfolding joined helper_line due
sum_step k s c i =
    let b = missing (store_at s) && any_context (rewrite_lines s) in
    omega (
      arith,
      i,
      c.0,
      with_helper_lem b (rewrite_lines s),
      total_++ (if b then helper ∷ rewrite_lines s else rewrite_lines s) (joined (dues k (visit s))),
    )

sums : (k : ℕ) (s : Spot) → Pending s → Sum k s s (dues k s)
unfolding visits dues total joined
sums zero s q = omega arith
sums (suc k) s q = go (is_over s) refl (sums k (visit s) (pending_visit s q))
  where
    go : (b : Bool) → is_over s ≡ b → Sum k (visit s) (visit s) (dues k (visit s))
        → Sum k (visit s) s (if b then [] else (due s ∷ dues k (visit s)))
    go true e i = sum_over_lem k s e
    go false e i = sum_step k s (visit_charged s (ready s q)) i

-- ---- a file

-- WHAT THE VISITS ARE CHARGED, in order, is the account from the source.
pub dues_are : (k : ℕ) (f : File) → Fits f.tree → dues k (start f) ≡ take k (visit_charges f)
unfolding start store_of visit_charges rest
dues_are k f p =
    let st = store_of f in
    dues_left k (start f) (pending_start f p)
    ∙ ap₂ (λ (m : Bool) (xs : List (List Line)). take k (add_helper m xs))
    (ap missing (settled [] none f.tree st).1 ∙ and-true (eqb f.mode 0))
    (left_settle [] none f.tree st ∙ ++-nil (visits_in f.symbols f.tree standing))

start_figures : (f : File) → Same (figures_at (start f)) (figures_in f)
unfolding start store_of figures_in plug ◌&◌
start_figures f = omega (arith, whole_settled [] none f.tree (store_of f))

-- After k visits the figures are those read and what the visits are charged.
pub after : (k : ℕ) (f : File) → Fits f.tree → figures_at (visits k (start f)) ≡ figures_in f ⊕ total (joined (dues k (start f)))
after k f p = figures_same _ _ (omega (arith, start_figures f, sums k (start f) (pending_start f p)))
