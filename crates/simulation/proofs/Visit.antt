-- One visit on the tables is 01's visit.
-- Assumes nothing.
use Rattle.std.specs.Prelude.{◌≡◌, Bool, true, false, List, ◌∷◌, ◌++◌, ℕ, ◌+◌, ◌≤◌, eqb, length}
use Rattle.std.proofs.Math.Path.{refl, ap}
use Rattle.std.proofs.Common.{subst, ◌∙◌, append_assoc, zero-add, eqb-true, ltb-true, le-ltb, le-leb}
use native.Mathlib.Omega.{arith}
use Rattle.std.proofs.lemmas.Bool.{lt-leb}
use Rattle.meaning.specs.Numbers.Tag
use Rattle.meaning.specs.Tree.{Head, Forest, Node, none, one, single, count, size, ◌&◌}
use Rattle.meaning.specs.Scoping.{Store}
use Rattle.meaning.specs.Statements.{any_using}
use Rattle.meaning.specs.Charges.{of_static_block, context_charge}
use Rattle.meaning.specs.Walk.{Crumb, crumb, Spot, at, leaving, over, is_over, is_static_block, enter, leave, current_scope, hoist_scope, settle, visit, plug, tree_at, store_at}
use Rattle.charge_laws.proofs.Growth.Contexts.{static_pays}
use Rattle.charge_laws.proofs.Growth.Charged.{counts}
use Rattle.charge_laws.proofs.Growth.Enter.{entered}
use Rattle.charge_laws.proofs.Counts.Visits.{&-assoc}
use Rattle.charge_laws.proofs.Counts.Enter.{Fit, proper}
use Rattle.charge_laws.proofs.Counts.Pending.{Pending}
use Rattle.representation.proofs.Store.Agreed.{Agreed}
use Rattle.path.specs.Path.{tables, on_records, enter_f}
use Rattle.representation.specs.Gap.Cells.{free, rows_of}
use Rattle.representation.specs.Spots.Spots.{open_rows_of, opens_at, visited_at, rest_at, Rest, walk_at, held}
use Rattle.representation.proofs.Spots.Scopes.{some_open, inner_left}
use Rattle.representation.proofs.Spots.Lengths.{visited_at_lem, rest_at_lem, store_settled}
use Rattle.representation.proofs.Spots.Enter.{enter_law}
use Rattle.scoping_laws.specs.Created.Held.{free_scopes, free_symbols, Room}
use Rattle.table_laws.proofs.Streamed.Parts.{Catches}
use Rattle.simulation.proofs.Rewritten.Replaced.{with_free}
use Rattle.simulation.proofs.Tried.Passing.{new_scopes, new_symbols}
use Rattle.simulation.specs.Leaving.Block.{records_for, scopes_for, symbols_for, leave_by}
use Rattle.simulation.proofs.Leaving.Leaving.{leave_visit_law, leave_kept}
use Rattle.walk.specs.Visit.{is_leaving_f, is_over_f, visit_f}
use Rattle.walk.specs.Over.{is_over_in}
use Rattle.simulation.proofs.Rows.{rows_size, settled_size, plug_other}
use Rattle.simulation.proofs.Rewrite.{new_records, Takes, list_takes}
use Rattle.simulation.proofs.Entering.{catches, rewrite_law, enter_kept}
use Rattle.simulation.specs.Visit.{not_leaving, goes_on}

-- at the end of a StaticBlock it has none
pub is_leaving : (kids : Forest) (h : Head) (before after : Forest) (path : List Crumb) (st : Store) (g : ℕ) (z : Rest)
    → (let q = held (leaving kids h before after path st) g z in is_leaving_f q.records q.walk ≡ true)
unfolding is_leaving_f held walk_at visited_at opens_at
is_leaving kids h before after path st g z =
    let v = free g ++ rest_at (leaving kids h before after path st) in
    rw (
      some_open h before after path (count kids) 0,
      append_assoc (open_rows_of (crumb h before after ∷ path) (count kids) 0) (rows_of kids) v,
      inner_left h before after path (count kids) 0 (rows_of kids ++ v) z.records,
    )

-- once the walk is over nothing happens
ended : (tree : Forest) (st : Store) (g : ℕ) (z : Rest) → visit_f (held (over tree st) g z) ≡ held (over tree st) g z
unfolding visit_f is_leaving_f held walk_at opens_at rest_at
ended tree st g z =
    let v = length (visited_at (over tree st)) + g in
    rw (le-ltb v (v + 0) (omega arith))

over_is : (tree : Forest) (st : Store) (g : ℕ) (z : Rest) → is_over_in (held (over tree st) g z) ≡ true
unfolding is_over_f is_leaving_f held walk_at opens_at rest_at
over_is tree st g z =
    let v = length (visited_at (over tree st)) + g in
    rw (le-leb (v + 0) v (omega arith))

-- OVER IS TOLD of the tables exactly when 01's walk is over.
pub over_told_lem : (s : Spot) (g : ℕ) (z : Rest) → is_over_in (held s g z) ≡ is_over s
unfolding is_over_f is_over
over_told_lem (at earlier h k r path st) g z =
    let w = (held (at earlier h k r path st) g z).walk in
    rw (
      not_leaving earlier h k r path st g z,
      lt-leb w.end.0 w.gap.0 (ltb-true w.gap.0 w.end.0 (goes_on earlier h k r path st g z)),
    )
over_told_lem (leaving kids h before after path st) g z = rw (is_leaving kids h before after path st g z)
over_told_lem (over tree st) g z = over_is tree st g z

-- ---- before a record

-- it is entered as it stands
enter_tables : (earlier : Forest) (h : Head) (k r : Forest) (path : List Crumb) (st : Store) (g : ℕ) (z : Rest)
    → (let s = at earlier h k r path st in
    let q = held s g z in
    let e = enter_f (on_records q.records q.walk) in
    length (visited_at s) + g + length (rest_at s) ≤ 65535
    → tables e.records q.scopes q.symbols e.walk ≡ held (settle none k (crumb h earlier r ∷ path) st) g z)
unfolding held store_at
enter_tables earlier h k r path st g z fits =
    rw (enter_law earlier h k r path g z.records st fits, store_settled st (crumb h earlier r ∷ path) none k)

module _ (earlier : Forest) (h : Head) (k r : Forest) (path : List Crumb) (st : Store) (p : Fit h k) where
  abbrev s : Spot
  s = at earlier h k r path st

  abbrev e : Node × Store
  e = enter (current_scope path) (hoist_scope path) h k st

  -- nothing is lost
  at_larger : (size (one h k) ≤ size (single e.0)) × (length st.scopes ≤ length e.1.scopes)
      × (length st.symbols ≤ length e.1.symbols)
  unfolding counts
  at_larger = omega (arith, (entered (current_scope path) (hoist_scope path) h k st (proper h k p)).adds)

  at_store : store_at (visit s) ≡ e.1
  unfolding visit
  at_store = store_settled e.1 (crumb e.0.head earlier r ∷ path) none e.0.children

  at_tree : size (tree_at (visit s)) + size (one h k) ≡ size (tree_at s) + size (single e.0)
  unfolding visit tree_at plug ◌&◌
  at_tree =
      omega (
        arith,
        settled_size e.1 (crumb e.0.head earlier r ∷ path) none e.0.children,
        plug_other path earlier r h k e.0.head e.0.children,
      )

  at_law : (g : ℕ) (z : Rest) → Catches k
      → (let n = new_records (one h k) (single e.0) in
      length (visited_at s) + (n + g) + length (rest_at s) ≤ 65535 → Agreed st → Room e.1
      → visit_f (held s (n + g) (with_free (new_scopes st e.1) (new_symbols st e.1) z)) ≡ held (visit s) g z)
  unfolding visit_f visit size
  at_law g z c fits a room =
      let n = new_records (one h k) (single e.0) in
      let z₀ = with_free (new_scopes st e.1) (new_symbols st e.1) z in
      let l₁ = visited_at_lem st earlier h k r path 0 0 in
      let l₂ = visited_at_lem e.1 earlier e.0.head e.0.children r path 0 0 in
      let l₃ = rest_at_lem st earlier h k r path in
      let l₄ = rest_at_lem e.1 earlier e.0.head e.0.children r path in
      rw (
        not_leaving earlier h k r path st (n + g) z₀,
        goes_on earlier h k r path st (n + g) z₀,
        rewrite_law earlier h k r path st g z p c fits a room,
      )
      (enter_tables earlier e.0.head e.0.children r path e.1 g z (omega (arith, at_larger)))

-- ---- at the end of a StaticBlock

takes_by : (h : Head) (k : Forest) (st : Store) (b : Bool) → any_using k ≡ b → h.tag ≡ Tag.StaticBlock
    → Takes h k st (leave_by b h k st) (records_for b k) (scopes_for b) (symbols_for b st)
unfolding context_charge
takes_by h k st true u t = list_takes h k st _ of_static_block k (static_pays h k st t u) u refl
takes_by h k st false u t = omega arith

module _ (kids : Forest) (h : Head) (before after : Forest) (path : List Crumb) (st : Store) where
  abbrev s₁ : Spot
  s₁ = leaving kids h before after path st

  abbrev e₁ : Node × Store
  e₁ = leave h kids st

  leave_takes : is_static_block h ≡ true
      → Takes h kids st e₁ (records_for (any_using kids) kids) (scopes_for (any_using kids)) (symbols_for (any_using kids) st)
  unfolding leave
  leave_takes t = takes_by h kids st (any_using kids) refl (eqb-true h.tag Tag.StaticBlock t)

  leave_store : store_at (visit s₁) ≡ e₁.1
  unfolding visit
  leave_store = store_settled e₁.1 path (before & single e₁.0) after

  leave_tree : size (tree_at (visit s₁)) + size (one h kids) ≡ size (tree_at s₁) + size (single e₁.0)
  unfolding visit tree_at ◌&◌
  leave_tree =
      let x = single e₁.0 in
      omega (
        arith,
        settled_size e₁.1 path (before & x) after,
        ap (λ (f : Forest). size (plug f path)) (&-assoc before x after),
        plug_other path before after h kids e₁.0.head e₁.0.children,
      )

  leave_law : (g : ℕ) (z : Rest)
      → (let b = any_using kids in
      let n = records_for b kids in
      length (visited_at s₁) + (n + g) + length (rest_at s₁) ≤ 65535 → Agreed st → Room e₁.1
      → visit_f (held s₁ (n + g) (with_free (scopes_for b) (symbols_for b st) z)) ≡ held (visit s₁) g z)
  unfolding visit_f
  leave_law g z fits a room =
      let b = any_using kids in
      rw (is_leaving kids h before after path st (records_for b kids + g) (with_free (scopes_for b) (symbols_for b st) z))
      (leave_visit_law kids h before after path st g z fits a room)

-- ---- any visit

-- nothing is lost
pub visit_grows : (s : Spot) → Pending s
    → (size (tree_at s) ≤ size (tree_at (visit s))) × (length (store_at s).scopes ≤ length (store_at (visit s)).scopes)
    × (length (store_at s).symbols ≤ length (store_at (visit s)).symbols)
unfolding visit store_at
visit_grows (over tree st) p = omega arith
visit_grows (at earlier h k r path st) p =
    let l = at_larger earlier h k r path st p.0.0 in
    let t = at_store earlier h k r path st p.0.0 in
    (omega (arith, l, at_tree earlier h k r path st p.0.0), rw t (omega (arith, l)), rw t (omega (arith, l)))
visit_grows (leaving kids h before after path st) p =
    let l = leave_takes kids h before after path st p.0 in
    let t = leave_store kids h before after path st in
    (omega (arith, l.0, leave_tree kids h before after path st), rw t (omega (arith, l.1)), rw t (omega (arith, l.2)))

-- the symbol rows still agree with those read
pub visit_kept : (s : Spot) → Pending s → Agreed (store_at s) → Agreed (store_at (visit s))
unfolding visit store_at
visit_kept (over tree st) p a = a
visit_kept (at earlier h k r path st) p a =
    rw (at_store earlier h k r path st p.0.0) (enter_kept path h k st p.0.0 (catches (eqb h.tag Tag.Switch) k p.0.1) a)
visit_kept (leaving kids h before after path st) p a =
    rw (leave_store kids h before after path st) (leave_kept kids h before after path st a)

-- The next visit of 01 is done on the tables, with free rows for what it adds.
abbrev pub Visits : Spot → ℕ → Rest → Type 0
Visits s g z =
    let n = new_records (tree_at s) (tree_at (visit s)) in
    let st = store_at s in
    let st' = store_at (visit s) in
    visit_f (held s (n + g) (with_free (new_scopes st st') (new_symbols st st') z)) ≡ held (visit s) g z

-- by how much it adds
visits_by : (s : Spot) (g : ℕ) (z : Rest) (n m y : ℕ) → size (tree_at (visit s)) ≡ size (tree_at s) + n
    → length (store_at (visit s)).scopes ≡ length (store_at s).scopes + m
    → length (store_at (visit s)).symbols ≡ length (store_at s).symbols + y
    → size (tree_at (visit s)) + g ≤ 65535
    → (length (visited_at s) + (n + g) + length (rest_at s) ≤ 65535 → visit_f (held s (n + g) (with_free m y z)) ≡ held (visit s) g z)
    → Visits s g z
visits_by s g z n m y i j l fits v =
    let e₁ : new_records (tree_at s) (tree_at (visit s)) ≡ n = omega arith in
    let e₂ : new_scopes (store_at s) (store_at (visit s)) ≡ m = omega arith in
    let e₃ : new_symbols (store_at s) (store_at (visit s)) ≡ y = omega arith in
    rw (e₁, e₂, e₃) (v (omega (arith, rows_size s)))

-- ONE VISIT
pub visit_law : (s : Spot) (g : ℕ) (z : Rest) → Pending s → Agreed (store_at s) → Room (store_at (visit s))
    → size (tree_at (visit s)) + g ≤ 65535 → Visits s g z
unfolding visit store_at free_scopes free_symbols
visit_law (over tree st) g z p a room fits =
    visits_by (over tree st) g z 0 0 0 (omega arith) (omega arith) (omega arith) fits
    (λ _. ap (λ (i : ℕ). visit_f (held (over tree st) i z)) (zero-add g) ∙ ended tree st g z)
visit_law (at earlier h k r path st) g z p a room fits =
    let s = at earlier h k r path st in
    let e = enter (current_scope path) (hoist_scope path) h k st in
    let t = at_store earlier h k r path st p.0.0 in
    let l = at_larger earlier h k r path st p.0.0 in
    visits_by s g z (new_records (one h k) (single e.0)) (new_scopes st e.1) (new_symbols st e.1)
    (omega (arith, l, at_tree earlier h k r path st p.0.0))
    (rw t (omega (arith, l)))
    (rw t (omega (arith, l)))
    fits
    (λ i. at_law earlier h k r path st p.0.0 g z (catches (eqb h.tag Tag.Switch) k p.0.1) i a (subst Room t room))
visit_law (leaving kids h before after path st) g z p a room fits =
    let s = leaving kids h before after path st in
    let b = any_using kids in
    let t = leave_store kids h before after path st in
    let l = leave_takes kids h before after path st p.0 in
    visits_by s g z (records_for b kids) (scopes_for b) (symbols_for b st)
    (omega (arith, l.0, leave_tree kids h before after path st))
    (rw t l.1)
    (rw t l.2)
    fits
    (λ i. leave_law kids h before after path st g z i a (subst Room t room))
