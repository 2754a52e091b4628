-- The charges that are left at a spot: each visit takes the first of them.
-- Assumes nothing.
use Rattle.std.specs.Prelude.{if◌then◌else◌, ◌≡◌, refl, Bool, true, false, List, [], ◌∷◌, ◌++◌, ℕ, zero, suc}
use Rattle.std.proofs.Common.{sym, ap, ◌∙◌}
use Rattle.meaning.specs.Tree.{Head, Forest, none, more, one, Node, ◌&◌}
use Rattle.meaning.specs.File.{Symbol}
use Rattle.meaning.specs.Scoping.{Store}
use Rattle.meaning.specs.Walk.{
  is_static_block,
  act_of,
  enter,
  leave,
  Crumb,
  crumb,
  Spot,
  at,
  leaving,
  over,
  is_over,
  current_scope,
  hoist_scope,
  settle,
  opened,
  closed,
  visit,
  visits,
}
use Rattle.meaning.specs.Charges.{Line, of_static_block, context_lines}
use Rattle.meaning.specs.Due.{enter_lines, rewrite_lines}
use Rattle.charge_laws.specs.VisitCharges.{standing, visits_standing, visits_of, visits_in, next}
use Rattle.spec_laws.specs.Tags.{clash}
use Rattle.charge_laws.proofs.Growth.Enter.{entered}
use Rattle.charge_laws.proofs.Counts.Visits.{&-none, &-assoc, spread, spread_++}
use Rattle.charge_laws.proofs.Counts.Enter.{Fit, proper, Alike, alike_&, alike_below, leave_then, left_alike, enters}

-- ---- what is left

-- behind the records f, which stand at the end of the path
unfoldable pub rest : List Symbol → Forest → List Crumb → List (List Line)
rest ys f [] = []
rest ys f (crumb h d r ∷ p) = leave_then (is_static_block h) f (visits_in ys r standing ++ rest ys (d & more h f r) p)

-- the charges of the visits from a spot on, the helper's aside
unfoldable pub left : Spot → List (List Line)
left (over tree st) = []
left (at d h k r p st) = visits_in st.as_read (more h k r) standing ++ rest st.as_read (d & more h k r) p
left (leaving k h d r p st) = context_lines of_static_block k ∷ (visits_in st.as_read r standing ++ rest st.as_read (d & more h k r) p)

-- ---- lists that count alike leave the same

leave_alike : (b : Bool) (f g : Forest) (xs zs : List (List Line)) → Alike f g → xs ≡ zs → leave_then b f xs ≡ leave_then b g zs
unfolding context_lines
leave_alike true f g xs zs e i = rw (e.1, e.2, i)
leave_alike false f g xs zs e i = i

rest_alike : (ys : List Symbol) (p : List Crumb) (f g : Forest) → Alike f g → rest ys f p ≡ rest ys g p
unfolding rest
rest_alike ys [] f g e = refl
rest_alike ys (crumb h d r ∷ p) f g e =
    leave_alike (is_static_block h) f g _ _ e
    (ap (λ (v : List (List Line)). visits_in ys r standing ++ v)
    (rest_alike ys p (d & more h f r) (d & more h g r) (alike_& d (more h f r) (more h g r) (alike_below h f g r e))))

-- ---- going on behind what is done

settled_if : (b : Bool) (h : Head) (d d₀ r₀ : Forest) (p : List Crumb) (st : Store)
    → left (settle (d₀ & one h d) r₀ p st) ≡ visits_in st.as_read r₀ standing ++ rest st.as_read ((d₀ & one h d) & r₀) p
    → left (if b then leaving d h d₀ r₀ p st else settle (d₀ & one h d) r₀ p st)
    ≡ leave_then b d (visits_in st.as_read r₀ standing ++ rest st.as_read (d₀ & more h d r₀) p)
unfolding left ◌&◌
settled_if true h d d₀ r₀ p st i = refl
settled_if false h d d₀ r₀ p st i =
    i ∙ ap (λ (f : Forest). visits_in st.as_read r₀ standing ++ rest st.as_read f p) (&-assoc d₀ (one h d) r₀)

pub left_settle : (p : List Crumb) (d f : Forest) (st : Store)
    → left (settle d f p st) ≡ visits_in st.as_read f standing ++ rest st.as_read (d & f) p
unfolding settle left rest visits_in
left_settle [] d none st = refl
left_settle [] d (more h k r) st = refl
left_settle (crumb h d₀ r₀ ∷ p) d none st =
    let ys = st.as_read in
    settled_if (is_static_block h) h d d₀ r₀ p st (left_settle p (d₀ & one h d) r₀ st)
    ∙ ap (λ (f : Forest). leave_then (is_static_block h) f (visits_in ys r₀ standing ++ rest ys (d₀ & more h f r₀) p)) (sym (&-none d))
left_settle (c ∷ p) d (more h k r) st = refl

-- ---- one visit

-- what is entered must be fit; what is left is a StaticBlock, as it always is on the walk
abbrev pub Ready : Spot → Type 0
Ready (over tree st) = Unit {0}
Ready (at d h k r p st) = Fit h k
Ready (leaving k h d r p st) = is_static_block h ≡ true

entered_left : (ys : List Symbol) (d r : Forest) (p : List Crumb) (e : Node × Store) → e.1.as_read ≡ ys
    → left (opened d r p e)
    ≡ visits_in ys e.0.children standing
    ++ leave_then (is_static_block e.0.head) e.0.children
    (visits_in ys r standing ++ rest ys (d & more e.0.head e.0.children r) p)
unfolding rest ◌&◌
entered_left ys d r p e a =
    left_settle (crumb e.0.head d r ∷ p) none e.0.children e.1
    ∙ ap (λ (zs : List Symbol). visits_in zs e.0.children standing ++ rest zs (none & e.0.children) (crumb e.0.head d r ∷ p)) a

enter_step : (cur hoist : ℕ) (d : Forest) (h : Head) (k r : Forest) (p : List Crumb) (st : Store) → Fit h k
    → left (at d h k r p st) ≡ enter_lines (act_of st.as_read h k) h k ∷ left (opened d r p (enter cur hoist h k st))
unfolding left enter visits_in visits_of visits_standing next
enter_step cur hoist d h k r p st fit =
    let ys = st.as_read in
    let e = enter cur hoist h k st in
    let i = enters ys cur hoist h k st fit in
    let v = visits_standing ys h k in
    let k' = e.0.children in
    spread_++ ys v k (visits_in ys r standing) (rest ys (d & more h k r) p)
    ∙ ap (λ (w : List (List Line)). spread ys v k (visits_in ys r standing ++ w))
    (rest_alike ys p (d & more h k r) (d & more e.0.head k' r) (alike_& d (more h k r) (more e.0.head k' r) (i.alike r)))
    ∙ i.visits (visits_in ys r standing ++ rest ys (d & more e.0.head k' r) p)
    ∙ ap (◌∷◌ (enter_lines (act_of ys h k) h k)) (sym (entered_left ys d r p e (entered cur hoist h k st (proper h k fit)).as_read))

leave_step : (d : Forest) (h : Head) (k r : Forest) (p : List Crumb) (st : Store) → is_static_block h ≡ true
    → visits_in st.as_read r standing ++ rest st.as_read (d & more h k r) p ≡ left (closed d r p (leave h k st))
unfolding ◌&◌
leave_step d h k r p st s =
    let ys = st.as_read in
    let e = leave h k st in
    let one_left = one e.0.head e.0.children in
    let a : e.1.as_read ≡ ys = (Rattle.charge_laws.proofs.Growth.Enter.left h k st s).as_read in
    ap (λ (v : List (List Line)). visits_in ys r standing ++ v)
    (rest_alike ys p (d & more h k r) (d & more e.0.head e.0.children r)
    (alike_& d (more h k r) (more e.0.head e.0.children r) (left_alike h k r st s))
    ∙ ap (λ (f : Forest). rest ys f p) (sym (&-assoc d one_left r)))
    ∙ ap (λ (zs : List Symbol). visits_in zs r standing ++ rest zs ((d & one_left) & r) p) (sym a)
    ∙ sym (left_settle p (d & one_left) r e.1)

-- A visit takes the first of the charges that are left;
pub visit_left : (s : Spot) → Ready s → is_over s ≡ false → left s ≡ rewrite_lines s ∷ left (visit s)
unfolding visit rewrite_lines left is_over
visit_left (over tree st) ready o = absurd (clash o refl)
visit_left (at d h k r p st) ready o = enter_step (current_scope p) (hoist_scope p) d h k r p st ready
visit_left (leaving k h d r p st) ready o = ap (◌∷◌ (context_lines of_static_block k)) (leave_step d h k r p st ready)

-- where the walk is over none are left, and no visit changes anything.
pub over_left : (s : Spot) → is_over s ≡ true → left s ≡ []
unfolding left is_over
over_left (over tree st) o = refl
over_left (at d h k r p st) o = absurd (clash refl o)
over_left (leaving k h d r p st) o = absurd (clash refl o)

pub over_stays_lem : (k : ℕ) (s : Spot) → is_over s ≡ true → visits k s ≡ s
unfolding visits visit is_over
over_stays_lem zero s o = refl
over_stays_lem (suc k) (over tree st) o = over_stays_lem k (over tree st) o
over_stays_lem (suc k) (at d h f r p st) o = absurd (clash refl o)
over_stays_lem (suc k) (leaving f h d r p st) o = absurd (clash refl o)
