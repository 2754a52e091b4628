-- The walk through some records in one go: enter the first, go through its children, leave it, then go through those beside it.
-- Assumes nothing.
use Rattle.std.specs.Prelude.{Ok, if◌then◌else◌, ◌≡◌, refl, Bool, true, false, List, [], ◌∷◌, ℕ, zero, suc}
use Rattle.std.proofs.Common.{sym, ap, subst, ◌∙◌}
use Rattle.meaning.specs.Numbers.Tag
use Rattle.meaning.specs.Tree.{one_of, Head, Forest, none, more, one, Node, node, ◌&◌}
use Rattle.meaning.specs.File.{File}
use Rattle.meaning.specs.Grammar.{scope_of, below}
use Rattle.meaning.specs.Scoping.{Store, Change, return}
use Rattle.meaning.specs.Walk.{is_static_block, enter, leave, Crumb, crumb, Spot, at, leaving, over, is_over, current_scope, hoist_scope, settle, visit, visits, opened, store_of, start}
use Rattle.meaning.specs.Reading.{read_file}
use Rattle.meaning.specs.Lowering.{last_spot}
use Rattle.bound_laws.specs.Last.{last_is}
use Rattle.charge_laws.proofs.Counts.Visits.{&-none, &-assoc}

-- the hoist scope below a record
unfoldable pub hoist_below : ℕ → Head → ℕ
hoist_below hoist h = if one_of (Tag.Program ∷ Tag.Function ∷ Tag.StaticBlock ∷ []) h.tag then scope_of h else hoist

-- leaving any record
unfoldable pub leave_any : Head → Forest → Change Node
leave_any h k = if is_static_block h then leave h k else return (node h k)

-- Records below the scope `cur`, with the hoist scope `hoist`, and what the walk makes of them; with the store before and after.
pub data Through : ℕ → ℕ → Forest → Store → Forest → Store → Type 0 where
  passed : {cur hoist : ℕ} {st : Store} → Through cur hoist none st none st
  entered
      : {cur hoist : ℕ} {h h₁ h₂ : Head} {k k₁ k₂ k₃ r r' : Forest} {st st₁ st₂ st₃ st₄ : Store}
      → enter cur hoist h k st ≡ (node h₁ k₁, st₁)
      → Through (below cur (scope_of h₁)) (hoist_below hoist h₁) k₁ st₁ k₂ st₂
      → leave_any h₁ k₂ st₂ ≡ (node h₂ k₃, st₃)
      → Through cur hoist r st₃ r' st₄
      → Through cur hoist (more h k r) st (more h₂ k₃ r') st₄

-- one spot comes some visits after another
pub data Reaches : Spot → Spot → Type 0 where
  stay : {s : Spot} → Reaches s s
  step : {s t : Spot} → Reaches (visit s) t → Reaches s t

pub reaches_then : {s t u : Spot} → Reaches s t → Reaches t u → Reaches s u
reaches_then stay q = q
reaches_then (step p) q = step (reaches_then p q)

pub reaches_visits : {s t : Spot} → Reaches s t → (n : ℕ) × (visits n s ≡ t)
unfolding visits
reaches_visits stay = (zero, refl)
reaches_visits (step p) = let x = reaches_visits p in (suc x.0, x.1)

settle_more : (p : List Crumb) (d : Forest) (h : Head) (k r : Forest) (st : Store) → settle d (more h k r) p st ≡ at d h k r p st
unfolding settle
settle_more [] d h k r st = refl
settle_more (c ∷ p) d h k r st = refl

-- from the end of a record's children to behind it
leaves_if : (b : Bool) (h : Head) (k d r : Forest) (p : List Crumb) (st : Store) (e : Node × Store)
    → (if b then leave h k else return (node h k)) st ≡ e
    → Reaches (if b then leaving k h d r p st else settle (d & one h k) r p st) (settle (d & one e.0.head e.0.children) r p e.1)
unfolding visit
leaves_if true h k d r p st e q =
    step (subst (λ (x : Node × Store). Reaches (settle (d & one x.0.head x.0.children) r p x.1) (settle (d & one e.0.head e.0.children) r p e.1)) (sym q) stay)
leaves_if false h k d r p st e q =
    subst (λ (x : Node × Store). Reaches (settle (d & one h k) r p st) (settle (d & one x.0.head x.0.children) r p x.1)) q stay

leaves : (h : Head) (k d r : Forest) (p : List Crumb) (st : Store) (e : Node × Store) → leave_any h k st ≡ e
    → Reaches (settle k none (crumb h d r ∷ p) st) (settle (d & one e.0.head e.0.children) r p e.1)
unfolding settle leave_any
leaves h k d r p st e q = leaves_if (is_static_block h) h k d r p st e q

-- THE WALK MAKES OF SOME RECORDS WHAT GOING THROUGH THEM MAKES, wherever they stand.
pub through_reaches : {cur hoist : ℕ} {f f' : Forest} {st st' : Store} → Through cur hoist f st f' st'
    → (d r : Forest) (p : List Crumb) → current_scope p ≡ cur → hoist_scope p ≡ hoist
    → Reaches (settle d (f & r) p st) (settle (d & f') r p st')
unfolding ◌&◌ visit current_scope hoist_scope hoist_below
through_reaches {st = st} passed d r p c o = subst (λ (x : Forest). Reaches (settle d r p st) (settle x r p st)) (sym (&-none d)) stay
through_reaches {cur} {hoist} {f' = f'} {st' = st'} (entered {h = h} {h₁ = h₁} {h₂ = h₂} {k = k} {k₁ = k₁} {k₂ = k₂} {k₃ = k₃} {r = r₀} {r' = r'} {st = st} {st₁ = st₁} {st₂ = st₂} {st₃ = st₃} e i l j) d r p c o =
    let q = crumb h₁ d (r₀ & r) ∷ p in
    let inside = through_reaches i none none q (ap (λ (x : ℕ). below x (scope_of h₁)) c) (ap (λ (x : ℕ). if one_of (Tag.Program ∷ Tag.Function ∷ Tag.StaticBlock ∷ []) h₁.tag then scope_of h₁ else x) o) in
    let behind = through_reaches j (d & one h₂ k₃) r p c o in
    let goal = settle (d & more h₂ k₃ r') r p st' in
    let e' : enter (current_scope p) (hoist_scope p) h k st ≡ (node h₁ k₁, st₁) =
    ap (λ (x : ℕ). enter x (hoist_scope p) h k st) c ∙ (ap (λ (x : ℕ). enter cur x h k st) o ∙ e) in
    subst (λ (s : Spot). Reaches s goal) (sym (settle_more p d h k (r₀ & r) st))
    (step
    (subst (λ (x : Node × Store). Reaches (opened d (r₀ & r) p x) goal) (sym e')
    (reaches_then
    (subst (λ (x : Forest). Reaches (settle none x q st₁) (settle k₂ none q st₂)) (&-none k₁) inside)
    (reaches_then
    (leaves h₁ k₂ d (r₀ & r) p st₂ (node h₂ k₃, st₃) l)
    (subst (λ (x : Forest). Reaches (settle (d & one h₂ k₃) (r₀ & r) p st₃) (settle x r p st')) (&-assoc d (one h₂ k₃) r') behind)))))

-- of a whole file
pub file_reaches : (f : File) {f' : Forest} {st' : Store} → Through 0 0 f.tree (store_of f) f' st' → Reaches (start f) (over f' st')
unfolding start settle current_scope hoist_scope ◌&◌
file_reaches f {f'} {st'} t =
    subst (λ (x : Forest). Reaches (settle none x [] (store_of f)) (over f' st')) (&-none f.tree)
    (through_reaches t none none [] refl refl)

-- and where its last visit leaves the walk
pub last_through : (b : List ℕ) (f : File) {f' : Forest} {st' : Store} → read_file b ≡ Ok f → Through 0 0 f.tree (store_of f) f' st'
    → last_spot f ≡ over f' st'
unfolding is_over
last_through b f {f'} {st'} e t =
    let x = reaches_visits (file_reaches f t) in
    sym (last_is b f x.0 e (ap is_over x.1)) ∙ x.1
