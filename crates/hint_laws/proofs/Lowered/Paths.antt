-- The walk's spots at which all that is done is quiet, and so are the open records.
-- Assumes nothing.
use Rattle.std.specs.Prelude.{if◌then◌else◌, ◌≡◌, refl, Bool, true, false, ◌&&◌, List, [], ◌∷◌, eqb, ◌⊎◌}
use Rattle.std.proofs.Common.{sym, ap, ◌∙◌, inl, inr, ⊎_elim}
use Rattle.meaning.specs.Numbers.Tag
use Rattle.meaning.specs.Tree.{Head, Forest, none, more, one, ◌&◌}
use Rattle.meaning.specs.Scoping.{Store}
use Rattle.meaning.specs.Statements.{is_using, any_using}
use Rattle.meaning.specs.ForOf.{binds_identifier}
use Rattle.meaning.specs.Walk.{is_static_block, Crumb, crumb, Spot, at, leaving, over, settle}
use Rattle.spec_laws.specs.Tags.{clash, or_none}
use Rattle.charge_laws.proofs.Counts.Visits.{&-none, &-assoc}
use Rattle.hint_laws.proofs.Outline.{Neutral, Same, same_&, same_below}
use Rattle.hint_laws.proofs.Lowered.Quiet.{Quiet, AllQuiet, quiet_&}
use Rattle.charge_laws.specs.Growth.Chosen.{held_using}
use Rattle.hint_laws.proofs.Balanced.Alike.{neutral_using, Alike}

-- an open record; a StaticBlock's usings are taken up when it is left
abbrev pub OpenQuiet : Head → Forest → Type 0
OpenQuiet h k = (is_static_block h ≡ true) ⊎ Quiet h k

-- the open records, the innermost having the children f, and what is done before them
unfoldable pub QuietPath : List Crumb → Forest → Type 0
QuietPath [] f = Unit {0}
QuietPath (crumb h before after ∷ path) f = OpenQuiet h f × AllQuiet before × QuietPath path (before & more h f after)

-- at a spot; the walk leaves StaticBlocks only
unfoldable pub QuietAt : Spot → Type 0
QuietAt (over tree st) = AllQuiet tree
QuietAt (at done h k r path st) = AllQuiet done × QuietPath path (done & more h k r)
QuietAt (leaving kids h before after path st) =
    (is_static_block h ≡ true) × AllQuiet kids × AllQuiet before × QuietPath path (before & more h kids after)

-- ---- going on behind what is done

left_quiet : (h : Head) (k : Forest) → is_static_block h ≡ false → OpenQuiet h k → Quiet h k
left_quiet h k e q = ⊎_elim (λ s. absurd (clash e s)) (λ o. o) q

settled_if : (b : Bool) (h : Head) (d d₀ r₀ : Forest) (p : List Crumb) (st : Store) → is_static_block h ≡ b → AllQuiet d
    → QuietPath (crumb h d₀ r₀ ∷ p) d
    → (AllQuiet (d₀ & one h d) → QuietPath p ((d₀ & one h d) & r₀) → QuietAt (settle (d₀ & one h d) r₀ p st))
    → QuietAt (if b then leaving d h d₀ r₀ p st else settle (d₀ & one h d) r₀ p st)
unfolding QuietAt QuietPath AllQuiet ◌&◌
settled_if true h d d₀ r₀ p st e q o i = (e, q, o.1, o.2)
settled_if false h d d₀ r₀ p st e q o i =
    i (quiet_& d₀ (one h d) o.1 (left_quiet h d e o.0, q, tt)) (rw &-assoc o.2)

pub quiet_settle : (p : List Crumb) (d f : Forest) (st : Store) → AllQuiet d → QuietPath p (d & f) → QuietAt (settle d f p st)
unfolding settle QuietAt
quiet_settle [] d none st q o = q
quiet_settle [] d (more h k r) st q o = (q, o)
quiet_settle (crumb h d₀ r₀ ∷ p) d none st q o =
    settled_if (is_static_block h) h d d₀ r₀ p st refl q (rw &-none at o) (quiet_settle p (d₀ & one h d) r₀ st)
quiet_settle (c ∷ p) d (more h k r) st q o = (q, o)

-- ---- a record beside others is replaced

neutral_declarator : (h : Head) → Neutral h → (eqb h.tag Tag.Declarator && eqb h.a 0) ≡ false
neutral_declarator h n =
    let six : eqb h.tag Tag.Declarator ≡ false = (or_none _ _ (or_none (eqb h.tag Tag.Declaration) _ n).1).0 in
    rw six

using_alike : (h h' : Head) (k k' : Forest) → Alike h k h' k' → is_using h ≡ is_using h'
using_alike h h' k k' a =
    ⊎_elim (λ e. ap is_using e.0) (λ n. neutral_using h n.0 ∙ sym (neutral_using h' n.1)) a

using_same : (f g : Forest) → Same f g → any_using f ≡ any_using g
unfolding Same any_using
using_same none none s = refl
using_same none (more h' k' r') s = absurd s
using_same (more h k r) none s = absurd s
using_same (more h k r) (more h' k' r') s = rw (using_alike h h' k k' s.0, using_same r r' s.1)

identifier_same : (f g : Forest) → Same f g → binds_identifier f ≡ binds_identifier g
unfolding Same binds_identifier
identifier_same none none s = refl
identifier_same none (more h' k' r') s = absurd s
identifier_same (more h k r) none s = absurd s
identifier_same (more h k r) (more h' k' r') s =
    ⊎_elim
    (λ e. ap (λ (x : Head). eqb x.tag Tag.Declarator && eqb x.a 0) e.0)
    (λ n. neutral_declarator h n.0 ∙ sym (neutral_declarator h' n.1))
    s.0

held_alike : (h h' : Head) (k k' : Forest) → Alike h k h' k'
    → (is_using h && binds_identifier k) ≡ (is_using h' && binds_identifier k')
held_alike h h' k k' a =
    ⊎_elim
    (λ e. rw (e.0, identifier_same k k' e.1))
    (λ n. rw (neutral_using h n.0, neutral_using h' n.1))
    a

held_same : (f g : Forest) → Same f g → held_using f ≡ held_using g
unfolding Same held_using
held_same none none s = refl
held_same none (more _ _ _) s = absurd s
held_same (more _ _ _) none s = absurd s
held_same (more _ _ none) (more _ _ none) s = refl
held_same (more _ _ none) (more _ _ (more _ _ _)) s = absurd s.1
held_same (more _ _ (more _ _ _)) (more _ _ none) s = absurd s.1
held_same (more _ _ (more _ _ none)) (more _ _ (more _ _ none)) s = refl
held_same (more _ _ (more _ _ none)) (more _ _ (more _ _ (more _ _ _))) s = absurd s.1.1
held_same (more _ _ (more _ _ (more _ _ _))) (more _ _ (more _ _ none)) s = absurd s.1.1
held_same (more h k (more _ _ (more _ _ _))) (more h' k' (more _ _ (more _ _ _))) s = held_alike h h' k k' s.0

open_same : (h : Head) (f g : Forest) → Same f g → OpenQuiet h f → OpenQuiet h g
unfolding Quiet
open_same h f g s o =
    ⊎_elim inl (λ q. inr ((λ e. sym (using_same f g s) ∙ q.0 e), (λ e. sym (held_same f g s) ∙ q.1 e))) o

pub path_same : (p : List Crumb) (f g : Forest) → Same f g → QuietPath p f → QuietPath p g
unfolding QuietPath
path_same [] f g s o = tt
path_same (crumb h d r ∷ p) f g s o = (
  open_same h f g s o.0,
  o.1,
  path_same p (d & more h f r) (d & more h g r) (same_& d (more h f r) (more h g r) (same_below h r f g s)) o.2,
)
