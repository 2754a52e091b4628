-- The parts of a Try, and those of its Catch: the rows offer what comes of them demands.
-- Assumes nothing.
use Rattle.std.specs.Prelude.{if◌then◌else◌, ◌≡◌, refl, Bool, true, false, ◌&&◌, List, [], ◌∷◌, ℕ, ◌+◌, eqb}
use Rattle.std.proofs.Common.{arith}
use Rattle.meaning.specs.Numbers.Tag
use Rattle.meaning.specs.Tree.{Head, hd, Forest, none, more, Node, node, single}
use Rattle.meaning.specs.Grammar.{scope_of, below}
use Rattle.meaning.specs.Agreement.{names_scope}
use Rattle.meaning.specs.Scoping.{Store, Change, return, move_bindings}
use Rattle.meaning.specs.Statements.{any_using}
use Rattle.meaning.specs.Contexts.{transform_try_block, names_in, last_block_scope, any_part_using, move_catch_names, transform_try_parts, enter_try_statement}
use Rattle.spec_laws.specs.Tags.{Seen, other, here, there, seen}
use Rattle.spec_laws.specs.Trees.{transform_handler}
use Rattle.spec_laws.specs.SameScopes.{SameScopes, moved_scopes}
use Rattle.agreement_laws.specs.Weights.{Weight, demanded, Offers, offers_same}
use Rattle.agreement_laws.specs.Demands.{demanded_&}
use Rattle.agreement_laws.specs.Tries.{Keeps}
use Rattle.agreement_laws.specs.Contexts.{part_keeps}

-- the same of records beside each other
abbrev pub KeepsList : ℕ → Forest → Store → Forest × Store → Type 0
KeepsList cur f st e =
    (R : Weight → ℕ) → Offers st.scopes (λ w. demanded w cur f + R w) → Offers e.1.scopes (λ w. demanded w cur e.0 + R w)

-- other records below a record
below_keeps : (cur : ℕ) (h : Head) (k : Forest) (st : Store) (e : Forest × Store) → KeepsList (below cur (scope_of h)) k st e
    → Keeps cur h k st (node h e.0, e.1)
unfolding demanded
below_keeps cur h k st e i R o =
    let o₁ = i (λ w. (if names_scope h then w (scope_of h) cur else 0) + R w) (λ w. omega (arith, o w)) in
    λ w. omega (arith, o₁ w)

pub keeps_if : (b : Bool) (cur : ℕ) (h : Head) (k : Forest) (st : Store) (x y : Change Node) → (b ≡ true → Keeps cur h k st (x st))
    → (b ≡ false → Keeps cur h k st (y st)) → Keeps cur h k st ((if b then x else y) st)
keeps_if true cur h k st x y p q = p refl
keeps_if false cur h k st x y p q = q refl

-- the names of a Catch move, or not
names_if : (b : Bool) (ys : List ℕ) (s : ℕ) (st : Store) → SameScopes (if b then move_bindings ys s else return tt) st
names_if true ys s st = moved_scopes ys s st
names_if false ys s st = refl

names_scopes : (k parts : Forest) (st : Store) → SameScopes (move_catch_names k parts) st
unfolding move_catch_names
names_scopes k parts st = names_if (any_part_using k) (names_in k) (last_block_scope parts) st

-- a part that is no Catch
part_by : {t : ℕ} (cur cur' hoist a b c : ℕ) (k : Forest) (st : Store) → Seen (Tag.Block ∷ []) t
    → let h = hd t a b c in
    Keeps cur h k st ((if eqb t Tag.Block && any_using k then transform_try_block cur' hoist h k else return (node h k)) st)
part_by cur cur' hoist a b c k st here =
    let h = hd Tag.Block a b c in
    keeps_if (any_using k) cur h k st (transform_try_block cur' hoist h k) (return (node h k))
    (λ _. part_keeps cur cur' hoist a b c k st) (λ _ R o. o)
part_by {t} cur cur' hoist a b c k st (there e other) = rw e (λ R o. o)

parts_keep : (f : Forest) (cur cur' hoist : ℕ) (st : Store) → KeepsList cur f st (transform_try_parts cur' hoist f st)
unfolding transform_try_parts demanded
parts_keep none cur cur' hoist st R o = o
parts_keep (more h k r) cur cur' hoist st R o =
    let handler = transform_handler h k (transform_try_parts cur' hoist k) in
    let other_part = if eqb h.tag Tag.Block && any_using k then transform_try_block cur' hoist h k else return (node h k) in
    let part = (if eqb h.tag Tag.Catch then handler else other_part) st in
    let rest = transform_try_parts cur' hoist r part.1 in
    let inside = transform_try_parts cur' hoist k st in
    let first : Keeps cur h k st part =
    keeps_if (eqb h.tag Tag.Catch) cur h k st handler other_part
    (λ _ R' o'.
    offers_same (names_scopes k inside.0 inside.1)
    (below_keeps cur h k st inside (parts_keep k (below cur (scope_of h)) cur' hoist st) R' o'))
    (λ _. part_by cur cur' hoist h.a h.b h.c k st (seen (Tag.Block ∷ []) h.tag))
    in
    let o₁ = first (λ w. demanded w cur r + R w) (λ w. omega (arith, o w)) in
    let o₂ = parts_keep r cur cur' hoist part.1 (λ w. demanded w cur (single part.0) + R w) (λ w. omega (arith, o₁ w)) in
    λ w. omega (arith, o₂ w, demanded_& w cur (single part.0) rest.0)

pub try_keeps : (cur hoist : ℕ) (h : Head) (k : Forest) (st : Store) → Keeps cur h k st (enter_try_statement cur hoist h k st)
unfolding enter_try_statement
try_keeps cur hoist h k st = below_keeps cur h k st (transform_try_parts cur hoist k st) (parts_keep k (below cur (scope_of h)) cur hoist st)
