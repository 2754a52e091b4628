-- A Block directly below a Try, or below a Catch of one, has no using when the walk comes to it: the visit to the Try took them up.
-- Assumes nothing.
use Rattle.std.specs.Prelude.{if◌then◌else◌, ◌≡◌, refl, Bool, true, false, ◌||◌, ◌&&◌, List, [], ◌∷◌, ℕ, zero, suc, eqb}
use Rattle.meaning.specs.Numbers.Tag
use Rattle.meaning.specs.Tree.{Head, hd, Forest, none, more, one, Node, node, single, ◌&◌}
use Rattle.meaning.specs.File.{File}
use Rattle.meaning.specs.Scoping.{Store, Change, return}
use Rattle.meaning.specs.Statements.{is_using, any_using, transform_statements, create_try_stmt}
use Rattle.meaning.specs.Contexts.{any_part_using, move_catch_names, transform_block_statement, enter_function_body, transform_try_block, transform_try_parts, enter_try_statement, take_up_for, transform_for_statement, transform_switch_statement}
use Rattle.meaning.specs.ForOf.{enter_for_of_statement}
use Rattle.meaning.specs.Program.{enter_program}
use Rattle.meaning.specs.Walk.{Act, enter_as, enter, is_static_block, Crumb, crumb, Spot, at, leaving, over, current_scope, hoist_scope, settle, visit, visits, store_of, start, leave}
use Rattle.spec_laws.specs.Tags.{Seen, other, here, there, seen, clash, or_none}
use Rattle.spec_laws.specs.Trees.{transform_handler}
use Rattle.charge_laws.specs.Growth.Chosen.{Idle, Chosen, kept, as_program, as_block, as_body, as_try, as_for, as_switch, as_insert, as_wrap}
use Rattle.charge_laws.proofs.Growth.Chosen.{chosen, at_tag, at_loop}
use Rattle.charge_laws.proofs.Counts.TakenUp.{none_left, no_part_left}
use Rattle.charge_laws.specs.Counts.TryParts.{in_try, Taken, TakenAfter, PartsTaken}

-- ---- the parts of a Try that is entered

one_part : {t : ℕ} (cur hoist a b c : ℕ) (k r' : Forest) (inside : Change Forest) (st : Store) → Seen (Tag.Catch ∷ Tag.Block ∷ []) t
    → any_part_using (inside st).0 ≡ false → any_part_using r' ≡ false
    → let h = hd t a b c in
    any_part_using
    (single
    ((if eqb t Tag.Catch then transform_handler h k inside
    else if eqb t Tag.Block && any_using k then transform_try_block cur hoist h k
    else return (node h k))
    st).0
    & r')
    ≡ false
unfolding any_part_using move_catch_names transform_try_block create_try_stmt any_using is_using ◌&◌
one_part cur hoist a b c k r' inside st here i j = rw (i, j)
one_part cur hoist a b c k r' inside st (there e₁₂ here) i j = go (any_using k) refl
  where
    go : (u : Bool) → any_using k ≡ u
        → any_part_using
        (single ((if u then transform_try_block cur hoist (hd Tag.Block a b c) k else return (node (hd Tag.Block a b c) k)) st).0 & r')
        ≡ false
    go true u = rw j
    go false u = rw (u, j)
one_part {t} cur hoist a b c k r' inside st (there e₁₂ (there e₂ other)) i j = go (eqb t Tag.Catch) (eqb t Tag.Block) e₁₂ e₂
  where
    go : (p q : Bool) → p ≡ false → q ≡ false
        → (let e = (if p then transform_handler (hd t a b c) k inside
        else if q && any_using k then transform_try_block cur hoist (hd t a b c) k
        else return (node (hd t a b c) k))
        st in
        any_part_using (single e.0 & r') ≡ false)
    go true q e f = absurd (clash e refl)
    go false true e f = absurd (clash f refl)
    go false false e f = rw (e₁₂, e₂, j)

parts_taken : (f : Forest) (cur hoist : ℕ) (st : Store) → any_part_using (transform_try_parts cur hoist f st).0 ≡ false
unfolding transform_try_parts any_part_using
parts_taken none cur hoist st = refl
parts_taken (more h k r) cur hoist st =
    one_part cur hoist h.a h.b h.c k _ (transform_try_parts cur hoist k) st (seen (Tag.Catch ∷ Tag.Block ∷ []) h.tag)
    (parts_taken k cur hoist st)
    (parts_taken r cur hoist _)

-- where no part has a using, neither the first record is such a part, nor one below it, nor one behind it
parts_none : (h : Head) (k r : Forest) → any_part_using (more h k r) ≡ false
    → ((eqb h.tag Tag.Block && any_using k) ≡ false) × ((eqb h.tag Tag.Catch && any_part_using k) ≡ false) × (any_part_using r ≡ false)
unfolding any_part_using
parts_none h k r e =
    let block = eqb h.tag Tag.Block && any_using k in
    let handler = eqb h.tag Tag.Catch && any_part_using k in
    let i = or_none (block || handler) (any_part_using r) e in
    let j = or_none block handler i.0 in (j.0, j.1, i.1)

-- ---- what is entered

-- if it is a Try, or a Catch of one, no part of it has a using
abbrev Inside : List Crumb → Node × Store → Type 0
Inside path e = Taken (crumb e.0.head none none ∷ path) e.0.children

kept_inside : (path : List Crumb) (h : Head) (k r : Forest) → Idle h k → Taken path (more h k r) → (b c : Bool)
    → eqb h.tag Tag.Try ≡ b → eqb h.tag Tag.Catch ≡ c → (b || (c && in_try path)) ≡ true → any_part_using k ≡ false
unfolding any_part_using
kept_inside path h k r i t true c e f p = i.parts e
kept_inside path h k r i t false true e f p = rw f at (parts_none h k r (t p)).1
kept_inside path h k r i t false false e f p = absurd (clash refl p)

-- BY THE VIEW of a visit
act_inside : {a : Act} {h : Head} {k : Forest} (path : List Crumb) (r : Forest) (cur hoist : ℕ) (st : Store) → Taken path (more h k r)
    → Chosen a h k → Inside path (enter_as a cur hoist h k st)
unfolding in_try enter_as enter_program enter_function_body enter_for_of_statement enter_try_statement transform_block_statement transform_statements transform_for_statement transform_switch_statement take_up_for create_try_stmt any_using is_using ◌&◌
act_inside {h = h} {k = k} path r cur hoist st t (kept i) = kept_inside path h k r i t (eqb h.tag Tag.Try) (eqb h.tag Tag.Catch) refl refl
act_inside {h = h} {k = k} path r cur hoist st t (as_program e u) =
    at_tag (λ g. Inside path (enter_program g k st)) h Tag.Program e (λ p. absurd (clash refl p))
act_inside {h = h} {k = k} path r cur hoist st t (as_block e u) =
    λ _. no_part_left h.a _ _ cur _ _ (none_left k _)
act_inside path r cur hoist st t (as_body e u) = λ p. absurd (clash refl p)
act_inside {k = k} path r cur hoist st t (as_try e u) = λ _. parts_taken k cur hoist st
act_inside {h = h} {k = k} path r cur hoist st t (as_for e u) =
    at_loop (λ g. Inside path (transform_for_statement cur hoist g k st)) h e
    (λ _. no_part_left _ _ _ cur _ _ refl)
    (λ _. no_part_left _ _ _ cur _ _ refl)
act_inside {h = h} {k = k} path r cur hoist st t (as_switch e u) =
    at_tag (λ g. Inside path (transform_switch_statement cur g k st)) h Tag.Switch e (λ _. no_part_left _ _ _ cur _ _ refl)
act_inside {h = h} {k = k} path r cur hoist st t (as_insert e b two) =
    at_tag (λ g. Inside path (enter_for_of_statement false g k st)) h Tag.ForOf e (λ p. absurd (clash refl p))
act_inside {h = h} {k = k} path r cur hoist st t (as_wrap e b) =
    at_tag (λ g. Inside path (enter_for_of_statement true g k st)) h Tag.ForOf e (λ p. absurd (clash refl p))

-- ---- the walk

left_if : (b : Bool) (earlier : Forest) (h : Head) (before after : Forest) (path : List Crumb) (st : Store) (s : Spot)
    → Taken path after × TakenAfter path → PartsTaken s → PartsTaken (if b then leaving earlier h before after path st else s)
left_if true earlier h before after path st s i j = i
left_if false earlier h before after path st s i j = j

settle_taken : (path : List Crumb) (earlier f : Forest) (st : Store) → Taken path f → TakenAfter path → PartsTaken (settle earlier f path st)
unfolding settle
settle_taken [] earlier none st t a = tt
settle_taken [] earlier (more h k r) st t a = (t, a)
settle_taken (crumb h before after ∷ path) earlier none st t a =
    left_if (is_static_block h) earlier h before after path st _ a (settle_taken path (before & one h earlier) after st a.0 a.1)
settle_taken (c ∷ path) earlier (more h k r) st t a = (t, a)

visit_taken : (s : Spot) → PartsTaken s → PartsTaken (visit s)
unfolding visit enter any_part_using in_try
visit_taken (over tree st) i = tt
visit_taken (at earlier h k r path st) i =
    let e = enter (current_scope path) (hoist_scope path) h k st in
    settle_taken (crumb e.0.head earlier r ∷ path) none e.0.children e.1
    (act_inside path r (current_scope path) (hoist_scope path) st i.0 (chosen st.as_read h k))
    ((λ p. (parts_none h k r (i.0 p)).2), i.1)
visit_taken (leaving kids h before after path st) i =
    let e = leave h kids st in
    settle_taken path (before & one e.0.head e.0.children) after e.1 i.0 i.1

visits_taken : (n : ℕ) (s : Spot) → PartsTaken s → PartsTaken (visits n s)
unfolding visits
visits_taken zero s i = i
visits_taken (suc n) s i = visits_taken n (visit s) (visit_taken s i)

-- Wherever the walk of a file stands before a Block directly below a Try, or below a Catch of one, that Block has no using.
pub part_taken_up : (n : ℕ) (f : File) (earlier : Forest) (h : Head) (k r : Forest) (path : List Crumb) (st : Store)
    → visits n (start f) ≡ at earlier h k r path st → in_try path ≡ true → h.tag ≡ Tag.Block → any_using k ≡ false
unfolding start in_try any_part_using
part_taken_up n f earlier h k r path st e p b =
    let i : PartsTaken (visits n (start f)) =
    visits_taken n (start f) (settle_taken [] none f.tree (store_of f) (λ p. absurd (clash refl p)) tt) in
    let j : Taken path (more h k r) = (rw e at i).0 in
    rw b at (parts_none h k r (j p)).0
