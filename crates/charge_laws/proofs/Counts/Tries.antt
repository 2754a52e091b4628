-- The Try that a context makes, and the records that become one or get one.
-- Assumes nothing.
use Rattle.std.specs.Prelude.{if◌then◌else◌, ◌≡◌, Bool, ◌&&◌, ℕ}
use Rattle.std.proofs.Math.Path.{refl, ap, ap₂}
use Rattle.std.proofs.Common.{sym, ◌∙◌}
use Rattle.std.proofs.Math.Bool.{true, false}
use mathlib.Core.List.{List, [], ◌∷◌, ◌++◌, append_assoc}
use Rattle.std.proofs.Math.Dec.{eqb}
use Rattle.meaning.specs.Numbers.Tag
use Rattle.meaning.specs.Numbers.Kind
use Rattle.meaning.specs.Numbers.Parts
use Rattle.meaning.specs.Tree.{Head, hd, Forest, none, more, one, Node, node, single, ◌&◌}
use Rattle.meaning.specs.File.{Symbol}
use Rattle.meaning.specs.Scoping.{
  Store,
  Change,
  return,
  create_child_scope,
  insert_scope_below,
  insert_scope_between,
  change_scope_parent,
  move_bindings,
  block_scoped_in,
}
use Rattle.meaning.specs.Shapes.{declaration}
use Rattle.meaning.specs.HelperLoader.{load_runtime, load_external, helper_load}
use Rattle.meaning.specs.Statements.{
  is_using,
  any_using,
  any_await_using,
  take_up,
  make_context,
  transform_statements,
  create_catch_clause,
  create_finally_block,
  create_try_stmt,
}
use Rattle.meaning.specs.Contexts.{
  transform_block_statement,
  enter_function_body,
  transform_try_block,
  any_part_using,
  move_catch_names,
  transform_try_parts,
  enter_try_statement,
  for_list,
  take_up_for,
  transform_for_statement,
  any_case_using,
  any_case_await_using,
  take_up_cases,
  transform_switch_statement,
}
use Rattle.meaning.specs.Walk.{Act, block, function_body, try_parts, for_loop, switch, act_of}
use Rattle.meaning.specs.Charges.{Line}
use Rattle.meaning.specs.Due.{enter_lines}
use Rattle.spec_laws.specs.Trees.{transform_handler}
use Rattle.charge_laws.specs.VisitCharges.{standing, taken_up, parts, loop, cases, next, Visits, around, free, in_try, visits_as, visits_standing, visits_of, visits_in}
use Rattle.spec_laws.specs.Tags.{Seen, other, here, there, seen, clash}
use Rattle.charge_laws.proofs.Counts.Visits.{++-nil, spread, kept_if}
use Rattle.charge_laws.proofs.Counts.TakenUp.{none_left, no_case_left, no_part_left, Labelled, list_visits, cases_visits, loop_visits}

-- a list with others before it and behind it
regroup : {v : List (List Line)} (a m b xs : List (List Line)) → v ≡ a ++ (m ++ b) → a ++ (m ++ (b ++ xs)) ≡ v ++ xs
regroup a m b xs e = rw e (simp append_assoc)

module _ (ys : List Symbol) where
  -- the context's declaration before a list
  declared_if : (b : Bool) (ctx cur : ℕ) (st : Store) (list : Forest)
      → visits_in ys (declaration Kind.Var ctx ((if b then load_runtime else load_external cur) st).0 & list) standing
      ≡ free 4 ++ visits_in ys list standing
  unfolding load_runtime load_external visits_in visits_of visits_standing visits_as act_of next ◌&◌
  declared_if true ctx cur st list = refl
  declared_if false ctx cur st list = refl

  -- the parts of the Try around a list without usings
  abbrev tried : ℕ → Forest → ℕ → ℕ → ℕ → Bool → Store → Store → Node
  tried scope list ctx cur parent needs_await st st' =
      (create_try_stmt scope (declaration Kind.Var ctx (helper_load cur st).0 & list) ctx parent needs_await st').0

  try_visits : (scope : ℕ) (list : Forest) (ctx cur parent : ℕ) (needs_await : Bool) (st st' : Store) → any_using list ≡ false
      → visits_in ys (tried scope list ctx cur parent needs_await st st').children standing
      ≡ free 5 ++ (visits_in ys list standing ++ free 6)
  unfolding create_try_stmt create_catch_clause create_finally_block helper_load visits_in visits_of visits_standing visits_as act_of next any_using is_using ◌&◌
  try_visits scope list ctx cur parent needs_await st st' e =
      kept_if ys (any_using list) block (hd Tag.Block scope 0 0) (declaration Kind.Var ctx (helper_load cur st).0 & list) (free 6) e
      ∙ ap (λ (v : List (List Line)). [] ∷ (v ++ free 6)) (declared_if (eqb st.mode 0) ctx cur st list)

  -- the Try itself, as it stands
  made_visits : (scope : ℕ) (list : Forest) (ctx cur parent : ℕ) (needs_await : Bool) (st st' : Store) → any_using list ≡ false
      → visits_in ys (single (tried scope list ctx cur parent needs_await st st')) standing
      ≡ free 6 ++ (visits_in ys list standing ++ free 6)
  unfolding visits_in visits_of visits_standing visits_as act_of next create_try_stmt any_using is_using ◌&◌
  made_visits scope list ctx cur parent needs_await st st' e =
      let kids = (tried scope list ctx cur parent needs_await st st').children in
      kept_if ys (any_part_using kids) try_parts (hd Tag.Try Parts.Both 0 0) kids []
      (no_part_left scope (declaration Kind.Var ctx (helper_load cur st).0 & list) ctx parent needs_await st' e)
      ∙ ap (◌∷◌ []) (++-nil (visits_in ys kids standing) ∙ try_visits scope list ctx cur parent needs_await st st' e)

  -- ---- what is entered

  -- The visits to a record are the one that enters it, and those to its children as they then stand.
  abbrev pub Opens : Act → Head → Forest → Node × Store → Type 0
  Opens a h k e =
      (xs : List (List Line)) → spread ys (visits_as a h k) k xs ≡ enter_lines a h k ∷ (visits_in ys e.0.children standing ++ xs)

  pub block_opens : (cur hoist : ℕ) (h : Head) (k : Forest) (st : Store) → Opens block h k (transform_block_statement cur hoist h k st)
  unfolding transform_block_statement transform_statements visits_as
  block_opens cur hoist h k st xs =
      let c = make_context hoist st in
      let l = helper_load cur c.1 in
      ap (◌∷◌ (enter_lines block h k))
      (regroup (free 5) (visits_in ys k taken_up) (free 6) xs
      (try_visits h.a (take_up c.0 k) c.0 cur cur (any_await_using k) c.1 l.1 (none_left k c.0)
      ∙ ap (λ (v : List (List Line)). free 5 ++ (v ++ free 6)) (list_visits ys k c.0)))

  pub body_opens : (cur hoist : ℕ) (h : Head) (k : Forest) (st : Store) → Opens function_body h k (enter_function_body cur hoist k st)
  unfolding enter_function_body transform_statements visits_as
  body_opens cur hoist h k st xs =
      let c = make_context hoist st in
      let l = helper_load cur c.1 in
      let s = insert_scope_below cur k l.1 in
      let m = move_bindings (block_scoped_in s.1.symbols cur s.1.symbols 1) s.0 s.1 in
      ap (◌∷◌ (enter_lines function_body h k))
      (regroup (free 6) (visits_in ys k taken_up) (free 6) xs
      (made_visits s.0 (take_up c.0 k) c.0 cur cur (any_await_using k) c.1 m.1 (none_left k c.0)
      ∙ ap (λ (v : List (List Line)). free 6 ++ (v ++ free 6)) (list_visits ys k c.0)))

  -- one record before others
  in_one : (v : List (List Line)) → free 5 ++ (([] ∷ (v ++ [])) ++ free 6) ≡ free 6 ++ (v ++ free 6)
  in_one v = ap (λ (w : List (List Line)). free 6 ++ (w ++ free 6)) (++-nil v)

  pub for_opens : (cur hoist : ℕ) (h : Head) (k : Forest) (st : Store) → is_using h ≡ false → Labelled (one h k)
      → any_using (for_list (one h k)) ≡ true → Opens for_loop h k (transform_for_statement cur hoist h k st)
  unfolding transform_for_statement visits_as visits_in visits_of any_using take_up_for
  for_opens cur hoist h k st p a u xs =
      let c = make_context hoist st in
      let s = insert_scope_below cur (one h k) c.1 in
      let l = helper_load cur s.1 in
      let m = (if eqb h.tag Tag.Label then loop else taken_up) in
      ap (◌∷◌ (enter_lines for_loop h k))
      (regroup (free 6) (visits_in ys k m) (free 6) xs
      (try_visits s.0 (take_up_for c.0 (one h k)) c.0 cur cur (any_await_using (for_list (one h k))) s.1 l.1 (rw p)
      ∙ ap (λ (v : List (List Line)). free 5 ++ (v ++ free 6)) (loop_visits ys (one h k) c.0 a u)
      ∙ in_one (visits_in ys k m)))

  pub switch_opens : (cur a b d : ℕ) (k : Forest) (st : Store)
      → Opens switch (hd Tag.Switch a b d) k (transform_switch_statement cur (hd Tag.Switch a b d) k st)
  unfolding transform_switch_statement visits_as visits_in visits_of visits_standing act_of any_using is_using
  switch_opens cur a b d k st xs =
      let h = hd Tag.Switch a b d in
      let c = make_context cur st in
      let s = create_child_scope cur 0 c.1 in
      let p = change_scope_parent h.a s.0 s.1 in
      let l = helper_load cur p.1 in
      let k' = take_up_cases c.0 k in
      ap (◌∷◌ (enter_lines switch h k))
      (regroup (free 6) (visits_in ys k cases) (free 6) xs
      (try_visits s.0 (one h k') c.0 cur cur (any_case_await_using k) p.1 l.1 refl
      ∙ ap (λ (v : List (List Line)). free 5 ++ (v ++ free 6)) (kept_if ys (any_case_using k') switch h k' [] (no_case_left k c.0))
      ∙ in_one (visits_in ys k' standing)
      ∙ ap (λ (v : List (List Line)). free 6 ++ (v ++ free 6)) (cases_visits ys k c.0)))

  -- ---- the parts of a Try

  block_part : (u : Bool) (cur hoist a b c : ℕ) (k r r' : Forest) (st : Store)
      → visits_in ys r' standing ≡ visits_in ys r parts
      → visits_in ys (single ((if u then transform_try_block cur hoist (hd Tag.Block a b c) k else return (node (hd Tag.Block a b c) k)) st).0 & r') standing
      ≡ spread ys (if u then in_try (free 2) taken_up else visits_standing ys (hd Tag.Block a b c) k) k (visits_in ys r parts)
  unfolding transform_try_block transform_statements visits_in visits_of visits_standing visits_as act_of next any_using is_using ◌&◌ create_try_stmt
  block_part true cur hoist a b d k r r' st i =
      let c = make_context a st in
      let l = helper_load cur c.1 in
      let s = insert_scope_between a 0 l.1 in
      ap (◌∷◌ [])
      (sym (regroup (free 6) (visits_in ys k taken_up) (free 6) (visits_in ys r' standing)
      (made_visits a (take_up c.0 k) c.0 cur s.0 (any_await_using k) c.1 s.1 (none_left k c.0)
      ∙ ap (λ (v : List (List Line)). free 6 ++ (v ++ free 6)) (list_visits ys k c.0)))
      ∙ ap (λ (v : List (List Line)). free 6 ++ (visits_in ys k taken_up ++ (free 6 ++ v))) i)
  block_part false cur hoist a b c k r r' st i =
      ap (λ (v : List (List Line)). spread ys (visits_standing ys (hd Tag.Block a b c) k) k v) i

  -- neither a Catch nor a Block
  other_part : (p q u : Bool) (h : Head) (k r r' : Forest) (catches blocks : Change Node) (v w : Visits) (st : Store) → p ≡ false → q ≡ false
      → visits_in ys r' standing ≡ visits_in ys r parts
      → visits_in ys (single ((if p then catches else if q && u then blocks else return (node h k)) st).0 & r') standing
      ≡ spread ys (if p then v else if q && u then w else visits_standing ys h k) k (visits_in ys r parts)
  unfolding visits_in visits_of next ◌&◌
  other_part true q u h k r r' catches blocks v w st e d i = absurd (clash e refl)
  other_part false true u h k r r' catches blocks v w st e d i = absurd (clash d refl)
  other_part false false u h k r r' catches blocks v w st e d i =
      ap (λ (x : List (List Line)). spread ys (visits_standing ys h k) k x) i

  one_part : {t : ℕ} (cur hoist a b c : ℕ) (k r r' : Forest) (inside : Change Forest) (st : Store) → Seen (Tag.Catch ∷ Tag.Block ∷ []) t
      → visits_in ys (inside st).0 standing ≡ visits_in ys k parts
      → visits_in ys r' standing ≡ visits_in ys r parts
      → let h = hd t a b c in
      visits_in ys
      (single
      ((if eqb t Tag.Catch then transform_handler h k inside
      else if eqb t Tag.Block && any_using k then transform_try_block cur hoist h k
      else return (node h k))
      st).0
      & r') standing
      ≡ visits_in ys (more h k r) parts
  unfolding move_catch_names visits_in visits_of visits_standing visits_as act_of next ◌&◌
  one_part cur hoist a b c k r r' inside st here i j = ap₂ (λ (v w : List (List Line)). [] ∷ (v ++ w)) i j
  one_part cur hoist a b c k r r' inside st (there e₁₂ here) i j = block_part (any_using k) cur hoist a b c k r r' st j
  one_part {t} cur hoist a b c k r r' inside st (there e₁₂ (there e₂ other)) i j =
      let h = hd t a b c in
      other_part (eqb t Tag.Catch) (eqb t Tag.Block) (any_using k) h k r r' (transform_handler h k inside) (transform_try_block cur hoist h k)
      (around (free 1) parts []) (in_try (free 2) taken_up) st e₁₂ e₂ j

  parts_visits : (f : Forest) (cur hoist : ℕ) (st : Store) → visits_in ys (transform_try_parts cur hoist f st).0 standing ≡ visits_in ys f parts
  unfolding transform_try_parts visits_in
  parts_visits none cur hoist st = refl
  parts_visits (more h k r) cur hoist st =
      one_part cur hoist h.a h.b h.c k r _ (transform_try_parts cur hoist k) st (seen (Tag.Catch ∷ Tag.Block ∷ []) h.tag)
      (parts_visits k cur hoist st)
      (parts_visits r cur hoist _)

  pub try_opens : (cur hoist : ℕ) (h : Head) (k : Forest) (st : Store) → Opens try_parts h k (enter_try_statement cur hoist h k st)
  unfolding enter_try_statement visits_as
  try_opens cur hoist h k st xs = ap (λ (v : List (List Line)). enter_lines try_parts h k ∷ (v ++ xs)) (sym (parts_visits k cur hoist st))
