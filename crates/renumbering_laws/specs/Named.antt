-- Where scope rows and tree agree, each row is named once, so the names put the rows in an order.
-- Assumes nothing.
use Rattle.std.specs.Prelude.{if◌then◌else◌, ◌≡◌, refl, Bool, true, false, ◌&&◌, List, [], ◌∷◌, ◌++◌, ℕ, zero, suc, ◌-◌, ◌≤◌, ◌<◌, length, get_or, eqb, leb}
use Rattle.std.proofs.Common.{ap, ap₂, subst, ◌∙◌, arith, length-append, eqb-true, leb-true, le-leb}
use Rattle.std.proofs.lemmas.Bool.{lt-leb}
use Rattle.meaning.specs.Tree.{Forest, none, more}
use Rattle.meaning.specs.File.{Scope}
use Rattle.meaning.specs.Grammar.{is_row, scope_of, below}
use Rattle.meaning.specs.Scoping.{row_at, no_scope}
use Rattle.meaning.specs.Agreement.{names_scope, enclosing_scopes, ScopesAgree}
use Rattle.meaning.specs.Renumbering.{scope_named, named_scopes, new_number}
use Rattle.spec_laws.specs.Tags.{clash, and_right}
use Rattle.bound_laws.specs.Numbers.{All, all_++}
use Rattle.agreement_laws.specs.Demands.{no_scope_lem}
use Rattle.renumbering_laws.specs.Order.{one_if, occurs, occurs_++, place_none, place_some, place_there, place_one, place_most, rows_only, once_each}
use Rattle.renumbering_laws.specs.Trees.{all_split, all_same}

-- ---- names, counted

-- a record's, by whether its scope is the one, whether it has none, and whether it names one
head_occurs : (s cur x : ℕ) (m : Bool) → 1 ≤ s → (m ≡ false → eqb x 0 ≡ true)
    → occurs s (if eqb x 0 then [] else (x ∷ [])) ≡ length (if m && eqb x s then cur ∷ [] else [])
unfolding occurs
head_occurs s cur x m some no_name = go (eqb x s) (eqb x 0) m refl refl no_name
  where
    go : (c z m : Bool) → eqb x s ≡ c → eqb x 0 ≡ z → (m ≡ false → z ≡ true)
        → occurs s (if z then [] else (x ∷ [])) ≡ length (if m && c then cur ∷ [] else [])
    go true true m e d n = absurd (omega (arith, eqb-true x s e, eqb-true x 0 d))
    go true false true e d n = rw e
    go true false false e d n = absurd (clash refl (n refl))
    go false true true e d n = refl
    go false true false e d n = refl
    go false false true e d n = rw e
    go false false false e d n = rw e

-- a scope is named as often as records name it
named_around : (s : ℕ) → 1 ≤ s → (f : Forest) (cur : ℕ) → occurs s (named_scopes f) ≡ length (enclosing_scopes s cur f)
unfolding occurs named_scopes enclosing_scopes scope_named
named_around s some none cur = refl
named_around s some (more h k r) cur =
    let inside = enclosing_scopes s (below cur (scope_of h)) k in
    let beside = enclosing_scopes s cur r in
    let here = if names_scope h && eqb (scope_of h) s then cur ∷ [] else [] in
    omega (
      arith,
      occurs_++ s (scope_named h) (named_scopes k ++ named_scopes r),
      occurs_++ s (named_scopes k) (named_scopes r),
      length-append here (inside ++ beside),
      length-append inside beside,
      head_occurs s cur (scope_of h) (names_scope h) some (no_scope_lem h),
      named_around s some k (below cur (scope_of h)),
      named_around s some r cur,
    )

-- 0 is no name
never_zero : (f : Forest) → occurs 0 (named_scopes f) ≡ 0
unfolding occurs named_scopes scope_named
never_zero none = refl
never_zero (more h k r) =
    omega (
      arith,
      occurs_++ 0 (scope_named h) (named_scopes k ++ named_scopes r),
      occurs_++ 0 (named_scopes k) (named_scopes r),
      head_zero (eqb (scope_of h) 0) refl,
      never_zero k,
      never_zero r,
    )
  where
    head_zero : (z : Bool) → eqb (scope_of h) 0 ≡ z → occurs 0 (if z then [] else (scope_of h ∷ [])) ≡ 0
    head_zero true e = refl
    head_zero false e = rw e

-- the scopes around records are named, or the one around all
around_few : (s B : ℕ) (f : Forest) (cur : ℕ) → cur ≤ B → All (λ x. x ≤ B) (named_scopes f) → All (λ x. x ≤ B) (enclosing_scopes s cur f)
unfolding named_scopes enclosing_scopes scope_named
around_few s B none cur l p = tt
around_few s B (more h k r) cur l p =
    let few : ℕ → Type 0 = λ x. x ≤ B in
    let own = all_split few (scope_named h) (named_scopes k ++ named_scopes r) p in
    let deep = all_split few (named_scopes k) (named_scopes r) own.1 in
    all_++ few (if names_scope h && eqb (scope_of h) s then cur ∷ [] else []) _ (here (names_scope h && eqb (scope_of h) s))
    (all_++ few (enclosing_scopes s (below cur (scope_of h)) k) _
    (around_few s B k (below cur (scope_of h)) (inner (eqb (scope_of h) 0) own.0) deep.0) (around_few s B r cur l deep.1))
  where
    here : (b : Bool) → All (λ x. x ≤ B) (if b then cur ∷ [] else [])
    here true = (l, tt)
    here false = tt

    inner : (z : Bool) → All (λ x. x ≤ B) (if z then [] else (scope_of h ∷ [])) → (if z then cur else scope_of h) ≤ B
    inner true q = l
    inner false q = q.0

module _ (ss : List Scope) (tree : Forest) (agree : ScopesAgree ss tree) where
  abbrev order : List ℕ
  order = named_scopes tree

  -- EACH ROW IS NAMED ONCE, and nothing else is.
  each_row : (s : ℕ) → occurs s order ≡ one_if (is_row (length ss) s)
  each_row zero = never_zero tree
  each_row (suc j) = go (is_row (length ss) (suc j)) refl
    where
      go : (b : Bool) → is_row (length ss) (suc j) ≡ b → occurs (suc j) order ≡ one_if b
      go true e = named_around (suc j) (omega arith) tree 0 ∙ ap length (agree.rows (suc j) e)
      go false e = named_around (suc j) (omega arith) tree 0 ∙ ap length (agree.others (suc j) e)

  pub named_once : (s : ℕ) → occurs s order ≤ 1
  named_once s = let e = each_row s in go (is_row (length ss) s) e
    where
      go : (b : Bool) → occurs s order ≡ one_if b → occurs s order ≤ 1
      go true e = omega arith
      go false e = omega arith

  pub named_length : length order ≡ length ss
  named_length = once_each (length ss) order each_row

  pub named_rows_lem : All (λ s. is_row (length ss) s ≡ true) order
  named_rows_lem = rows_only (length ss) order (λ s e. each_row s ∙ ap one_if e)

  -- ---- their new numbers

  pub no_zero : new_number order 0 ≡ 0
  no_zero = place_none 0 1 order (never_zero tree)

  pub no_more : (s : ℕ) → length ss < s → new_number order s ≡ 0
  no_more s l =
      let past : is_row (length ss) s ≡ false = ap₂ ◌&&◌ (le-leb 1 s (omega arith)) (lt-leb s (length ss) l) in
      place_none s 1 order (each_row s ∙ ap one_if past)

  pub new_most : (s : ℕ) → new_number order s ≤ length ss
  new_most s = omega (arith, place_most s 1 order (omega arith), named_length)

  row_named_lem : (s : ℕ) → is_row (length ss) s ≡ true → 1 ≤ occurs s order
  row_named_lem s e = omega (arith, each_row s ∙ ap one_if e)

  -- ONE TO ONE: the new number of a row is a row's, and no other's.
  pub new_row : (s : ℕ) → is_row (length ss) s ≡ true → is_row (length ss) (new_number order s) ≡ true
  new_row s e = ap₂ ◌&&◌ (le-leb 1 _ (place_some s 1 order (row_named_lem s e))) (le-leb _ (length ss) (new_most s))

  -- the k-th scope that the tree names gets k
  pub new_place : (s : ℕ) → is_row (length ss) s ≡ true → get_or order (new_number order s - 1) 0 ≡ s
  new_place s e = place_there s 1 order (row_named_lem s e)

  pub one_to_one : (s t : ℕ) → is_row (length ss) s ≡ true → new_number order s ≡ new_number order t → s ≡ t
  one_to_one s t e d = place_one s t 1 order (omega arith) (row_named_lem s e) d

  pub all_new : All (λ s. 1 ≤ new_number order s) order
  all_new =
      all_same (λ (s : ℕ). is_row (length ss) s ≡ true) (λ s. 1 ≤ new_number order s) order (λ s e. place_some s 1 order (row_named_lem s e)) named_rows_lem

  -- ---- the parents of rows

  pub named_few : All (λ s. s ≤ length ss) order
  named_few =
      all_same (λ (s : ℕ). is_row (length ss) s ≡ true) (λ s. s ≤ length ss) order
      (λ s e. leb-true s (length ss) (and_right (leb 1 s) (leb s (length ss)) e)) named_rows_lem

  pub parents_few : (s : ℕ) → is_row (length ss) s ≡ true → (row_at no_scope ss s).parent ≤ length ss
  parents_few s e = (subst (All (λ p. p ≤ length ss)) (agree.rows s e) (around_few s (length ss) tree 0 (omega arith) named_few)).0
