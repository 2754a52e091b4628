-- What the scope rows offer after each change of the store.
-- Assumes nothing.
use Rattle.std.specs.Prelude.{if◌then◌else◌, ◌≡◌, refl, Bool, true, false, ◌&&◌, List, [], ◌∷◌, ◌++◌, ℕ, zero, suc, ◌+◌, ◌%◌, ◌≤◌, ◌<◌, length, get_or, set, eqb}
use Rattle.std.proofs.Common.{ap, ◌∙◌, arith, eqb-true, eq-eqb}
use Rattle.meaning.specs.File.{Scope, scope_row}
use Rattle.meaning.specs.Scoping.{Store, no_scope, row_at, set_row, scope_in, create_child_scope, change_scope_parent, set_scope_flags, insert_scope_between}
use Rattle.spec_laws.specs.Tags.{and_left, and_right}
use Rattle.agreement_laws.specs.Weights.{Weight, offered, Offers}

-- ---- rows as a list

more_rows : (w : Weight) (ss : List Scope) (i p f : ℕ) → offered w i (ss ++ scope_row p f ∷ []) ≡ offered w i ss + w (i + length ss) p
unfolding offered
more_rows w [] i p f =
    let e : i + 0 ≡ i = omega arith in
    rw e (omega arith)
more_rows w (s ∷ ss) i p f =
    let e : i + suc (length ss) ≡ suc i + length ss = omega arith in
    rw e (omega (arith, more_rows w ss (suc i) p f))

-- another parent in a row
other_parent : (w : Weight) (ss : List Scope) (i j p f : ℕ) → j < length ss
    → offered w i (set ss j (scope_row p f)) + w (i + j) (get_or ss j no_scope).parent ≡ offered w i ss + w (i + j) p
unfolding offered
other_parent w [] i j p f l = absurd (omega arith)
other_parent w (s ∷ ss) i zero p f l =
    let e : i + 0 ≡ i = omega arith in
    rw e (omega arith)
other_parent w (s ∷ ss) i (suc j) p f l =
    let e : i + suc j ≡ suc i + j = omega arith in
    let n = other_parent w ss (suc i) j p f (omega arith) in
    rw e (omega arith)

-- the same parent
same_parent : (w : Weight) (ss : List Scope) (i j f : ℕ) → offered w i (set ss j (scope_row (get_or ss j no_scope).parent f)) ≡ offered w i ss
unfolding offered
same_parent w [] i j f = refl
same_parent w (s ∷ ss) i zero f = refl
same_parent w (s ∷ ss) i (suc j) f = ap (λ (n : ℕ). w i s.parent + n) (same_parent w ss (suc i) j f)

-- ---- a row that is offered is there

-- 1 for a row with a parent, and 0 for all else
only : ℕ → ℕ → Weight
only s q = λ i p. if eqb i s && eqb p q then 1 else 0

only_one : (s q : ℕ) → only s q s q ≡ 1
unfolding only
only_one s q = rw (eq-eqb s s refl, eq-eqb q q refl)

-- row s counted from i, with parent q
record There (ss : List Scope) (i s q : ℕ) : Type 0 where
  place : ℕ
  number : s ≡ i + place
  inside : place < length ss
  parent : (get_or ss place no_scope).parent ≡ q

at_hand : (b : Bool) (p : Scope) (ss : List Scope) (i s q : ℕ) → (eqb i s && eqb p.parent q) ≡ b
    → 1 ≤ (if b then 1 else 0) + offered (only s q) (suc i) ss
    → (1 ≤ offered (only s q) (suc i) ss → There ss (suc i) s q) → There (p ∷ ss) i s q
at_hand true p ss i s q e l k =
    record {
      place = 0;
      number = omega (arith, eqb-true i s (and_left (eqb i s) (eqb p.parent q) e));
      inside = omega arith;
      parent = eqb-true p.parent q (and_right (eqb i s) (eqb p.parent q) e);
    }
at_hand false p ss i s q e l k =
    let t = k (omega arith) in
    record { place = suc t.place; number = omega arith; inside = omega arith; parent = t.parent }

there : (ss : List Scope) (i s q : ℕ) → 1 ≤ offered (only s q) i ss → There ss i s q
unfolding offered only
there [] i s q l = absurd (omega arith)
there (p ∷ ss) i s q l = at_hand (eqb i s && eqb p.parent q) p ss i s q refl l (there ss (suc i) s q)

offered_there : (ss : List Scope) (s q : ℕ) (r : Weight → ℕ) → Offers ss (λ w. w s q + r w) → There ss 1 s q
offered_there ss s q r o = there ss 1 s q (omega (arith, o (only s q), only_one s q))

-- no row has the number 0
pub never_0 : (ss : List Scope) (s q : ℕ) (r : Weight → ℕ) → Offers ss (λ w. w s q + r w) → s ≡ 0 → ⊥
never_0 ss s q r o e = let t = offered_there ss s q r o in omega (arith, t.number)

-- its parent is the one that is offered
pub parent_offered : (ss : List Scope) (s q : ℕ) (r : Weight → ℕ) → Offers ss (λ w. w s q + r w) → (row_at no_scope ss s).parent ≡ q
parent_offered ss s q r o =
    let t = offered_there ss s q r o in
    let e : s ≡ suc t.place = omega (arith, t.number) in
    rw e t.parent

-- ---- changes of the store

-- a new row
pub child_offers : (p flags : ℕ) (st : Store) (d : Weight → ℕ) → Offers st.scopes d
    → Offers (create_child_scope p flags st).1.scopes (λ w. w (create_child_scope p flags st).0 p + d w)
unfolding create_child_scope
child_offers p flags st d o w =
    let e : 1 + length st.scopes ≡ suc (length st.scopes) = omega arith in
    omega (arith, o w, rw e at (more_rows w st.scopes 1 p (flags + (scope_in st p).flags % 2)))

set_offers : (ss : List Scope) (s q p f : ℕ) (r : Weight → ℕ) → Offers ss (λ w. w s q + r w)
    → Offers (set_row ss s (scope_row p f)) (λ w. w s p + r w)
set_offers ss s q p f r o =
    let t = offered_there ss s q r o in
    let e : s ≡ suc t.place = omega (arith, t.number) in
    let c : (w : Weight) → offered w 1 (set ss t.place (scope_row p f)) ≡ w (suc t.place) p + r w =
    λ w.
    let u : offered w 1 ss ≡ w (suc t.place) q + r w = rw e at (o w) in
    let n : 1 + t.place ≡ suc t.place = omega arith in
    let v = rw (n, t.parent) at (other_parent w ss 1 t.place p f t.inside) in
    omega arith
    in
    rw e c

-- another parent
pub parent_offers : (s q p : ℕ) (st : Store) (r : Weight → ℕ) → Offers st.scopes (λ w. w s q + r w)
    → Offers (change_scope_parent s p st).1.scopes (λ w. w s p + r w)
unfolding change_scope_parent
parent_offers s q p st r o = set_offers st.scopes s q p _ r o

-- other flags
flag_rows : (w : Weight) (ss : List Scope) (s f : ℕ) → offered w 1 (set_row ss s (scope_row (row_at no_scope ss s).parent f)) ≡ offered w 1 ss
flag_rows w ss zero f = refl
flag_rows w ss (suc j) f = same_parent w ss 1 j f

pub flags_offer : (s flags : ℕ) (st : Store) (d : Weight → ℕ) → Offers st.scopes d → Offers (set_scope_flags s flags st).1.scopes d
unfolding set_scope_flags
flags_offer s flags st d o w = flag_rows w st.scopes s flags ∙ o w

-- a new row above a row
pub between_offers : (s q flags : ℕ) (st : Store) (r : Weight → ℕ) → Offers st.scopes (λ w. w s q + r w)
    → let new = (insert_scope_between s flags st).0 in
    Offers (insert_scope_between s flags st).1.scopes (λ w. w s new + (w new q + r w))
unfolding insert_scope_between
between_offers s q flags st r o =
    let e = parent_offered st.scopes s q r o in
    let made = create_child_scope (scope_in st s).parent flags st in
    let o₁ : Offers made.1.scopes (λ w. w s q + (w made.0 q + r w)) =
    λ w.
    let n = child_offers (scope_in st s).parent flags st (λ v. v s q + r v) o w in
    let m : w made.0 (scope_in st s).parent ≡ w made.0 q = ap (w made.0) e in
    omega arith
    in
    parent_offers s q made.0 made.1 (λ w. w made.0 q + r w) o₁
