-- IN AN ACCEPTED FILE, AND BETWEEN ANY TWO CALLS FOR A VISIT, THE SCOPE ROWS AGREE WITH THE TREE.
-- Assumes nothing.
use Rattle.std.specs.Prelude.{Ok, if◌then◌else◌, ◌≡◌, refl, Bool, true, false, ◌&&◌, ℕ, zero, suc, ◌+◌, ◌≤◌, ◌<◌, length, get_or, eqb, leb}
use Rattle.std.proofs.Common.{sym, ap, subst, ◌∙◌, arith, leb-true, leb-false, eq-eqb, ne_eqb, le-leb}
use mathlib.Core.List.{List, [], ◌∷◌, ◌++◌}
use Rattle.meaning.specs.Numbers.Tag
use Rattle.meaning.specs.Tree.{hd, Forest, none, more, one, ◌&◌}
use Rattle.meaning.specs.File.{Scope, File}
use Rattle.meaning.specs.Grammar.{is_row, scope_of, below}
use Rattle.meaning.specs.Agreement.{names_scope, enclosing_scopes, ScopesAgree}
use Rattle.meaning.specs.Scoping.{row_at, no_scope}
use Rattle.meaning.specs.Reading.{read_file}
use Rattle.meaning.specs.Walk.{visits, start, store_of, plug, tree_at, store_at}
use Rattle.meaning.specs.ImportLine.{with_import, completed}
use Rattle.spec_laws.specs.Calls.{completed_keeps}
use Rattle.charge_laws.proofs.Counts.Pending.{pending_start}
use Rattle.charge_laws.proofs.Counts.Figures.{settled}
use Rattle.charge_laws.proofs.Fit.Accepted.{accepted_fit}
use Rattle.charge_laws.proofs.Fit.Root.{accepted_program}
use Rattle.agreement_laws.specs.Weights.{Weight, demanded, offered, Offers}
use Rattle.agreement_laws.specs.Visits.{AgreeAt, at_settled, visits_agree, completed_agrees}
use Rattle.agreement_laws.specs.Read.{read_offers}

-- ---- one row by its weights

-- the sum over a list
sum : (ℕ → ℕ) → List ℕ → ℕ
sum v [] = 0
sum v (x ∷ xs) = v x + sum v xs

sum_++ : (v : ℕ → ℕ) (xs ys : List ℕ) → sum v (xs ++ ys) ≡ sum v xs + sum v ys
unfolding sum
sum_++ v [] ys = omega arith
sum_++ v (x ∷ xs) ys = omega (arith, sum_++ v xs ys)

-- weights of a row's parent, and 0 for other rows
of_row : ℕ → (ℕ → ℕ) → Weight
of_row s v = λ i p. if eqb i s then v p else 0

first_above : (m e : Bool) (v : ℕ → ℕ) (cur : ℕ) → sum v (if m && e then cur ∷ [] else []) ≡ (if m then if e then v cur else 0 else 0)
unfolding sum
first_above true true v cur = omega arith
first_above true false v cur = refl
first_above false e v cur = refl

above_sum : (s : ℕ) (v : ℕ → ℕ) (f : Forest) (cur : ℕ) → sum v (enclosing_scopes s cur f) ≡ demanded (of_row s v) cur f
unfolding enclosing_scopes demanded sum of_row
above_sum s v none cur = refl
above_sum s v (more h k r) cur =
    let inside = enclosing_scopes s (below cur (scope_of h)) k in
    let beside = enclosing_scopes s cur r in
    let here = if names_scope h && eqb (scope_of h) s then cur ∷ [] else [] in
    omega (
      arith,
      sum_++ v here (inside ++ beside),
      sum_++ v inside beside,
      first_above (names_scope h) (eqb (scope_of h) s) v cur,
      above_sum s v k (below cur (scope_of h)),
      above_sum s v r cur,
    )

-- rows that lie before, and the one that is meant
rows_before_lem : (s : ℕ) (v : ℕ → ℕ) (ss : List Scope) (i : ℕ) → s < i → offered (of_row s v) i ss ≡ 0
unfolding offered of_row
rows_before_lem s v [] i l = refl
rows_before_lem s v (p ∷ ss) i l =
    let e = ne_eqb i s (λ q. omega arith) in
    rw e (omega (arith, rows_before_lem s v ss (suc i) (omega arith)))

rows_behind : (s : ℕ) (v : ℕ → ℕ) (ss : List Scope) (i : ℕ) → i + length ss ≤ s → offered (of_row s v) i ss ≡ 0
unfolding offered of_row
rows_behind s v [] i l = refl
rows_behind s v (p ∷ ss) i l =
    let e = ne_eqb i s (λ q. omega arith) in
    rw e (omega (arith, rows_behind s v ss (suc i) (omega arith)))

row_at_lem : (s : ℕ) (v : ℕ → ℕ) (ss : List Scope) (i j : ℕ) → s ≡ i + j → j < length ss
    → offered (of_row s v) i ss ≡ v (get_or ss j no_scope).parent
unfolding offered of_row
row_at_lem s v [] i j n l = absurd (omega arith)
row_at_lem s v (p ∷ ss) i zero n l =
    let e = eq-eqb i s (omega arith) in
    rw e (omega (arith, rows_before_lem s v ss (suc i) (omega arith)))
row_at_lem s v (p ∷ ss) i (suc j) n l =
    let e = ne_eqb i s (λ q. omega arith) in
    rw e (omega (arith, row_at_lem s v ss (suc i) j (omega arith) (omega arith)))

-- the parent of row s, if there is such a row
abbrev parents_in : List Scope → ℕ → List ℕ
parents_in ss s = if is_row (length ss) s then (row_at no_scope ss s).parent ∷ [] else []

rows_if : (b : Bool) (j : ℕ) (v : ℕ → ℕ) (ss : List Scope) → leb (suc j) (length ss) ≡ b
    → sum v (if b then (get_or ss j no_scope).parent ∷ [] else []) ≡ offered (of_row (suc j) v) 1 ss
unfolding sum
rows_if true j v ss e = omega (arith, row_at_lem (suc j) v ss 1 j (omega arith) (leb-true (suc j) (length ss) e))
rows_if false j v ss e = let l = leb-false (suc j) (length ss) e in sym (rows_behind (suc j) v ss 1 (omega arith))

rows_sum : (s : ℕ) (v : ℕ → ℕ) (ss : List Scope) → sum v (parents_in ss s) ≡ offered (of_row s v) 1 ss
unfolding sum
rows_sum zero v ss = sym (rows_before_lem 0 v ss 1 (omega arith))
rows_sum (suc j) v ss =
    let l = le-leb 1 (suc j) (omega arith) in
    rw l (rows_if (leb (suc j) (length ss)) j v ss refl)

-- a list whose sums are those of a list with at most one number is that list
same_list : (xs ys : List ℕ) → length ys ≤ 1 → ((v : ℕ → ℕ) → sum v xs ≡ sum v ys) → xs ≡ ys
unfolding sum
same_list [] [] l e = refl
same_list [] (y ∷ ys) l e = absurd (omega (arith, e (λ _. 1)))
same_list (x ∷ xs) [] l e = absurd (omega (arith, e (λ _. 1)))
same_list (x ∷ []) (y ∷ []) l e = ap (λ (z : ℕ). z ∷ []) (omega (arith, e (λ n. n)))
same_list (x ∷ (x₁ ∷ xs)) (y ∷ []) l e = absurd (omega (arith, e (λ _. 1)))
same_list (x ∷ []) (y ∷ (y₁ ∷ ys)) l e = absurd (omega arith)
same_list (x ∷ (x₁ ∷ xs)) (y ∷ (y₁ ∷ ys)) l e = absurd (omega arith)

few_parents : (b : Bool) (p : ℕ) → length (if b then p ∷ [] else []) ≤ 1
few_parents true p = omega arith
few_parents false p = omega arith

-- the tree is one Program, which names row 1
abbrev Rooted : Forest → Type 0
Rooted tree = (items : Forest) × (tree ≡ one (hd Tag.Program 1 0 0) items)

-- ROWS THAT OFFER WHAT THE TREE DEMANDS AGREE WITH IT.
offers_agree : (ss : List Scope) (tree : Forest) → Offers ss (λ w. demanded w 0 tree) → Rooted tree → ScopesAgree ss tree
offers_agree ss tree o root =
    let each : (s : ℕ) → enclosing_scopes s 0 tree ≡ parents_in ss s =
    λ s.
    same_list (enclosing_scopes s 0 tree) (parents_in ss s) (few_parents (is_row (length ss) s) (row_at no_scope ss s).parent)
    (λ v. above_sum s v tree 0 ∙ sym (o (of_row s v)) ∙ sym (rows_sum s v ss))
    in
    let by : (b : Bool) → ℕ → List ℕ = λ b s. if b then (row_at no_scope ss s).parent ∷ [] else [] in
    record {
      rows = λ s e. each s ∙ ap (λ (b : Bool). by b s) e;
      others = λ s e. each s ∙ ap (λ (b : Bool). by b s) e;
      program = root;
    }

-- ---- a file

-- JUST READ,
pub read_agrees : (b : List ℕ) (f : File) → read_file b ≡ Ok f → ScopesAgree f.scopes f.tree
unfolding visits start store_of plug ◌&◌
read_agrees b f e =
    let just_read = (settled [] none f.tree (store_of f)).0 in
    offers_agree f.scopes f.tree (read_offers b f e) (subst Rooted just_read (accepted_program b f 0 e))

import_rooted : (y : ℕ) (tree : Forest) → Rooted tree → Rooted (with_import y tree)
unfolding with_import
import_rooted y tree (items, r) = (_, ap (with_import y) r)

module _ (b : List ℕ) (f : File) (k : ℕ) (e : read_file b ≡ Ok f) where
  spot_offers : AgreeAt (visits k (start f))
  unfolding start store_of plug ◌&◌
  spot_offers =
      visits_agree k (start f) (pending_start f (accepted_fit b f e)) (at_settled none f.tree [] (store_of f) (read_offers b f e))

  -- and wherever calls for visits lead: after any number of visits, and with the import line, once it is put.
  pub calls_scopes_agree : let s = completed (visits k (start f)) in ScopesAgree (store_at s).scopes (tree_at s)
  calls_scopes_agree =
      let s = visits k (start f) in
      let root = accepted_program b f k e in
      offers_agree _ _ (completed_agrees s spot_offers) (completed_keeps Rooted s root (import_rooted _ _ root))
