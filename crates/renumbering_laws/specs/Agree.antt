-- Numbered in tree order, scope rows agree with the tree as before.
-- Assumes nothing.
use Rattle.std.specs.Prelude.{if◌then◌else◌, ◌≡◌, Bool, false, not, ◌||◌, ℕ, zero, suc, ◌+◌, ◌≤◌, ◌<◌, length, get_or, leb}
use Rattle.std.proofs.Math.Path.{refl, sym, ap, ap₂}
use Rattle.std.proofs.Common.{◌∙◌, arith}
use Rattle.std.proofs.Math.Bool.{true, ◌&&◌}
use mathlib.Core.List.{List, [], ◌∷◌, ◌++◌, map, map-append}
use Rattle.std.proofs.Math.ListN.{get_or-map}
use Rattle.std.proofs.Math.Dec.{eqb}
use borrow.Author.Tests.{eqb-true, eqb-false, eq-eqb, ne_eqb, leb-true}
use Rattle.meaning.specs.Numbers.Tag
use Rattle.meaning.specs.Tree.{one_of, Head, hd, Forest, none, more, one}
use Rattle.meaning.specs.File.{Scope, File}
use Rattle.meaning.specs.Grammar.{scope_first, is_row, scope_of, below}
use Rattle.meaning.specs.Scoping.{row_at, no_scope}
use Rattle.meaning.specs.Agreement.{namers, names_scope, enclosing_scopes, ScopesAgree}
use Rattle.meaning.specs.Renumbering.{scope_named, named_scopes, place_from, new_number, with_scope, renumbered_tree, renumbered_scope, renumbered}
use Rattle.spec_laws.specs.Tags.{clash, and_right}
use Rattle.bound_laws.specs.Numbers.{All}
use Rattle.renumbering_laws.specs.Heads.{with_tag, scope_first_lem, scope_with}
use Rattle.renumbering_laws.specs.Order.{up_from, places_up}
use Rattle.renumbering_laws.specs.Trees.{all_split, all_same, some}
use Rattle.renumbering_laws.specs.Named.{named_once, named_length, named_rows_lem, no_zero, new_row, one_to_one}
use Rattle.renumbering_laws.specs.Files.{renumbered_scopes}

-- ---- the record that names a scope, told by its scope

-- by its tag, and whether the number is 0
abbrev pub tells : ℕ → Bool → Bool
tells t z = one_of namers t || (eqb t Tag.Plain && not z)

pub names_told : (h : Head) → names_scope h ≡ tells h.tag (eqb (scope_of h) 0)
unfolding names_scope
names_told h = ap (λ (b : Bool). one_of namers h.tag || b) (go (eqb h.tag Tag.Plain) refl)
  where
    go : (b : Bool) → eqb h.tag Tag.Plain ≡ b → (b && not (eqb h.a 0)) ≡ (b && not (eqb (scope_of h) 0))
    go true e =
        let is = ap (one_of scope_first) (eqb-true h.tag Tag.Plain e) in
        ap (λ (s : ℕ). not (eqb s 0)) (sym (scope_first_lem h is))
    go false e = refl

-- ---- the scopes around those that name one

if_mapped : (new : ℕ → ℕ) (c : Bool) (cur : ℕ) → (if c then new cur ∷ [] else []) ≡ map new (if c then cur ∷ [] else [])
if_mapped new true cur = refl
if_mapped new false cur = refl

-- an old number s and a new number t: whoever names the one names the other
module _ (new : ℕ → ℕ) (zero_stays : new 0 ≡ 0) (s t : ℕ) (zeros : eqb 0 t ≡ eqb 0 s) where
  abbrev Follows : ℕ → Type 0
  Follows x = (eqb (new x) t ≡ eqb x s) × (eqb (new x) 0 ≡ eqb x 0)

  head_follows : (x : ℕ) → All Follows (some x) → Follows x
  head_follows x p = go (eqb x 0) refl p
    where
      go : (z : Bool) → eqb x 0 ≡ z → All Follows (if z then [] else (x ∷ [])) → Follows x
      go true e p =
          let x_is = eqb-true x 0 e in
          rw (x_is, zero_stays) (zeros, refl)
      go false e p = p.0

  inner_scope : (cur x : ℕ) → eqb (new x) 0 ≡ eqb x 0 → below (new cur) (new x) ≡ new (below cur x)
  inner_scope cur x e = ap (λ (b : Bool). if b then new cur else new x) e ∙ go (eqb x 0)
    where
      go : (b : Bool) → (if b then new cur else new x) ≡ new (if b then cur else x)
      go true = refl
      go false = refl

  pub around_mapped : (f : Forest) (cur : ℕ) → All Follows (named_scopes f)
      → enclosing_scopes t (new cur) (renumbered_tree new f) ≡ map new (enclosing_scopes s cur f)
  unfolding enclosing_scopes renumbered_tree named_scopes scope_named
  around_mapped none cur p = refl
  around_mapped (more h k r) cur p =
      let x = scope_of h in
      let h' = with_scope h (new x) in
      let own = all_split Follows (some x) (named_scopes k ++ named_scopes r) p in
      let deep = all_split Follows (named_scopes k) (named_scopes r) own.1 in
      let is = head_follows x own.0 in
      let scope : scope_of h' ≡ new x = scope_with new zero_stays h in
      let named : names_scope h' ≡ names_scope h =
      names_told h' ∙ ap₂ tells (with_tag h (new x)) (ap (λ (y : ℕ). eqb y 0) scope ∙ is.1) ∙ sym (names_told h) in
      let test : (names_scope h' && eqb (scope_of h') t) ≡ (names_scope h && eqb x s) = ap₂ ◌&&◌ named (ap (λ (y : ℕ). eqb y t) scope ∙ is.0) in
      let inside : below (new cur) (scope_of h') ≡ new (below cur x) = ap (below (new cur)) scope ∙ inner_scope cur x is.1 in
      let kids : enclosing_scopes t (below (new cur) (scope_of h')) (renumbered_tree new k) ≡ map new (enclosing_scopes s (below cur x) k) =
      ap (λ (c : ℕ). enclosing_scopes t c (renumbered_tree new k)) inside ∙ around_mapped k (below cur x) deep.0 in
      ap₂ ◌++◌ (ap (λ (b : Bool). if b then new cur ∷ [] else []) test ∙ if_mapped new (names_scope h && eqb x s) cur)
      (ap₂ ◌++◌ kids (around_mapped r cur deep.1))
      ∙ joined (if names_scope h && eqb x s then cur ∷ [] else []) (enclosing_scopes s (below cur x) k) (enclosing_scopes s cur r)
    where
      joined : (xs ys zs : List ℕ) → map new xs ++ (map new ys ++ map new zs) ≡ map new (xs ++ (ys ++ zs))
      joined xs ys zs = rw (map-append new xs (ys ++ zs), map-append new ys zs)

-- ---- rows, by their new numbers

up_at : (k n j d : ℕ) → j < n → get_or (up_from k n) j d ≡ k + j
unfolding up_from
up_at k zero j d l = absurd (omega arith)
up_at k (suc n) zero d l = omega arith
up_at k (suc n) (suc j) d l = up_at (suc k) n j d (omega arith) ∙ omega arith

all_at : {X : Type 0} (P : X → Type 0) (d : X) (xs : List X) (j : ℕ) → j < length xs → All P xs → P (get_or xs j d)
all_at P d [] j l p = absurd (omega arith)
all_at P d (x ∷ xs) zero l p = p.0
all_at P d (x ∷ xs) (suc j) l p = all_at P d xs j (omega arith) p.1

-- a test by its two directions
same_test : (x y u v : ℕ) → (u ≡ v → x ≡ y) → (x ≡ y → u ≡ v) → eqb x y ≡ eqb u v
same_test x y u v to from = go (eqb u v) refl
  where
    go : (b : Bool) → eqb u v ≡ b → eqb x y ≡ b
    go true e = eq-eqb x y (to (eqb-true u v e))
    go false e = ne_eqb x y (λ q. eqb-false u v e (from q))

module _ (g : File) (agree : ScopesAgree g.scopes g.tree) where
  abbrev ss : List Scope
  ss = g.scopes

  abbrev order : List ℕ
  order = named_scopes g.tree

  abbrev new : ℕ → ℕ
  new = new_number order

  abbrev zero_stays : new 0 ≡ 0
  zero_stays = no_zero ss g.tree agree

  -- a row's new number is none but its own
  row_some : (x : ℕ) → is_row (length ss) x ≡ true → 1 ≤ x
  row_some zero e = absurd (clash refl e)
  row_some (suc x) e = omega arith

  not_zero : (x : ℕ) → is_row (length ss) x ≡ true → eqb (new x) 0 ≡ eqb x 0
  not_zero x e =
      let old = row_some x e in
      let made = row_some (new x) (new_row ss g.tree agree x e) in
      ne_eqb (new x) 0 (λ q. omega arith) ∙ sym (ne_eqb x 0 (λ q. omega arith))

  -- the row that is named at the j-th place
  abbrev row_there : ℕ → ℕ
  row_there j = get_or order j 0

  module _ (j : ℕ) (inside : j < length ss) where
    there_row : is_row (length ss) (row_there j) ≡ true
    there_row = all_at (λ s. is_row (length ss) s ≡ true) 0 order j (omega (arith, named_length ss g.tree agree)) (named_rows_lem ss g.tree agree)

    there_new : new (row_there j) ≡ suc j
    there_new =
        sym (get_or-map new order j 0)
        ∙ ap (λ (xs : List ℕ). get_or xs j (new 0)) (places_up 1 order (named_once ss g.tree agree) ∙ ap (up_from 1) (named_length ss g.tree agree))
        ∙ up_at 1 (length ss) j (new 0) inside
        ∙ omega arith

    there_parent : (row_at no_scope (renumbered g).scopes (suc j)).parent ≡ new (row_at no_scope ss (row_there j)).parent
    unfolding renumbered renumbered_scope
    there_parent =
        let default : Scope = renumbered_scope new ss 0 in
        let same : default ≡ no_scope = ap (λ (p : ℕ). record { parent = p; flags = 0 }) zero_stays in
        ap (λ (d : Scope). (get_or (map (renumbered_scope new ss) order) j d).parent) (sym same)
        ∙ ap (λ (r : Scope). r.parent) (get_or-map (renumbered_scope new ss) order j 0)

    follows : All (λ x. (eqb (new x) (suc j) ≡ eqb x (row_there j)) × (eqb (new x) 0 ≡ eqb x 0)) order
    follows =
        all_same (λ (x : ℕ). is_row (length ss) x ≡ true) (λ x. (eqb (new x) (suc j) ≡ eqb x (row_there j)) × (eqb (new x) 0 ≡ eqb x 0)) order
        (λ x e. (
          same_test (new x) (suc j) x (row_there j) (λ q. ap new q ∙ there_new) (λ q. one_to_one ss g.tree agree x (row_there j) e (q ∙ sym there_new)),
          not_zero x e,
        ))
        (named_rows_lem ss g.tree agree)

    row_agrees : enclosing_scopes (suc j) 0 (renumbered g).tree ≡ (row_at no_scope (renumbered g).scopes (suc j)).parent ∷ []
    unfolding renumbered
    row_agrees =
        let old = row_some (row_there j) there_row in
        let zeros : eqb 0 (suc j) ≡ eqb 0 (row_there j) = ne_eqb 0 (suc j) (λ q. omega arith) ∙ sym (ne_eqb 0 (row_there j) (λ q. omega arith)) in
        ap (λ (c : ℕ). enclosing_scopes (suc j) c (renumbered_tree new g.tree)) (sym zero_stays)
        ∙ around_mapped new zero_stays (row_there j) (suc j) zeros g.tree 0 follows
        ∙ ap (map new) (agree.rows (row_there j) there_row)
        ∙ ap (λ (p : ℕ). p ∷ []) (sym there_parent)

  -- what is no row is named by none
  other_agrees : (s : ℕ) → is_row (length ss) s ≡ false → enclosing_scopes s 0 (renumbered g).tree ≡ []
  unfolding renumbered
  other_agrees s none_there =
      let differs : (x : ℕ) → is_row (length ss) x ≡ true → x ≡ s → ⊥ = λ x e q. clash none_there (ap (is_row (length ss)) (sym q) ∙ e) in
      let each : (x : ℕ) → is_row (length ss) x ≡ true → (eqb (new x) s ≡ eqb x s) × (eqb (new x) 0 ≡ eqb x 0) =
      λ x e. (ne_eqb (new x) s (differs (new x) (new_row ss g.tree agree x e)) ∙ sym (ne_eqb x s (differs x e)), not_zero x e) in
      ap (λ (c : ℕ). enclosing_scopes s c (renumbered_tree new g.tree)) (sym zero_stays)
      ∙ around_mapped new zero_stays s s refl g.tree 0
      (all_same (λ (x : ℕ). is_row (length ss) x ≡ true) (λ x. (eqb (new x) s ≡ eqb x s) × (eqb (new x) 0 ≡ eqb x 0)) order each (named_rows_lem ss g.tree agree))
      ∙ ap (map new) (agree.others s none_there)

  -- Program's row stays the first
  program_first : (items : Forest) → new_number (named_scopes (one (hd Tag.Program 1 0 0) items)) 1 ≡ 1
  unfolding named_scopes scope_named scope_of place_from
  program_first items = refl

  rooted : (items : Forest) × ((renumbered g).tree ≡ one (hd Tag.Program 1 0 0) items)
  unfolding renumbered renumbered_tree with_scope scope_of
  rooted =
      let items = agree.program.0 in
      let is = agree.program.1 in
      let first : new 1 ≡ 1 = ap (λ (f : Forest). new_number (named_scopes f) 1) is ∙ program_first items in (
        renumbered_tree new items,
        ap (renumbered_tree new) is ∙ ap (λ (a : ℕ). one (hd Tag.Program a 0 0) (renumbered_tree new items)) first,
      )

  -- THE ROWS OF THE RENUMBERED FILE AGREE WITH ITS TREE.
  pub renumbered_agrees : ScopesAgree (renumbered g).scopes (renumbered g).tree
  renumbered_agrees =
      let long = renumbered_scopes g agree in
      record {
        rows = λ s e. row_by s (sym (ap (λ (n : ℕ). is_row n s) long) ∙ e);
        others = λ s e. other_agrees s (sym (ap (λ (n : ℕ). is_row n s) long) ∙ e);
        program = rooted;
      }
    where
      row_by : (s : ℕ) → is_row (length ss) s ≡ true → enclosing_scopes s 0 (renumbered g).tree ≡ (row_at no_scope (renumbered g).scopes s).parent ∷ []
      row_by zero e = absurd (clash refl e)
      row_by (suc j) e = row_agrees j (leb-true (suc j) (length ss) (and_right (leb 1 (suc j)) (leb (suc j) (length ss)) e))
