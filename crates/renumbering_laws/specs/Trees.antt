-- A tree whose scopes are numbered anew: all but the numbers stays.
-- Assumes nothing.
use Rattle.std.specs.Prelude.{if◌then◌else◌, ◌≡◌, Bool, true, eqb}
use Rattle.std.proofs.Math.Path.{refl, ap, ap₂}
use Rattle.std.proofs.Common.{sym, ◌∙◌, arith, eqb-true, ne_eqb}
use Rattle.std.proofs.Math.Bool.{false}
use mathlib.Core.List.{List, [], ◌∷◌, ◌++◌, map, map-append}
use Prim.Native.Nat.{ℕ, suc, ◌≤◌}
use Rattle.meaning.specs.Tree.{Head, Forest, none, more, count, size}
use Rattle.meaning.specs.Mentions.{mentions}
use Rattle.meaning.specs.File.{has_children}
use Rattle.meaning.specs.Grammar.{scope_of}
use Rattle.meaning.specs.Renumbering.{scope_named, named_scopes, with_scope, renumbered_tree}
use Rattle.meaning.specs.Charges.{record_bytes}
use Rattle.bound_laws.specs.Numbers.{All, TreeWithin}
use Rattle.hint_laws.specs.Hints.{of_source, given}
use Rattle.readback_laws.specs.ReadBack.{Tagged}
use Rattle.readback_laws.proofs.Mapped.{mapped, mapped_gives}
use Rattle.readback_laws.proofs.Back.{plain, Childless}
use Rattle.readback_laws.specs.Loads.Contexts.{load_of, loads}
use Rattle.renumbering_laws.specs.Heads.{with_tag, scope_with, with_own, named_with, with_within, scope_plain, renumbering_keeps}

-- ---- lists of names

pub all_split : {X : Type 0} (P : X → Type 0) (xs ys : List X) → All P (xs ++ ys) → All P xs × All P ys
all_split P [] ys p = (tt, p)
all_split P (x ∷ xs) ys p = let q = all_split P xs ys p.1 in ((p.0, q.0), q.1)

pub all_same : {X : Type 0} (P Q : X → Type 0) (xs : List X) → ((x : X) → P x → Q x) → All P xs → All Q xs
all_same P Q [] q p = tt
all_same P Q (x ∷ xs) q p = (q x p.0, all_same P Q xs q p.1)

-- the scope, if it is one
abbrev pub some : ℕ → List ℕ
some s = if eqb s 0 then [] else (s ∷ [])

some_mapped : (new : ℕ → ℕ) (s : ℕ) → new 0 ≡ 0 → All (λ x. 1 ≤ new x) (some s) → some (new s) ≡ map new (some s)
some_mapped new s zero_stays p = go (eqb s 0) refl p
  where
    go : (b : Bool) → eqb s 0 ≡ b → All (λ x. 1 ≤ new x) (if b then [] else (s ∷ [])) → some (new s) ≡ map new (if b then [] else (s ∷ []))
    go true e p = ap (λ (x : ℕ). some (new x)) (eqb-true s 0 e) ∙ ap some zero_stays
    go false e p = let l = p.0 in let n = ne_eqb (new s) 0 (λ q. omega arith) in rw n

-- ---- as it is written, a tree names the same scopes

pub plain_named : (f : Forest) → named_scopes (plain f) ≡ named_scopes f
unfolding named_scopes scope_named mapped
plain_named none = refl
plain_named (more h k r) = ap₂ ◌++◌ (ap some (scope_plain h)) (ap₂ ◌++◌ (plain_named k) (plain_named r))

module _ (new : ℕ → ℕ) where
  pub tree_mapped : (f : Forest) → renumbered_tree new f ≡ mapped (λ h. with_scope h (new (scope_of h))) f
  unfolding renumbered_tree mapped
  tree_mapped none = refl
  tree_mapped (more h k r) = ap₂ (more (with_scope h (new (scope_of h)))) (tree_mapped k) (tree_mapped r)

  -- ---- numbers of records and their bytes

  pub renumbered_count : (f : Forest) → count (renumbered_tree new f) ≡ count f
  unfolding renumbered_tree count
  renumbered_count none = refl
  renumbered_count (more h k r) = ap suc (renumbered_count r)

  pub renumbered_size : (f : Forest) → size (renumbered_tree new f) ≡ size f
  unfolding renumbered_tree size
  renumbered_size none = refl
  renumbered_size (more h k r) = omega (arith, renumbered_size k, renumbered_size r)

  pub renumbered_bytes : (f : Forest) → record_bytes (renumbered_tree new f) ≡ record_bytes f
  unfolding renumbered_tree record_bytes
  renumbered_bytes none = refl
  renumbered_bytes (more h k r) = rw (with_tag h (new (scope_of h))) (omega (arith, renumbered_bytes k, renumbered_bytes r))

  -- ---- tags, mentions, Loads and hints

  pub renumbered_tagged : (f : Forest) → Tagged f → Tagged (renumbered_tree new f)
  unfolding renumbered_tree
  renumbered_tagged none q = tt
  renumbered_tagged (more h k r) q = (rw (with_tag h (new (scope_of h))) q.0, renumbered_tagged k q.1, renumbered_tagged r q.2)

  pub renumbered_childless : (f : Forest) → Childless f → Childless (renumbered_tree new f)
  unfolding renumbered_tree
  renumbered_childless none q = tt
  renumbered_childless (more h k r) q =
      let none_stays : (has_children (with_scope h (new (scope_of h))).tag ≡ false → renumbered_tree new k ≡ none) =
      rw (with_tag h (new (scope_of h))) (λ e. ap (renumbered_tree new) (q.0 e)) in
      (none_stays, renumbered_childless k q.1, renumbered_childless r q.2)

  pub renumbered_mentions : (y : ℕ) (f : Forest) → mentions y (renumbered_tree new f) ≡ mentions y f
  unfolding renumbered_tree mentions
  renumbered_mentions y none = refl
  renumbered_mentions y (more h k r) =
      omega (arith, named_with y (new (scope_of h)) h, renumbered_mentions y k, renumbered_mentions y r)

  pub renumbered_loads : (f : Forest) → loads (renumbered_tree new f) ≡ loads f
  unfolding renumbered_tree loads load_of
  renumbered_loads none = refl
  renumbered_loads (more h k r) = rw (with_tag h (new (scope_of h))) (omega (arith, renumbered_loads k, renumbered_loads r))

  pub renumbered_gives : (w : List ℕ → List ℕ → ℕ → ℕ) (read : ℕ) (f : Forest) → given w read (renumbered_tree new f) ≡ given w read f
  unfolding given
  renumbered_gives w read f =
      ap (given w read) (tree_mapped f) ∙ mapped_gives (λ h. with_scope h (new (scope_of h))) (renumbering_keeps new) (of_source read w) read f

  pub renumbered_within : (B : ℕ) → ((s : ℕ) → new s ≤ B) → (f : Forest) → TreeWithin B f → TreeWithin B (renumbered_tree new f)
  unfolding renumbered_tree
  renumbered_within B fits none p = tt
  renumbered_within B fits (more h k r) p =
      (with_within B (new (scope_of h)) h p.0 (fits (scope_of h)), renumbered_within B fits k p.1, renumbered_within B fits r p.2)

  -- ---- the scopes that it names

  module _ (zero_stays : new 0 ≡ 0) where
    -- are the new numbers of those named before
    pub renumbered_named : (f : Forest) → All (λ s. 1 ≤ new s) (named_scopes f) → named_scopes (renumbered_tree new f) ≡ map new (named_scopes f)
    unfolding named_scopes scope_named renumbered_tree
    renumbered_named none p = refl
    renumbered_named (more h k r) p =
        let here = all_split (λ s. 1 ≤ new s) (some (scope_of h)) (named_scopes k ++ named_scopes r) p in
        let below = all_split (λ s. 1 ≤ new s) (named_scopes k) (named_scopes r) here.1 in
        ap₂ ◌++◌ (ap some (scope_with new zero_stays h) ∙ some_mapped new (scope_of h) zero_stays here.0)
        (ap₂ ◌++◌ (renumbered_named k below.0) (renumbered_named r below.1))
        ∙ joined (some (scope_of h)) (named_scopes k) (named_scopes r)
      where
        joined : (xs ys zs : List ℕ) → map new xs ++ (map new ys ++ map new zs) ≡ map new (xs ++ (ys ++ zs))
        joined xs ys zs = rw (map-append new xs (ys ++ zs), map-append new ys zs)

    -- numbers that stay leave the tree as it is
    same_head : (h : Head) (b : Bool) → eqb (scope_of h) 0 ≡ b → All (λ s. new s ≡ s) (if b then [] else (scope_of h ∷ []))
        → with_scope h (new (scope_of h)) ≡ h
    same_head h true e p =
        let z = eqb-true (scope_of h) 0 e in
        ap (with_scope h) (ap new z ∙ zero_stays ∙ sym z) ∙ with_own h
    same_head h false e p = ap (with_scope h) p.0 ∙ with_own h

    pub renumbered_same : (f : Forest) → All (λ s. new s ≡ s) (named_scopes f) → renumbered_tree new f ≡ f
    unfolding named_scopes scope_named renumbered_tree
    renumbered_same none p = refl
    renumbered_same (more h k r) p =
        let here = all_split (λ s. new s ≡ s) (some (scope_of h)) (named_scopes k ++ named_scopes r) p in
        let below = all_split (λ s. new s ≡ s) (named_scopes k) (named_scopes r) here.1 in
        rw (same_head h (eqb (scope_of h) 0) refl here.0, renumbered_same k below.0, renumbered_same r below.1)
