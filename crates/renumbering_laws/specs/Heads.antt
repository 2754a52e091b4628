-- A record with another number for its scope.
-- Assumes nothing.
use Rattle.std.specs.Prelude.{if◌then◌else◌, ◌≡◌, refl, Bool, true, false, ◌||◌, List, [], ◌∷◌, ℕ, ◌≤◌, eqb}
use Rattle.std.proofs.Common.{sym, ap, ◌∙◌, eqb-true}
use Rattle.meaning.specs.Numbers.Tag
use Rattle.meaning.specs.Tree.{one_of, Head, hd, row}
use Rattle.meaning.specs.Mentions.{first_named, second_named, named}
use Rattle.meaning.specs.File.{numbers_of, has_children, own_numbers, record_numbers}
use Rattle.meaning.specs.Grammar.{scope_first, scope_second, scope_of}
use Rattle.meaning.specs.Renumbering.{with_scope}
use Rattle.spec_laws.specs.Tags.{clash}
use Rattle.bound_laws.specs.Numbers.{All, HeadWithin}
use Rattle.readback_laws.proofs.Mapped.{KeepsHints}
use Rattle.readback_laws.proofs.Back.{plain_head}

-- ---- where the number stands

-- what holds of each tag of a list
at_tags : {X : Type 0} (f g : ℕ → X) (ks : List ℕ) (t : ℕ) → All (λ k. f k ≡ g k) ks → one_of ks t ≡ true → f t ≡ g t
at_tags f g [] t p e = absurd (clash refl e)
at_tags f g (k ∷ ks) t p e = go (eqb t k) refl e (at_tags f g ks t p.1)
  where
    go : (b : Bool) → eqb t k ≡ b → (b || one_of ks t) ≡ true → (one_of ks t ≡ true → f t ≡ g t) → f t ≡ g t
    go true d e rest = let is = eqb-true t k d in ap f is ∙ p.0 ∙ sym (ap g is)
    go false d e rest = rest e

-- by the tag
data ScopePlace (t : ℕ) : Type 0 where
  first : one_of scope_first t ≡ true → ScopePlace t
  second : one_of scope_first t ≡ false → one_of scope_second t ≡ true → ScopePlace t
  nowhere : one_of scope_first t ≡ false → one_of scope_second t ≡ false → ScopePlace t

scope_place : (t : ℕ) → ScopePlace t
scope_place t = go (one_of scope_first t) (one_of scope_second t) refl refl
  where
    go : (x y : Bool) → one_of scope_first t ≡ x → one_of scope_second t ≡ y → ScopePlace t
    go true y e d = first e
    go false true e d = second e d
    go false false e d = nowhere e d

-- by these
module _ (h : Head) where
  with_first : (s : ℕ) → one_of scope_first h.tag ≡ true → with_scope h s ≡ hd h.tag s h.b h.c
  unfolding with_scope
  with_first s e = rw e

  with_second : (s : ℕ) → one_of scope_first h.tag ≡ false → one_of scope_second h.tag ≡ true → with_scope h s ≡ hd h.tag h.a s h.c
  unfolding with_scope
  with_second s e d = rw (e, d)

  with_none : (s : ℕ) → one_of scope_first h.tag ≡ false → one_of scope_second h.tag ≡ false → with_scope h s ≡ h
  unfolding with_scope
  with_none s e d = rw (e, d)

  pub scope_first_lem : one_of scope_first h.tag ≡ true → scope_of h ≡ h.a
  unfolding scope_of
  scope_first_lem e = rw e

  scope_second_lem : one_of scope_first h.tag ≡ false → one_of scope_second h.tag ≡ true → scope_of h ≡ h.b
  unfolding scope_of
  scope_second_lem e d = rw (e, d)

  scope_none : one_of scope_first h.tag ≡ false → one_of scope_second h.tag ≡ false → scope_of h ≡ 0
  unfolding scope_of
  scope_none e d = rw (e, d)

-- ---- what changes, and what stays

pub with_tag : (h : Head) (s : ℕ) → (with_scope h s).tag ≡ h.tag
unfolding with_scope
with_tag h s = go (one_of scope_first h.tag) (one_of scope_second h.tag)
  where
    go : (x y : Bool) → (if x then hd h.tag s h.b h.c else if y then hd h.tag h.a s h.c else h).tag ≡ h.tag
    go true y = refl
    go false true = refl
    go false false = refl

-- the scope is the new one
pub scope_with : (new : ℕ → ℕ) → new 0 ≡ 0 → (h : Head) → scope_of (with_scope h (new (scope_of h))) ≡ new (scope_of h)
scope_with new zero_stays h = go (scope_place h.tag)
  where
    v : ℕ
    v = new (scope_of h)

    go : ScopePlace h.tag → scope_of (with_scope h v) ≡ v
    go (first e) = ap scope_of (with_first h v e) ∙ scope_first_lem (hd h.tag v h.b h.c) e
    go (second e d) = ap scope_of (with_second h v e d) ∙ scope_second_lem (hd h.tag h.a v h.c) e d
    go (nowhere e d) = ap scope_of (with_none h v e d) ∙ scope_none h e d ∙ sym (ap new (scope_none h e d) ∙ zero_stays)

-- a number over another, and the record's own
pub with_twice : (h : Head) (s t : ℕ) → with_scope (with_scope h s) t ≡ with_scope h t
with_twice h s t = go (scope_place h.tag)
  where
    over : Head → Head
    over x = with_scope x t

    go : ScopePlace h.tag → with_scope (with_scope h s) t ≡ with_scope h t
    go (first e) = ap over (with_first h s e) ∙ with_first (hd h.tag s h.b h.c) t e ∙ sym (with_first h t e)
    go (second e d) = ap over (with_second h s e d) ∙ with_second (hd h.tag h.a s h.c) t e d ∙ sym (with_second h t e d)
    go (nowhere e d) = ap over (with_none h s e d)

pub with_own : (h : Head) → with_scope h (scope_of h) ≡ h
with_own h = go (scope_place h.tag)
  where
    go : ScopePlace h.tag → with_scope h (scope_of h) ≡ h
    go (first e) = with_first h (scope_of h) e ∙ ap (λ (a : ℕ). hd h.tag a h.b h.c) (scope_first_lem h e)
    go (second e d) = with_second h (scope_of h) e d ∙ ap (λ (b : ℕ). hd h.tag h.a b h.c) (scope_second_lem h e d)
    go (nowhere e d) = with_none h (scope_of h) e d

-- symbols are named as before
pub named_with : (y s : ℕ) (h : Head) → named y (with_scope h s) ≡ named y h
unfolding named first_named second_named
named_with y s h = go (scope_place h.tag)
  where
    go : ScopePlace h.tag → named y (with_scope h s) ≡ named y h
    go (first e) =
        ap (named y) (with_first h s e)
        ∙ at_tags (λ t. named y (hd t s h.b h.c)) (λ t. named y (hd t h.a h.b h.c)) scope_first h.tag
        (refl, (refl, (refl, (refl, (refl, (refl, (refl, (refl, tt)))))))) e
    go (second e d) =
        ap (named y) (with_second h s e d)
        ∙ at_tags (λ t. named y (hd t h.a s h.c)) (λ t. named y (hd t h.a h.b h.c)) scope_second h.tag (refl, (refl, tt)) d
    go (nowhere e d) = ap (named y) (with_none h s e d)

-- a number that fits
pub with_within : (B s : ℕ) (h : Head) → HeadWithin B h → s ≤ B → HeadWithin B (with_scope h s)
unfolding with_scope
with_within B s h p l = go (one_of scope_first h.tag) (one_of scope_second h.tag)
  where
    go : (x y : Bool) → HeadWithin B (if x then hd h.tag s h.b h.c else if y then hd h.tag h.a s h.c else h)
    go true y = (p.0, l, p.2, p.3)
    go false true = (p.0, p.1, l, p.3)
    go false false = p

-- a record that is no scope's
pub with_other : (h : Head) (s t : ℕ) → one_of scope_first t ≡ false → one_of scope_second t ≡ false → eqb h.tag t ≡ true → with_scope h s ≡ h
with_other h s t n m e =
    let is = eqb-true h.tag t e in
    with_none h s (ap (one_of scope_first) is ∙ n) (ap (one_of scope_second) is ∙ m)

-- ---- as it is written

-- a record's scope is written
pub scope_plain : (h : Head) → scope_of (plain_head h) ≡ scope_of h
unfolding scope_of plain_head own_numbers has_children numbers_of
scope_plain h = go (scope_place h.tag)
  where
    go : ScopePlace h.tag → scope_of (plain_head h) ≡ scope_of h
    go (first e) =
        at_tags (λ t. scope_of (plain_head (hd t h.a h.b h.c))) (λ t. scope_of (hd t h.a h.b h.c)) scope_first h.tag
        (refl, (refl, (refl, (refl, (refl, (refl, (refl, (refl, tt)))))))) e
    go (second e d) =
        at_tags (λ t. scope_of (plain_head (hd t h.a h.b h.c))) (λ t. scope_of (hd t h.a h.b h.c)) scope_second h.tag
        (refl, (refl, tt)) d
    go (nowhere e d) = rw (e, d)

-- NEW NUMBERS FOR SCOPES CHANGE NO HINT.
pub renumbering_keeps : (new : ℕ → ℕ) → KeepsHints (λ h. with_scope h (new (scope_of h)))
renumbering_keeps new =
    let same : (h : Head) (t : ℕ) → one_of scope_first t ≡ false → one_of scope_second t ≡ false → eqb h.tag t ≡ true → with_scope h (new (scope_of h)) ≡ h =
    λ h t n m e. with_other h (new (scope_of h)) t n m e in
    record {
      tag = λ h. with_tag h (new (scope_of h));
      symbol = λ h e. ap (λ (x : Head). x.a) (same h Tag.Name refl refl e);
      names = λ h e. ap (λ (x : Head). x.b) (same h Tag.Declarator refl refl e);
      letter = λ h e. ap (λ (x : Head). x.a) (same h Tag.Call refl refl e);
      context = λ h e. ap (λ (x : Head). x.b) (same h Tag.Call refl refl e);
      written = λ h n. ap (λ (x : Head). record_numbers (row x n)) (with_twice h (new (scope_of h)) 0);
    }
