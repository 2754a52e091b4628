-- A ForOf with a using: its children.
-- Assumes nothing.
use Rattle.std.specs.Prelude.{◌≡◌, true, false, ℕ, ◌+◌, eqb}
use Rattle.std.proofs.Math.Path.{refl, sym, ap}
use Rattle.std.proofs.Common.{◌∙◌}
use mathlib.Core.List.{List, [], ◌∷◌, ◌++◌, append_assoc}
use borrow.Author.Tests.{eqb-true}
use Rattle.meaning.specs.Numbers.Tag
use Rattle.meaning.specs.Numbers.Kind
use Rattle.meaning.specs.Tree.{one_of, Head, hd, Forest, none, more, one, count, ◌&◌}
use Rattle.meaning.specs.File.{Symbol}
use Rattle.meaning.specs.Scoping.{Store, symbol_in, create_symbol, insert_scope_below}
use Rattle.meaning.specs.Shapes.{declaration, read}
use Rattle.meaning.specs.Statements.{is_using, any_using}
use Rattle.meaning.specs.ForOf.{binds_identifier, bound_symbol, rebind, insert, wrap, insert_using, wrap_body, enter_for_of_statement}
use Rattle.meaning.specs.Walk.{for_of_insert, for_of_wrap, act_of}
use Rattle.meaning.specs.Charges.{Line, of_block, context, wrapped, initializers, wraps, context_lines}
use Rattle.meaning.specs.Due.{enter_lines}
use Rattle.charge_laws.specs.VisitCharges.{standing, taken_up, next, Visits, free, visits_as, visits_standing, visits_taken_up, visits_body, visits_of, visits_in}
use Rattle.spec_laws.specs.Tags.{Seen, other, here, there, seen, clash, and_left}
use Rattle.charge_laws.proofs.Growth.Trees.{using_tag}
use Rattle.charge_laws.proofs.Growth.ForOf.{Named}
use Rattle.charge_laws.proofs.Counts.Visits.{spread, spread_++}
use Rattle.charge_laws.proofs.Counts.Tries.{Opens}

module _ (ys : List Symbol) where
  -- a record of a known tag
  pub standing_at : (h : Head) (k : Forest) (n : ℕ) → h.tag ≡ n → visits_standing ys h k ≡ visits_standing ys (hd n h.a h.b h.c) k
  standing_at h k n e = ap (λ (t : ℕ). visits_standing ys (hd t h.a h.b h.c) k) e

  rebind_visits : (y : ℕ) (k : Forest) → binds_identifier k ≡ true → Named k → visits_in ys (rebind y k) standing ≡ visits_in ys k standing
  unfolding rebind binds_identifier visits_in visits_of visits_standing visits_as act_of next
  rebind_visits y none e n = refl
  rebind_visits y (more h none r) e n = refl
  rebind_visits y (more h (more h₁ k₁ r₁) r) e n =
      let six = eqb-true h.tag Tag.Declarator (and_left (eqb h.tag Tag.Declarator) (eqb h.a 0) e) in
      let xs = visits_in ys r standing in
      ap (λ (v : Visits). spread ys v (more (hd Tag.Name y 0 0) k₁ r₁) xs) (standing_at h (more (hd Tag.Name y 0 0) k₁ r₁) 6 six)
      ∙ ap (λ (v : Visits). [] ∷ (spread ys v k₁ (visits_in ys r₁ standing) ++ xs)) (sym (standing_at h₁ k₁ 26 n))
      ∙ sym (ap (λ (v : Visits). spread ys v (more h₁ k₁ r₁) xs) (standing_at h (more h₁ k₁ r₁) 6 six))

  left_visits : (y : ℕ) (h : Head) (k : Forest) (xs : List (List Line)) → is_using h ≡ true → binds_identifier k ≡ true → Named k
      → spread ys (visits_standing ys (hd Tag.Declaration Kind.Const 0 0) (rebind y k)) (rebind y k) xs ≡ spread ys (visits_standing ys h k) k xs
  unfolding visits_standing visits_as act_of
  left_visits y h k xs u e n =
      ap (λ (v : List (List Line)). [] ∷ (v ++ xs)) (rebind_visits y k e n)
      ∙ sym (ap (λ (v : Visits). spread ys v k xs) (standing_at h k 5 (using_tag h u)))

  -- a Block that begins with the using
  held_visits : {kind : ℕ} (y temp a b c : ℕ) (k : Forest) (xs : List (List Line)) → Seen (Kind.Using ∷ Kind.AwaitUsing ∷ []) kind → one_of (Kind.Using ∷ Kind.AwaitUsing ∷ []) kind ≡ true
      → let list = declaration kind y (read temp) & k in
      spread ys (visits_standing ys (hd Tag.Block a b c) list) list xs
      ≡ (context of_block ∷ wrapped (1 + wraps k) ∷ []) ∷ (free 10 ++ (visits_in ys k taken_up ++ (free 6 ++ xs)))
  unfolding visits_in visits_of visits_standing visits_taken_up visits_as enter_lines context_lines act_of next any_using is_using wraps initializers count ◌&◌
  held_visits y temp a b c k xs here u = refl
  held_visits y temp a b c k xs (there e₃ here) u = refl
  held_visits y temp a b c k xs (there e₃ (there e₄ other)) u = absurd (clash (rw (e₃, e₄)) u)

  insert_visits : (kind y temp : ℕ) (h : Head) (k : Forest) (xs : List (List Line)) → h.tag ≡ Tag.Block → one_of (Kind.Using ∷ Kind.AwaitUsing ∷ []) kind ≡ true
      → let list = declaration kind y (read temp) & k in
      spread ys (visits_standing ys h list) list xs ≡ spread ys (visits_body ys insert h k) k xs
  unfolding visits_body
  insert_visits kind y temp h k xs e u =
      let list = declaration kind y (read temp) & k in
      ap (λ (v : Visits). spread ys v list xs) (standing_at h list 2 e)
      ∙ held_visits y temp h.a h.b h.c k xs (seen (Kind.Using ∷ Kind.AwaitUsing ∷ []) kind) u

  behind_too : (v : Visits) (k : Forest) (bs xs : List (List Line))
      → spread ys v k (bs ++ xs)
      ≡ spread ys (record { before = v.before; inside = v.inside; again = v.again; behind = v.behind ++ bs }) k xs
  behind_too v k bs xs = simp append_assoc

  wrap_visits : (kind y temp scope : ℕ) (h : Head) (k : Forest) (xs : List (List Line)) → one_of (Kind.Using ∷ Kind.AwaitUsing ∷ []) kind ≡ true
      → let list = declaration kind y (read temp) & one h k in
      spread ys (visits_standing ys (hd Tag.Block scope 0 0) list) list xs ≡ spread ys (visits_body ys wrap h k) k xs
  unfolding visits_body visits_in visits_of
  wrap_visits kind y temp scope h k xs u =
      held_visits y temp scope 0 0 (one h k) xs (seen (Kind.Using ∷ Kind.AwaitUsing ∷ []) kind) u
      ∙ ap (λ (v : List (List Line)). (context of_block ∷ wrapped (1 + wraps (one h k)) ∷ []) ∷ (free 10 ++ v))
      (spread_++ ys (visits_taken_up ys h k) k [] (free 6 ++ xs) ∙ behind_too (visits_taken_up ys h k) k (free 6) xs)

  -- ---- the ForOf

  module _ (h h₁ : Head) (k₁ : Forest) (h₂ : Head) (k₂ : Forest) (h₃ : Head) (k₃ r : Forest) (st : Store)
      (u : is_using h₁ ≡ true) (b : binds_identifier k₁ ≡ true) (n : Named k₁) (kind : one_of (Kind.Using ∷ Kind.AwaitUsing ∷ []) h₁.a ≡ true) where
    abbrev sides : Forest
    sides = more h₁ k₁ (more h₂ k₂ (more h₃ k₃ r))

    pub insert_opens : h₃.tag ≡ Tag.Block → Opens ys for_of_insert h sides (enter_for_of_statement false h sides st)
    unfolding enter_for_of_statement insert_using visits_as visits_in visits_of next ◌&◌
    insert_opens e xs =
        let t = (create_symbol (symbol_in st (bound_symbol k₁)).name 6 h.a 1 st).0 in
        let rest = visits_in ys r standing in
        ap (λ (v : List (List Line)). enter_lines for_of_insert h sides ∷ (v ++ xs))
        (sym
        (ap (λ (v : List (List Line)). spread ys (visits_standing ys (hd Tag.Declaration Kind.Const 0 0) (rebind t k₁)) (rebind t k₁) (spread ys (visits_standing ys h₂ k₂) k₂ v))
        (insert_visits h₁.a (bound_symbol k₁) t h₃ k₃ rest e kind)
        ∙ left_visits t h₁ k₁ (spread ys (visits_standing ys h₂ k₂) k₂ (spread ys (visits_body ys insert h₃ k₃) k₃ rest)) u b n))

    pub wrap_opens : Opens ys for_of_wrap h sides (enter_for_of_statement true h sides st)
    unfolding enter_for_of_statement wrap_body visits_as visits_in visits_of next ◌&◌
    wrap_opens xs =
        let c = create_symbol (symbol_in st (bound_symbol k₁)).name 6 h.a 1 st in
        let s = insert_scope_below h.a (one h₃ k₃) c.1 in
        let t = c.0 in
        let rest = visits_in ys r standing in
        ap (λ (v : List (List Line)). enter_lines for_of_wrap h sides ∷ (v ++ xs))
        (sym
        (ap (λ (v : List (List Line)). spread ys (visits_standing ys (hd Tag.Declaration Kind.Const 0 0) (rebind t k₁)) (rebind t k₁) (spread ys (visits_standing ys h₂ k₂) k₂ v))
        (wrap_visits h₁.a (bound_symbol k₁) t s.0 h₃ k₃ rest kind)
        ∙ left_visits t h₁ k₁ (spread ys (visits_standing ys h₂ k₂) k₂ (spread ys (visits_body ys wrap h₃ k₃) k₃ rest)) u b n))
