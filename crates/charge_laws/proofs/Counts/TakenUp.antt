-- Lists whose usings a context took up: visited as they then stand, they give the charges of the source's list.
-- Assumes nothing.
use Rattle.std.specs.Prelude.{if◌then◌else◌, ◌≡◌, Bool, ◌||◌, ◌&&◌, eqb}
use Rattle.std.proofs.Math.Path.{refl, ap, ap₂}
use Rattle.std.proofs.Common.{◌∙◌}
use Rattle.std.proofs.Math.Bool.{true, false}
use mathlib.Core.List.{List, [], ◌∷◌, ◌++◌}
use Prim.Native.Nat.{ℕ, zero, suc}
use Rattle.meaning.specs.Numbers.Tag
use Rattle.meaning.specs.Numbers.Kind
use Rattle.meaning.specs.Tree.{Head, hd, Forest, none, more, one, ◌&◌}
use Rattle.meaning.specs.File.{Symbol}
use Rattle.meaning.specs.Scoping.{Store}
use Rattle.meaning.specs.Statements.{
  is_using,
  is_await_using,
  any_using,
  letter_if,
  wrap_initializer,
  wrap_initializers,
  as_taken_up,
  take_up,
  create_catch_clause,
  create_finally_block,
  create_try_stmt,
}
use Rattle.meaning.specs.Contexts.{any_part_using, for_list, take_up_for, any_case_using, take_up_cases}
use Rattle.meaning.specs.Walk.{for_loop, act_of}
use Rattle.meaning.specs.Charges.{Line}
use Rattle.charge_laws.specs.VisitCharges.{standing, taken_up, declarators, initializer, loop, cases, next, around, free, visits_as, visits_standing, visits_taken_up, visits_of, visits_in}
use Rattle.spec_laws.specs.Tags.{Seen, other, here, there, seen, clash}
use Rattle.charge_laws.proofs.Counts.Visits.{spread, spread_++, kept_if}

-- ---- no using is left

pub using_gone : (b : Bool) (h : Head) (k k' r : Forest) → is_using h ≡ b → any_using r ≡ false
    → any_using (if b then more (as_taken_up h) k' r else more h k r) ≡ false
unfolding any_using is_using as_taken_up
using_gone true h k k' r u e = const_plain (eqb h.b 0) r e
  where
    const_plain : (c : Bool) (r : Forest) → any_using r ≡ false → any_using (more (hd Tag.Declaration (if c then Kind.Const else Kind.Var) 0 0) none r) ≡ false
    const_plain true r e = e
    const_plain false r e = e
using_gone false h k k' r u e = rw u e

pub none_left : (f : Forest) (ctx : ℕ) → any_using (take_up ctx f) ≡ false
unfolding take_up any_using
none_left none ctx = refl
none_left (more h k r) ctx =
    using_gone (is_using h) h k (wrap_initializers (letter_if (is_await_using h)) ctx k) (take_up ctx r) refl (none_left r ctx)

case_gone : (b : Bool) (h : Head) (k r : Forest) (ctx : ℕ) → eqb h.tag Tag.Case ≡ b → any_case_using r ≡ false
    → any_case_using (more h (if b then take_up ctx k else k) r) ≡ false
unfolding any_case_using
case_gone true h k r ctx t i = rw (t, none_left k ctx) i
case_gone false h k r ctx t i = rw t i

pub no_case_left : (f : Forest) (ctx : ℕ) → any_case_using (take_up_cases ctx f) ≡ false
unfolding take_up_cases any_case_using
no_case_left none ctx = refl
no_case_left (more h k r) ctx = case_gone (eqb h.tag Tag.Case) h k (take_up_cases ctx r) ctx refl (no_case_left r ctx)

loop_gone : (a b : Bool) (ctx : ℕ) (k : Forest) → any_using (for_list (take_up_for ctx k)) ≡ false
    → let k' = (if a then take_up_for ctx k else take_up ctx k) in
    any_using (if a then for_list k' else if b then k' else none) ≡ false
unfolding any_using
loop_gone true b ctx k i = i
loop_gone false true ctx k i = none_left k ctx
loop_gone false false ctx k i = refl

no_loop_left : (f : Forest) (ctx : ℕ) → any_using (for_list (take_up_for ctx f)) ≡ false
unfolding take_up_for for_list any_using
no_loop_left none ctx = refl
no_loop_left (more h k r) ctx = loop_gone (eqb h.tag Tag.Label) (eqb h.tag Tag.For) ctx k (no_loop_left k ctx)

or_none : (b c : Bool) → b ≡ false → ((true && b) || (false && c) || false) ≡ false
or_none b c e = rw e

-- nor in the Try that is made around a list
pub no_part_left : (scope : ℕ) (list : Forest) (ctx parent : ℕ) (needs_await : Bool) (st : Store) → any_using list ≡ false
    → any_part_using (create_try_stmt scope list ctx parent needs_await st).0.children ≡ false
unfolding create_try_stmt create_catch_clause create_finally_block any_part_using any_using is_using ◌&◌
no_part_left scope list ctx parent needs_await st e = or_none (any_using list) true e

-- ---- the visits

-- one record; below a Label, one again
abbrev pub Labelled : Forest → Type 0
Labelled none = ⊥
Labelled (more h k none) = eqb h.tag Tag.Label ≡ true → Labelled k
Labelled (more h k (more h₁ k₁ r₁)) = ⊥

module _ (ys : List Symbol) where
  initializer_visits : (f : Forest) (letter ctx m : ℕ) → visits_in ys (wrap_initializer letter ctx m f) standing ≡ visits_in ys f (initializer m)
  unfolding wrap_initializer visits_in visits_of visits_standing visits_as act_of next ◌&◌
  initializer_visits none letter ctx m = refl
  initializer_visits (more h k r) letter ctx zero = ap (◌∷◌ []) (spread_++ ys (visits_standing ys h k) k [] (visits_in ys r standing))
  initializer_visits (more h k r) letter ctx (suc m) =
      ap (λ (v : List (List Line)). spread ys (visits_standing ys h k) k v) (initializer_visits r letter ctx m)

  declarator_visits : {t : ℕ} (a b c : ℕ) (k r r' : Forest) (letter ctx : ℕ) → Seen (Tag.Declarator ∷ []) t
      → visits_in ys r' standing ≡ visits_in ys r declarators
      → visits_in ys (more (hd t a b c) (if eqb t Tag.Declarator then wrap_initializer letter ctx b k else k) r') standing
      ≡ visits_in ys (more (hd t a b c) k r) declarators
  unfolding visits_in visits_of visits_standing visits_as act_of next
  declarator_visits a b c k r r' letter ctx here i =
      ap₂ (λ (v w : List (List Line)). [] ∷ (v ++ w)) (initializer_visits k letter ctx b) i
  declarator_visits {t} a b c k r r' letter ctx (there e other) i =
      rw e (ap (λ (v : List (List Line)). spread ys (visits_standing ys (hd t a b c) k) k v) i)

  declarators_visits : (f : Forest) (letter ctx : ℕ) → visits_in ys (wrap_initializers letter ctx f) standing ≡ visits_in ys f declarators
  unfolding wrap_initializers visits_in
  declarators_visits none letter ctx = refl
  declarators_visits (more h k r) letter ctx =
      declarator_visits h.a h.b h.c k r (wrap_initializers letter ctx r) letter ctx (seen (Tag.Declarator ∷ []) h.tag)
      (declarators_visits r letter ctx)

  using_visits : (u : Bool) (h : Head) (k r r' : Forest) (letter ctx : ℕ)
      → visits_in ys r' standing ≡ visits_in ys r taken_up
      → visits_in ys (if u then more (as_taken_up h) (wrap_initializers letter ctx k) r' else more h k r') standing
      ≡ spread ys (if u then around (free 1) declarators [] else visits_standing ys h k) k (visits_in ys r taken_up)
  unfolding visits_in visits_of visits_standing visits_as act_of next as_taken_up
  using_visits true h k r r' letter ctx i =
      ap₂ (λ (v w : List (List Line)). [] ∷ (v ++ w)) (declarators_visits k letter ctx) i
  using_visits false h k r r' letter ctx i =
      ap (λ (v : List (List Line)). spread ys (visits_standing ys h k) k v) i

  pub list_visits : (f : Forest) (ctx : ℕ) → visits_in ys (take_up ctx f) standing ≡ visits_in ys f taken_up
  unfolding take_up visits_in visits_of visits_taken_up next
  list_visits none ctx = refl
  list_visits (more h k r) ctx =
      using_visits (is_using h) h k r (take_up ctx r) (letter_if (is_await_using h)) ctx (list_visits r ctx)

  case_visits : {t : ℕ} (a b c : ℕ) (k r r' : Forest) (ctx : ℕ) → Seen (Tag.Case ∷ []) t
      → visits_in ys r' standing ≡ visits_in ys r cases
      → visits_in ys (more (hd t a b c) (if eqb t Tag.Case then take_up ctx k else k) r') standing ≡ visits_in ys (more (hd t a b c) k r) cases
  unfolding visits_in visits_of visits_standing visits_as act_of next
  case_visits a b c k r r' ctx here i = ap₂ (λ (v w : List (List Line)). [] ∷ (v ++ w)) (list_visits k ctx) i
  case_visits {t} a b c k r r' ctx (there e other) i =
      rw e (ap (λ (v : List (List Line)). spread ys (visits_standing ys (hd t a b c) k) k v) i)

  pub cases_visits : (f : Forest) (ctx : ℕ) → visits_in ys (take_up_cases ctx f) standing ≡ visits_in ys f cases
  unfolding take_up_cases visits_in
  cases_visits none ctx = refl
  cases_visits (more h k r) ctx =
      case_visits h.a h.b h.c k r (take_up_cases ctx r) ctx (seen (Tag.Case ∷ []) h.tag) (cases_visits r ctx)

  loop_one : {t : ℕ} (a b c : ℕ) (k : Forest) (ctx : ℕ) → Seen (Tag.Label ∷ Tag.For ∷ []) t → any_using (for_list (one (hd t a b c) k)) ≡ true
      → (eqb t Tag.Label ≡ true → any_using (for_list k) ≡ true → visits_in ys (take_up_for ctx k) standing ≡ visits_in ys k loop)
      → visits_in ys (take_up_for ctx (one (hd t a b c) k)) standing ≡ visits_in ys (one (hd t a b c) k) loop
  unfolding visits_in visits_of visits_standing visits_as act_of take_up_for for_list any_using
  loop_one a b c k ctx here u i =
      kept_if ys (any_using (for_list (take_up_for ctx k))) for_loop (hd Tag.Label a b c) (take_up_for ctx k) [] (no_loop_left k ctx)
      ∙ ap (λ (v : List (List Line)). [] ∷ (v ++ [])) (i refl u)
  loop_one a b c k ctx (there e₄ here) u i =
      kept_if ys (any_using (take_up ctx k)) for_loop (hd Tag.For a b c) (take_up ctx k) [] (none_left k ctx)
      ∙ ap (λ (v : List (List Line)). [] ∷ (v ++ [])) (list_visits k ctx)
  loop_one a b c k ctx (there e₄ (there e₇ other)) u i = absurd (clash (rw (e₄, e₇)) u)

  pub loop_visits : (f : Forest) (ctx : ℕ) → Labelled f → any_using (for_list f) ≡ true
      → visits_in ys (take_up_for ctx f) standing ≡ visits_in ys f loop
  unfolding take_up_for visits_in
  loop_visits none ctx a u = absurd a
  loop_visits (more h k none) ctx a u =
      loop_one h.a h.b h.c k ctx (seen (Tag.Label ∷ Tag.For ∷ []) h.tag) u (λ e v. loop_visits k ctx (a e) v)
  loop_visits (more h k (more h₁ k₁ r₁)) ctx a u = absurd a
