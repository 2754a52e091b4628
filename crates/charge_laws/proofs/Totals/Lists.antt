-- The usings of a list and the initializers that its context wraps, in its tally.
-- Assumes nothing.
use Rattle.std.specs.Prelude.{if◌then◌else◌, ◌≡◌, Bool, not, ◌||◌, ◌&&◌, List, [], ◌∷◌, ℕ, zero, suc, ◌+◌}
use Rattle.std.proofs.Math.Path.{refl}
use Rattle.std.proofs.Common.{ap, ◌∙◌, zero-add, suc-add, eqb-true}
use Rattle.std.proofs.Math.Bool.{true, false}
use native.Mathlib.Omega.{arith}
use Rattle.std.proofs.Math.Dec.{eqb, eqb-suc-zero}
use Rattle.meaning.specs.Numbers.Tag
use Rattle.meaning.specs.Numbers.Kind
use Rattle.meaning.specs.Tree.{one_of, Head, Forest, none, more}
use Rattle.meaning.specs.File.{Symbol}
use Rattle.meaning.specs.Statements.{is_using, any_using}
use Rattle.meaning.specs.Contexts.{any_case_using}
use Rattle.meaning.specs.Charges.{initializers, wraps, case_wraps}
use Rattle.figures.specs.declared.tally.Tally.{Tally}
use Rattle.figures.specs.declared.tally.Role.{Role}
use Rattle.figures.specs.declared.tally.Role.TheVariants.{Plain, Item, Exported, ExportedDeclarator, Held}
use Rattle.figures.specs.Tally.{role_index, is_role, role_of, body_of, one_if, own, tally_of}
use Rattle.spec_laws.specs.Tags.{Seen, other, here, there, seen, clash}
use Rattle.charge_laws.proofs.Totals.Roles.{Lacks, Regular}

-- ---- usings

-- a sum is 0 if both parts are
zero_sum : (m n : ℕ) → eqb (m + n) 0 ≡ (eqb m 0 && eqb n 0)
zero_sum zero n = rw zero-add
zero_sum (suc m) n = simp (suc-add, eqb-suc-zero)

any_sum : (m n : ℕ) (b c : Bool) → eqb m 0 ≡ not b → eqb n 0 ≡ not c → eqb (m + n) 0 ≡ not (b || c)
any_sum m n true c p q = zero_sum m n ∙ rw p
any_sum m n false c p q = zero_sum m n ∙ rw (p, q)

any_one : (b : Bool) → eqb (one_if b) 0 ≡ not b
any_one true = refl
any_one false = refl

any_if : (b c : Bool) (m : ℕ) → eqb m 0 ≡ not c → eqb (if b then m else 0) 0 ≡ not (b && c)
any_if true c m e = e
any_if false c m e = refl

module _ (as_read : List Symbol) where
  pub usings_are : (f : Forest) (ups : ℕ → Role) (i : ℕ) → eqb (tally_of as_read ups i f).usings 0 ≡ not (any_using f)
  unfolding tally_of own any_using
  usings_are none ups i = refl
  usings_are (more h k r) ups i =
      any_sum (one_if (is_using h)) _ (is_using h) (any_using r) (any_one (is_using h)) (usings_are r ups (suc i))

  case_usings_are : (f : Forest) (ups : ℕ → Role) (i : ℕ) → eqb (tally_of as_read ups i f).case_usings 0 ≡ not (any_case_using f)
  unfolding tally_of own any_case_using
  case_usings_are none ups i = refl
  case_usings_are (more h k r) ups i =
      any_sum (if eqb h.tag Tag.Case then _ else 0) _ (eqb h.tag Tag.Case && any_using k) (any_case_using r)
      (any_if (eqb h.tag Tag.Case) (any_using k) _ (usings_are k (role_of (ups i) h.tag (is_using h) (body_of k)) 0))
      (case_usings_are r ups (suc i))

-- ---- wrapped initializers

twice_and : (b c : Bool) → (b && (b && c)) ≡ (b && c)
twice_and true c = refl
twice_and false c = refl

using_tag : (h : Head) → (eqb h.tag Tag.Declaration && is_using h) ≡ is_using h
unfolding is_using
using_tag h = twice_and (eqb h.tag Tag.Declaration) (one_of (Kind.Using ∷ Kind.AwaitUsing ∷ []) h.a || one_of (3 ∷ 4 ∷ []) h.b)

module _ (as_read : List Symbol) where
  -- a list of Declarators: of a using, and of another Declaration
  held_wraps : (f : Forest) (i : ℕ) → Lacks Tag.Declaration f → (tally_of as_read (λ _. Held) i f).wraps ≡ initializers f
  unfolding tally_of own initializers role_index
  held_wraps none i l = refl
  held_wraps (more h k r) i l = rw l.0 (omega (arith, held_wraps r (suc i) l.1))

  no_wraps : (f : Forest) (i : ℕ) → Lacks Tag.Declaration f → (tally_of as_read (λ _. Plain) i f).wraps ≡ 0
  unfolding tally_of own role_index
  no_wraps none i l = refl
  no_wraps (more h k r) i l = rw l.0 (omega (arith, no_wraps r (suc i) l.1))

  wraps_in : (c : Bool) (f : Forest) → Lacks Tag.Declaration f
      → (tally_of as_read (λ _. if c then Held else Plain) 0 f).wraps ≡ (if c then initializers f else 0)
  wraps_in true f l = held_wraps f 0 l
  wraps_in false f l = no_wraps f 0 l

  -- below a Declaration that is not exported, and below a Case
  declaration_wraps : (b : Bool) (u : Role) (t : ℕ) (held : Bool) (body : Role) (k : Forest) → eqb t Tag.Declaration ≡ b → is_role u Exported ≡ false
      → (b ≡ true → Lacks Tag.Declaration k)
      → (if b then (tally_of as_read (role_of u t held body) 0 k).wraps else 0) ≡ (if b && held then initializers k else 0)
  unfolding role_of
  declaration_wraps true u t held body k e x l =
      rw (eqb-true t 5 e)
      (ap (λ (b : Bool). (tally_of as_read (λ _. if b then ExportedDeclarator else if held then Held else Plain) 0 k).wraps) x
      ∙ wraps_in held k (l refl))
  declaration_wraps false u t held body k e x l = refl

  -- a list of statements or items
  wraps_are : (u : Role) → is_role u Held ≡ false → is_role u Exported ≡ false → (f : Forest) (i : ℕ) → Regular f
      → (tally_of as_read (λ _. u) i f).wraps ≡ wraps f
  unfolding tally_of own wraps
  wraps_are u e x none i s = refl
  wraps_are u e x (more h k r) i s =
      let d = declaration_wraps (eqb h.tag Tag.Declaration) u h.tag (is_using h) (body_of k) k refl x s.0 in
      rw e (omega (arith, rw (using_tag h) at d, wraps_are u e x r (suc i) s.3))

  case_wraps_lem : (b : Bool) (u : Role) (t : ℕ) (held : Bool) (body : Role) (k : Forest) → eqb t Tag.Case ≡ b → Regular k
      → (if b then (tally_of as_read (role_of u t held body) 0 k).wraps else 0) ≡ (if b then wraps k else 0)
  unfolding role_of role_index
  case_wraps_lem true u t held body k e s = rw (eqb-true t 10 e) (wraps_are Plain refl refl k 0 s)
  case_wraps_lem false u t held body k e s = refl

  case_wraps_are : (f : Forest) (ups : ℕ → Role) (i : ℕ) → Regular f → (tally_of as_read ups i f).case_wraps ≡ case_wraps f
  unfolding tally_of own case_wraps
  case_wraps_are none ups i s = refl
  case_wraps_are (more h k r) ups i s =
      omega (
        arith,
        case_wraps_lem (eqb h.tag Tag.Case) (ups i) h.tag (is_using h) (body_of k) k refl s.2,
        case_wraps_are r ups (suc i) s.3,
      )

  -- below the records that get a context for their list
  list_wraps : (u : Role) {t : ℕ} (held : Bool) (body : Role) (k : Forest) → Regular k → Seen (Tag.Program ∷ Tag.Block ∷ Tag.For ∷ Tag.Body ∷ Tag.StaticBlock ∷ []) t
      → one_of (Tag.Program ∷ Tag.Block ∷ Tag.For ∷ Tag.Body ∷ Tag.StaticBlock ∷ []) t ≡ true → (tally_of as_read (role_of u t held body) 0 k).wraps ≡ wraps k
  unfolding role_of role_index
  list_wraps u held body k s here e = wraps_are Item refl refl k 0 s
  list_wraps u held body k s (there e₁ here) e = wraps_are Plain refl refl k 0 s
  list_wraps u held body k s (there e₁ (there e₂ here)) e = wraps_are Plain refl refl k 0 s
  list_wraps u held body k s (there e₁ (there e₂ (there e₇ here))) e = wraps_are Plain refl refl k 0 s
  list_wraps u held body k s (there e₁ (there e₂ (there e₇ (there e₁₄ here)))) e = wraps_are Plain refl refl k 0 s
  list_wraps u held body k s (there e₁ (there e₂ (there e₇ (there e₁₄ (there e₁₆ other))))) e =
      absurd (clash (rw (e₁, e₂, e₇, e₁₄, e₁₆)) e)

-- ---- all of them

-- the facts of a list of children, as its tally has them
pub record Lists (t : ℕ) (k : Forest) (kids : Tally) : Type 0 where
  pub usings : eqb kids.usings 0 ≡ not (any_using k)
  pub wraps : one_of (Tag.Program ∷ Tag.Block ∷ Tag.For ∷ Tag.Body ∷ Tag.StaticBlock ∷ []) t ≡ true → kids.wraps ≡ wraps k
  pub case_usings : eqb kids.case_usings 0 ≡ not (any_case_using k)
  pub case_wraps : kids.case_wraps ≡ case_wraps k

module _ (as_read : List Symbol) where
  pub lists : (u : Role) (t : ℕ) (held : Bool) (k : Forest) → Regular k → Lists t k (tally_of as_read (role_of u t held (body_of k)) 0 k)
  lists u t held k s =
      record {
        usings = usings_are as_read k (role_of u t held (body_of k)) 0;
        wraps = list_wraps as_read u held (body_of k) k s (seen (Tag.Program ∷ Tag.Block ∷ Tag.For ∷ Tag.Body ∷ Tag.StaticBlock ∷ []) t);
        case_usings = case_usings_are as_read k (role_of u t held (body_of k)) 0;
        case_wraps = case_wraps_are as_read k (role_of u t held (body_of k)) 0 s;
      }
