-- Lists that a context takes up, and the Try around them: records without n get no children.
-- Assumes nothing.
use Rattle.std.specs.Prelude.{if◌then◌else◌, ◌≡◌, refl, Bool, true, false, ℕ, eqb}
use Rattle.std.proofs.Common.{subst}
use Rattle.meaning.specs.Numbers.Tag
use Rattle.meaning.specs.Numbers.Kind
use Rattle.meaning.specs.Tree.{Head, Forest, none, more, single, ◌&◌}
use Rattle.meaning.specs.File.{has_children}
use Rattle.meaning.specs.Scoping.{Store}
use Rattle.meaning.specs.Shapes.{declaration}
use Rattle.meaning.specs.HelperLoader.{load_runtime, load_external, helper_load}
use Rattle.meaning.specs.Statements.{
  as_taken_up,
  take_up,
  create_catch_clause,
  create_finally_block,
  create_try_stmt,
}
use Rattle.meaning.specs.Contexts.{take_up_for, take_up_cases}
use Rattle.spec_laws.specs.Tags.{clash}
use Rattle.charge_laws.proofs.Growth.Taken.{Taken, nothing, passed, as_const, in_declarator_lem, called, taken, TakenIn, in_list_lem, around, taken_for, taken_cases}
use Rattle.readback_laws.proofs.Back.{Childless}

-- without n, a record has no children
abbrev pub Bare : Head → Forest → Type 0
Bare h k = has_children h.tag ≡ false → k ≡ none

-- a record whose tag has n, seen by computing
pub never : {X : Type 0} → true ≡ false → X
never e = absurd (clash e refl)

pub childless_& : (f g : Forest) → Childless f → Childless g → Childless (f & g)
unfolding ◌&◌
childless_& none g p q = q
childless_& (more h k r) g p q = (p.0, p.1, childless_& r g p.2 q)

-- ---- lists

list_empty : {ctx n : ℕ} {f : Forest} → Taken ctx n none f → f ≡ none
list_empty nothing = refl

taken_childless : {ctx n : ℕ} {f f' : Forest} → Taken ctx n f f' → Childless f → Childless f'
unfolding as_taken_up has_children
taken_childless nothing p = tt
taken_childless (passed t) p = (p.0, p.1, taken_childless t p.2)
taken_childless (as_const u s t) p = (never, taken_childless s p.1, taken_childless t p.2)
taken_childless (in_declarator_lem e s t) p = (rw e never, taken_childless s p.1, taken_childless t p.2)
taken_childless (called l) p = (never, (p.0, p.1, tt), p.2)

pub list_childless : (f : Forest) (ctx : ℕ) → Childless f → Childless (take_up ctx f)
list_childless f ctx p = taken_childless (taken ctx f) p

-- records around lists: what has no children gets none
still_empty : {ctx : ℕ} {f : Forest} → TakenIn ctx none f → f ≡ none
still_empty (in_list_lem t) = list_empty t

around_childless : {ctx : ℕ} {f f' : Forest} → TakenIn ctx f f' → Childless f → Childless f'
around_childless (in_list_lem t) p = taken_childless t p
around_childless {ctx} (around {k' = k'} s t) p =
    ((λ e. still_empty (subst (λ (x : Forest). TakenIn ctx x k') (p.0 e) s)), around_childless s p.1, around_childless t p.2)

pub cases_childless : (f : Forest) (ctx : ℕ) → Childless f → Childless (take_up_cases ctx f)
cases_childless f ctx p = around_childless (taken_cases ctx f) p

pub for_childless : (f : Forest) (ctx : ℕ) → Childless f → Childless (take_up_for ctx f)
for_childless f ctx p = around_childless (taken_for ctx f) p

-- ---- the Try that a context makes

pub declared_childless : (kind y : ℕ) (e g : Forest) → Childless e → Childless g → Childless (declaration kind y e & g)
unfolding ◌&◌ has_children
declared_childless kind y e g p q = (never, (never, ((λ _. refl), tt, p), tt), q)

load_if : (b : Bool) (cur : ℕ) (st : Store) → Childless ((if b then load_runtime else load_external cur) st).0
unfolding load_runtime load_external
load_if true cur st = ((λ _. refl), tt, tt)
load_if false cur st = ((λ _. refl), tt, tt)

pub try_childless : (scope : ℕ) (list : Forest) (ctx cur ctx' parent : ℕ) (needs_await : Bool) (st st' : Store) → Childless list
    → Childless (single (create_try_stmt scope (declaration Kind.Var ctx (helper_load cur st).0 & list) ctx' parent needs_await st').0)
unfolding create_try_stmt create_catch_clause create_finally_block helper_load ◌&◌ has_children
try_childless scope list ctx cur ctx' parent needs_await st st' p = (
  never,
  (
    never,
    declared_childless 0 ctx (helper_load cur st).0 list (load_if (eqb st.mode 0) cur st) p,
    (
      never,
      ((λ _. refl), tt, (never, ((λ _. refl), tt, tt), tt)),
      (never, ((λ _. refl), tt, tt), tt),
    ),
  ),
  tt,
)
