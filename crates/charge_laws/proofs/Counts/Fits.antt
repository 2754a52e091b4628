-- Visits keep a tree fit.
-- Assumes nothing.
use Rattle.std.specs.Prelude.{if◌then◌else◌, ◌≡◌, refl, Bool, true, false, ◌&&◌, [], ◌∷◌, ℕ, eqb}
use Rattle.std.proofs.Common.{sym, ap, subst, ◌∙◌, eqb-true}
use Rattle.meaning.specs.Numbers.Tag
use Rattle.meaning.specs.Numbers.Kind
use Rattle.meaning.specs.Tree.{one_of, Head, hd, Forest, none, more, one, ◌&◌}
use Rattle.meaning.specs.Scoping.{Store, create_child_scope, create_symbol}
use Rattle.meaning.specs.Shapes.{declaration}
use Rattle.meaning.specs.HelperLoader.{load_runtime, load_external, helper_load}
use Rattle.meaning.specs.Statements.{
  any_using,
  as_taken_up,
  take_up,
  create_catch_clause,
  create_finally_block,
  create_try_stmt,
}
use Rattle.meaning.specs.Contexts.{for_list, take_up_for, any_case_using, take_up_cases}
use Rattle.spec_laws.specs.Tags.{Seen, other, here, there, seen, clash, or_none}
use Rattle.charge_laws.proofs.Growth.Taken.{Taken, nothing, passed, as_const, in_declarator_lem, called, taken}
use Rattle.charge_laws.proofs.Growth.Trees.{using_tag}
use Rattle.charge_laws.proofs.Counts.TakenUp.{none_left, Labelled}
use Rattle.charge_laws.proofs.Totals.Roles.{Lacks}
use Rattle.charge_laws.proofs.Counts.Enter.{FitIn, Fit}

-- each record of a tree is fit, in a Switch or elsewhere
abbrev pub FitsIn : Bool → Forest → Type 0
FitsIn in_switch none = Unit {0}
FitsIn in_switch (more h k r) = FitIn in_switch h k × FitsIn (eqb h.tag Tag.Switch) k × FitsIn in_switch r

abbrev pub Fits : Forest → Type 0
Fits f = FitsIn false f

-- the children of a record
abbrev pub FitsBelow : Head → Forest → Type 0
FitsBelow h k = FitsIn (eqb h.tag Tag.Switch) k

pub below : {t : ℕ} (h : Head) (k : Forest) → h.tag ≡ t → eqb t Tag.Switch ≡ false → FitsBelow h k → Fits k
below h k e n p = subst (λ (b : Bool). FitsIn b k) (ap (λ (t : ℕ). eqb t Tag.Switch) e ∙ n) p

pub above : {t : ℕ} (h : Head) (k : Forest) → h.tag ≡ t → eqb t Tag.Switch ≡ false → Fits k → FitsBelow h k
above h k e n p = subst (λ (b : Bool). FitsIn b k) (sym (ap (λ (t : ℕ). eqb t Tag.Switch) e ∙ n)) p

-- a record that is no Program, no ForOf, no Label, no Catch and no Case
pub easy : {b : Bool} {h : Head} {k : Forest} → one_of (Tag.Program ∷ Tag.ForOf ∷ Tag.Label ∷ Tag.Catch ∷ Tag.Case ∷ []) h.tag ≡ false → FitIn b h k
easy {h = h} p =
    let t = h.tag in
    record {
      items = λ e. absurd (clash p (rw (eqb-true t 1 e)));
      side = λ e. absurd (clash p (rw (eqb-true t 8 e)));
      label = λ e. absurd (clash p (rw (eqb-true t 4 e)));
      handler = λ e. absurd (clash p (rw (eqb-true t 12 e)));
      taken = λ _ e. absurd (clash p (rw (eqb-true t 10 e)));
    }

label_fit : {a b c : ℕ} {k : Forest} → Labelled k → Fit (hd Tag.Label a b c) k
label_fit p =
    record {
      items = λ e. absurd (clash refl e);
      side = λ e. absurd (clash refl e);
      label = λ e. p;
      handler = λ e. absurd (clash refl e);
      taken = λ _ e. absurd (clash refl e);
    }

pub catch_fit : {a b c : ℕ} {k : Forest} → Lacks Tag.Catch k → Fit (hd Tag.Catch a b c) k
catch_fit p =
    record {
      items = λ e. absurd (clash refl e);
      side = λ e. absurd (clash refl e);
      label = λ e. absurd (clash refl e);
      handler = λ e. p;
      taken = λ _ e. absurd (clash refl e);
    }

case_fit : {s : Bool} {a b c : ℕ} {k : Forest} → any_using k ≡ false → FitIn s (hd Tag.Case a b c) k
case_fit u =
    record {
      items = λ e. absurd (clash refl e);
      side = λ e. absurd (clash refl e);
      label = λ e. absurd (clash refl e);
      handler = λ e. absurd (clash refl e);
      taken = λ _ _. u;
    }

pub fits_& : (f g : Forest) → Fits f → Fits g → Fits (f & g)
unfolding ◌&◌
fits_& none g p q = q
fits_& (more h k r) g p q = (p.0, p.1, fits_& r g p.2 q)

-- ---- lists that a context takes up

taken_fits : {ctx n : ℕ} {f f' : Forest} → Taken ctx n f f' → Fits f → Fits f'
unfolding as_taken_up
taken_fits nothing p = tt
taken_fits (passed t) p = (p.0, p.1, taken_fits t p.2)
taken_fits (as_const {h = h} {k = k} u s t) p = (easy refl, taken_fits s (below h k (using_tag h u) refl p.1), taken_fits t p.2)
taken_fits (in_declarator_lem {h = h} {k = k} {k' = k'} e s t) p =
    (easy (rw e), above h k' e refl (taken_fits s (below h k e refl p.1)), taken_fits t p.2)
taken_fits (called l) p = (easy refl, (p.0, p.1, tt), p.2)

pub list_fits : (f : Forest) (ctx : ℕ) → Fits f → Fits (take_up ctx f)
list_fits f ctx p = taken_fits (taken ctx f) p

case_fits : {t : ℕ} (a b c : ℕ) (k r : Forest) (ctx : ℕ) → Seen (Tag.Case ∷ []) t → FitIn true (hd t a b c) k → FitsBelow (hd t a b c) k
    → FitsIn true r → FitsIn true (more (hd t a b c) (if eqb t Tag.Case then take_up ctx k else k) r)
case_fits a b c k r ctx here o p q = (case_fit (none_left k ctx), list_fits k ctx p, q)
case_fits a b c k r ctx (there e other) o p q = rw e (o, p, q)

pub cases_fit : (f : Forest) (ctx : ℕ) → FitsIn true f → FitsIn true (take_up_cases ctx f)
unfolding take_up_cases
cases_fit none ctx p = tt
cases_fit (more h k r) ctx p =
    case_fits h.a h.b h.c k (take_up_cases ctx r) ctx (seen (Tag.Case ∷ []) h.tag) p.0 p.1 (cases_fit r ctx p.2)

-- the children of a Switch whose Cases have no usings
pub entered_cases : (f : Forest) → any_case_using f ≡ false → FitsIn true f → Fits f
unfolding any_case_using
entered_cases none u p = tt
entered_cases (more h k r) u p =
    let q = or_none (eqb h.tag Tag.Case && any_using k) (any_case_using r) u in (
      record {
        items = p.0.items;
        side = p.0.side;
        label = p.0.label;
        handler = p.0.handler;
        taken = λ _ e. rw e at q.0;
      },
      p.1,
      entered_cases r q.1 p.2,
    )

labelled_if : (b : Bool) (f g : Forest) → Labelled f → b ≡ true → Labelled (if b then f else g)
labelled_if true f g a e = a
labelled_if false f g a e = absurd (clash refl e)

labelled_taken : (f : Forest) (ctx : ℕ) → Labelled f → Labelled (take_up_for ctx f)
unfolding take_up_for
labelled_taken none ctx a = absurd a
labelled_taken (more h k none) ctx a =
    λ e. labelled_if (eqb h.tag Tag.Label) (take_up_for ctx k) (take_up ctx k) (labelled_taken k ctx (a e)) e
labelled_taken (more h k (more h₁ k₁ r₁)) ctx a = absurd a

loop_one : {t : ℕ} (a b c : ℕ) (k : Forest) (ctx : ℕ) → Seen (Tag.Label ∷ Tag.For ∷ []) t → any_using (for_list (one (hd t a b c) k)) ≡ true
    → (eqb t Tag.Label ≡ true → Labelled k) → FitsBelow (hd t a b c) k → (eqb t Tag.Label ≡ true → any_using (for_list k) ≡ true → Fits (take_up_for ctx k))
    → Fits (take_up_for ctx (one (hd t a b c) k))
unfolding take_up_for for_list any_using
loop_one a b c k ctx here u l p i = (label_fit (labelled_taken k ctx (l refl)), i refl u, tt)
loop_one a b c k ctx (there e₄ here) u l p i = (easy refl, list_fits k ctx p, tt)
loop_one a b c k ctx (there e₄ (there e₇ other)) u l p i = absurd (clash (rw (e₄, e₇)) u)

pub loop_fits : (f : Forest) (ctx : ℕ) → Labelled f → any_using (for_list f) ≡ true → Fits f → Fits (take_up_for ctx f)
unfolding take_up_for
loop_fits none ctx a u p = absurd a
loop_fits (more h k none) ctx a u p =
    loop_one h.a h.b h.c k ctx (seen (Tag.Label ∷ Tag.For ∷ []) h.tag) u a p.1
    (λ e v. loop_fits k ctx (a e) v (below h k (eqb-true h.tag Tag.Label e) refl p.1))
loop_fits (more h k (more h₁ k₁ r₁)) ctx a u p = absurd a

-- ---- the Try that a context makes

pub declared_fits : (kind y : ℕ) (e g : Forest) → Fits e → Fits g → Fits (declaration kind y e & g)
unfolding ◌&◌
declared_fits kind y e g p q = (easy refl, (easy refl, (easy refl, tt, p), tt), q)

load_if : (b : Bool) (cur : ℕ) (st : Store) → Fits ((if b then load_runtime else load_external cur) st).0
unfolding load_runtime load_external
load_if true cur st = (easy refl, tt, tt)
load_if false cur st = (easy refl, tt, tt)

pub try_fits : (scope : ℕ) (list : Forest) (ctx cur ctx' parent : ℕ) (needs_await : Bool) (st st' : Store) → Fits list
    → Fits (create_try_stmt scope (declaration Kind.Var ctx (helper_load cur st).0 & list) ctx' parent needs_await st').0.children
unfolding create_try_stmt create_catch_clause create_finally_block create_child_scope create_symbol helper_load ◌&◌
try_fits scope list ctx cur ctx' parent needs_await st st' p = (
  easy refl,
  declared_fits 0 ctx (helper_load cur st).0 list (load_if (eqb st.mode 0) cur st) p,
  (
    catch_fit (refl, (refl, tt)),
    (easy refl, tt, (easy refl, (easy refl, tt, tt), tt)),
    (easy refl, (easy refl, tt, tt), tt),
  ),
)
