-- Lists that a context takes up demand what they demanded, and the context's declaration before them demands nothing.
-- Assumes nothing.
use Rattle.std.specs.Prelude.{if◌then◌else◌, ◌≡◌, refl, Bool, true, false, ℕ, ◌+◌, eqb}
use Rattle.std.proofs.Common.{arith}
use Rattle.meaning.specs.Numbers.Tag
use Rattle.meaning.specs.Numbers.Kind
use Rattle.meaning.specs.Numbers.Mode
use Rattle.meaning.specs.Tree.{Head, Forest, more, ◌&◌}
use Rattle.meaning.specs.Grammar.{scope_of, below}
use Rattle.meaning.specs.Agreement.{names_scope}
use Rattle.meaning.specs.Scoping.{Store}
use Rattle.meaning.specs.Shapes.{declaration}
use Rattle.meaning.specs.HelperLoader.{load_runtime, load_external, helper_load}
use Rattle.meaning.specs.Statements.{as_taken_up, take_up, make_context, transform_statements}
use Rattle.charge_laws.proofs.Growth.Trees.{using_tag}
use Rattle.charge_laws.proofs.Growth.Taken.{Taken, nothing, passed, as_const, in_declarator_lem, called, taken, TakenIn, in_list_lem, around}
use Rattle.agreement_laws.specs.Weights.{Weight, demanded}

-- the two demand the same, below whatever scope
abbrev pub Alike : Forest → Forest → Type 0
Alike f g = (w : Weight) (cur : ℕ) → demanded w cur f ≡ demanded w cur g

-- below and before such records
pub alike_more : (h : Head) (k k' r r' : Forest) → Alike k' k → Alike r' r → Alike (more h k' r') (more h k r)
unfolding demanded
alike_more h k k' r r' e i w cur = omega (arith, e w (below cur (scope_of h)), i w cur)

-- ---- Declarations and Declarators name no row

pub of_declaration : (w : Weight) (cur : ℕ) (h : Head) (k r : Forest) → h.tag ≡ Tag.Declaration
    → demanded w cur (more h k r) ≡ demanded w cur k + demanded w cur r
unfolding demanded names_scope scope_of
of_declaration w cur h k r e = rw e (omega arith)

of_declarator : (w : Weight) (cur : ℕ) (h : Head) (k r : Forest) → h.tag ≡ Tag.Declarator
    → demanded w cur (more h k r) ≡ demanded w cur k + demanded w cur r
unfolding demanded names_scope scope_of
of_declarator w cur h k r e = rw e (omega arith)

-- `var y = e` and the like, before others
pub declared : (kind y : ℕ) (e g : Forest) (w : Weight) (cur : ℕ)
    → demanded w cur (declaration kind y e & g) ≡ demanded w cur e + demanded w cur g
unfolding demanded names_scope scope_of ◌&◌
declared kind y e g w cur = omega arith

-- ---- lists that are taken up

pub taken_alike : {ctx n : ℕ} {f f' : Forest} → Taken ctx n f f' → Alike f' f
unfolding demanded names_scope scope_of as_taken_up
taken_alike nothing w cur = refl
taken_alike (passed {h = h} t) w cur = omega (arith, taken_alike t w cur)
taken_alike (as_const {h = h} {k} {k'} {r} {r'} u s t) w cur =
    omega (arith, of_declaration w cur h k r (using_tag h u), taken_alike s w cur, taken_alike t w cur)
taken_alike (in_declarator_lem {h = h} {k} {k'} {r} {r'} e s t) w cur =
    omega (arith, of_declarator w cur h k r e, of_declarator w cur h k' r' e, taken_alike s w cur, taken_alike t w cur)
taken_alike (called l) w cur = omega arith

-- or that stand in records: a For with its Labels, the Cases of a Switch
pub taken_in_alike : {ctx : ℕ} {f f' : Forest} → TakenIn ctx f f' → Alike f' f
taken_in_alike (in_list_lem t) = taken_alike t
taken_in_alike (around {h} {k} {k'} {r} {r'} p q) = alike_more h k k' r r' (taken_in_alike p) (taken_in_alike q)

-- ---- the context's declaration

load_if : (b : Bool) (cur' : ℕ) (st : Store) (w : Weight) (cur : ℕ)
    → demanded w cur ((if b then load_runtime else load_external cur') st).0 ≡ 0
unfolding load_runtime load_external demanded names_scope scope_of
load_if true cur' st w cur = refl
load_if false cur' st w cur = refl

load_demands : (cur' : ℕ) (st : Store) (w : Weight) (cur : ℕ) → demanded w cur (helper_load cur' st).0 ≡ 0
unfolding helper_load
load_demands cur' st w cur = load_if (eqb st.mode Mode.Runtime) cur' st w cur

-- before a list
pub loaded : (ctx cur' : ℕ) (st : Store) (g f : Forest) → Alike g f → Alike (declaration Kind.Var ctx (helper_load cur' st).0 & g) f
loaded ctx cur' st g f e w cur =
    omega (arith, declared Kind.Var ctx (helper_load cur' st).0 g w cur, load_demands cur' st w cur, e w cur)

pub transformed : (cur' hoist : ℕ) (list : Forest) (st : Store) → Alike (transform_statements cur' hoist list st).0.statements list
unfolding transform_statements
transformed cur' hoist list st =
    let ctx = (make_context hoist st).0 in
    loaded ctx cur' (make_context hoist st).1 (take_up ctx list) list (taken_alike (taken ctx list))
