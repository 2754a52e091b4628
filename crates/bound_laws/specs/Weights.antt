-- What a forest weighs: each record counts itself, and what its own rewrite may still add.
-- Assumes nothing.
use Rattle.std.specs.Prelude.{if◌then◌else◌, ◌≡◌, refl, Bool, true, false, ◌||◌, ◌&&◌, [], ◌∷◌, ℕ, zero, suc, ◌+◌, ◌*◌, ◌≤◌, eqb}
use Rattle.std.proofs.Common.{arith, eqb-true}
use Rattle.meaning.specs.Numbers.Tag
use Rattle.meaning.specs.Tree.{one_of, Head, Forest, none, more, ◌&◌}
use Rattle.meaning.specs.Statements.{
  is_using,
  is_await_using,
  any_using,
  letter_if,
  wrap_initializer,
  wrap_initializers,
  as_taken_up,
  take_up,
}
use Rattle.meaning.specs.Contexts.{for_list, take_up_for, any_case_using, take_up_cases}
use Rattle.spec_laws.specs.Tags.{Seen, other, here, there, seen, clash}
use Rattle.charge_laws.proofs.Growth.Trees.{using_tag}
use Rattle.bound_laws.specs.Rows.{given, RowKind, per_record, per_scope, per_symbol, per_mention}

-- ---- what a record is to the one around it

-- an item of Program; the first child of a ForOf; what 19 exports, its Declarators and their Names; a Declarator of a using
pub data Role : Type 0 where
  plain item first exported declarator name held : Role

-- the role of what stands behind it
unfoldable pub next : Role → Role
next plain = plain
next item = item
next first = plain
next exported = exported
next declarator = declarator
next name = name
next held = held

unfoldable pub in_declaration : Role → Bool → Role
in_declaration plain u = if u then held else plain
in_declaration item u = if u then held else plain
in_declaration first u = if u then held else plain
in_declaration exported u = declarator
in_declaration declarator u = if u then held else plain
in_declaration name u = if u then held else plain
in_declaration held u = if u then held else plain

unfoldable pub in_declarator : Role → Role
in_declarator plain = plain
in_declarator item = plain
in_declarator first = plain
in_declarator exported = plain
in_declarator declarator = name
in_declarator name = plain
in_declarator held = plain

-- below a record with this role and tag, which is a using or not
unfoldable pub below : Role → ℕ → Bool → Role
below r t u =
    if eqb t Tag.Program then item
    else if eqb t Tag.Declaration then in_declaration r u
    else if eqb t Tag.Declarator then in_declarator r
    else if eqb t Tag.ForOf then first
    else if eqb t Tag.ExportedDeclaration then exported
    else plain

-- ---- weights

-- how many symbols a record mentions at most, by its tag: one, and a Step two
abbrev pub mentions_one : ℕ → Bool
mentions_one t = one_of (Tag.Function ∷ Tag.Class ∷ Tag.Specifier ∷ Tag.Read ∷ Tag.Name ∷ Tag.Call ∷ Tag.Load ∷ []) t

abbrev pub mention : RowKind → ℕ → ℕ
mention K t = given (mentions_one t) (per_mention K) + given (eqb t Tag.Step) (2 * per_mention K)

-- a context: 12 records, 4 scopes and 2 symbols; its two Names, its Load and its two Steps mention 7 symbols at most
abbrev pub context : RowKind → ℕ
context K = 12 * per_record K + 4 * per_scope K + 2 * per_symbol K + 7 * per_mention K

-- what a role adds: Program's Block, a class and its export; a ForOf's new using and its Block; a Specifier; a Call
unfoldable pub extra : RowKind → Role → ℕ → Bool → ℕ
extra K plain t u = 0
extra K item t u =
    given u (per_record K + per_scope K) + given (eqb t Tag.Class) (3 * per_record K + per_symbol K + per_mention K)
    + given (eqb t Tag.DefaultExport) (4 * per_record K + per_symbol K + 2 * per_mention K)
extra K first t u = given u (5 * per_record K + per_scope K + per_symbol K + 3 * per_mention K)
extra K exported t u = given (eqb t Tag.Class) (4 * per_record K + per_symbol K + 2 * per_mention K)
extra K declarator t u = given (eqb t Tag.Declarator) (per_record K + per_mention K)
extra K name t u = given (eqb t Tag.Name) (per_record K + per_mention K)
extra K held t u = given (eqb t Tag.Declarator) (per_record K + per_mention K)

unfoldable pub own : RowKind → Role → ℕ → Bool → ℕ
own K r t u = per_record K + mention K t + given u (context K) + extra K r t u

unfoldable pub weigh : RowKind → Role → Forest → ℕ
weigh K r none = 0
weigh K r (more h k f) =
    own K r h.tag (is_using h) + weigh K (below r h.tag (is_using h)) k + weigh K (next r) f

-- a record with its children
abbrev pub weight : RowKind → Role → Head → Forest → ℕ
weight K r h k = own K r h.tag (is_using h) + weigh K (below r h.tag (is_using h)) k

-- ---- a lighter role

pub data Lighter : Role → Role → Type 0 where
  same : {r : Role} → Lighter r r
  least : {r : Role} → Lighter plain r
  unnamed : Lighter held declarator

lighter_own : (K : RowKind) {q r : Role} (t : ℕ) (u : Bool) → Lighter q r → own K q t u ≤ own K r t u
unfolding own extra
lighter_own K t u same = omega arith
lighter_own K t u least = omega arith
lighter_own K t u unnamed = omega arith

lighter_next : {q r : Role} → Lighter q r → Lighter (next q) (next r)
unfolding next
lighter_next same = same
lighter_next least = least
lighter_next unnamed = unnamed

if_lighter : (b : Bool) {q q' r r' : Role} → Lighter q r → Lighter q' r' → Lighter (if b then q else q') (if b then r else r')
if_lighter true l m = l
if_lighter false l m = m

in_declaration_lem : {q r : Role} (u : Bool) → Lighter q r → Lighter (in_declaration q u) (in_declaration r u)
unfolding in_declaration
in_declaration_lem u same = same
in_declaration_lem u (least {r = plain}) = same
in_declaration_lem u (least {r = item}) = same
in_declaration_lem u (least {r = first}) = same
in_declaration_lem true (least {r = exported}) = unnamed
in_declaration_lem false (least {r = exported}) = least
in_declaration_lem u (least {r = declarator}) = same
in_declaration_lem u (least {r = name}) = same
in_declaration_lem u (least {r = held}) = same
in_declaration_lem u unnamed = same

in_declarator_lem : {q r : Role} → Lighter q r → Lighter (in_declarator q) (in_declarator r)
unfolding in_declarator
in_declarator_lem same = same
in_declarator_lem least = least
in_declarator_lem unnamed = least

lighter_below : {q r : Role} (t : ℕ) (u : Bool) → Lighter q r → Lighter (below q t u) (below r t u)
unfolding below
lighter_below t u l =
    if_lighter (eqb t Tag.Program) same (if_lighter (eqb t Tag.Declaration) (in_declaration_lem u l) (if_lighter (eqb t Tag.Declarator) (in_declarator_lem l) same))

pub lighter : (K : RowKind) (f : Forest) {q r : Role} → Lighter q r → weigh K q f ≤ weigh K r f
unfolding weigh
lighter K none l = omega arith
lighter K (more h k f) l =
    omega (
      arith,
      lighter_own K h.tag (is_using h) l,
      lighter K k (lighter_below h.tag (is_using h) l),
      lighter K f (lighter_next l),
    )

-- ---- records beside each other

-- the role of what stands behind a list
unfoldable pub after : Forest → Role → Role
after none r = r
after (more h k f) r = next r

next_twice : (r : Role) → next (next r) ≡ next r
unfolding next
next_twice plain = refl
next_twice item = refl
next_twice first = refl
next_twice exported = refl
next_twice declarator = refl
next_twice name = refl
next_twice held = refl

after_next : (f : Forest) (r : Role) → after f (next r) ≡ next r
unfolding after
after_next none r = refl
after_next (more h k f) r = next_twice r

pub weigh_& : (K : RowKind) (r : Role) (f g : Forest) → weigh K r (f & g) ≡ weigh K r f + weigh K (after f r) g
unfolding ◌&◌ weigh after
weigh_& K r none g = omega arith
weigh_& K r (more h k f) g = omega (arith, rw (after_next f r) at (weigh_& K (next r) f g))

pub plain_& : (K : RowKind) (f g : Forest) → weigh K plain (f & g) ≡ weigh K plain f + weigh K plain g
unfolding next
plain_& K f g = rw (after_next f plain) at (weigh_& K plain f g)

pub item_& : (K : RowKind) (f g : Forest) → weigh K item (f & g) ≡ weigh K item f + weigh K item g
unfolding next
item_& K f g = rw (after_next f item) at (weigh_& K item f g)

-- ---- usings that are taken up

pub given_or : (a b : Bool) (n : ℕ) → given (a || b) n ≤ given a n + given b n
given_or true b n = omega arith
given_or false b n = omega arith

-- at most one Call more
initializer_wrapped : (K : RowKind) (f : Forest) (letter ctx m : ℕ) → weigh K plain (wrap_initializer letter ctx m f) ≤ weigh K plain f + (per_record K + per_mention K)
unfolding wrap_initializer weigh next own extra below is_using ◌&◌
initializer_wrapped K none letter ctx m = omega arith
initializer_wrapped K (more h k r) letter ctx zero = omega arith
initializer_wrapped K (more h k r) letter ctx (suc m) = omega (arith, initializer_wrapped K r letter ctx m)

declarator_wrapped : (K : RowKind) (b : Bool) (t : ℕ) (u : Bool) (k : Forest) (letter ctx m : ℕ) → eqb t Tag.Declarator ≡ b
    → own K plain t u + weigh K (below plain t u) (if b then wrap_initializer letter ctx m k else k)
    ≤ own K held t u + weigh K (below held t u) k
unfolding own extra below in_declaration in_declarator
declarator_wrapped K true t u k letter ctx m e = rw (eqb-true t 6 e) (omega (arith, initializer_wrapped K k letter ctx m))
declarator_wrapped K false t u k letter ctx m e = omega arith

initializers_wrapped : (K : RowKind) (f : Forest) (letter ctx : ℕ) → weigh K plain (wrap_initializers letter ctx f) ≤ weigh K held f
unfolding wrap_initializers weigh next
initializers_wrapped K none letter ctx = omega arith
initializers_wrapped K (more h k r) letter ctx =
    omega (
      arith,
      declarator_wrapped K (eqb h.tag Tag.Declarator) h.tag (is_using h) k letter ctx h.b refl,
      initializers_wrapped K r letter ctx,
    )

as_const : (h : Head) → is_using (as_taken_up h) ≡ false
unfolding is_using as_taken_up
as_const h = go (eqb h.b 0)
  where
    go : (b : Bool) → (one_of (3 ∷ 4 ∷ []) (if b then 2 else 0) || false) ≡ false
    go true = refl
    go false = refl

const_tag : (h : Head) → (as_taken_up h).tag ≡ Tag.Declaration
unfolding as_taken_up
const_tag h = refl

using_taken : (K : RowKind) (b any : Bool) (h h' : Head) (k r r' : Forest) (letter ctx : ℕ) → is_using h ≡ b → is_using h' ≡ false → h'.tag ≡ Tag.Declaration
    → weigh K plain r' + given any (context K) ≤ weigh K plain r
    → weigh K plain (if b then more h' (wrap_initializers letter ctx k) r' else more h k r') + given (b || any) (context K)
    ≤ weigh K plain (more h k r)
unfolding weigh next own extra below in_declaration
using_taken K true any h h' k r r' letter ctx e n t i =
    rw (n, t, e, using_tag h e) (omega (arith, initializers_wrapped K k letter ctx))
using_taken K false any h h' k r r' letter ctx e n t i = omega arith

pub list_taken : (K : RowKind) (f : Forest) (ctx : ℕ)
    → weigh K plain (take_up ctx f) + given (any_using f) (context K) ≤ weigh K plain f
unfolding take_up any_using weigh
list_taken K none ctx = omega arith
list_taken K (more h k r) ctx =
    using_taken K (is_using h) (any_using r) h (as_taken_up h) k r (take_up ctx r) (letter_if (is_await_using h)) ctx refl
    (as_const h) (const_tag h) (list_taken K r ctx)

-- a For below its Labels
loop_taken : (K : RowKind) {t : ℕ} (u : Bool) (k : Forest) (ctx : ℕ) → Seen (Tag.Label ∷ Tag.For ∷ []) t
    → (any_using (for_list k) ≡ true → weigh K plain (take_up_for ctx k) + context K ≤ weigh K plain k)
    → any_using (if eqb t Tag.Label then for_list k else if eqb t Tag.For then k else none) ≡ true
    → weigh K (below plain t u) (if eqb t Tag.Label then take_up_for ctx k else take_up ctx k) + context K
    ≤ weigh K (below plain t u) k
unfolding below any_using
loop_taken K u k ctx here i e = i e
loop_taken K u k ctx (there e₄ here) i e = omega (arith, rw e at (list_taken K k ctx))
loop_taken K u k ctx (there e₄ (there e₇ other)) i e = absurd (clash refl (rw (e₄, e₇) at e))

pub for_taken : (K : RowKind) (f : Forest) (ctx : ℕ) → any_using (for_list f) ≡ true
    → weigh K plain (take_up_for ctx f) + context K ≤ weigh K plain f
unfolding for_list take_up_for any_using weigh next
for_taken K none ctx e = absurd (clash refl e)
for_taken K (more h k r) ctx e =
    omega (arith, loop_taken K (is_using h) k ctx (seen (Tag.Label ∷ Tag.For ∷ []) h.tag) (for_taken K k ctx) e)

-- the Cases of a Switch
case_taken : (K : RowKind) (b any : Bool) (h : Head) (k r r' : Forest) (ctx : ℕ) → eqb h.tag Tag.Case ≡ b
    → weigh K plain r' + given any (context K) ≤ weigh K plain r
    → weigh K plain (more h (if b then take_up ctx k else k) r') + given ((b && any_using k) || any) (context K) ≤ weigh K plain (more h k r)
unfolding weigh next below
case_taken K true any h k r r' ctx e i =
    rw (eqb-true h.tag Tag.Case e) (omega (arith, list_taken K k ctx, given_or (any_using k) any (context K)))
case_taken K false any h k r r' ctx e i = omega arith

pub cases_taken : (K : RowKind) (f : Forest) (ctx : ℕ)
    → weigh K plain (take_up_cases ctx f) + given (any_case_using f) (context K) ≤ weigh K plain f
unfolding take_up_cases any_case_using weigh
cases_taken K none ctx = omega arith
cases_taken K (more h k r) ctx =
    case_taken K (eqb h.tag Tag.Case) (any_case_using r) h k r (take_up_cases ctx r) ctx refl (cases_taken K r ctx)
