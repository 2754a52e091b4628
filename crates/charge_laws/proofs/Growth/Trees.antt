-- What taking up usings adds to a tree: a Call for each initializer.
-- Assumes nothing.
use Rattle.std.specs.Prelude.{if◌then◌else◌, ◌≡◌, refl, Bool, true, false, ◌||◌, [], ◌∷◌, ℕ, ◌+◌, ◌*◌, eqb}
use Rattle.std.proofs.Common.{ap, arith, eqb-true}
use Rattle.meaning.specs.Numbers.Tag
use Rattle.meaning.specs.Numbers.Kind
use Rattle.meaning.specs.Tree.{one_of, Head, Forest, none, more, size, ◌&◌}
use Rattle.meaning.specs.File.{field_bytes, numbers_of}
use Rattle.meaning.specs.Statements.{
  is_using,
  any_using,
  as_taken_up,
  take_up,
}
use Rattle.meaning.specs.Contexts.{for_list, take_up_for, take_up_cases}
use Rattle.meaning.specs.Charges.{wraps, case_wraps, record_bytes}
use Rattle.spec_laws.specs.Tags.{clash, and_left}
use Rattle.charge_laws.proofs.Growth.Taken.{Taken, nothing, passed, as_const, in_declarator_lem, called, taken}

-- so many records and bytes more
abbrev pub More : ℕ → ℕ → Forest → Forest → Type 0
More n b f f' = (size f' ≡ size f + n) × (record_bytes f' ≡ record_bytes f + b)

-- so many Calls more
abbrev pub Wrapped : ℕ → Forest → Forest → Type 0
Wrapped n f f' = More n (9 * n) f f'

pub more_& : (f g : Forest) → (size (f & g) ≡ size f + size g) × (record_bytes (f & g) ≡ record_bytes f + record_bytes g)
unfolding ◌&◌ size record_bytes
more_& none g = omega arith
more_& (more h k r) g = omega (arith, more_& r g)

-- ---- bytes of the records that are replaced

pub block_bytes_lem : (h : Head) → h.tag ≡ Tag.Block → field_bytes h.tag ≡ 7
unfolding field_bytes numbers_of
block_bytes_lem h e = ap field_bytes e

pub body_bytes : (h : Head) → h.tag ≡ Tag.Body → field_bytes h.tag ≡ 5
unfolding field_bytes numbers_of
body_bytes h e = ap field_bytes e

pub static_bytes : (h : Head) → h.tag ≡ Tag.StaticBlock → field_bytes h.tag ≡ 7
unfolding field_bytes numbers_of
static_bytes h e = ap field_bytes e

-- ---- a using's tag

pub using_tag : (h : Head) → is_using h ≡ true → h.tag ≡ Tag.Declaration
unfolding is_using
using_tag h e =
    eqb-true h.tag Tag.Declaration (and_left (eqb h.tag Tag.Declaration) (one_of (Kind.Using ∷ Kind.AwaitUsing ∷ []) h.a || one_of (3 ∷ 4 ∷ []) h.b) e)

-- ---- lists

call_bytes_lem : field_bytes 27 ≡ 9
unfolding field_bytes numbers_of
call_bytes_lem = refl

taken_adds : {ctx n : ℕ} {f f' : Forest} → Taken ctx n f f' → Wrapped n f f'
unfolding size record_bytes as_taken_up
taken_adds nothing = omega arith
taken_adds (passed t) = omega (arith, taken_adds t)
taken_adds (as_const {h = h} u s t) = omega (arith, taken_adds s, taken_adds t, ap field_bytes (using_tag h u))
taken_adds (in_declarator_lem e s t) = omega (arith, taken_adds s, taken_adds t)
taken_adds (called l) = omega (arith, call_bytes_lem)

pub list_taken : (f : Forest) (ctx : ℕ) → Wrapped (wraps f) f (take_up ctx f)
list_taken f ctx = taken_adds (taken ctx f)

-- ---- For and Switch

loop_taken : (a b : Bool) (h : Head) (k r : Forest) (ctx : ℕ)
    → (any_using (for_list k) ≡ true → Wrapped (wraps (for_list k)) k (take_up_for ctx k))
    → any_using (if a then for_list k else if b then k else none) ≡ true
    → Wrapped (wraps (if a then for_list k else if b then k else none)) (more h k r)
    (more h (if a then take_up_for ctx k else take_up ctx k) r)
unfolding size record_bytes any_using
loop_taken true b h k r ctx i e = omega (arith, i e)
loop_taken false true h k r ctx i e = omega (arith, list_taken k ctx)
loop_taken false false h k r ctx i e = absurd (clash refl e)

pub for_taken : (f : Forest) (ctx : ℕ) → any_using (for_list f) ≡ true → Wrapped (wraps (for_list f)) f (take_up_for ctx f)
unfolding for_list take_up_for any_using
for_taken none ctx e = absurd (clash refl e)
for_taken (more h k r) ctx e = loop_taken (eqb h.tag Tag.Label) (eqb h.tag Tag.For) h k r ctx (for_taken k ctx) e

case_taken : (b : Bool) (h : Head) (k r r' : Forest) (ctx : ℕ) → Wrapped (case_wraps r) r r'
    → Wrapped ((if b then wraps k else 0) + case_wraps r) (more h k r) (more h (if b then take_up ctx k else k) r')
unfolding size record_bytes
case_taken true h k r r' ctx i = omega (arith, list_taken k ctx)
case_taken false h k r r' ctx i = omega arith

pub cases_taken : (f : Forest) (ctx : ℕ) → Wrapped (case_wraps f) f (take_up_cases ctx f)
unfolding take_up_cases case_wraps size record_bytes
cases_taken none ctx = omega arith
cases_taken (more h k r) ctx = case_taken (eqb h.tag Tag.Case) h k r (take_up_cases ctx r) ctx (cases_taken r ctx)
