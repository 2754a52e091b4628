-- Capped tallies: capping early or late comes to the same.
-- Assumes nothing.
use Rattle.std.specs.Prelude.{if◌then◌else◌}
use mathlib.Core.Path.{◌≡◌, refl, sym, ap, ◌∙◌}
use mathlib.Core.Bool.{Bool, true, false, not, ◌&&◌}
use Prim.Native.Nat.{ℕ, zero, suc, ◌+◌}
use native.Mathlib.Omega.{arith}
use lib.Dec.{eqb, ltb}
use borrow.Author.Tests.{ne_eqb}
use Rattle.meaning.specs.Numbers.Tag
use Rattle.meaning.specs.Tree.{Head}
use Rattle.meaning.specs.File.{field_bytes}
use Rattle.meaning.specs.Statements.{is_using}
use Rattle.figures.specs.declared.tally.Role.TheVariants.{Item, Exported, ExportedName, Held}
use Rattle.figures.specs.Tally.{is_role, is_block, is_body, is_export, one_if, takes_up, takes_up_cases, gets_context, items_kept, capped, cap, ◌⊞◌, no_tally, own}
use Rattle.figures.specs.declared.tally.Tally.{Tally}
use Rattle.figures.specs.declared.tally.Role.{Role}

-- ---- numbers

one : (a x : ℕ) → capped (capped a + x) ≡ capped (a + x)
one a x = omega arith

two' : (a x y : ℕ) → capped (capped a + x + y) ≡ capped (a + x + y)
two' a x y = omega arith

both : (a b : ℕ) → capped (capped a + capped b) ≡ capped (a + b)
both a b = omega arith

cap_zero : (n : ℕ) → eqb (capped n) 0 ≡ eqb n 0
cap_zero zero = refl
cap_zero (suc n) = ne_eqb (capped (suc n)) 0 (λ e. omega arith) ∙ sym (ne_eqb (suc n) 0 (λ e. omega arith))

if_one : (b : Bool) (a x : ℕ) → capped ((if b then capped a else 0) + x) ≡ capped ((if b then a else 0) + x)
if_one true a x = omega arith
if_one false a x = refl

if_alone : (b : Bool) (a : ℕ) → capped (if b then capped a else 0) ≡ capped (if b then a else 0)
if_alone true a = omega arith
if_alone false a = refl

if_two : (b c : Bool) (w a d x : ℕ)
    → capped (capped w + (if b then capped a else 0) + (if c then capped d else 0) + x) ≡ capped (w + (if b then a else 0) + (if c then d else 0) + x)
if_two true true w a d x = omega arith
if_two true false w a d x = omega arith
if_two false true w a d x = omega arith
if_two false false w a d x = omega arith

unless_one : (b : Bool) (a x : ℕ) → capped ((if b then 0 else capped a) + x) ≡ capped ((if b then 0 else a) + x)
unless_one true a x = refl
unless_one false a x = omega arith

-- ---- tallies

pub cap_⊞ : (s t : Tally) → cap (cap s ⊞ cap t) ≡ cap (s ⊞ t)
cap_⊞ s t =
    λ i. record {
      records = both s.records t.records i;
      bytes = both s.bytes t.bytes i;
      blocks = both s.blocks t.blocks i;
      parts = both s.parts t.parts i;
      wrapped = both s.wrapped t.wrapped i;
      for_ofs = both s.for_ofs t.for_ofs i;
      for_of_blocks = both s.for_of_blocks t.for_of_blocks i;
      programs = both s.programs t.programs i;
      classes = both s.classes t.classes i;
      exports = both s.exports t.exports i;
      declarations = both s.declarations t.declarations i;
      names = both s.names t.names i;
      usings = both s.usings t.usings i;
      wraps = both s.wraps t.wraps i;
      case_usings = both s.case_usings t.case_usings i;
      case_wraps = both s.case_wraps t.case_wraps i;
    }

pub ⊞-assoc : (r s t : Tally) → (r ⊞ s) ⊞ t ≡ r ⊞ (s ⊞ t)
⊞-assoc r s t =
    λ i. record {
      records = sum r.records s.records t.records i;
      bytes = sum r.bytes s.bytes t.bytes i;
      blocks = sum r.blocks s.blocks t.blocks i;
      parts = sum r.parts s.parts t.parts i;
      wrapped = sum r.wrapped s.wrapped t.wrapped i;
      for_ofs = sum r.for_ofs s.for_ofs t.for_ofs i;
      for_of_blocks = sum r.for_of_blocks s.for_of_blocks t.for_of_blocks i;
      programs = sum r.programs s.programs t.programs i;
      classes = sum r.classes s.classes t.classes i;
      exports = sum r.exports s.exports t.exports i;
      declarations = sum r.declarations s.declarations t.declarations i;
      names = sum r.names s.names t.names i;
      usings = sum r.usings s.usings t.usings i;
      wraps = sum r.wraps s.wraps t.wraps i;
      case_usings = sum r.case_usings s.case_usings t.case_usings i;
      case_wraps = sum r.case_wraps s.case_wraps t.case_wraps i;
    }
  where
    sum : (a b c : ℕ) → (a + b) + c ≡ a + (b + c)
    sum a b c = omega arith

pub none_⊞ : (t : Tally) → no_tally ⊞ t ≡ t
none_⊞ t =
    λ i. record {
      records = sum t.records i;
      bytes = sum t.bytes i;
      blocks = sum t.blocks i;
      parts = sum t.parts i;
      wrapped = sum t.wrapped i;
      for_ofs = sum t.for_ofs i;
      for_of_blocks = sum t.for_of_blocks i;
      programs = sum t.programs i;
      classes = sum t.classes i;
      exports = sum t.exports i;
      declarations = sum t.declarations i;
      names = sum t.names i;
      usings = sum t.usings i;
      wraps = sum t.wraps i;
      case_usings = sum t.case_usings i;
      case_wraps = sum t.case_wraps i;
    }
  where
    sum : (a : ℕ) → 0 + a ≡ a
    sum a = omega arith

pub ⊞-none : (t : Tally) → t ⊞ no_tally ≡ t
⊞-none t =
    λ i. record {
      records = sum t.records i;
      bytes = sum t.bytes i;
      blocks = sum t.blocks i;
      parts = sum t.parts i;
      wrapped = sum t.wrapped i;
      for_ofs = sum t.for_ofs i;
      for_of_blocks = sum t.for_of_blocks i;
      programs = sum t.programs i;
      classes = sum t.classes i;
      exports = sum t.exports i;
      declarations = sum t.declarations i;
      names = sum t.names i;
      usings = sum t.usings i;
      wraps = sum t.wraps i;
      case_usings = sum t.case_usings i;
      case_wraps = sum t.case_wraps i;
    }
  where
    sum : (a : ℕ) → a + 0 ≡ a
    sum a = omega arith

-- ---- a record's own

module _ (u : Role) (inserts : Bool) (h : Head) (n : ℕ) (t : Tally) where
  pub own_cap : cap (own u inserts h n (cap t)) ≡ cap (own u inserts h n t)
  unfolding own takes_up takes_up_cases gets_context items_kept
  own_cap =
      rw (cap_zero t.usings, cap_zero t.case_usings) (λ i. record {
        records = (one t.records 1) i;
        bytes = (one t.bytes (field_bytes h.tag)) i;
        blocks = (two' t.blocks (one_if ((takes_up h.tag t.usings) && is_block u h.tag)) (one_if (gets_context u inserts t.usings))) i;
        parts = (two' t.parts (one_if ((takes_up h.tag t.usings) && not (is_block u h.tag))) (one_if (takes_up_cases h.tag t.case_usings))) i;
        wrapped = (if_two (takes_up h.tag t.usings) (takes_up_cases h.tag t.case_usings) t.wrapped t.wraps t.case_wraps (one_if (is_body u))) i;
        for_ofs = (one t.for_ofs (one_if (is_body u && inserts))) i;
        for_of_blocks = (one t.for_of_blocks (one_if (is_body u && not inserts))) i;
        programs = (one t.programs (one_if ((takes_up h.tag t.usings) && eqb h.tag Tag.Program))) i;
        classes = (unless_one (eqb h.tag Tag.Program && eqb t.usings 0) t.classes (one_if (is_role u Item && eqb h.tag Tag.Class))) i;
        exports = (unless_one (eqb h.tag Tag.Program && eqb t.usings 0) t.exports (one_if (is_export u h))) i;
        declarations = (unless_one (eqb h.tag Tag.Program && eqb t.usings 0) t.declarations (one_if (is_role u Exported && eqb h.tag Tag.Declaration))) i;
        names = (unless_one (eqb h.tag Tag.Program && eqb t.usings 0) t.names (one_if (is_role u ExportedName && eqb h.tag Tag.Name))) i;
        usings = capped (one_if (is_using h));
        wraps = (if_one (eqb h.tag Tag.Declaration) t.wraps (one_if (is_role u Held && eqb h.tag Tag.Declarator && ltb h.b n))) i;
        case_usings = (if_alone (eqb h.tag Tag.Case) t.usings) i;
        case_wraps = (if_alone (eqb h.tag Tag.Case) t.wraps) i;
      })

-- one record more
pub add_cap : (s : Tally) (u : Role) (inserts : Bool) (h : Head) (n : ℕ) (t : Tally)
    → cap (cap s ⊞ cap (own u inserts h n (cap t))) ≡ cap (s ⊞ own u inserts h n t)
add_cap s u inserts h n t = ap (λ (o : Tally). cap (cap s ⊞ o)) (own_cap u inserts h n t) ∙ cap_⊞ s (own u inserts h n t)
