-- Where reading a text stands, as the code holds it: a spot.
-- Assumes nothing.
use Rattle.std.specs.Prelude.{◌≡◌, Bool, true, leb, ◌≤◌, ℕ, ◌+◌, ◌*◌, ◌%◌, ◌<◌, None, Some, is_some, unwrap_or}
use Rattle.std.specs.Char.{is_ascii_digit}
use Rattle.std.proofs.Math.Path.{refl}
use Rattle.std.proofs.Common.{sym, ap, ◌∙◌, arith, leb-true, eq-eqb, ne_eqb}
use mathlib.Core.List.{List, [], ◌∷◌, ◌++◌}
use Rattle.std.proofs.Math.ListN.{length, get_or, length-append}
use Rattle.meaning.specs.File.{two_bytes}
use Rattle.spec_laws.specs.Tags.{and_left}
use Rattle.spec_laws.specs.Trees.{two_length}
use Rattle.notation.specs.Notation.{Part, digit0, digit9, is_digit, field_from, numbered, fielded, dotted}
use Rattle.notation.specs.declared.Spot.{Spot}

-- no digits are read yet
abbrev pub spot_at : ℕ → ℕ → Spot
spot_at at count = record { at = at; count = count; value = None }

-- a spot says where reading stands
pub record Reads (p : Part) (s : Spot) : Type 0 where
  pub at_is : s.at ≡ length p.bytes
  pub count_is : s.count ≡ length p.numbers
  pub digits_is : is_some s.value ≡ p.digits
  pub value_is : unwrap_or s.value 0 ≡ p.value

pub digit_low : (c : ℕ) → is_digit c ≡ true → digit0 ≤ c
unfolding is_digit
digit_low c e = leb-true digit0 c (and_left (leb digit0 c) (leb c digit9) e)

-- a digit is an ASCII digit
pub digit_is : (c : ℕ) (b : Bool) → b ≡ is_ascii_digit c → is_digit c ≡ b
unfolding is_digit
digit_is c b e = rw e refl

none_length : (ns : List ℕ) → length ns ≡ 0 → length (field_from ns) ≡ 0
unfolding field_from
none_length [] h = refl
none_length (t ∷ ns) h = absurd (omega arith)

field_length : (ns : List ℕ) (k : ℕ) → k ≡ length ns → 0 < k → length (field_from ns) ≡ 1 + 2 * k
unfolding field_from two_bytes
field_length [] k e h = absurd (omega arith)
field_length (t ∷ ns) k e h = omega (arith, two_length ns)

-- ---- THE SPOT, behind each thing that a character may end

module _ (p : Part) (s : Spot) (h : Reads p s) where
  pub reads_same : s.value ≡ None → Reads (numbered p) s
  unfolding numbered
  reads_same e =
      record { at_is = h.at_is; count_is = rw (← h.digits_is, e) h.count_is; digits_is = ap is_some e; value_is = ap (λ o. unwrap_or o 0) e }

  pub reads_number : (v : ℕ) → s.value ≡ Some v → Reads (numbered p) (spot_at s.at (s.count + 1))
  unfolding numbered
  reads_number v e =
      let n : s.count + 1 ≡ length (p.numbers ++ p.value ∷ []) = omega (arith, h.count_is, length-append p.numbers (p.value ∷ [])) in
      record { at_is = h.at_is; count_is = rw (← h.digits_is, e) n; digits_is = refl; value_is = refl }

  pub reads_none : s.count ≡ 0 → Reads (fielded p) (spot_at s.at 0)
  unfolding fielded
  reads_none z =
      let l : length (field_from p.numbers) ≡ 0 = none_length p.numbers (sym h.count_is ∙ z) in
      record { at_is = omega (arith, h.at_is, l, length-append p.bytes (field_from p.numbers)); count_is = refl; digits_is = refl; value_is = refl }

  pub reads_field : 0 < s.count → Reads (fielded p) (spot_at (s.at + 1 + 2 * s.count) 0)
  unfolding fielded
  reads_field z =
      let l : length (field_from p.numbers) ≡ 1 + 2 * s.count = field_length p.numbers s.count h.count_is z in
      record { at_is = omega (arith, h.at_is, l, length-append p.bytes (field_from p.numbers)); count_is = refl; digits_is = refl; value_is = refl }

  pub reads_kept : (s.count ≡ 1 → ⊥) → Reads (dotted p) s
  unfolding dotted
  reads_kept z = rw (ne_eqb (length p.numbers) 1 (λ e. z (h.count_is ∙ e))) h

  pub reads_byte : s.count ≡ 1 → Reads (dotted p) (spot_at (s.at + 1) 0)
  unfolding dotted
  reads_byte z =
      let b = get_or p.numbers 0 0 % 256 ∷ [] in
      rw (eq-eqb (length p.numbers) 1 (sym h.count_is ∙ z))
      record { at_is = omega (arith, h.at_is, length-append p.bytes b); count_is = refl; digits_is = refl; value_is = refl }
