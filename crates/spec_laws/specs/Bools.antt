-- Small laws of tests and numbers.
-- Assumes nothing.
use Rattle.std.specs.Prelude.{if◌then◌else◌, ◌≡◌, refl, Bool, true, false, ◌||◌, ◌&&◌, ℕ, suc, ◌+◌, ◌-◌, ◌≤◌, eqb}
use Rattle.std.proofs.Common.{arith, ne_eqb}
use Rattle.spec_laws.specs.Tags.{clash}

-- ---- tests

pub and-false : (b : Bool) → (b && false) ≡ false
and-false true = refl
and-false false = refl

pub and-true : (b : Bool) → (b && true) ≡ b
and-true true = refl
and-true false = refl

pub or-false : (b : Bool) → (b || false) ≡ true → b ≡ true
or-false true e = refl
or-false false e = e

-- ---- numbers by a test

pub at_most : (b : Bool) (n : ℕ) → (if b then n else 0) ≤ n
at_most true n = omega arith
at_most false n = omega arith

pub if_same : (b : Bool) (x y : ℕ) → (b ≡ true → x ≡ y) → (if b then x else 0) ≡ (if b then y else 0)
if_same true x y e = e refl
if_same false x y e = refl

pub no_summand : (b c : Bool) (m n : ℕ) → (b || c) ≡ false → (c ≡ false → n ≡ 0) → (if b then m else 0) + n ≡ 0
no_summand true c m n e i = absurd (clash e refl)
no_summand false c m n e i = omega (arith, i e)

-- ---- numbers

pub one_less : (s : ℕ) → suc s - 1 ≡ s
one_less s = omega arith

-- one more is not none
pub some : (c : ℕ) → eqb (suc c) 0 ≡ false
some c = ne_eqb (suc c) 0 (λ q. omega (arith, q))
