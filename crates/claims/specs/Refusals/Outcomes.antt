-- Outcomes: the numbers of their refusals, and which of two in order refuses.
-- Assumes nothing.
use Rattle.meaning.specs.declared.Reason.{Reason}
use Rattle.meaning.specs.Refusals.{Outcome, refused, number_of}
use Rattle.std.specs.Prelude.{Ok, Err, ◌≡◌, refl, Bool, true, false, ◌⊎◌, ℕ, suc, ◌≤◌}
use Rattle.std.proofs.Common.{subst, inl, inr, arith}
use Rattle.meaning.specs.Reading.{◌>>=◌, ◌>>◌, ensure}

-- it is accepted or refused
pub one_of_two : {A : Type 0} (o : Outcome A) → ((a : A) × (o ≡ Ok a)) ⊎ ((c : Reason) × (p : ℕ) × (o ≡ refused c p))
one_of_two (Ok a) = inl (a, refl)
one_of_two (Err r) = inr (r.reason, r.place, refl)

-- a refusal of two in order is the first's, or the second's
pub refused_by : {A B : Type 0} (o : Outcome A) (g : A → Outcome B) (c : Reason) (p : ℕ) → (o >>= g) ≡ refused c p
    → (o ≡ refused c p) ⊎ ((a : A) × (o ≡ Ok a) × (g a ≡ refused c p))
refused_by (Ok a) g c p e = inr (a, refl, e)
refused_by (Err r) g c p e = inl (cc)

-- what is accepted is not refused
pub taken_refused : {A : Type 0} (a : A) (c : Reason) (p : ℕ) → Ok a ≡ refused c p → ⊥
taken_refused a c p e = let z : ◌≡◌ {A = ℕ} 0 1 = cc in omega arith

-- a test before an answer is what refuses
pub first_refused : {A : Type 0} (o : Outcome (Unit {0})) (a : A) (c : Reason) (p : ℕ) → (o >> Ok a) ≡ refused c p → o ≡ refused c p
first_refused (Ok t) a c p e = absurd (taken_refused a c p e)
first_refused (Err r) a c p e = cc

-- ---- numbers

-- a refusal has a number from 1 to m
abbrev pub Numbered : {A : Type 0} → ℕ → Outcome A → Type 0
Numbered m (Ok a) = Unit {0}
Numbered m (Err r) = (1 ≤ number_of r.reason) × (number_of r.reason ≤ m)

-- what that says of a refusal
pub numbers : {A : Type 0} (m : ℕ) (o : Outcome A) → Numbered m o → (c : Reason) (p : ℕ) → o ≡ refused c p → (1 ≤ number_of c) × (number_of c ≤ m)
numbers m o h c p e = subst (Numbered m) e h

-- of two in order
pub bound : {A B : Type 0} (m : ℕ) (o : Outcome A) (g : A → Outcome B) → Numbered m o → ((a : A) → Numbered m (g a)) → Numbered m (o >>= g)
bound m (Ok a) g h k = k a
bound m (Err r) g h k = h

-- of a test
pub ensured : (m : ℕ) (b : Bool) (c : Reason) (p : ℕ) → (1 ≤ number_of c) × (number_of c ≤ m) → Numbered m (ensure b c p)
ensured m true c p h = tt
ensured m false c p h = h

-- one number more
pub widened : {A : Type 0} (m : ℕ) (o : Outcome A) → Numbered m o → Numbered (suc m) o
widened m (Ok a) h = tt
widened m (Err r) h = omega arith
