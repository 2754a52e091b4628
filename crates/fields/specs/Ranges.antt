-- A function at the numbers of a range, as a list: what is computed over the list holds at each number.
-- Assumes nothing.
use Rattle.std.specs.Prelude.{◌≡◌, refl, Bool, true, false, List, [], ◌∷◌, map, ℕ, zero, suc, ◌+◌, ◌≤◌, ◌<◌, ltb, get_or}
use Rattle.std.proofs.Common.{ap, ⊎_elim, eq-or-lt_of_le, arith, ltb-true, ltb-false, ne_eqb}
use Rattle.meaning.specs.Tree.{one_of}

-- f at the n numbers from lo on
abbrev pub values : {X : Type 0} → (ℕ → X) → ℕ → ℕ → List X
values f lo zero = []
values f lo (suc n) = f lo ∷ values f (suc lo) n

-- two functions agree at a number of a range if they agree at all of its numbers
pub values_agree : {X : Type 0} (f g : ℕ → X) (lo n t : ℕ) → values f lo n ≡ values g lo n → lo ≤ t → t < lo + n → f t ≡ g t
values_agree f g lo zero t e h l = absurd (omega arith)
values_agree f g lo (suc n) t e h l =
    ⊎_elim (λ q. cc) (λ q. values_agree f g (suc lo) n t (cc) q (omega arith)) (eq-or-lt_of_le h)

-- the entry at a place, and behind the last
pub values_entry : (f : ℕ → ℕ) (lo n k t : ℕ) → lo + k ≡ t → k < n → get_or (values f lo n) k 0 ≡ f t
values_entry f lo zero k t e h = absurd (omega arith)
values_entry f lo (suc n) zero t e h = ap f (omega arith)
values_entry f lo (suc n) (suc k) t e h = values_entry f (suc lo) n k t (omega arith) (omega arith)

pub values_behind : (f : ℕ → ℕ) (lo n k : ℕ) → n ≤ k → get_or (values f lo n) k 0 ≡ 0
values_behind f lo zero k h = refl
values_behind f lo (suc n) zero h = absurd (omega arith)
values_behind f lo (suc n) (suc k) h = values_behind f (suc lo) n k (omega arith)

-- a number above all of a list is none of them
pub above : (ks : List ℕ) (m t : ℕ) → map (λ k. ltb k m) ks ≡ map (λ _. true) ks → m ≤ t → one_of ks t ≡ false
above [] m t e h = refl
above (k ∷ ks) m t e h =
    let l : k < m = ltb-true k m (cc) in
    rw (ne_eqb t k (λ q. omega (arith, l, q)), above ks m t (cc) h)

-- a number is below another or not
below_test : {X : Type 0} (t m : ℕ) (b : Bool) → ltb t m ≡ b → (t < m → X) → (m ≤ t → X) → X
below_test t m true e below not_below = below (ltb-true t m e)
below_test t m false e below not_below = not_below (ltb-false t m e)

pub below_or_not : {X : Type 0} (t m : ℕ) → (t < m → X) → (m ≤ t → X) → X
below_or_not t m = below_test t m (ltb t m) refl
