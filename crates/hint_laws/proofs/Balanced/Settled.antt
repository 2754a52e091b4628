-- In a tree whose lists have no usings, what the records give is what the tree calls.
-- Assumes nothing.
use Rattle.std.specs.Prelude.{if◌then◌else◌, ◌≡◌, Bool, true, false, not, ◌||◌, ◌&&◌, List, ℕ, ◌+◌, eqb}
use Rattle.std.proofs.Math.Path.{refl}
use Rattle.std.proofs.Common.{arith}
use Rattle.meaning.specs.Numbers.Tag
use Rattle.meaning.specs.Tree.{Head, Forest, none, more}
use Rattle.meaning.specs.Statements.{is_using, any_using}
use Rattle.spec_laws.specs.Tags.{clash}
use Rattle.hint_laws.specs.Hints.{sum_over, over_declarators, takes_up, called, calls_in}
use Rattle.hint_laws.specs.Balanced.Balance.{done_in, gives}

-- no using stands directly in a list that takes up usings
unfoldable pub Settled : Forest → Type 0
Settled none = Unit {0}
Settled (more h k r) = (takes_up h.tag ≡ true → any_using k ≡ false) × Settled k × Settled r

-- a record of a list, by the test whether it is a using
one_done : (u v : Bool) (b : Bool) (n m m' : ℕ) → (u || v) ≡ false → (v ≡ false → m' ≡ m)
    → (if b && not u then n else 0) + m' ≡ (if b then n else 0) + m
one_done true v b n m m' e i = absurd (clash e refl)
one_done false v true n m m' e i = omega (arith, i e)
one_done false v false n m m' e i = omega (arith, i e)

by_test : (s : Bool) (m n : ℕ) → (s ≡ true → m ≡ n) → (if s then m else n) ≡ n
by_test true m n p = p refl
by_test false m n p = refl

module _ (w : List ℕ → List ℕ → ℕ → ℕ) (read : ℕ) where
  -- what is done in a list without usings are its calls
  all_done : (k : Forest) → any_using k ≡ false → done_in w read k ≡ calls_in w read k
  unfolding done_in calls_in any_using
  all_done none e = refl
  all_done (more h k r) e =
      one_done (is_using h) (any_using r) (eqb h.tag Tag.Declaration) (over_declarators (called w read) k) (calls_in w read r) (done_in w read r) e (all_done r)

  gives_calls : (h : Head) (k : Forest) → (takes_up h.tag ≡ true → any_using k ≡ false) → gives w read h k ≡ calls_in w read k
  unfolding gives
  gives_calls h k p = by_test (takes_up h.tag) (done_in w read k) (calls_in w read k) (λ e. all_done k (p e))

-- WHAT THE RECORDS OF SUCH A TREE GIVE IS WHAT IT CALLS.
pub settled_gives : (w : List ℕ → List ℕ → ℕ → ℕ) (read : ℕ) (f : Forest) → Settled f
    → sum_over (λ h k. gives w read h k) f ≡ sum_over (λ h k. calls_in w read k) f
unfolding Settled sum_over
settled_gives w read none q = refl
settled_gives w read (more h k r) q =
    omega (arith, gives_calls w read h k q.0, settled_gives w read k q.1, settled_gives w read r q.2)
