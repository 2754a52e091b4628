-- The balance of records beside each other, and of one by its tag.
-- Assumes nothing.
use Rattle.std.specs.Prelude.{◌≡◌, false, List, ℕ, ◌+◌, eqb}
use Rattle.std.proofs.Math.Path.{refl}
use native.Mathlib.Omega.{arith}
use Rattle.meaning.specs.Numbers.Tag
use Rattle.meaning.specs.Tree.{Head, hd, Forest, none, more, one, ◌&◌}
use Rattle.meaning.specs.Statements.{is_using, is_await_using, letter_if}
use Rattle.hint_laws.specs.Hints.{sum_over, usings_in, asks_for}
use Rattle.hint_laws.specs.Balanced.Balance.{letter_in, waits, done_in, gives, balance_of}

-- the letter of a using outside Program
unfoldable pub own_letter : Head → ℕ
own_letter h = letter_if (is_await_using h)

module _ (w : List ℕ → List ℕ → ℕ → ℕ) (read : ℕ) where
  -- what a record of a tag counts by itself
  unfoldable pub worth : ℕ → Forest → ℕ
  worth t k = waits w (hd t 0 0 0) k + gives w read (hd t 0 0 0) k

  -- what the records of a list count for its record
  abbrev pub in_list : Forest → ℕ
  in_list k = usings_in w own_letter k + done_in w read k

  pub balance_more : (h : Head) (k r : Forest)
      → balance_of w read (more h k r) ≡ worth h.tag k + (balance_of w read k + balance_of w read r)
  unfolding balance_of sum_over worth waits gives asks_for
  balance_more h k r = refl

  pub balance_none : balance_of w read none ≡ 0
  unfolding balance_of sum_over
  balance_none = refl

  -- a record that is replaced before others
  pub beside : (h h' : Head) (k k' r r' : Forest) → balance_of w read (one h' k') ≡ balance_of w read (one h k)
      → balance_of w read r' ≡ balance_of w read r → balance_of w read (more h' k' r') ≡ balance_of w read (more h k r)
  beside h h' k k' r r' e i =
      omega (arith, balance_more h k r, balance_more h' k' r', balance_more h k none, balance_more h' k' none)

  -- ---- beside each other

  pub balance_& : (f g : Forest) → balance_of w read (f & g) ≡ balance_of w read f + balance_of w read g
  unfolding ◌&◌
  balance_& none g = omega (arith, balance_none)
  balance_& (more h k r) g = omega (arith, balance_more h k r, balance_more h k (r & g), balance_& r g)

  pub usings_& : (letter : Head → ℕ) (f g : Forest) → usings_in w letter (f & g) ≡ usings_in w letter f + usings_in w letter g
  unfolding ◌&◌ usings_in
  usings_& letter none g = omega arith
  usings_& letter (more h k r) g = omega (arith, usings_& letter r g)

  pub done_& : (f g : Forest) → done_in w read (f & g) ≡ done_in w read f + done_in w read g
  unfolding ◌&◌ done_in
  done_& none g = omega arith
  done_& (more h k r) g = omega (arith, done_& r g)

  -- ---- by the tag

  pub worth_list : (k : Forest) → worth 2 k ≡ in_list k
  unfolding worth waits gives asks_for letter_in own_letter
  worth_list k = refl

  -- a record that is no Declaration counts nothing for the one above it
  pub plain_one : (h : Head) (k : Forest) → eqb h.tag Tag.Declaration ≡ false → in_list (one h k) ≡ 0
  unfolding usings_in done_in is_using
  plain_one h k e = rw e
