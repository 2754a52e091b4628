-- The turns of the loops over a text.
-- Assumes nothing.
use Rattle.std.specs.Prelude.{if◌then◌else◌, ◌≡◌, refl, true, false, List, [], ◌∷◌, ◌++◌, ℕ, ◌+◌, ◌<◌, ◌≤◌, length, get_or, take, drop, Ok}
use Rattle.std.proofs.Common.{add-one, drop_of_length-le, drop-cons, le-leb}
use Rattle.std.proofs.Math.Seq.{take-suc, take_all}
use Rattle.notation.specs.Notation.{Part, nothing, space, after, read, most, encoded, may_stand, wrong_at, spelled_from}
use Rattle.notation.specs.Spots.{Reads, spot_at}
use Rattle.notation.specs.Stored.{opened, file_of}

-- so many characters are read
unfoldable pub reached : List ℕ → ℕ → Part
reached text i = read nothing (take i text)

pub at_first : (text : List ℕ) → Reads (reached text 0) (spot_at 0 0)
unfolding reached read
at_first text = record { at_is = refl; count_is = refl; digits_is = refl; value_is = refl }

pub file_first : (out text : List ℕ) → out ≡ file_of out (reached text 0)
unfolding file_of opened reached read
file_first out text = refl

pub spelled_first : (text : List ℕ) → spelled_from nothing 0 text ≡ spelled_from (reached text 0) 0 (drop 0 text)
unfolding reached read
spelled_first text = refl

read_more : (xs : List ℕ) (c : ℕ) (p : Part) → read p (xs ++ c ∷ []) ≡ after c (read p xs)
unfolding read
read_more [] c p = refl
read_more (x ∷ xs) c p = read_more xs c (after x p)

module _ (text : List ℕ) (i : ℕ) where
  pub reached_more : i < length text → reached text (i + 1) ≡ after (get_or text i 0) (reached text i)
  unfolding reached
  reached_more h = rw (add-one, take-suc text i 0) (read_more (take i text) (get_or text i 0) nothing)

  pub encoded_end : length text ≤ most → length text ≤ i → encoded text ≡ (after space (reached text i)).bytes
  unfolding encoded reached
  encoded_end l h = rw (le-leb (length text) most l, take_all i text h)

  pub spelled_more : i < length text → may_stand (get_or text i 0) (reached text i) ≡ true
      → spelled_from (reached text i) i (drop i text) ≡ spelled_from (reached text (i + 1)) (i + 1) (drop (i + 1) text)
  unfolding spelled_from
  spelled_more h e = rw (drop-cons text i 0 h, e, reached_more h, add-one)

  pub spelled_wrong : i < length text → may_stand (get_or text i 0) (reached text i) ≡ false
      → spelled_from (reached text i) i (drop i text) ≡ wrong_at i
  unfolding spelled_from
  spelled_wrong h e = rw (drop-cons text i 0 h, e)

  pub spelled_end : length text ≤ i
      → spelled_from (reached text i) i (drop i text) ≡ (if may_stand space (reached text i) then Ok tt else wrong_at i)
  unfolding spelled_from
  spelled_end h = rw (drop_of_length-le text h)
