-- The parts that `splitn` gives round a character, put together again; and the number that a part is. Assumes nothing.
use mathlib.Core.Path.{◌≡◌, sym, ap, subst, ◌∙◌}
use mathlib.Core.Bool.{Bool, true, false, true≢false}
use native.Mathlib.Omega.{arith}
use denote.Ref.{Bor}
use Rattle.std.specs.Prelude.{◌<◌, ◌&&◌, List, ◌++◌, ℕ, Some, None, Ok, Err, Result, Option, encode_utf8, take, drop, nat_lt}
use mathlib.Core.List.{append_assoc}
use Rattle.std.specs.Str.Iter.{splitn_count, splitn_parts, splitn_steps, split_text, split_has_more, split_pattern}
use Rattle.std.specs.Str.Pattern.{FindsChar, FindsTextPrefix, HasCharAt, IsSplitAtFirstMatch, SplitsAroundMatch, StripsPrefix}
use Rattle.std.specs.Str.Parse.{ParsesUnsigned}
use Rattle.std.specs.Result.{result_ok}
use Rattle.std.specs.Option.{is_some}
use Rattle.std.specs.declared.str.SplitN.{SplitN}
use Rattle.std.proofs.lemmas.List.{take-append-drop}
use Rattle.std.proofs.lemmas.Str.{len_utf8_bounds}
use Rattle.test_lines.specs.Told.{IsNumberText}

-- what parses is the text of the number
pub number_text : {E : Type 0} (text : List ℕ) (k : ℕ) (r : Result ℕ E) (o : Option ℕ) (n : ℕ) → ParsesUnsigned k 10 text r → o ≡ result_ok r → o ≡ Some n → IsNumberText text n
number_text text k (Ok m) o n p e f =
    let same : m ≡ n = ap (λ (w : Option ℕ). elim w [ None ↦ m | Some z ↦ z ]) (sym e ∙ f) in
    (p.0.0, sym same ∙ p.1)
number_text text k (Err why) o n p e f = absurd (true≢false (ap is_some (sym f ∙ e)))

-- what stands behind a prefix
pub stripped : (prefix text x : List ℕ) → StripsPrefix (FindsTextPrefix prefix) text x → text ≡ prefix ++ x
stripped prefix text x h = h.1.1 ∙ ap (λ l. prefix ++ l) (sym h.2)

-- what stands before the character, the character, and what stands behind it are the text
around : (c : ℕ) (w : List ℕ) (i j : ℕ) → HasCharAt c w i j → w ≡ take i w ++ encode_utf8 c ++ drop j w
around c w i j h = sym (take-append-drop i w) ∙ ap (λ l. take i w ++ l) h.split ∙ sym (append_assoc (take i w) (encode_utf8 c) (drop j w))

pub split_around : (c : ℕ) (w front back : List ℕ) → SplitsAroundMatch (FindsChar c) w front back → w ≡ front ++ encode_utf8 c ++ back
split_around c w front back h = around c w h.0 h.1 h.2.1 ∙ (λ k. sym h.3 k ++ encode_utf8 c ++ sym h.4 k)

parted : (c : ℕ) (w x : List ℕ) (live : Bool) (rest : List ℕ) → IsSplitAtFirstMatch (FindsChar c) w x live rest → live ≡ true → w ≡ x ++ encode_utf8 c ++ rest
parted c w x live rest (fits, (None, f, m)) so = absurd (true≢false (sym so ∙ m.1))
parted c w x live rest (fits, (Some (i, j), f, m)) so =
    let wide = len_utf8_bounds c in
    let parts = m (omega (arith, f.1.ends, wide.0)) in
    around c w i j f.1 ∙ (λ k. sym parts.0 k ++ encode_utf8 c ++ sym parts.2 k)

both_right : (a b : Bool) → true ≡ (a && b) → b ≡ true
both_right true b e = sym e
both_right false b e = absurd (true≢false e)

module _ (s t : SplitN ℕ) (r : Option (Bor (List ℕ))) (x : Bor (List ℕ)) (turn : splitn_steps FindsChar (λ c d. d ≡ c) s r t) (came : r ≡ Some x) where
  came_turn : splitn_steps FindsChar (λ c d. d ≡ c) s (Some x) t
  came_turn = subst (λ o. splitn_steps FindsChar (λ c d. d ≡ c) s o t) came turn

  -- a part came, so there was one
  pub had_more : split_has_more (splitn_parts s) ≡ true
  had_more = both_right (nat_lt 0 (splitn_count s)) (split_has_more (splitn_parts s)) came_turn.1

  -- the last part is all that is left
  pub last_part : splitn_count s ≡ 1 → x.now ≡ split_text (splitn_parts s)
  last_part one = came_turn.2.0 one

  -- any other stands before the character and what is left
  pub next_part : (c : ℕ) → split_pattern (splitn_parts s) ≡ c → 1 < splitn_count s → split_has_more (splitn_parts t) ≡ true
      → (split_pattern (splitn_parts t) ≡ c) × (split_text (splitn_parts s) ≡ x.now ++ encode_utf8 c ++ split_text (splitn_parts t))
  next_part c e more so =
      let h = came_turn.2.1 more in (
        h.0 ∙ e,
        parted c (split_text (splitn_parts s)) x.now (split_has_more (splitn_parts t)) (split_text (splitn_parts t))
            (subst (λ p. IsSplitAtFirstMatch (FindsChar p) (split_text (splitn_parts s)) x.now (split_has_more (splitn_parts t)) (split_text (splitn_parts t))) e h.1) so,
      )
