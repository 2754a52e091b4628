-- Characters that are put into a text one after another.
-- Assumes nothing.
use Rattle.std.specs.Prelude.{◌≡◌, refl, List, [], ◌∷◌, ◌++◌, ℕ, ◌+◌, length, set}
use Rattle.std.proofs.Common.{sym, ap, ◌∙◌, arith, length-append}
use Rattle.std.proofs.lemmas.List.Edits.{sets}
use Rattle.spec_laws.specs.Trees.{sets_++}

-- characters are put at a place of a text, and the place behind them is answered
pub record Put (text : List ℕ) (at : ℕ) (xs : List ℕ) (now : List ℕ) (end : ℕ) : Type 0 where
  pub end_is : end ≡ at + length xs
  pub text_is : now ≡ sets text at xs

pub put_none : (text : List ℕ) (at : ℕ) → Put text at [] text at
put_none text at = record { end_is = omega arith; text_is = refl }

pub put_one : (text : List ℕ) (at c : ℕ) (now : List ℕ) → now ≡ set text at c → Put text at (c ∷ []) now (at + 1)
put_one text at c now e = record { end_is = refl; text_is = e }

-- behind others
pub put_both : (text : List ℕ) (at : ℕ) (xs : List ℕ) (text₁ : List ℕ) (at₁ : ℕ) (ys text₂ : List ℕ) (at₂ : ℕ)
    → Put text at xs text₁ at₁ → Put text₁ at₁ ys text₂ at₂ → Put text at (xs ++ ys) text₂ at₂
put_both text at xs text₁ at₁ ys text₂ at₂ p q =
    record {
      end_is = omega (arith, p.end_is, q.end_is, length-append xs ys);
      text_is = q.text_is ∙ rw (p.text_is, p.end_is) (sym (sets_++ xs ys text at));
    }

-- of what is to be put, so much is left
pub record Left (text : List ℕ) (at : ℕ) (all now : List ℕ) (end : ℕ) (rest : List ℕ) : Type 0 where
  pub end_same : at + length all ≡ end + length rest
  pub text_same : sets text at all ≡ sets now end rest

pub left_all : (text : List ℕ) (at : ℕ) (all : List ℕ) → Left text at all text at all
left_all text at all = record { end_same = refl; text_same = refl }

pub left_more : (text : List ℕ) (at : ℕ) (all now : List ℕ) (end : ℕ) (rest xs ys now₁ : List ℕ) (end₁ : ℕ)
    → Left text at all now end rest → rest ≡ xs ++ ys → Put now end xs now₁ end₁ → Left text at all now₁ end₁ ys
left_more text at all now end rest xs ys now₁ end₁ l e p =
    record {
      end_same = omega (arith, l.end_same, p.end_is, ap length e, length-append xs ys);
      text_same = l.text_same ∙ ap (λ v. sets now end v) e ∙ sets_++ xs ys now end ∙ rw (p.text_is, p.end_is);
    }

pub left_last : (text : List ℕ) (at : ℕ) (all now : List ℕ) (end : ℕ) (rest xs now₁ : List ℕ) (end₁ : ℕ)
    → Left text at all now end rest → rest ≡ xs → Put now end xs now₁ end₁ → Put text at all now₁ end₁
left_last text at all now end rest xs now₁ end₁ l e p =
    record {
      end_is = omega (arith, p.end_is, l.end_same, ap length e);
      text_is = p.text_is ∙ sym (l.text_same ∙ ap (λ v. sets now end v) e);
    }

pub left_none : (text : List ℕ) (at : ℕ) (all now : List ℕ) (end : ℕ) (rest : List ℕ)
    → Left text at all now end rest → rest ≡ [] → Put text at all now end
left_none text at all now end rest l e = left_last text at all now end rest [] now end l e (put_none now end)
