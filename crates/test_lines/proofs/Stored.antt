-- What a call has stored in a list of its own, cut to what it stored. Assumes nothing.
use Rattle.std.specs.Prelude.{◌≡◌, refl, List, [], ◌∷◌, ◌++◌, ℕ, suc, length, take}
use Rattle.std.proofs.Common.{ap, ap₂, ◌∙◌}
use Rattle.std.proofs.lemmas.List.{take_at}
use Rattle.std.proofs.lemmas.List.Edits.{sets}
use Rattle.std.proofs.Math.Seq.{length-sets}

stored_none : (xs : List ℕ) (at : ℕ) → sets [] at xs ≡ []
stored_none [] at = refl
stored_none (x ∷ xs) at = stored_none xs (suc at)

stored_behind : (xs ys : List ℕ) (y at : ℕ) → sets (y ∷ ys) (suc at) xs ≡ y ∷ sets ys at xs
stored_behind [] ys y at = refl
stored_behind (x ∷ xs) ys y at = stored_behind xs _ y (suc at)

-- what has no room is left out
pub stored_cut : (xs ys : List ℕ) → take (length xs) (sets ys 0 xs) ≡ take (length ys) xs
stored_cut [] [] = refl
stored_cut [] (y ∷ ys) = refl
stored_cut (x ∷ xs) [] = ap (take (suc (length xs))) (stored_none xs 1)
stored_cut (x ∷ xs) (y ∷ ys) = ap (take (suc (length xs))) (stored_behind xs ys x 0) ∙ ap (λ (l : List ℕ). x ∷ l) (stored_cut xs ys)

-- a list of n numbers, filled from its front and cut to what was stored
pub stored_front : (xs before after behind : List ℕ) (n k : ℕ) → after ≡ sets before 0 xs → length before ≡ n → k ≡ length xs
    → take k (take n (after ++ behind)) ≡ take n xs
stored_front xs before after behind n k e size count =
    ap (take k) (take_at after behind n (ap length e ∙ length-sets before 0 xs ∙ size))
    ∙ ap₂ take count e
    ∙ stored_cut xs before
    ∙ ap (λ (m : ℕ). take m xs) size
