-- Tests of tags.
-- Assumes nothing.
use Rattle.std.specs.Prelude.{◌≡◌, refl, Bool, true, false, ◌&&◌, ◌||◌, List, [], ◌∷◌, ℕ, eqb}
use Rattle.std.proofs.Common.{sym, ap, subst, ◌∙◌, true≢false, eqb-true}
use Rattle.meaning.specs.Tree.{one_of}

-- a test does not pass and fail
pub clash : {b : Bool} → b ≡ false → b ≡ true → ⊥
clash e d = true≢false (sym d ∙ e)

pub and_left : (a b : Bool) → (a && b) ≡ true → a ≡ true
and_left true b e = refl
and_left false b e = e

pub and_right : (a b : Bool) → (a && b) ≡ true → b ≡ true
and_right true b e = e
and_right false b e = absurd (clash refl e)

pub or_none : (a b : Bool) → (a || b) ≡ false → (a ≡ false) × (b ≡ false)
or_none true b e = absurd (clash e refl)
or_none false b e = (refl, e)

-- a number of a list is none that is not in it
pub other_than : (ts : List ℕ) (x t : ℕ) → one_of ts x ≡ true → one_of ts t ≡ false → eqb x t ≡ false
other_than ts x t e n = go (eqb x t) refl
  where
    go : (b : Bool) → eqb x t ≡ b → b ≡ false
    go true is = absurd (clash n (ap (one_of ts) (sym (eqb-true x t is)) ∙ e))
    go false is = refl

-- a number is the first of a list that it is in, or is not in it
pub data Seen : List ℕ → ℕ → Type 0 where
  other : {t : ℕ} → Seen [] t
  here : {t : ℕ} {ts : List ℕ} → Seen (t ∷ ts) t
  there : {n t : ℕ} {ts : List ℕ} → eqb t n ≡ false → Seen ts t → Seen (n ∷ ts) t

seen_next : (b : Bool) (n t : ℕ) (ts : List ℕ) → eqb t n ≡ b → Seen ts t → Seen (n ∷ ts) t
seen_next true n t ts e s = subst (λ (x : ℕ). Seen (x ∷ ts) t) (eqb-true t n e) here
seen_next false n t ts e s = there e s

pub seen : (ts : List ℕ) (t : ℕ) → Seen ts t
seen [] t = other
seen (n ∷ ts) t = seen_next (eqb t n) n t ts refl (seen ts t)
