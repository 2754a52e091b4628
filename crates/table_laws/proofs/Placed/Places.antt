-- Rows that carry the places of a list, each of them once, in any order; and what an exchange that puts a row in its place does to them.
-- Assumes nothing.
use Rattle.std.specs.Prelude.{if◌then◌else◌, ◌≡◌, refl, List, [], ◌∷◌, ◌++◌, eqb}
use Rattle.std.proofs.Common.{ap, subst, add-zero, arith, eq-eqb, ne_eqb}
use Prim.Native.Nat.{ℕ, suc, ◌+◌, ◌-◌, ◌≤◌, ◌<◌}
use Rattle.std.proofs.Math.ListN.{length, length-append}
use Rattle.tables.specs.declared.Row.{Row}
use Rattle.table_laws.proofs.Placed.Numbers.{All, empty, cons}

-- a row stands in a list at the place that it carries, places being counted from b on
pub data Stands (x : Row) : ℕ → List Row → Type 0 where
  here : {b : ℕ} {ys : List Row} → x.up ≡ b → Stands x b (x ∷ ys)
  there : {b : ℕ} {y : Row} {ys : List Row} → Stands x (suc b) ys → Stands x b (y ∷ ys)

-- numbers added up over rows and their places
unfoldable pub total : (ℕ → Row → ℕ) → ℕ → List Row → ℕ
total w b [] = 0
total w b (x ∷ xs) = w b x + total w (suc b) xs

-- 1 for a row that carries the place q; 1 for a row at the place b that carries another
abbrev pub carries : ℕ → ℕ → Row → ℕ
carries q b x = if eqb x.up q then 1 else 0

abbrev pub stray : ℕ → Row → ℕ
stray b x = 1 - carries b b x

-- xs has the rows of ys, whose places are counted from b on, in any order
pub record Arranged (b : ℕ) (xs ys : List Row) : Type 0 where
  pub same : length xs ≡ length ys
  pub stand : All (λ (x : Row). Stands x b ys) xs
  pub once : (q : ℕ) → total (carries q) b xs ≤ 1

-- ---- sums

module _ (b : ℕ) (x : Row) (q : ℕ) where
  pub carries_own : x.up ≡ q → carries q b x ≡ 1
  carries_own e = rw (eq-eqb x.up q e)

  pub carries_other : (x.up ≡ q → ⊥) → carries q b x ≡ 0
  carries_other e = rw (ne_eqb x.up q e)

-- one row of many
total_at : (w : ℕ → Row → ℕ) (b : ℕ) (l : List Row) (y : Row) (r : List Row)
    → total w b (l ++ y ∷ r) ≡ total w b l + (w (b + length l) y + total w (suc (b + length l)) r)
unfolding total
total_at w b [] y r = rw add-zero (omega arith)
total_at w b (x ∷ l) y r =
    let e : b + suc (length l) ≡ suc b + length l = omega arith in
    rw e (omega (arith, total_at w (suc b) l y r))

pub total_stray : (b : ℕ) (xs : List Row) → total stray b xs ≤ length xs
unfolding total
total_stray b [] = omega arith
total_stray b (x ∷ xs) = omega (arith, total_stray (suc b) xs)

-- ---- where a row stands

pub stands_from : {x : Row} {b : ℕ} {ys : List Row} → Stands x b ys → b ≤ x.up
stands_from (here e) = omega arith
stands_from (there s) = omega (arith, stands_from s)

pub stands_below : {x : Row} {b : ℕ} {ys : List Row} → Stands x b ys → x.up < b + length ys
stands_below (here e) = omega arith
stands_below (there s) = omega (arith, stands_below s)

first : {x : Row} {b : ℕ} {ys : List Row} → Stands x b ys → x.up ≡ b → (r : List Row) × (ys ≡ x ∷ r)
first (here {ys = r} e) h = (r, refl)
first (there s) h = absurd (omega (arith, stands_from s))

not_first : {x : Row} {b : ℕ} {y : Row} {ys : List Row} → Stands x b (y ∷ ys) → carries b b x ≡ 0 → Stands x (suc b) ys
not_first {x} {b} (here e) h = absurd (omega (arith, carries_own b x b e))
not_first (there s) h = s

-- ---- every row

pub uncons : {P : Row → Type 0} {x : Row} {xs : List Row} → All P (x ∷ xs) → P x × All P xs
uncons (cons h p) = (h, p)

-- one row for another
all_at : (P : Row → Type 0) (l : List Row) (x y : Row) (r : List Row) → P x → All P (l ++ y ∷ r) → P y × All P (l ++ x ∷ r)
all_at P [] x y r h (cons k p) = (k, cons h p)
all_at P (w ∷ l) x y r h (cons k p) = let q = all_at P l x y r h p in (q.0, cons k q.1)

none_first : {b : ℕ} {y : Row} {ys xs : List Row} (c : ℕ) → total (carries b) c xs ≡ 0 → All (λ (x : Row). Stands x b (y ∷ ys)) xs
    → All (λ (x : Row). Stands x (suc b) ys) xs
unfolding total
none_first c h empty = empty
none_first c h (cons s p) = cons (not_first s (omega arith)) (none_first (suc c) (omega arith) p)

-- ---- a row in its place is passed

pub arranged_rest : (b : ℕ) (x : Row) (xs ys : List Row) → Arranged b (x ∷ xs) ys → x.up ≡ b
    → (r : List Row) × (ys ≡ x ∷ r) × Arranged (suc b) xs r
unfolding total
arranged_rest b x xs ys c h =
    let s = uncons c.stand in
    let f = first s.0 h in
    let t = subst (λ (u : List Row). All (λ (y : Row). Stands y b u) xs) f.1 s.1 in (
      f.0,
      f.1,
      record {
        same = omega (arith, c.same, ap length f.1);
        stand = none_first (suc b) (omega (arith, c.once b, carries_own b x b h)) t;
        once = λ q. omega (arith, c.once q);
      },
    )

-- ---- a row out of place is put there

module _ (b : ℕ) (x : Row) (l : List Row) (y : Row) (r ys : List Row) (c : Arranged b (x ∷ (l ++ y ∷ r)) ys) where
  pub arranged_exchanged : Arranged b (y ∷ (l ++ x ∷ r)) ys
  unfolding total
  arranged_exchanged =
      let s = uncons c.stand in
      let t = all_at (λ (u : Row). Stands u b ys) l x y r s.0 s.1 in
      record {
        same = omega (arith, c.same, length-append l (y ∷ r), length-append l (x ∷ r));
        stand = cons t.0 t.1;
        once = λ q. omega (arith, c.once q, total_at (carries q) (suc b) l y r, total_at (carries q) (suc b) l x r);
      }

  pub stray_exchanged : x.up ≡ suc b + length l → total stray b (y ∷ (l ++ x ∷ r)) < total stray b (x ∷ (l ++ y ∷ r))
  unfolding total
  stray_exchanged e =
      let p = suc b + length l in
      let own : carries p p x ≡ 1 = carries_own p x p e in
      let out : carries b b x ≡ 0 = carries_other b x b (λ i. omega arith) in
      let other : carries p p y ≡ 0 = omega (arith, c.once p, total_at (carries p) (suc b) l y r) in
      omega (arith, total_at stray (suc b) l y r, total_at stray (suc b) l x r)
