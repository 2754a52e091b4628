-- Rows of two lists, each in its order, among each other; and lists of numbered rows.
-- Assumes nothing.
use Rattle.std.specs.Prelude.{◌≡◌, refl, List, [], ◌∷◌, ◌++◌, ℕ, suc, ◌+◌, ◌≤◌, ◌<◌, length}
use Rattle.std.proofs.Common.{ap, ◌∙◌, add-zero, arith, length-append}
use Rattle.std.proofs.Math.Decide.{ℕ_discrete}
use Rattle.tables.specs.declared.Row.{Row}
use Rattle.representation.specs.Gap.Cells.{with_up}
use Rattle.table_laws.proofs.Placed.Numbers.{All, empty, cons, numbered}
use Rattle.table_laws.proofs.Placed.Places.{Stands, here, there, total, carries, Arranged, carries_own, carries_other, uncons}

-- xs is ks and ms, each in its order, among each other
pub data Merge : List Row → List Row → List Row → Type 0 where
  nil : Merge [] [] []
  left : {x : Row} {ks ms xs : List Row} → Merge ks ms xs → Merge (x ∷ ks) ms (x ∷ xs)
  right : {x : Row} {ks ms xs : List Row} → Merge ks ms xs → Merge ks (x ∷ ms) (x ∷ xs)

-- ---- several rows of one list

pub lefts : (l : List Row) {ks ms xs : List Row} → Merge ks ms xs → Merge (l ++ ks) ms (l ++ xs)
lefts [] g = g
lefts (x ∷ l) g = left (lefts l g)

pub rights : (l : List Row) {ks ms xs : List Row} → Merge ks ms xs → Merge ks (l ++ ms) (l ++ xs)
rights [] g = g
rights (x ∷ l) g = right (rights l g)

pub numbered_append : (b : ℕ) (l m : List Row) → numbered b (l ++ m) ≡ numbered b l ++ numbered (b + length l) m
unfolding numbered
numbered_append b [] m = rw add-zero
numbered_append b (x ∷ l) m =
    let e : b + suc (length l) ≡ suc b + length l = omega arith in
    rw e (ap (◌∷◌ (with_up x b)) (numbered_append (suc b) l m))

-- ---- a merge has the rows of both lists

merge_length : {ks ms xs : List Row} → Merge ks ms xs → length xs ≡ length (ks ++ ms)
merge_length nil = refl
merge_length (left g) = ap suc (merge_length g)
merge_length (right {x = x} {ks = ks} {ms = ms} g) =
    omega (arith, merge_length g, length-append ks ms, length-append ks (x ∷ ms))

-- the first row of the second list
all_out : (P : Row → Type 0) (ks : List Row) (x : Row) (ms : List Row) → All P (ks ++ x ∷ ms) → All P (x ∷ (ks ++ ms))
all_out P [] x ms p = p
all_out P (k ∷ ks) x ms (cons h p) = let q = uncons (all_out P ks x ms p) in cons q.0 (cons h q.1)

merge_all : {P : Row → Type 0} {ks ms xs : List Row} → Merge ks ms xs → All P (ks ++ ms) → All P xs
merge_all nil p = p
merge_all (left g) (cons h p) = cons h (merge_all g p)
merge_all {P} (right {x = x} {ks = ks} {ms = ms} g) p = let q = uncons (all_out P ks x ms p) in cons q.0 (merge_all g q.1)

carries_out : (q b : ℕ) (ks : List Row) (x : Row) (ms : List Row)
    → total (carries q) b (ks ++ x ∷ ms) ≡ total (carries q) b (x ∷ (ks ++ ms))
unfolding total
carries_out q b [] x ms = refl
carries_out q b (k ∷ ks) x ms = omega (arith, carries_out q (suc b) ks x ms)

merge_carries : (q b : ℕ) {ks ms xs : List Row} → Merge ks ms xs → total (carries q) b xs ≡ total (carries q) b (ks ++ ms)
unfolding total
merge_carries q b nil = refl
merge_carries q b (left g) = omega (arith, merge_carries q (suc b) g)
merge_carries q b (right {x = x} {ks = ks} {ms = ms} g) = omega (arith, merge_carries q (suc b) g, carries_out q b ks x ms)

-- ---- numbered rows stand in their places

all_there : {b : ℕ} {y : Row} {ys xs : List Row} → All (λ (x : Row). Stands x (suc b) ys) xs → All (λ (x : Row). Stands x b (y ∷ ys)) xs
all_there empty = empty
all_there (cons s p) = cons (there s) (all_there p)

numbered_stand : (b : ℕ) (m : List Row) → All (λ (x : Row). Stands x b (numbered b m)) (numbered b m)
unfolding numbered
numbered_stand b [] = empty
numbered_stand b (r ∷ m) = cons (here refl) (all_there (numbered_stand (suc b) m))

numbered_after : (q b : ℕ) (m : List Row) → q < b → total (carries q) b (numbered b m) ≡ 0
unfolding total numbered
numbered_after q b [] h = refl
numbered_after q b (r ∷ m) h =
    omega (arith, carries_other b (with_up r b) q (λ e. omega arith), numbered_after q (suc b) m (omega arith))

numbered_once : (q b : ℕ) (m : List Row) → total (carries q) b (numbered b m) ≤ 1
unfolding total numbered
numbered_once q b [] = omega arith
numbered_once q b (r ∷ m) = by (ℕ_discrete b q) (numbered_once q (suc b) m)
  where
    by : Dec (b ≡ q) → total (carries q) (suc b) (numbered (suc b) m) ≤ 1
        → carries q b (with_up r b) + total (carries q) (suc b) (numbered (suc b) m) ≤ 1
    by (yes e) h = omega (arith, carries_own b (with_up r b) q e, numbered_after q (suc b) m (omega arith))
    by (no e) h = omega (arith, carries_other b (with_up r b) q e)

pub arranged_merge : (b : ℕ) (m : List Row) {ks ms xs : List Row} → Merge ks ms xs → ks ++ ms ≡ numbered b m
    → Arranged b xs (numbered b m)
arranged_merge b m g e =
    record {
      same = merge_length g ∙ ap length e;
      stand = merge_all g (rw e (numbered_stand b m));
      once = λ q. rw (merge_carries q b g, e) (numbered_once q b m);
    }
