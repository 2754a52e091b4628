-- Once the walk is over a visit changes nothing.
-- Assumes nothing.
use Rattle.std.specs.Prelude.{if◌then◌else◌, ◌≡◌, refl, Bool, true, false, not, ℕ, zero, suc, leb}
use Rattle.std.proofs.Common.{sym, leb-true, le-ltb}
use Rattle.std.proofs.lemmas.Bool.{not-true}
use Rattle.spec_laws.specs.Tags.{and_left, and_right}
use Rattle.tables.specs.Loops.{turns, until}
use Rattle.path.specs.Path.{Tables}
use Rattle.walk.specs.Visit.{is_leaving_f, is_over_f, visit_f}

-- what `is_over` tells of tables and their walk
abbrev pub is_over_in : Tables → Bool
is_over_in q = is_over_f q.records q.walk

-- A VISIT WHEN THE WALK IS OVER leaves every number of the tables and the walk as it is, on any tables.
pub over_stays_lem : (q : Tables) → is_over_in q ≡ true → visit_f q ≡ q
unfolding is_over_f visit_f
over_stays_lem q e =
    let l = is_leaving_f q.records q.walk in
    let ended = leb q.walk.end.0 q.walk.gap.0 in
    rw (not-true l (and_left (not l) ended e), le-ltb _ _ (leb-true _ _ (and_right (not l) ended e)))

-- ---- visits until the walk is over

stay : {A : Type 0} (n : ℕ) (f : A → A) (x : A) → f x ≡ x → turns n f x ≡ x
unfolding turns
stay zero f x e = refl
stay (suc n) f x e = rw e (stay n f x e)

-- stopping when it is over makes no difference
pub until_over : (n : ℕ) (q : Tables) → until n is_over_in visit_f q ≡ turns n visit_f q
unfolding until turns
until_over zero q = refl
until_over (suc n) q = go (is_over_in q) refl (until_over n (visit_f q))
  where
    go : (b : Bool) → is_over_in q ≡ b → until n is_over_in visit_f (visit_f q) ≡ turns n visit_f (visit_f q)
        → (if b then q else until n is_over_in visit_f (visit_f q)) ≡ turns n visit_f (visit_f q)
    go true e i = sym (rw (over_stays_lem q e) (stay n visit_f q (over_stays_lem q e)))
    go false e i = i
