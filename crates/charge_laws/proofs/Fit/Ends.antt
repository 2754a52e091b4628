-- The walk of an accepted file ends after as many visits as it has charges.
-- Assumes nothing.
use Rattle.std.specs.Prelude.{Ok, ◌≡◌, refl, Bool, true, false, not, ◌&&◌, List, [], ◌∷◌, ◌++◌, ℕ, zero, suc, ◌<◌, length, eqb, leb}
use Rattle.std.proofs.Common.{sym, ap, ◌∙◌, arith}
use Rattle.std.proofs.Math.Dec.{leb-zero, leb-suc-suc}
use Rattle.std.proofs.lemmas.Bool.{lt-leb}
use Rattle.meaning.specs.Tree.{Head, Forest, none}
use Rattle.meaning.specs.File.{Symbol, File}
use Rattle.meaning.specs.Reading.{read_file}
use Rattle.meaning.specs.Walk.{
  Act,
  keep,
  program,
  block,
  function_body,
  try_parts,
  for_loop,
  switch,
  for_of_insert,
  for_of_wrap,
  act_of,
  Spot,
  at,
  leaving,
  over,
  is_over,
  visit,
  visits,
  store_of,
  start,
}
use Rattle.meaning.specs.Charges.{Line}
use Rattle.meaning.specs.Due.{any_context}
use Rattle.charge_laws.specs.VisitCharges.{standing, visits_as, visits_standing, visits_of, visits_in, add_helper, visit_charges}
use Rattle.charge_laws.proofs.Counts.Visits.{++-nil, spread}
use Rattle.charge_laws.proofs.Counts.Pending.{Pending, ready, pending_start, pending_visit}
use Rattle.charge_laws.proofs.Counts.Left.{rest, left, left_settle, visit_left, over_left, over_stays_lem}
use Rattle.charge_laws.proofs.Fit.Accepted.{accepted_fit}

-- the second spot is over just if at most k charges are left at the first
abbrev Ended : ℕ → Spot → Spot → Type 0
Ended k s s' = is_over s' ≡ leb (length (left s)) k

-- each record is visited
some : (ys : List Symbol) (a : Act) (h : Head) (k : Forest) (xs zs : List (List Line)) → 0 < length (spread ys (visits_as a h k) k xs ++ zs)
unfolding visits_as
some ys keep h k xs zs = omega arith
some ys program h k xs zs = omega arith
some ys block h k xs zs = omega arith
some ys function_body h k xs zs = omega arith
some ys try_parts h k xs zs = omega arith
some ys for_loop h k xs zs = omega arith
some ys switch h k xs zs = omega arith
some ys for_of_insert h k xs zs = omega arith
some ys for_of_wrap h k xs zs = omega arith

begun : (s : Spot) → Ended 0 s s
unfolding is_over left visits_in visits_of visits_standing
begun (over tree st) = refl
begun (at d h k r p st) = sym (lt-leb _ 0 (some st.as_read (act_of st.as_read h k) h k _ _))
begun (leaving k h d r p st) = sym (lt-leb (length (left (leaving k h d r p st))) 0 (omega arith))

ended : (k : ℕ) (s : Spot) → Pending s → Ended k s (visits k s)
unfolding visits
ended zero s q = begun s
ended (suc k) s q = go (is_over s) refl (ended k (visit s) (pending_visit s q))
  where
    go : (b : Bool) → is_over s ≡ b → Ended k (visit s) (visits k (visit s)) → Ended (suc k) s (visits k (visit s))
    go true o i = rw (over_left s o) (ap is_over (over_stays_lem (suc k) s o) ∙ o ∙ sym (leb-zero (suc k)))
    go false o i = i ∙ sym (rw (visit_left s (ready s q) o) (leb-suc-suc (length (left (visit s))) k))

-- ---- a file

helper_length : (m : Bool) (xs : List (List Line)) → length (add_helper m xs) ≡ length xs
unfolding add_helper
helper_length m [] = refl
helper_length m (x ∷ xs) = ap suc (helper_length (m && not (any_context x)) xs)

start_length : (f : File) → length (left (start f)) ≡ length (visit_charges f)
unfolding start store_of visit_charges rest
start_length f =
    let xs = visits_in f.symbols f.tree standing in
    ap length (left_settle [] none f.tree (store_of f) ∙ ++-nil xs) ∙ sym (helper_length (eqb f.mode 0) xs)

-- After k visits the walk of an accepted file is over if it has at most k charges, and is not over if it has more.
pub walk_ends : (b : List ℕ) (f : File) (k : ℕ) → read_file b ≡ Ok f → is_over (visits k (start f)) ≡ leb (length (visit_charges f)) k
walk_ends b f k e = ended k (start f) (pending_start f (accepted_fit b f e)) ∙ ap (λ (n : ℕ). leb n k) (start_length f)
