-- What a lowered tree calls is what its source asks for.
-- Assumes nothing.
use Rattle.std.specs.Prelude.{Ok, if◌then◌else◌, ◌≡◌, Bool, true, false, ◌&&◌, List, ℕ, ◌+◌, ◌*◌, eqb, length}
use Rattle.std.proofs.Math.Path.{refl}
use Rattle.std.proofs.Common.{sym, ap, ◌∙◌}
use Rattle.std.proofs.Math.Bool.{not}
use native.Mathlib.Omega.{arith}
use Rattle.meaning.specs.Numbers.Tag
use Rattle.meaning.specs.Tree.{Head, Forest, none, more, ◌&◌}
use Rattle.meaning.specs.File.{File}
use Rattle.meaning.specs.Reading.{read_file}
use Rattle.meaning.specs.Statements.{is_using}
use Rattle.meaning.specs.Walk.{Spot, is_over, tree_at, store_at}
use Rattle.meaning.specs.ImportLine.{with_import, completed}
use Rattle.meaning.specs.Charges.{final_figures}
use Rattle.meaning.specs.Lowering.{last_spot, final_spot}
use Rattle.spec_laws.specs.Calls.{completed_keeps}
use Rattle.hint_laws.specs.Hints.{sum_over, over_declarators, takes_up, of_source, asked, called, calls_in, given}
use Rattle.hint_laws.proofs.Requested.Asked.{OldCalls, accepted_old, overs_none, calls_in_none, asked_by_kind, asked_of_source}
use Rattle.hint_laws.specs.Balanced.Balance.{letter_in, waits, done_in, gives, balance_of, balance}
use Rattle.hint_laws.proofs.Balanced.Visit.{visits_balance}
use Rattle.hint_laws.proofs.Balanced.Settled.{Settled, settled_gives}
use Rattle.hint_laws.proofs.Lowered.Quiet.{Quiet, AllQuiet, nothing_asked}
use Rattle.hint_laws.proofs.Lowered.Visits.{over_quiet}
use Rattle.bound_laws.specs.Last.{last_spot_lem, last_over}

both : (u v : Head → Forest → ℕ) (f : Forest) → sum_over (λ h k. u h k + v h k) f ≡ sum_over u f + sum_over v f
unfolding sum_over
both u v none = refl
both u v (more h k r) = omega (arith, both u v k, both u v r)

-- ---- the source gives nothing

module _ (w : List ℕ → List ℕ → ℕ → ℕ) (read : ℕ) where
  if_none : (b : Bool) (n m : ℕ) → n ≡ 0 → m ≡ 0 → (if b then n else 0) + m ≡ 0
  if_none true n m e d = omega arith
  if_none false n m e d = omega arith

  done_none : (k : Forest) → OldCalls read k → done_in w read k ≡ 0
  unfolding done_in
  done_none none q = refl
  done_none (more h k r) q =
      if_none (eqb h.tag Tag.Declaration && not (is_using h)) (over_declarators (called w read) k) (done_in w read r) (overs_none w read k q.1)
      (done_none r q.2)

  either_none : (b : Bool) (n m : ℕ) → n ≡ 0 → m ≡ 0 → (if b then n else m) ≡ 0
  either_none true n m e d = e
  either_none false n m e d = d

  gives_none : (f : Forest) → OldCalls read f → sum_over (gives w read) f ≡ 0
  unfolding sum_over gives
  gives_none none q = refl
  gives_none (more h k r) q =
      omega (
        arith,
        either_none (takes_up h.tag) (done_in w read k) _ (done_none k q.1) (calls_in_none w read k q.1),
        gives_none k q.1,
        gives_none r q.2,
      )

-- ---- the lowered tree asks for nothing

quiet_settled : (f : Forest) → AllQuiet f → Settled f
unfolding AllQuiet Settled Quiet
quiet_settled none q = tt
quiet_settled (more h k r) q = (q.0.0, quiet_settled k q.1, quiet_settled r q.2)

-- ---- the import line calls nothing

module _ (w : List ℕ → List ℕ → ℕ → ℕ) (read : ℕ) where
  import_gives : (y : ℕ) (tree : Forest) → given w read (with_import y tree) ≡ given w read tree
  unfolding with_import given sum_over calls_in ◌&◌
  import_gives y none = refl
  import_gives y (more h k r) = omega arith

  completed_gives : (s : Spot) → given w read (tree_at (completed s)) ≡ given w read (tree_at s)
  completed_gives s =
      completed_keeps (λ (t : Forest). given w read t ≡ given w read (tree_at s)) s refl (import_gives (store_at s).helper (tree_at s))

-- ---- the two agree

module _ (w : List ℕ → List ℕ → ℕ → ℕ) (b : List ℕ) (f : File) (e : read_file b ≡ Ok f) where
  abbrev read : ℕ
  read = length f.symbols

  abbrev of_file : List ℕ → List ℕ → ℕ → ℕ
  of_file = of_source read w

  at_source : balance w read f.tree ≡ asked w f.tree
  unfolding balance balance_of waits letter_in
  at_source =
      both (waits of_file) (gives of_file read) f.tree
      ∙ omega (
        arith,
        gives_none of_file read f.tree (accepted_old b f e),
        asked_by_kind of_file b f e,
        asked_of_source w b f e,
      )

  at_end : (t : Forest) → AllQuiet t → balance w read t ≡ given w read t
  unfolding balance balance_of waits given
  at_end t q =
      both (waits of_file) (gives of_file read) t ∙ omega (arith, nothing_asked of_file letter_in t q, settled_gives of_file read t (quiet_settled t q))

  -- at the end of the walk
  last_hints : given w read (tree_at (last_spot f)) ≡ asked w f.tree
  last_hints =
      let n = 2 * (final_figures f).records in
      let q : AllQuiet (tree_at (last_spot f)) = rw (last_spot_lem f) (over_quiet b f n e (ap is_over (sym (last_spot_lem f)) ∙ last_over b f e)) in
      sym (at_end (tree_at (last_spot f)) q) ∙ (rw (last_spot_lem f) (visits_balance w b f n e)) ∙ at_source

  -- WHAT THE LOWERED TREE CALLS IS WHAT THE SOURCE ASKS FOR: the import line calls nothing.
  pub final_hints : given w read (tree_at (final_spot f)) ≡ asked w f.tree
  unfolding final_spot
  final_hints = completed_gives w read (last_spot f) ∙ last_hints
