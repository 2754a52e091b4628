-- The calls for C, one after another.
-- Assumes nothing.
use Rattle.meaning.specs.Refusals.{Outcome}
use Rattle.std.specs.Prelude.{Ok, ◌≡◌, refl, Bool, cond, List, ℕ, zero, suc}
use Rattle.std.proofs.Math.Path.{ap}
use Rattle.std.proofs.Common.{◌∙◌}
use Rattle.meaning.specs.File.{File}
use Rattle.meaning.specs.Walk.{is_over, start}
use Rattle.meaning.specs.ImportLine.{visit_calls}
use Rattle.meaning.specs.Lowering.{admit}
use Rattle.tables.specs.Loops.{turns}
use Rattle.path.specs.Path.{Tables, tables}
use Rattle.start.specs.Start.{lent_in, start_of, start_f}
use Rattle.walk.specs.Call.{visit_call_f}
use Rattle.desk_numbers.specs.Numbers.{walk_numbers, walk_in, numbers_kept, Begins, begun_numbers, Visits, visited, visited_numbers}
use Rattle.claims.specs.Calls.{first_tables, after_calls, calls_over}

-- what a call of `desk_visit` leaves of what the call before it left, as its contract says
abbrev pub desk_visit : Visits → Visits
desk_visit v = visited_numbers (visit_call_f (tables v.records v.scopes v.symbols (walk_in v.walk)))

-- what k calls of it leave of what `desk_start` left
abbrev pub desk_calls : ℕ → Begins → Visits
desk_calls k b = turns k desk_visit (visited 0 b.walk b.records b.scopes b.symbols)

-- the tables, with the walk's numbers, and 1 if the walk is over
abbrev pub in_numbers : Bool → Tables → Visits
in_numbers over t = visited (cond over 1 0) (walk_numbers t.walk) t.records t.scopes t.symbols

-- a call on the numbers of tables
one_call : (o : ℕ) (t : Tables)
    → desk_visit (visited o (walk_numbers t.walk) t.records t.scopes t.symbols) ≡ visited_numbers (visit_call_f t)
one_call o t =
    ap (λ (w : Rattle.path.specs.declared.Walk.Walk). visited_numbers (visit_call_f (tables t.records t.scopes t.symbols w)))
    (numbers_kept t.walk)

more_calls : (k : ℕ) (t : Tables) → turns k desk_visit (visited_numbers t) ≡ visited_numbers (turns k visit_call_f t)
unfolding turns
more_calls zero t = refl
more_calls (suc k) t = ap (turns k desk_visit) (one_call 0 t) ∙ more_calls k (visit_call_f t)

module _ (bytes r s y : List ℕ) (f : File) (e : admit bytes (lent_in r s y) ≡ Ok f) (old : List ℕ) where
  begun_is : begun_numbers old (start_f bytes r s y) ≡ begun_numbers old (start_of (Ok f) r s y)
  unfolding start_f
  begun_is = ap (λ (a : Outcome File). begun_numbers old (start_of a r s y)) e

  -- AFTER k + 1 CALLS for C the tables and the walk's numbers are those after as many visits, and the last call answered whether 01's walk is over.
  pub desk_calls_lem : (k : ℕ)
      → desk_calls (suc k) (begun_numbers old (start_f bytes r s y)) ≡ in_numbers (is_over (visit_calls (suc k) (start f))) (after_calls (suc k) f r s y)
  unfolding turns
  desk_calls_lem k =
      ap (desk_calls (suc k)) begun_is
      ∙ ap (turns k desk_visit) (one_call 0 (first_tables f r s y))
      ∙ more_calls k (visit_call_f (first_tables f r s y))
      ∙ ap (λ (b : Bool). in_numbers b (after_calls (suc k) f r s y)) (calls_over bytes r s y f e (suc k))
