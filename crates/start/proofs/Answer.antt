-- What the code answers is what 01 says.
-- Assumes nothing.
use Rattle.meaning.specs.declared.Reason.TheVariants as Reason
use Rattle.meaning.specs.Refusals.{Outcome, refused}
use Rattle.std.specs.Prelude.{Ok, Err, if◌then◌else◌}
use mathlib.Core.Path.{◌≡◌, refl, ap, ◌∙◌}
use mathlib.Core.Bool.{Bool, true, false}
use mathlib.Core.List.{List}
use Prim.Native.Nat.{ℕ, ◌/◌}
use lib.ListN.{length}
use lib.Dec.{leb}
use Rattle.meaning.specs.File.{File}
use Rattle.meaning.specs.Reading.{◌>>=◌, ◌>>◌, ensure}
use Rattle.meaning.specs.Charges.{final_figures}
use Rattle.meaning.specs.Lowering.{check_rows, check_file, admit}
use Rattle.figures.specs.Figures.{shown_figures}
use Rattle.checking.specs.declared.Surveyed.{Surveyed}
use Rattle.checking.specs.Survey.{layout_of, fine, surveyed_of}
use Rattle.path.specs.Path.{Tables}
use Rattle.start.specs.Start.{ready, lent_in, start_of, start_f}
use Rattle.start.specs.Flat.{admit_by, counted_f, start_by}
use Rattle.start.specs.Filled.{fill_law}
use Rattle.start.specs.Counted.{counted_law}

-- ---- admission

-- 9, by its three tests
by_rows_lem : (x₁ x₂ x₃ : Bool) (f : File)
    → (if x₁
    then (if x₂ then (if x₃ then fine (layout_of f) (shown_figures (final_figures f)) else refused Reason.FewRows 2) else refused Reason.FewRows 1)
    else refused Reason.FewRows 0)
    ≡ surveyed_of ((ensure x₁ Reason.FewRows 0 >> (ensure x₂ Reason.FewRows 1 >> ensure x₃ Reason.FewRows 2)) >> Ok f)
by_rows_lem true true true f = refl
by_rows_lem true true false f = refl
by_rows_lem true false x₃ f = refl
by_rows_lem false x₂ x₃ f = refl

in_turn : (x₁ x₂ x₃ : Bool) (q : Surveyed)
    → (if x₁ then (if x₂ then (if x₃ then Ok q else refused Reason.FewRows 2) else refused Reason.FewRows 1) else refused Reason.FewRows 0)
    ≡ (ensure x₁ Reason.FewRows 0 >> (ensure x₂ Reason.FewRows 1 >> (ensure x₃ Reason.FewRows 2 >> Ok q)))
in_turn true true true q = refl
in_turn true true false q = refl
in_turn true false x₃ q = refl
in_turn false x₂ x₃ q = refl

-- one table after another
pub tables_tested : (q : Surveyed) (r s y : List ℕ)
    → admit_by (Ok q) r s y
    ≡ (ensure (leb q.figures.records (length r / 7)) Reason.FewRows 0
    >> (ensure (leb q.figures.scopes (length s / 3)) Reason.FewRows 1
    >> (ensure (leb q.figures.symbols (length y / 6)) Reason.FewRows 2 >> Ok q)))
unfolding admit_by
tables_tested q r s y =
    in_turn (leb q.figures.records (length r / 7)) (leb q.figures.scopes (length s / 3)) (leb q.figures.symbols (length y / 6)) q

module _ (b r s y : List ℕ) where
  by_file : (o : Outcome File)
      → admit_by (surveyed_of o) r s y ≡ surveyed_of (o >>= (λ f. check_rows (lent_in r s y) (final_figures f) >> Ok f))
  unfolding admit_by check_rows lent_in
  by_file (Ok f) =
      let g = final_figures f in
      by_rows_lem (leb g.records (length r / 7)) (leb g.scopes (length s / 3)) (leb g.symbols (length y / 6)) f
  by_file (Err r) = refl

  -- THE ANSWER of admit by the survey is 01's.
  pub admit_is : (d : Outcome Surveyed) → d ≡ surveyed_of (check_file b) → admit_by d r s y ≡ surveyed_of (admit b (lent_in r s y))
  unfolding admit
  admit_is d e = ap (λ (d : Outcome Surveyed). admit_by d r s y) e ∙ by_file (check_file b)

  -- ---- start

  by_answer : (o : Outcome File) → admit b (lent_in r s y) ≡ o → start_by (surveyed_of o) b r s y ≡ start_of o r s y
  unfolding start_by
  by_answer (Ok f) e = ap (λ (q : Tables). ready (counted_f q)) (fill_law b r s y f e) ∙ ap ready (counted_law b r s y f e)
  by_answer (Err r) e = refl

  -- THE ANSWER of start by admit's is 01's.
  pub start_is : (d : Outcome Surveyed) → d ≡ surveyed_of (admit b (lent_in r s y)) → start_by d b r s y ≡ start_f b r s y
  unfolding start_f
  start_is d e = ap (λ (d : Outcome Surveyed). start_by d b r s y) e ∙ by_answer (admit b (lent_in r s y)) refl
