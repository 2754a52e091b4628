-- The charge of each call for a visit, on the files of the tables.
-- Assumes nothing.
use Rattle.meaning.specs.Refusals.{Outcome, refused}
use Rattle.std.specs.Prelude.{Ok, Err, ◌≡◌, refl, List, [], ◌∷◌, ◌++◌, map, ℕ, zero, suc, ◌*◌, length}
use Rattle.meaning.specs.File.{File}
use Rattle.meaning.specs.Reading.{read_file}
use Rattle.meaning.specs.Walk.{Spot, visit, start}
use Rattle.meaning.specs.ImportLine.{visit_call}
use Rattle.meaning.specs.Charges.{Figures, ◌⊕◌, total, figures_in, figures_at, final_figures}
use Rattle.meaning.specs.Due.{due, dues, import_dues}
use Rattle.meaning.specs.Lowering.{final_spot}
use Rattle.meaning.specs.Computing.{computing}
use Rattle.meaning.specs.Examples.{nested}
use Rattle.cases.specs.Table.{table}
use Rattle.cases.specs.TableImport.{import_table}

-- the figures after each of n calls, counted
unfoldable pub counted : ℕ → Spot → List Figures
counted zero s = []
counted (suc n) s = figures_at (visit_call s) ∷ counted n (visit_call s)

-- those before and the charges so far: of each visit, and of the import line after the last
unfoldable pub charged : ℕ → Spot → Figures → List Figures
charged zero s g = []
charged (suc n) s g =
    let now = g ⊕ total (due s ++ import_dues (visit s)) in
    now ∷ charged n (visit s) now

-- how many visits a walk has
abbrev pub visits_of : File → ℕ
visits_of f = length (dues (2 * (final_figures f).records) (start f))

-- the same for a whole walk, and at its end
abbrev pub walk_counted : Outcome File → List Figures
walk_counted (Err r) = []
walk_counted (Ok f) = figures_at (final_spot f) ∷ counted (visits_of f) (start f)

abbrev pub walk_charged : Outcome File → List Figures
walk_charged (Err r) = []
walk_charged (Ok f) = final_figures f ∷ charged (visits_of f) (start f) (figures_in f)

-- each call adds its charge, and the last leaves the final figures
pub visits_hold
    : map (λ c. walk_counted (read_file c.input)) (table ++ import_table) ≡ map (λ c. walk_charged (read_file c.input)) (table ++ import_table)
unfolding table import_table nested counted charged computing
visits_hold = refl
