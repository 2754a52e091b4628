-- What lower answers and leaves in the lent memory.
-- Assumes nothing.
use Rattle.meaning.specs.Refusals.{Outcome, refused}
use Rattle.std.specs.Prelude.{Ok, Err, List, ◌++◌, ℕ, length, drop, replicate}
use Rattle.meaning.specs.Lowering.{Written, lower}
use Rattle.figures.specs.declared.FinalFigures.{FinalFigures}
use Rattle.figures.specs.Figures.{shown_figures}
use Rattle.start.specs.Start.{lent_in}

-- the answer, the tables and the output
pub record Finished : Type 0 where
  pub answer : Outcome FinalFigures
  pub records : List ℕ
  pub scopes : List ℕ
  pub symbols : List ℕ
  pub out : List ℕ

abbrev pub finished : Outcome FinalFigures → List ℕ → List ℕ → List ℕ → List ℕ → Finished
finished a r s y o = record { answer = a; records = r; scopes = s; symbols = y; out = o }

-- as many zeros
abbrev pub zeros_for : List ℕ → List ℕ
zeros_for t = replicate (length t) 0

-- a file at the front of the output, and the rest as it was
abbrev pub written_over : List ℕ → List ℕ → List ℕ
written_over file out = file ++ drop (length file) out

-- the file is written and the tables are 0; a refusal changes nothing
abbrev pub lower_of : Outcome Written → List ℕ → List ℕ → List ℕ → List ℕ → Finished
lower_of (Ok w) r s y o =
    finished (Ok (shown_figures w.figures)) (zeros_for r) (zeros_for s) (zeros_for y) (written_over w.file o)
lower_of (Err why) r s y o = finished (Err why) r s y o

-- THE LOWERING CALL is 01's lowering, with the rows and the output that are lent.
unfoldable pub lower_f : List ℕ → List ℕ → List ℕ → List ℕ → List ℕ → Finished
lower_f bytes r s y o = lower_of (lower bytes (lent_in r s y) (length o)) r s y o
