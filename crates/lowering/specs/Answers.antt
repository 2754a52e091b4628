-- What `lower` answers in 01's numbers (crates/desk_numbers has those of the other calls).
-- Assumes nothing.
use Rattle.figures.specs.declared.FinalFigures.{FinalFigures}
use Rattle.meaning.specs.Refusals.{Outcome, number_of}
use Rattle.std.specs.Prelude.{Ok, Err, ◌≡◌, refl, List, ℕ}
use Rattle.meaning.specs.Lowering.{Written}
use Rattle.desk_numbers.specs.Answers.{refusal_numbers, figures_numbers, outcome_numbers}
use Rattle.lowering.specs.Lower.{lower_of}

abbrev pub lowered_numbers : Outcome FinalFigures → List ℕ
lowered_numbers (Ok g) = figures_numbers g
lowered_numbers (Err r) = refusal_numbers (number_of r.reason) r.place

-- it is 01's
pub lowered_numbers_lem : (a : Outcome Written) (r s y o : List ℕ) → lowered_numbers (lower_of a r s y o).answer ≡ outcome_numbers (λ w. w.figures) a
lowered_numbers_lem (Ok w) r s y o = refl
lowered_numbers_lem (Err why) r s y o = refl
