-- ANSWERS IN 01'S NUMBERS. For each case of what a public call answers: the refusal's number or 0, its place, then records, scopes, symbols,
-- contexts and bytes of the lowered file. What an answer does not tell is 0. Those of `lower` are in crates/lowering (`Answers`).
-- Assumes nothing.
use Rattle.meaning.specs.Refusals.{Outcome, number_of}
use Rattle.std.specs.Prelude.{Ok, Err, ◌≡◌, refl, List, [], ◌∷◌, ℕ}
use Rattle.meaning.specs.File.{File}
use Rattle.meaning.specs.Charges.{Figures}
use Rattle.figures.specs.declared.FinalFigures.{FinalFigures}
use Rattle.figures.specs.Figures.{figured_of}
use Rattle.checking.specs.Flat.{checked_of}
use Rattle.path.specs.declared.Walk.{Walk}
use Rattle.start.specs.Start.{start_of}

-- ---- what the calls answer

abbrev pub refusal_numbers : ℕ → ℕ → List ℕ
refusal_numbers c p = c ∷ p ∷ 0 ∷ 0 ∷ 0 ∷ 0 ∷ 0 ∷ []

abbrev pub fine_numbers : List ℕ
fine_numbers = refusal_numbers 0 0

abbrev pub figures_numbers : FinalFigures → List ℕ
figures_numbers g = 0 ∷ 0 ∷ g.records ∷ g.scopes ∷ g.symbols ∷ g.contexts ∷ g.bytes ∷ []

abbrev pub checked_numbers : Outcome (Unit {0}) → List ℕ
checked_numbers (Ok a) = fine_numbers
checked_numbers (Err r) = refusal_numbers (number_of r.reason) r.place

abbrev pub figured_numbers : Outcome FinalFigures → List ℕ
figured_numbers (Ok g) = figures_numbers g
figured_numbers (Err r) = refusal_numbers (number_of r.reason) r.place

abbrev pub started_numbers : Outcome Walk → List ℕ
started_numbers (Ok w) = fine_numbers
started_numbers (Err r) = refusal_numbers (number_of r.reason) r.place

-- ---- what 01 answers, in the same numbers

-- a refusal's, or 0, 0 and the figures
abbrev pub outcome_numbers : {A : Type 0} → (A → Figures) → Outcome A → List ℕ
outcome_numbers given (Ok a) =
    let g = given a in
    0 ∷ 0 ∷ g.records ∷ g.scopes ∷ g.symbols ∷ g.contexts ∷ g.bytes ∷ []
outcome_numbers given (Err r) = refusal_numbers (number_of r.reason) r.place

-- 0 and 0 alone
abbrev pub plain_numbers : {A : Type 0} → Outcome A → List ℕ
plain_numbers (Ok a) = fine_numbers
plain_numbers (Err r) = refusal_numbers (number_of r.reason) r.place

-- ---- they are the same

pub checked_numbers_lem : {A : Type 0} (o : Outcome A) → checked_numbers (checked_of o) ≡ plain_numbers o
checked_numbers_lem (Ok a) = refl
checked_numbers_lem (Err r) = refl

pub figured_numbers_lem : (o : Outcome Figures) → figured_numbers (figured_of o) ≡ outcome_numbers (λ g. g) o
figured_numbers_lem (Ok g) = refl
figured_numbers_lem (Err r) = refl

pub started_numbers_lem : (o : Outcome File) (r s y : List ℕ) → started_numbers (start_of o r s y).answer ≡ plain_numbers o
started_numbers_lem (Ok f) r s y = refl
started_numbers_lem (Err why) r s y = refl
