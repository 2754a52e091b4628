-- What `desk_lower` answers and leaves, in numbers.
-- Assumes nothing.
use Rattle.std.specs.Prelude.{ℕ, List}
use Rattle.lowering.specs.Lower.{Finished}
use Rattle.lowering.specs.Answers.{lowered_numbers}

-- an answer, the tables and the output
pub record Finishes : Type 0 where
  pub answer : List ℕ
  pub records : List ℕ
  pub scopes : List ℕ
  pub symbols : List ℕ
  pub out : List ℕ

abbrev pub finished : List ℕ → List ℕ → List ℕ → List ℕ → List ℕ → Finishes
finished a r s y o = record { answer = a; records = r; scopes = s; symbols = y; out = o }

abbrev pub finished_numbers : Finished → Finishes
finished_numbers f = finished (lowered_numbers f.answer) f.records f.scopes f.symbols f.out
