-- Why a file is refused, and the numbers of the reasons (01, "Who can be refused, and for what").
-- Assumes nothing.
use Rattle.std.specs.Prelude.{ℕ, Result, Err}
use Rattle.meaning.specs.declared.Reason.{Reason}
use Rattle.meaning.specs.declared.Reason.TheVariants as Reason
use Rattle.meaning.specs.declared.Refusal.{Refusal}

abbrev pub number_of : Reason → ℕ
number_of Reason.TooLong = 1
number_of Reason.Cut = 2
number_of Reason.WrongTag = 3
number_of Reason.WrongLength = 4
number_of Reason.WrongNumber = 5
number_of Reason.TooDeep = 6
number_of Reason.BytesBehind = 7
number_of Reason.InlineContext = 8
number_of Reason.FewRows = 9
number_of Reason.ShortOutput = 10

abbrev pub refusal : Reason → ℕ → Refusal
refusal c p = record { reason = c; place = p }

-- ---- an answer, or a refusal

abbrev pub Outcome : Type 0 → Type 0
Outcome A = Result A Refusal

abbrev pub refused : {A : Type 0} → Reason → ℕ → Outcome A
refused c p = Err (refusal c p)
