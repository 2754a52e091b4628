-- Lowering twice (02, request 14): what lowering writes, where it can be read, comes out of a second lowering unchanged.
-- Assumes nothing.
use Rattle.meaning.specs.declared.Reason.TheVariants as Reason
use Rattle.meaning.specs.declared.Reason.{Reason}
use Rattle.meaning.specs.Refusals.{Outcome, refused}
use Rattle.std.specs.Prelude.{Err, Ok, ◌≡◌, Bool, true, false, ℕ, ◌≤◌, ◌<◌, length, take, drop}
use Rattle.std.proofs.Common.{sym, ◌∙◌, ⊎_elim, take_at}
use Rattle.std.proofs.Math.Path.{ap}
use mathlib.Core.List.{List}
use Rattle.meaning.specs.Numbers.Mode
use Rattle.meaning.specs.File.{File, written}
use Rattle.meaning.specs.Reading.{read_file}
use Rattle.meaning.specs.Charges.{final_figures}
use Rattle.meaning.specs.Lowering.{admit, lowered_file, Written, lower}
use Rattle.spec_laws.specs.Tags.{clash}
use Rattle.spec_laws.specs.Trees.{Bytes}
use Rattle.figures.specs.Figures.{shown_figures}
use Rattle.figures.specs.declared.FinalFigures.{FinalFigures}
use Rattle.start.specs.Start.{lent_in}
use Rattle.start.specs.Filled.{admitted}
use Rattle.lowering.specs.Lower.{Finished, finished, zeros_for, written_over, lower_of, lower_f}
use Rattle.renumbering_laws.specs.Final.{lowered_length}
use Rattle.idempotence_laws.specs.Fields.{field_figures}
use Rattle.claims.specs.Refusals.Small.{Enough, Short, first_short, lower_total}

-- ---- what is claimed

-- a lowering as it is called: the file, the three tables and the output; what it answers and leaves
abbrev pub Run : Type 0
Run = List ℕ → List ℕ → List ℕ → List ℕ → List ℕ → Finished

-- A call was accepted, and this file stands at the front of its output, as long as the answer says.
abbrev pub Wrote : Run → List ℕ → List ℕ → List ℕ → List ℕ → List ℕ → List ℕ → Type 0
Wrote run bytes r s y o file =
    let left = run bytes r s y o in
    (x : FinalFigures) × (left.answer ≡ Ok x) × (file ≡ take x.bytes left.out)

-- THE FILE IS LOWERED TO ITSELF. Its own figures are the counts of its fields, no context, and its length (`field_figures`).
pub record ToItself (run : Run) (file : List ℕ) : Type 0 where
  -- with rows and output enough it is written byte for byte, and the answer is its own figures; the tables are 0, and the output behind the
  -- file is as it was
  pub same : (r s y o : List ℕ) → Enough (lent_in r s y) (field_figures file) → length file ≤ length o
      → run file r s y o
      ≡ finished (Ok (shown_figures (field_figures file))) (zeros_for r) (zeros_for s) (zeros_for y) (written_over file o)
  -- with too few rows it is refused with 9, at the first that is short,
  pub few_rows : (r s y o : List ℕ) → Short (lent_in r s y) (field_figures file)
      → run file r s y o ≡ finished (refused Reason.FewRows (first_short (lent_in r s y) (field_figures file))) r s y o
  -- and with rows enough and too short an output with 10, at the output's length
  pub short_output : (r s y o : List ℕ) → Enough (lent_in r s y) (field_figures file) → length o < length file
      → run file r s y o ≡ finished (refused Reason.ShortOutput (length o)) r s y o

-- Every file that the lowering wrote, and reading accepts, is lowered to itself.
abbrev pub LowersTwice : Run → Type 0
LowersTwice run =
    (bytes r s y o file : List ℕ) (g : File) → Bytes bytes → Wrote run bytes r s y o file → read_file file ≡ Ok g → ToItself run file

-- ---- the first lowering

abbrev pub is_written : Outcome FinalFigures → Bool
is_written (Ok x) = true
is_written (Err r) = false

abbrev pub length_said : Outcome FinalFigures → ℕ
length_said (Ok x) = x.bytes
length_said (Err r) = 0

-- what it wrote
pub wrote_file : (b r s y o file : List ℕ) (f : File) → Bytes b → admit b (lent_in r s y) ≡ Ok f
    → lower b (lent_in r s y) (length o) ≡ Ok (record { file = written (lowered_file f); figures = final_figures f })
    → Wrote lower_f b r s y o file → file ≡ written (lowered_file f)
unfolding lower_f
wrote_file b r s y o file f bytes e w (x, answer, front) =
    let lowered = written (lowered_file f) in
    let left : lower_f b r s y o ≡ lower_of (Ok (record { file = lowered; figures = final_figures f })) r s y o =
    ap (λ (a : Outcome Written). lower_of a r s y o) w in
    let said : x.bytes ≡ (final_figures f).bytes =
    sym (ap length_said answer) ∙ ap (λ (l : Finished). length_said l.answer) left in
    front
    ∙ ap (λ (n : ℕ). take n (lower_f b r s y o).out) said
    ∙ ap (λ (l : Finished). take (final_figures f).bytes l.out) left
    ∙ take_at lowered (drop (length lowered) o) (final_figures f).bytes (lowered_length b f (admitted b r s y f e).0 bytes)

pub never_wrote : (b r s y o file : List ℕ) (c : Reason) (p : ℕ) → lower b (lent_in r s y) (length o) ≡ refused c p → Wrote lower_f b r s y o file → ⊥
unfolding lower_f
never_wrote b r s y o file c p e (x, answer, front) =
    clash (ap (λ (a : Outcome Written). is_written (lower_of a r s y o).answer) e) (ap is_written answer)

-- WHAT IT WROTE is the lowered file.
pub wrote_lowered : (b r s y o file : List ℕ) → Bytes b → Wrote lower_f b r s y o file
    → (f : File) × (read_file b ≡ Ok f) × (file ≡ written (lowered_file f))
wrote_lowered b r s y o file bytes wrote =
    ⊎_elim
    (λ (f, e, long, w). (f, (admitted b r s y f e).0, wrote_file b r s y o file f bytes e w wrote))
    (λ (c, p, e). absurd (never_wrote b r s y o file c p e wrote))
    (lower_total b (lent_in r s y) (length o))

-- ---- with the memory of the first

-- rows and output are enough for the file: it has no more fields and no more bytes
abbrev pub Suffices : List ℕ → List ℕ → List ℕ → List ℕ → List ℕ → Type 0
Suffices r s y o file = Enough (lent_in r s y) (field_figures file) × (length file ≤ length o)
