-- Lowering a file: the refusals 8, 9 and 10, or the file as written.
-- Assumes nothing.
use Rattle.meaning.specs.Refusals.{Outcome}
use Rattle.std.specs.Prelude.{Ok, List, not, ◌&&◌, ℕ, ◌*◌, eqb, leb}
use Rattle.meaning.specs.Numbers.Mode
use Rattle.meaning.specs.declared.Reason.TheVariants as Reason
use Rattle.meaning.specs.File.{File, written}
use Rattle.meaning.specs.Reading.{◌>>=◌, ◌>>◌, ensure, read_file}
use Rattle.meaning.specs.Renumbering.{renumbered}
use Rattle.meaning.specs.Walk.{Spot, start, visits, file_at}
use Rattle.meaning.specs.ImportLine.{completed}
use Rattle.meaning.specs.Charges.{Figures, final_figures}

-- the rows that are lent
pub record Lent : Type 0 where
  pub records : ℕ
  pub scopes : ℕ
  pub symbols : ℕ

-- 8: inline with a context to make
unfoldable pub check_mode : File → Outcome (Unit {0})
check_mode f = ensure (not (eqb f.mode Mode.Inline && leb 1 (final_figures f).contexts)) Reason.InlineContext 0

-- 9: too few rows, the first short
unfoldable pub check_rows : Lent → Figures → Outcome (Unit {0})
check_rows lent g = do
  ensure (leb g.records lent.records) Reason.FewRows 0
  ensure (leb g.scopes lent.scopes) Reason.FewRows 1
  ensure (leb g.symbols lent.symbols) Reason.FewRows 2

-- 10: output shorter than the file to write
unfoldable pub check_output : ℕ → Figures → Outcome (Unit {0})
check_output out g = ensure (leb g.bytes out) Reason.ShortOutput out

-- a file that passes the checks up to 8
unfoldable pub check_file : List ℕ → Outcome File
check_file bytes = do
  f ← read_file bytes
  check_mode f
  Ok f

-- what figures alone answer
unfoldable pub figures_of : List ℕ → Outcome Figures
figures_of bytes = do
  f ← check_file bytes
  Ok (final_figures f)

-- up to 9
unfoldable pub admit : List ℕ → Lent → Outcome File
admit bytes lent = do
  f ← check_file bytes
  check_rows lent (final_figures f)
  Ok f

-- up to 10
unfoldable pub admit_output : List ℕ → Lent → ℕ → Outcome File
admit_output bytes lent out = do
  f ← admit bytes lent
  check_output out (final_figures f)
  Ok f

-- where the last visit leaves the walk: a record is entered once, and a StaticBlock left once
unfoldable pub last_spot : File → Spot
last_spot f = visits (2 * (final_figures f).records) (start f)

-- where the last call leaves it: with the import line, if it is due (02, request 1)
unfoldable pub final_spot : File → Spot
final_spot f = completed (last_spot f)

-- the file to write: what the last call leaves, its scopes numbered in tree order (02, request 9)
unfoldable pub lowered_file : File → File
lowered_file f = renumbered (file_at (final_spot f))

-- what an accepted lowering writes and answers; `bytes` is the length
pub record Written : Type 0 where
  pub file : List ℕ
  pub figures : Figures

unfoldable pub lower : List ℕ → Lent → ℕ → Outcome Written
lower bytes lent out = do
  f ← admit_output bytes lent out
  Ok (record { file = written (lowered_file f); figures = final_figures f })
