-- WHAT IS CLAIMED, second part: refusal 9, where the import line stands, and the second lowering. They stand here because they rest on a
-- definition that a must-fail edit turns; specs/Claims.antt says what the names are.
-- Assumes nothing.
use Rattle.meaning.specs.Refusals.{refused}
use Rattle.meaning.specs.declared.Reason.TheVariants as Reason
use Rattle.std.specs.Prelude.{Ok, ◌≡◌, List, ℕ, ◌≤◌, length}
use Rattle.meaning.specs.Numbers.Tag
use Rattle.meaning.specs.Tree.{more}
use Rattle.meaning.specs.File.{File, written}
use Rattle.meaning.specs.Reading.{read_file}
use Rattle.meaning.specs.Charges.{final_figures}
use Rattle.meaning.specs.Lowering.{Lent, check_file, lower}
use Rattle.spec_laws.specs.Trees.{Bytes}
use Rattle.figures.specs.Figures.{shown_figures}
use Rattle.idempotence_laws.specs.Fields.{field_figures}
use Rattle.claims.specs.Twice.{Wrote, LowersTwice}
use Rattle.claims.proofs.Twice.{lowering_twice, lowering_again}
use Rattle.claims.specs.Refusals.Small.{Short, first_short}
use Rattle.claims.proofs.Refusals.Small.{small_refused, refused_small}
use Rattle.lowering.specs.Lower.{finished, zeros_for, written_over, lower_f}
use Rattle.claims.specs.Import.{ImportLine, calls, import_stands}

-- ---- refusal 9

-- REFUSAL 9 EXACTLY. Whatever file and tables are handed in: if the checks before it are passed and a final figure is above the rows lent,
-- lowering is refused with 9, the place being the first that is short;
pub small_tables : (bytes : List ℕ) (lent : Lent) (out : ℕ) (f : File) → check_file bytes ≡ Ok f → Short lent (final_figures f)
    → lower bytes lent out ≡ refused Reason.FewRows (first_short lent (final_figures f))
small_tables = small_refused

-- and if it is refused with 9, the checks before it are passed and a final figure is above the rows lent.
pub only_small_tables : (bytes : List ℕ) (lent : Lent) (out p : ℕ) → lower bytes lent out ≡ refused Reason.FewRows p
    → (f : File) × (check_file bytes ≡ Ok f) × Short lent (final_figures f) × (p ≡ first_short lent (final_figures f))
only_small_tables = refused_small

-- ---- REQUEST 1 of document 02: the import line

-- When it stands, what it is, and that it stands once, after any number of calls for a visit of an accepted file's walk. What it charges,
-- and that tables, figures and written file show it, is said by `demand_3`.
pub import_line_lem : (bytes : List ℕ) (f : File) (k : ℕ) → read_file bytes ≡ Ok f → ImportLine calls f k
import_line_lem = import_stands

-- ---- REQUEST 14 of document 02: lowering twice

-- What lowering writes comes out of a second lowering unchanged to the last byte, wherever it can be read. (With more than 64 levels or 65,535 bytes
-- by now, reading refuses it.) The answer has the counts of the file's own fields, no context, and its length. Where rows or output are too few
-- for these, and only there, it is refused, with 9 or 10 (`ToItself`). Each byte of the first file is at most 255, as in every `&[u8]`.
pub lowers_to_itself : LowersTwice lower_f
lowers_to_itself = lowering_twice

-- As much memory as the first lowering had is enough.
pub lowers_again : (bytes r s y o file : List ℕ) (g : File) → Bytes bytes → Wrote lower_f bytes r s y o file → read_file file ≡ Ok g
    → (r' s' y' o' : List ℕ) → length r ≤ length r' → length s ≤ length s' → length y ≤ length y' → length o ≤ length o'
    → lower_f file r' s' y' o'
    ≡ finished (Ok (shown_figures (field_figures file))) (zeros_for r') (zeros_for s') (zeros_for y') (written_over file o')
lowers_again = lowering_again
