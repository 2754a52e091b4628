-- The figures of a file by its bytes alone: what a reader of its fields counts, and no context.
-- Assumes nothing.
use Rattle.std.specs.Prelude.{Ok, ◌≡◌, List, ℕ, length, eqb}
use Rattle.std.proofs.Common.{ap, ◌∙◌, arith}
use Rattle.meaning.specs.Numbers.Tag
use Rattle.meaning.specs.File.{File, written}
use Rattle.meaning.specs.Reading.{read_file}
use Rattle.meaning.specs.Charges.{Figures, figures, figures_in}
use Rattle.spec_laws.specs.Trees.{Bytes}
use Rattle.spec_laws.specs.Figures.{figures_same}
use Rattle.readback_laws.specs.ReadBack.{fields_of, field_count, is_record}
use Rattle.readback_laws.proofs.ReadBack.{counts_back}
use Rattle.readback_laws.proofs.Length.{tagged_length}
use Rattle.readback_laws.proofs.Written.{file_written}
use Rattle.readback_laws.proofs.Accepted.{read_tagged}

-- records, scope rows, symbol rows, no context, and the length
unfoldable pub field_figures : List ℕ → Figures
field_figures bytes =
    let fields = fields_of bytes in
    figures (field_count is_record fields) (field_count (λ t. eqb t Tag.Scope) fields) (field_count (λ t. eqb t Tag.Symbol) fields) 0 (length bytes)

-- Those of an accepted file are its counts as read.
pub read_figures : (b : List ℕ) (f : File) → Bytes b → read_file b ≡ Ok f → figures_in f ≡ field_figures b
unfolding field_figures figures_in
read_figures b f bytes e =
    let tagged = read_tagged b f bytes e in
    figures_same (figures_in f) (field_figures (written f)) (omega (arith, counts_back f tagged, tagged_length f tagged))
    ∙ ap field_figures (file_written b f bytes e)
