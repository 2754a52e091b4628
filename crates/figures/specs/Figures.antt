-- 01's figures of a file, from its settings, its rows and the tally of its tree.
-- Assumes nothing.
use Rattle.meaning.specs.declared.Reason.TheVariants as Reason
use Rattle.meaning.specs.Refusals.{Outcome, refused}
use Rattle.std.specs.Prelude.{Ok, Err, if◌then◌else◌, not, ◌&&◌, ℕ, ◌+◌, ◌*◌, eqb, leb}
use Rattle.meaning.specs.Numbers.Mode
use Rattle.meaning.specs.File.{settings_bytes, scope_bytes, symbol_bytes}
use Rattle.meaning.specs.Charges.{Figures, import_bytes}
use Rattle.figures.specs.Tally.{import_records, tally_figures}
use Rattle.figures.specs.declared.tally.Tally.{Tally}
use Rattle.figures.specs.declared.FinalFigures.{FinalFigures}

-- no part of a sum is larger: a counter has 32 bits, and few are added
abbrev pub most_part : ℕ
most_part = 2000000000000

-- the runtime helper, once, if there is a context
unfoldable pub helper_f : ℕ → ℕ → ℕ
helper_f mode contexts = if eqb mode Mode.Runtime && not (eqb contexts 0) then 1 else 0

-- its import, in a module
unfoldable pub import_f : ℕ → ℕ → ℕ → ℕ
import_f mode esm contexts = if eqb esm 1 then helper_f mode contexts else 0

unfoldable pub final_f : ℕ → ℕ → ℕ → ℕ → Tally → FinalFigures
final_f mode esm scopes symbols t =
    let g = tally_figures t in
    let h = helper_f mode g.contexts in
    let i = import_f mode esm g.contexts in
    record {
      records = g.records + import_records * i;
      scopes = scopes + g.scopes;
      symbols = symbols + g.symbols + h;
      contexts = g.contexts;
      bytes = settings_bytes + scope_bytes * scopes + symbol_bytes * symbols + g.bytes + symbol_bytes * h + import_bytes * i;
    }

-- 8: inline with a context to make
unfoldable pub figured_f : ℕ → ℕ → ℕ → ℕ → Tally → Outcome FinalFigures
figured_f mode esm scopes symbols t =
    if eqb mode Mode.Inline && leb 1 (tally_figures t).contexts then refused Reason.InlineContext 0 else Ok (final_f mode esm scopes symbols t)

-- what the code answers: the figures, or the refusal
abbrev pub shown_figures : Figures → FinalFigures
shown_figures g =
    record { records = g.records; scopes = g.scopes; symbols = g.symbols; contexts = g.contexts; bytes = g.bytes }

abbrev pub figured_of : Outcome Figures → Outcome FinalFigures
figured_of (Ok g) = Ok (shown_figures g)
figured_of (Err r) = Err r
