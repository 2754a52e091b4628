-- What a survey answers.
-- Assumes nothing.
use Rattle.meaning.specs.Refusals.{Outcome}
use Rattle.std.specs.Prelude.{Ok, Err, ◌+◌, ◌*◌, length}
use Rattle.meaning.specs.Tree.{size}
use Rattle.meaning.specs.File.{File, settings_bytes, scope_bytes, symbol_bytes}
use Rattle.meaning.specs.Charges.{final_figures}
use Rattle.figures.specs.Figures.{shown_figures}
use Rattle.figures.specs.declared.FinalFigures.{FinalFigures}
use Rattle.checking.specs.declared.Layout.{Layout}
use Rattle.checking.specs.declared.Surveyed.{Surveyed}

-- THE LAYOUT of a file: what it has, and where in its bytes
abbrev pub layout_of : File → Layout
layout_of f =
    record {
      mode = f.mode;
      esm = f.is_module;
      scopes = length f.scopes;
      symbols = length f.symbols;
      records = size f.tree;
      first = settings_bytes + scope_bytes * length f.scopes;
      tree = settings_bytes + scope_bytes * length f.scopes + symbol_bytes * length f.symbols;
    }

-- a file that passes some checks, with its layout and its final figures
abbrev pub fine : Layout → FinalFigures → Outcome Surveyed
fine l g = Ok (record { layout = l; figures = g })

abbrev pub surveyed_of : Outcome File → Outcome Surveyed
surveyed_of (Ok f) = fine (layout_of f) (shown_figures (final_figures f))
surveyed_of (Err r) = Err r

abbrev pub with_figures : Layout → Outcome FinalFigures → Outcome Surveyed
with_figures l (Ok g) = fine l g
with_figures l (Err r) = Err r
