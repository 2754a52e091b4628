-- What the tables show after any number of calls for a visit, and what the written file shows.
-- Assumes nothing.
use Rattle.std.specs.Prelude.{Ok, ◌≡◌, true, List, ◌++◌, ℕ, ◌+◌, ◌≤◌, eqb, leb, length}
use Rattle.std.proofs.Common.{sym, ◌∙◌}
use Rattle.std.proofs.Math.Path.{ap}
use native.Mathlib.Omega.{arith}
use Rattle.meaning.specs.Numbers.Tag
use Rattle.meaning.specs.Tree.{size, flatten}
use Rattle.meaning.specs.File.{File, written}
use Rattle.meaning.specs.Reading.{read_file}
use Rattle.meaning.specs.Walk.{Spot, is_over, visits, start, tree_at, store_at, file_at}
use Rattle.meaning.specs.ImportLine.{completed, visit_calls}
use Rattle.meaning.specs.Charges.{Line, Figures, ◌⊕◌, total, figures_in, figures_at, walk_figures, import_lines, final_figures}
use Rattle.meaning.specs.Due.{dues, import_dues}
use Rattle.meaning.specs.Lowering.{admit, final_spot, lowered_file}
use Rattle.spec_laws.specs.Figures.{figures_same, total_++}
use Rattle.spec_laws.specs.Trees.{Bytes}
use Rattle.spec_laws.specs.Calls.{completed_over, calls_are}
use Rattle.charge_laws.specs.VisitCharges.{visit_charges}
use Rattle.charge_laws.specs.Counts.Figures.{joined}
use Rattle.charge_laws.proofs.Fit.Ends.{walk_ends}
use Rattle.charge_laws.proofs.Fit.Final.{charges_final}
use Rattle.charge_laws.proofs.Fit.Import.{calls_charged, calls_above}
use Rattle.tables.specs.Loops.{turns}
use Rattle.path.specs.Path.{Tables}
use Rattle.representation.specs.Spots.Spots.{held}
use Rattle.start.specs.Start.{lent_in, free_rows, counts_behind}
use Rattle.start.specs.Filled.{admitted}
use Rattle.walk.specs.Call.{visit_call_f}
use Rattle.walk.specs.Over.{is_over_in}
use Rattle.simulation.proofs.Visit.{over_told_lem}
use Rattle.simulation.proofs.Visits.{at_spot}
use Rattle.simulation.proofs.Started.{calls_after_start}
use Rattle.bound_laws.specs.Last.{final_figures_lem, final_is}
use Rattle.readback_laws.specs.ReadBack.{fields_of, field_count, is_record}
use Rattle.readback_laws.proofs.ReadBack.{counts_back}
use Rattle.representation.specs.Shown.Shown.{records_in, scopes_in, symbols_in}
use Rattle.representation.proofs.Shown.Held.{held_records, held_scopes, held_symbols, flatten_size}
use Rattle.renumbering_laws.specs.Final.{lowered_tagged, lowered_figures}

-- the tables that start leaves of an admitted file, and those after k calls for a visit, each on exactly what the one before left
abbrev pub first_tables : File → List ℕ → List ℕ → List ℕ → Tables
first_tables f r s y = held (start f) (free_rows f) (counts_behind f r s y)

abbrev pub after_calls : ℕ → File → List ℕ → List ℕ → List ℕ → Tables
after_calls k f r s y = turns k visit_call_f (first_tables f r s y)

-- the charges for k calls: those of the visits made, and the import line's from the last one on
abbrev pub charges_of : ℕ → File → Figures
charges_of k f = total (joined (dues k (start f)) ++ import_dues (visits k (start f)))

-- that of the import line, by the source
abbrev pub import_charge : File → List Line
import_charge f = import_lines f.mode f.is_module (walk_figures f)

module _ (bytes r s y : List ℕ) (f : File) (e : admit bytes (lent_in r s y) ≡ Ok f) where
  read : read_file bytes ≡ Ok f
  read = (admitted bytes r s y f e).0

  -- all charges together are the final figures
  pub final_charged : final_figures f ≡ figures_in f ⊕ total (joined (visit_charges f) ++ import_charge f)
  unfolding final_figures
  final_charged =
      ap (λ (x : Figures). x ⊕ total (import_charge f)) (sym (charges_final bytes f read))
      ∙ figures_same _ _ (omega (arith, total_++ (joined (visit_charges f)) (import_charge f)))

  module _ (k : ℕ) where
    abbrev spot : Spot
    spot = completed (visits k (start f))

    abbrev after : Tables
    after = after_calls k f r s y

    stands : visit_calls k (start f) ≡ spot
    stands = calls_are k f

    -- ---- the tree, the scopes and the symbols

    pub calls_tree : records_in after ≡ flatten (tree_at (visit_calls k (start f)))
    calls_tree = rw stands (ap records_in (calls_after_start bytes r s y f e k) ∙ held_records spot _ _)

    pub calls_scopes : scopes_in after ≡ (store_at (visit_calls k (start f))).scopes
    calls_scopes = rw stands (ap scopes_in (calls_after_start bytes r s y f e k) ∙ held_scopes spot _ _)

    pub calls_symbols : symbols_in after ≡ (store_at (visit_calls k (start f))).symbols
    calls_symbols = rw stands (ap symbols_in (calls_after_start bytes r s y f e k) ∙ held_symbols spot _ _)

    -- ---- the end

    pub calls_over : is_over_in after ≡ is_over (visit_calls k (start f))
    calls_over = rw stands (ap is_over_in (calls_after_start bytes r s y f e k) ∙ over_told_lem spot _ _)

    pub calls_end : is_over (visit_calls k (start f)) ≡ leb (length (visit_charges f)) k
    calls_end = rw stands (completed_over (visits k (start f)) ∙ walk_ends bytes f k read)

    pub calls_last : is_over (visit_calls k (start f)) ≡ true → visit_calls k (start f) ≡ final_spot f
    calls_last o = final_is bytes f k read (sym (completed_over (visits k (start f))) ∙ ap is_over (sym stands) ∙ o)

    -- ---- how many there are

    lengths : (length (records_in after) ≡ (figures_at spot).records) × (length (scopes_in after) ≡ (figures_at spot).scopes)
        × (length (symbols_in after) ≡ (figures_at spot).symbols)
    lengths =
        omega (
          arith,
          at_spot spot,
          rw stands at (ap length calls_tree),
          flatten_size (tree_at spot),
          rw stands at (ap length calls_scopes),
          rw stands at (ap length calls_symbols),
        )

    charged : figures_at spot ≡ figures_in f ⊕ charges_of k f
    charged = calls_charged bytes f read k

    pub calls_count : (length (records_in after) ≡ size f.tree + (charges_of k f).records)
        × (length (scopes_in after) ≡ length f.scopes + (charges_of k f).scopes)
        × (length (symbols_in after) ≡ length f.symbols + (charges_of k f).symbols)
    unfolding figures_in
    calls_count =
        omega (
          arith,
          lengths,
          ap (λ (x : Figures). x.records) charged,
          ap (λ (x : Figures). x.scopes) charged,
          ap (λ (x : Figures). x.symbols) charged,
        )

    pub calls_most : (length (records_in after) ≤ (final_figures f).records) × (length (scopes_in after) ≤ (final_figures f).scopes)
        × (length (symbols_in after) ≤ (final_figures f).symbols)
    calls_most = omega (arith, lengths, calls_above bytes f read k)

  -- ---- the written file

  module _ (b : Bytes bytes) where
    abbrev fields : List Rattle.readback_laws.specs.ReadBack.Read
    fields = fields_of (written (lowered_file f))

    pub file_shows : (field_count is_record fields ≡ (final_figures f).records) × (field_count (λ t. eqb t Tag.Scope) fields ≡ (final_figures f).scopes)
        × (field_count (λ t. eqb t Tag.Symbol) fields ≡ (final_figures f).symbols) × ((store_at (final_spot f)).contexts ≡ (final_figures f).contexts)
    unfolding file_at figures_in
    file_shows =
        let figures_are = final_figures_lem bytes f read in
        let kept = lowered_figures bytes f read in
        let counted = counts_back (lowered_file f) (lowered_tagged bytes f read b) in
        let shown = at_spot (final_spot f) in
        let r_is = ap (λ (x : Figures). x.records) figures_are in
        let s_is = ap (λ (x : Figures). x.scopes) figures_are in
        let y_is = ap (λ (x : Figures). x.symbols) figures_are in
        let c_is = ap (λ (x : Figures). x.contexts) figures_are in (
          counted.0 ∙ ap (λ (x : Figures). x.records) kept ∙ omega (arith, shown, r_is),
          counted.1 ∙ ap (λ (x : Figures). x.scopes) kept ∙ omega (arith, shown, s_is),
          counted.2 ∙ ap (λ (x : Figures). x.symbols) kept ∙ omega (arith, shown, y_is),
          omega (arith, shown, c_is),
        )
