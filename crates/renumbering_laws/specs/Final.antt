-- THE FILE THAT LOWERING WRITES: what the last call for a visit leaves, its scopes numbered in tree order.
-- Assumes nothing.
use Rattle.std.specs.Prelude.{Ok, ◌≡◌, List, ℕ, ◌+◌, ◌*◌, length}
use Rattle.std.proofs.Math.Path.{ap}
use Rattle.std.proofs.Common.{◌∙◌}
use native.Mathlib.Omega.{arith}
use Rattle.meaning.specs.File.{File, written}
use Rattle.meaning.specs.Reading.{read_file}
use Rattle.meaning.specs.Agreement.{ScopesAgree}
use Rattle.meaning.specs.Renumbering.{named_scopes, new_number, renumbered}
use Rattle.meaning.specs.Walk.{visits, start, file_at}
use Rattle.meaning.specs.ImportLine.{completed}
use Rattle.meaning.specs.Charges.{Figures, figures_in, figures_at, final_figures}
use Rattle.meaning.specs.Lowering.{final_spot, lowered_file}
use Rattle.spec_laws.specs.Trees.{Bytes}
use Rattle.charge_laws.proofs.Totals.Fits.{accepted_fits}
use Rattle.bound_laws.specs.Last.{last_spot_lem, final_figures_lem}
use Rattle.hint_laws.specs.Hints.{given}
use Rattle.readback_laws.specs.ReadBack.{fields_of, field_count, Tagged}
use Rattle.readback_laws.proofs.Length.{tagged_length}
use Rattle.readback_laws.specs.Decoded.{tree_in}
use Rattle.readback_laws.proofs.Back.{Childless, tree_back, hints_back}
use Rattle.readback_laws.proofs.Childless.{calls_childless}
use Rattle.readback_laws.proofs.Written.{file_written}
use Rattle.readback_laws.proofs.Accepted.{calls_tagged}
use Rattle.readback_laws.proofs.InBytes.{Small, small_bytes, calls_small}
use Rattle.readback_laws.specs.Loads.Written.{is_load}
use Rattle.readback_laws.proofs.Loads.Written.{final_loads, loads_back}
use Rattle.agreement_laws.specs.Agreed.{calls_scopes_agree}
use Rattle.renumbering_laws.specs.Order.{up_from}
use Rattle.renumbering_laws.specs.Trees.{plain_named, renumbered_tagged, renumbered_childless, renumbered_loads, renumbered_gives}
use Rattle.renumbering_laws.specs.Files.{renumbered_figures, renumbered_small, in_order}

module _ (b : List ℕ) (f : File) (read : read_file b ≡ Ok f) where
  abbrev left : File
  left = file_at (final_spot f)

  abbrev n : ℕ
  n = 2 * (final_figures f).records

  final_spot_lem : final_spot f ≡ completed (visits n (start f))
  unfolding final_spot
  final_spot_lem = ap completed (last_spot_lem f)

  -- ---- what the last call leaves

  pub final_agrees : ScopesAgree left.scopes left.tree
  unfolding file_at
  final_agrees = rw final_spot_lem (calls_scopes_agree b f n read)

  final_childless : Childless left.tree
  unfolding file_at
  final_childless = rw final_spot_lem (calls_childless b f n read)

  pub final_scopes : length left.scopes ≡ (final_figures f).scopes
  unfolding figures_at figures_in
  final_scopes = omega (arith, ap (λ (x : Figures). x.scopes) (final_figures_lem b f read))

  -- ---- what is written

  pub lowered_childless : Childless (lowered_file f).tree
  unfolding lowered_file renumbered
  lowered_childless = renumbered_childless (new_number (named_scopes left.tree)) left.tree final_childless

  -- THE FIGURES of what is written are those of what is left,
  pub lowered_figures : figures_in (lowered_file f) ≡ figures_in left
  unfolding lowered_file
  lowered_figures = renumbered_figures left final_agrees

  -- and the Loads too.
  lowered_loads : field_count is_load (fields_of (written (lowered_file f))) ≡ field_count is_load (fields_of (written f)) + (final_figures f).contexts
  unfolding lowered_file renumbered file_at
  lowered_loads =
      omega (
        arith,
        loads_back (lowered_file f),
        renumbered_loads (new_number (named_scopes left.tree)) left.tree,
        final_loads b f read,
        loads_back f,
      )

  module _ (bytes : Bytes b) where
    pub final_tagged : Tagged left.tree
    unfolding file_at
    final_tagged = rw final_spot_lem (calls_tagged b f n bytes read)

    pub lowered_tagged : Tagged (lowered_file f).tree
    unfolding lowered_file renumbered
    lowered_tagged = renumbered_tagged (new_number (named_scopes left.tree)) left.tree final_tagged

    -- THE LENGTH of the file written is the figure.
    pub lowered_length : length (written (lowered_file f)) ≡ (final_figures f).bytes
    unfolding figures_at
    lowered_length =
        tagged_length (lowered_file f) lowered_tagged
        ∙ ap (λ (x : Figures). x.bytes) lowered_figures
        ∙ omega (arith, ap (λ (x : Figures). x.bytes) (final_figures_lem b f read))

    -- IT IS WRITTEN IN BYTES.
    pub lowered_bytes : Bytes (written (lowered_file f))
    unfolding lowered_file
    lowered_bytes =
        let small : Small left = rw final_spot_lem (calls_small b f n bytes read) in
        small_bytes (lowered_file f) (renumbered_small left final_agrees (omega (arith, final_scopes, accepted_fits b f read)) small)

    -- IN TREE ORDER: the tree that the written bytes say names the scopes 1, 2, 3 and so on, as many as there are.
    pub lowered_order : named_scopes (tree_in (written (lowered_file f))) ≡ up_from 1 (final_figures f).scopes
    unfolding lowered_file
    lowered_order =
        ap named_scopes (tree_back (lowered_file f) lowered_tagged lowered_childless)
        ∙ plain_named (lowered_file f).tree
        ∙ in_order left final_agrees
        ∙ ap (up_from 1) final_scopes

    -- THE CONTEXTS ARE COUNTED in the written bytes.
    pub loads_written : field_count is_load (fields_of (written (lowered_file f))) ≡ field_count is_load (fields_of b) + (final_figures f).contexts
    loads_written = lowered_loads ∙ ap (λ (x : List ℕ). field_count is_load (fields_of x) + (final_figures f).contexts) (file_written b f bytes read)

    -- THE HINTS of the written bytes are those of the tree that is left.
    pub lowered_gives : (w : List ℕ → List ℕ → ℕ → ℕ) (k : ℕ) → given w k (tree_in (written (lowered_file f))) ≡ given w k left.tree
    unfolding lowered_file renumbered
    lowered_gives w k =
        hints_back w k (lowered_file f) lowered_tagged lowered_childless
        ∙ renumbered_gives (new_number (named_scopes left.tree)) w k left.tree
