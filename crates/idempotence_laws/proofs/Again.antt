-- WHAT LOWERING WRITES, where it can be read, is left as it is by a second lowering.
-- Assumes nothing.
use Rattle.std.specs.Prelude.{Ok, ◌≡◌, List, ℕ, ◌*◌, length}
use Rattle.std.proofs.Common.{sym, subst, ◌∙◌}
use Rattle.std.proofs.Math.Path.{ap}
use Rattle.meaning.specs.File.{File, written}
use Rattle.meaning.specs.Reading.{read_file}
use Rattle.meaning.specs.Renumbering.{named_scopes, new_number, renumbered}
use Rattle.meaning.specs.Walk.{is_over, start, visits, file_at}
use Rattle.meaning.specs.ImportLine.{completed}
use Rattle.meaning.specs.Charges.{final_figures}
use Rattle.meaning.specs.Lowering.{final_spot, lowered_file}
use Rattle.spec_laws.specs.Trees.{Bytes}
use Rattle.bound_laws.specs.Last.{last_spot_lem, last_over}
use Rattle.hint_laws.proofs.Lowered.Quiet.{AllQuiet}
use Rattle.hint_laws.proofs.Lowered.Visits.{completed_quiet}
use Rattle.readback_laws.specs.Decoded.{tree_in}
use Rattle.readback_laws.proofs.Back.{plain, tree_back}
use Rattle.readback_laws.proofs.Written.{file_written}
use Rattle.readback_laws.proofs.Accepted.{tree_read}
use Rattle.agreement_laws.specs.Agreed.{read_agrees}
use Rattle.renumbering_laws.specs.Order.{up_from, up_length}
use Rattle.renumbering_laws.specs.Named.{named_length}
use Rattle.renumbering_laws.specs.Files.{already_ordered}
use Rattle.renumbering_laws.specs.Final.{lowered_tagged, lowered_childless, lowered_bytes, lowered_order}
use Rattle.idempotence_laws.proofs.Quiet.{quiet_file, quiet_figures}
use Rattle.idempotence_laws.proofs.QuietHeads.{plain_quiet, numbered_quiet}
use Rattle.idempotence_laws.specs.Fields.{field_figures, read_figures}
use Rattle.idempotence_laws.proofs.Scopes.{symbol_scopes}

-- a file read, and the file read from what its lowering writes
module _ (b : List ℕ) (f : File) (bytes : Bytes b) (read : read_file b ≡ Ok f) where
  abbrev lowered : File
  lowered = lowered_file f

  abbrev n : ℕ
  n = 2 * (final_figures f).records

  final_spot_lem : final_spot f ≡ completed (visits n (start f))
  unfolding final_spot
  final_spot_lem = ap completed (last_spot_lem f)

  -- no using is left
  final_quiet : AllQuiet (file_at (final_spot f)).tree
  unfolding file_at
  final_quiet = rw final_spot_lem (completed_quiet b f n read (ap is_over (sym (last_spot_lem f)) ∙ last_over b f read))

  lowered_quiet : AllQuiet lowered.tree
  unfolding lowered_file renumbered
  lowered_quiet = let tree = (file_at (final_spot f)).tree in numbered_quiet (new_number (named_scopes tree)) tree final_quiet

  module _ (g : File) (again : read_file (written lowered) ≡ Ok g) where
    -- the tree that is read is the lowered one as it is written
    tree_is : tree_in (written lowered) ≡ g.tree
    tree_is = tree_read (written lowered) g (lowered_bytes b f read bytes) again

    same_tree : g.tree ≡ plain lowered.tree
    same_tree = sym tree_is ∙ tree_back lowered (lowered_tagged b f read bytes) (lowered_childless b f read)

    read_quiet : AllQuiet g.tree
    read_quiet = subst AllQuiet (sym same_tree) (plain_quiet lowered.tree lowered_quiet)

    -- its scopes stand in tree order
    ordered : named_scopes g.tree ≡ up_from 1 (length g.scopes)
    ordered =
        let order = sym (ap named_scopes tree_is) ∙ lowered_order b f read bytes in
        let rows = sym (up_length 1 (final_figures f).scopes) ∙ sym (ap length order) ∙ named_length g.scopes g.tree (read_agrees (written lowered) g again) in
        order ∙ ap (up_from 1) rows

    -- so it is what its own lowering leaves
    pub again_file : lowered_file g ≡ g
    unfolding lowered_file
    again_file =
        ap renumbered (quiet_file (written lowered) g again read_quiet)
        ∙ already_ordered g (read_agrees (written lowered) g again) ordered (symbol_scopes (written lowered) g again)

    -- THE SECOND LOWERING writes the bytes that it reads,
    pub again_written : written (lowered_file g) ≡ written lowered
    again_written = ap written again_file ∙ file_written (written lowered) g (lowered_bytes b f read bytes) again

    -- and its figures are the counts of their fields, and no context.
    pub again_figures : final_figures g ≡ field_figures (written lowered)
    again_figures = quiet_figures (written lowered) g again read_quiet ∙ read_figures (written lowered) g (lowered_bytes b f read bytes) again
