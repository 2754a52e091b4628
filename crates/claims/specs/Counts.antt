-- How often symbols are named, in the tables and in the written bytes (02, request 7).
-- Assumes nothing.
use Rattle.std.specs.Prelude.{Ok, ◌≡◌, List, ℕ, ◌-◌, ◌≤◌, eqb, length}
use Rattle.std.proofs.Common.{ap, ◌∙◌, arith}
use Rattle.meaning.specs.Numbers.Tag
use Rattle.meaning.specs.Mentions.{mentions}
use Rattle.meaning.specs.File.{File, written}
use Rattle.meaning.specs.Reading.{read_file}
use Rattle.meaning.specs.Walk.{Spot, visits, start, tree_at, store_at}
use Rattle.meaning.specs.ImportLine.{completed, visit_calls}
use Rattle.meaning.specs.Charges.{final_figures}
use Rattle.meaning.specs.Lowering.{admit, lowered_file}
use Rattle.spec_laws.specs.Trees.{Bytes}
use Rattle.spec_laws.specs.Calls.{calls_are}
use Rattle.charge_laws.proofs.Fit.Import.{calls_above}
use Rattle.bound_laws.specs.MentionsFit.{mentions_fit}
use Rattle.tables.specs.Table.{counts_at}
use Rattle.mentions.specs.Sums.{counts_from}
use Rattle.start.specs.Start.{lent_in}
use Rattle.start.specs.Filled.{admitted}
use Rattle.representation.specs.Shown.Shown.{counts_in}
use Rattle.simulation.proofs.Visits.{at_spot}
use Rattle.simulation.proofs.Counted.{counts_shown}
use Rattle.simulation.proofs.Started.{zeros_before, placed, calls_after_start}
use Rattle.readback_laws.specs.ReadBack.{fields_of, field_count}
use Rattle.readback_laws.proofs.ReadBack.{counts_back}
use Rattle.readback_laws.specs.Counted.{mentions_in, counts_said}
use Rattle.readback_laws.proofs.Counted.{counts_said_lem}
use Rattle.renumbering_laws.specs.Final.{lowered_tagged}
use Rattle.claims.specs.Calls.{after_calls}

-- ---- what is claimed

-- of any account of the counts of the symbol rows after k calls: each is how often the records of the tree name that row
abbrev pub TrueCounts : (ℕ → File → List ℕ) → File → ℕ → Type 0
TrueCounts shown f k =
    let s = visit_calls k (start f) in
    shown k f ≡ counts_from (λ y. mentions y (tree_at s)) (length (store_at s).symbols) 1

-- of any bytes: the fifth number of each symbol row is how often the records in these bytes name it
abbrev pub TrueInBytes : List ℕ → Type 0
TrueInBytes bytes =
    let fields = fields_of bytes in
    counts_said fields ≡ counts_from (λ y. mentions_in y fields) (field_count (λ t. eqb t Tag.Symbol) fields) 1

-- ---- the tables

module _ (bytes r s y : List ℕ) (f : File) (e : admit bytes (lent_in r s y) ≡ Ok f) where
  read : read_file bytes ≡ Ok f
  read = (admitted bytes r s y f e).0

  module _ (k : ℕ) where
    abbrev spot : Spot
    spot = completed (visits k (start f))

    few : length (store_at spot).symbols ≤ (final_figures f).symbols
    few = omega (arith, at_spot spot, calls_above bytes f read k)

    counted : length (store_at spot).symbols ≤ length y - counts_at y
    unfolding counts_at lent_in
    counted = omega (arith, few, (admitted bytes r s y f e).3)

    pub counts_in_tables : TrueCounts (λ k f. counts_in (after_calls k f r s y)) f k
    counts_in_tables =
        rw (calls_are k f)
        (ap counts_in (calls_after_start bytes r s y f e k)
        ∙ counts_shown (final_figures f) (zeros_before f r s y) (length y - counts_at y) spot (placed bytes r s y f e) few counted)

  -- ---- the written file

  pub counts_in_bytes : Bytes bytes → TrueInBytes (written (lowered_file f))
  counts_in_bytes b =
      let tagged = lowered_tagged bytes f (admitted bytes r s y f e).0 b in
      rw (counts_back (lowered_file f) tagged).2 (counts_said_lem (lowered_file f) tagged)

-- ---- 16 bits

pub calls_mentions_fit : (bytes : List ℕ) (f : File) (k y : ℕ) → read_file bytes ≡ Ok f → 1 ≤ y
    → mentions y (tree_at (visit_calls k (start f))) ≤ 65535
calls_mentions_fit bytes f k y e l = rw (calls_are k f) (mentions_fit bytes f k y e l)
