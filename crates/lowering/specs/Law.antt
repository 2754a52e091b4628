-- What the code computes is 01's lowering.
-- Assumes nothing.
use Rattle.meaning.specs.declared.Reason.TheVariants as Reason
use Rattle.std.specs.Prelude.{Ok, Err, if◌then◌else◌, ◌≡◌, Bool, ℕ, ◌+◌, ◌*◌, ◌-◌, ◌/◌, ◌≤◌, min, leb}
use Rattle.std.proofs.Math.Path.{refl, ap}
use Rattle.std.proofs.Common.{sym, ◌∙◌, leb-true}
use Rattle.std.proofs.Math.Bool.{true, false}
use mathlib.Core.List.{List, []}
use native.Mathlib.Omega.{arith}
use Rattle.std.proofs.Math.ListN.{length, replicate}
use Rattle.std.proofs.lemmas.List.{length-replicate}
use Rattle.std.proofs.Math.Seq.{sets}
use Rattle.meaning.specs.Mentions.{mentions}
use Rattle.meaning.specs.File.{File, written}
use Rattle.meaning.specs.Reading.{◌>>=◌, ◌>>◌, ensure, read_file}
use Rattle.meaning.specs.Walk.{Spot, at, leaving, over, is_over, tree_at, store_at, file_at}
use Rattle.meaning.specs.Charges.{Figures, final_figures}
use Rattle.meaning.specs.Lowering.{Lent, check_output, admit, admit_output, last_spot, final_spot, lowered_file, Written, lower}
use Rattle.meaning.specs.Agreement.{ScopesAgree}
use Rattle.meaning.specs.Renumbering.{renumbered}
use Rattle.spec_laws.specs.Tags.{clash}
use Rattle.charge_laws.proofs.Totals.Fits.{accepted_fits}
use Rattle.spec_laws.specs.Trees.{Bytes}
use Rattle.bound_laws.specs.MentionsFit.{mentions_fit}
use Rattle.figures.specs.Figures.{shown_figures}
use Rattle.meaning.specs.Refusals.{Outcome, refused}
use Rattle.checking.specs.declared.Surveyed.{Surveyed}
use Rattle.checking.specs.Survey.{layout_of, fine, surveyed_of}
use Rattle.tables.specs.Columns.ScopeTable
use Rattle.tables.specs.Table.{counts_at}
use Rattle.mentions.specs.Counters.{add_record_f, add_rows_f}
use Rattle.mentions.specs.Sums.{heads_of, counts_from, from_at, counts_length, counted_tree}
use Rattle.representation.specs.Spots.Spots.{visited_at, Rest, walk_at, held}
use Rattle.representation.proofs.Counts.Rows.{heads_length}
use Rattle.representation.proofs.Counts.Heads.{open_heads, over_stands}
use Rattle.representation.proofs.Counts.Held.{visited_rows}
use Rattle.start.specs.Start.{lent_in}
use Rattle.start.specs.Flat.{fill_f}
use Rattle.start.specs.Filled.{admitted, fill_law}
use Rattle.scoping_laws.specs.Created.Held.{free_scopes}
use Rattle.simulation.proofs.Visits.{held_in, at_spot}
use Rattle.simulation.proofs.Calls.{complete_holds}
use Rattle.simulation.proofs.Counted.{Placed, with_in, counted_in, on_counts_lem, count_shown}
use Rattle.simulation.proofs.Started.{zeros_after, zeros_before, visits_after_start, uncounted, placed}
use Rattle.writing.specs.Stored.{sets_front}
use Rattle.bound_laws.specs.Last.{last_spot_lem, last_over, final_over, final_figures_lem}
use Rattle.charge_laws.proofs.Fit.Import.{some_records}
use Rattle.path.specs.Path.{Tables, tables}
use Rattle.import_line.specs.Import.{complete_in}
use Rattle.readback_laws.specs.ReadBack.{Tagged}
use Rattle.renumbering_laws.specs.Final.{final_agrees, final_tagged, lowered_length}
use Rattle.lowering.specs.Lower.{finished, zeros_for, written_over, lower_of, lower_f}
use Rattle.walk.specs.Over.{until_over}
use Rattle.lowering.specs.Flat.{admit_by, run_f, count_visited_f, bytes_in, finish_f, lower_by}
use Rattle.lowering.specs.Bytes.{held_bytes}

-- ---- the bytes at the end

-- the tables at the end of a walk, with the counts of its tree and zeros behind as many scope rows as it takes
over_bytes : (x : Figures) (z : Rest) (n m : ℕ) (s : Spot) → is_over s ≡ true → Tagged (tree_at s) → ScopesAgree (store_at s).scopes (tree_at s)
    → Placed x z n → length (store_at s).symbols ≤ x.symbols → length (store_at s).symbols ≤ n
    → length (store_at s).scopes ≡ x.scopes → z.scopes ≡ replicate m 0 → x.scopes ≤ (ScopeTable.Numbers * x.scopes + m) / ScopeTable.Lent
    → bytes_in (counted_in x z n s) ≡ written (renumbered (file_at s))
unfolding is_over tree_at store_at bytes_in free_scopes
over_bytes x z n m (over tree st) o t a placed most few all zeros room =
    let s = over tree st in
    let counts = counts_from (λ y. mentions y tree) n 1 in
    let none_free : x.scopes - length st.scopes ≡ 0 = omega (arith, all) in
    held_bytes tree st _ _ m t a (rw none_free zeros) (rw (← all) at room)
    (λ k l.
    count_shown x z n s placed most counts (counts_length (λ y. mentions y tree) n 1) k ∙ from_at (λ y. mentions y tree) n 1 k (omega arith))
over_bytes x z n m (at d h k r p st) o t a placed most few all zeros room = absurd (clash refl o)
over_bytes x z n m (leaving k h d r p st) o t a placed most few all zeros room = absurd (clash refl o)

-- all rows are the tree's
over_rows : (s : Spot) (g : ℕ) (z : Rest) (n : ℕ) → is_over s ≡ true → ((y : ℕ) → 1 ≤ y → mentions y (tree_at s) ≤ 65535)
    → let q = held s g z in
    add_rows_f q.records 0 q.walk.visited.0 (replicate n 0) ≡ counts_from (λ y. mentions y (tree_at s)) n 1
unfolding is_over tree_at add_rows_f held walk_at open_heads
over_rows (over tree st) g z n o fits =
    let s = over tree st in
    let stands = (over_stands tree st).visited in
    let all_rows : length (visited_at s) ≡ length (heads_of tree) = sym (heads_length (visited_at s)) ∙ ap length stands in
    visited_rows add_record_f s g z [] (heads_of tree) (replicate n 0) 0 _ stands (omega arith) (omega arith) ∙ counted_tree tree n fits
over_rows (at d h k r p st) g z n o fits = absurd (clash refl o)
over_rows (leaving k h d r p st) g z n o fits = absurd (clash refl o)

module _ (b r s y : List ℕ) (f : File) (bytes : Bytes b) (e : admit b (lent_in r s y) ≡ Ok f) where
  abbrev x : Figures
  x = final_figures f

  abbrev n : ℕ
  n = 2 * x.records

  read : read_file b ≡ Ok f
  read = (admitted b r s y f e).0

  small : min x.records 65535 ≡ x.records
  small = omega (arith, accepted_fits b f read)

  -- the tables after all visits
  walked : run_f n (fill_f b (layout_of f) x.records r s y) ≡ held_in x (zeros_after f r s y) (last_spot f)
  unfolding run_f
  walked =
      ap (run_f n) (rw small at (fill_law b r s y f e))
      ∙ until_over n _
      ∙ visits_after_start b r s y f e n
      ∙ ap (held_in x (zeros_after f r s y)) (sym (last_spot_lem f))

  -- with the import line
  completed_tables : complete_in (held_in x (zeros_after f r s y) (last_spot f)) ≡ held_in x (zeros_after f r s y) (final_spot f)
  unfolding final_spot
  completed_tables =
      complete_holds x (zeros_after f r s y) (accepted_fits b f read).0 (last_spot f) (last_over b f read)
      (rw (last_spot_lem f) (some_records b f read n))
      (omega (arith, at_spot (final_spot f), ap (λ (v : Figures). v.records) (final_figures_lem b f read)))

  -- ---- the counts

  -- each fits
  final_mentions : (v : ℕ) → 1 ≤ v → mentions v (tree_at (final_spot f)) ≤ 65535
  unfolding final_spot
  final_mentions v some = rw (last_spot_lem f) (mentions_fit b f n v read some)

  all_symbols : length (store_at (final_spot f)).symbols ≡ x.symbols
  all_symbols = omega (arith, at_spot (final_spot f), ap (λ (v : Figures). v.symbols) (final_figures_lem b f read))

  few : length (store_at (final_spot f)).symbols ≤ length y - counts_at y
  unfolding lent_in counts_at
  few = omega (arith, all_symbols, (admitted b r s y f e).3)

  -- THE TABLES, COUNTED ONCE, are those that keep their counts at every visit.
  counted_tables : count_visited_f (held_in x (zeros_after f r s y) (final_spot f))
      ≡ counted_in x (zeros_before f r s y) (length y - counts_at y) (final_spot f)
  unfolding count_visited_f held
  counted_tables =
      let spot = final_spot f in
      let z = zeros_before f r s y in
      let n = length y - counts_at y in
      let zeros = replicate {A = ℕ} n 0 in
      let q = with_in x z n zeros spot in
      let most : length (store_at spot).symbols ≤ x.symbols = omega (arith, all_symbols) in
      ap count_visited_f (uncounted b r s y f e spot)
      ∙ ap (λ (t : List ℕ). tables q.records q.scopes t q.walk)
      (on_counts_lem x z n (add_rows_f q.records 0 q.walk.visited.0) zeros spot (placed b r s y f e) most (length-replicate n 0)
      ∙ ap (λ (c : List ℕ). (with_in x z n c spot).symbols) (over_rows spot _ z n (final_over b f read) final_mentions))

  -- ---- the scope rows

  all_scopes : length (store_at (final_spot f)).scopes ≡ x.scopes
  all_scopes = omega (arith, at_spot (final_spot f), ap (λ (v : Figures). v.scopes) (final_figures_lem b f read))

  scopes_lent : x.scopes ≤ (ScopeTable.Numbers * x.scopes + (length s - ScopeTable.Numbers * x.scopes)) / ScopeTable.Lent
  unfolding lent_in
  scopes_lent =
      let fits = (admitted b r s y f e).2 in
      let whole : ScopeTable.Numbers * x.scopes + (length s - ScopeTable.Numbers * x.scopes) ≡ length s = omega arith in
      rw whole fits

  -- the file at the front of the output
  finish_is : (o : List ℕ) → x.bytes ≤ length o
      → finish_f (run_f (2 * min x.records 65535) (fill_f b (layout_of f) (min x.records 65535) r s y)) o
      ≡ written_over (written (lowered_file f)) o
  unfolding finish_f lowered_file file_at
  finish_is o fits =
      rw small
      (ap (λ (q : Tables). sets o 0 (bytes_in (count_visited_f (complete_in q)))) walked
      ∙ ap (λ (q : Tables). sets o 0 (bytes_in (count_visited_f q))) completed_tables
      ∙ ap (λ (q : Tables). sets o 0 (bytes_in q)) counted_tables
      ∙ ap (sets o 0)
      (over_bytes x (zeros_before f r s y) (length y - counts_at y) (length s - ScopeTable.Numbers * x.scopes) (final_spot f) (final_over b f read)
      (final_tagged b f read bytes) (final_agrees b f read) (placed b r s y f e) (omega (arith, all_symbols)) few all_scopes refl scopes_lent)
      ∙ sets_front (written (lowered_file f)) o (omega (arith, lowered_length b f read bytes)))

-- ---- the answer

-- 10, by its test
long_enough : (f : File) (o : ℕ) (c : Bool)
    → (if c then fine (layout_of f) (shown_figures (final_figures f)) else refused Reason.ShortOutput o) ≡ surveyed_of (ensure c Reason.ShortOutput o >> Ok f)
long_enough f o true = refl
long_enough f o false = refl

by_start : (o : List ℕ) (a : Outcome File)
    → admit_by (surveyed_of a) o ≡ surveyed_of (a >>= (λ f. check_output (length o) (final_figures f) >> Ok f))
unfolding admit_by check_output
by_start o (Ok f) = long_enough f (length o) (leb (final_figures f).bytes (length o))
by_start o (Err r) = refl

-- THE ANSWER of admission with the output, by that of start, is 01's.
pub admit_output_is : (b : List ℕ) (lent : Lent) (o : List ℕ) (d : Outcome Surveyed) → d ≡ surveyed_of (admit b lent)
    → admit_by d o ≡ surveyed_of (admit_output b lent (length o))
unfolding admit_output
admit_output_is b lent o d e = ap (λ (d : Outcome Surveyed). admit_by d o) e ∙ by_start o (admit b lent)

module _ (b r s y o : List ℕ) (bytes : Bytes b) where
  -- what is written of a file
  abbrev of_file : Outcome File → Outcome Written
  of_file a = a >>= (λ f. Ok (record { file = written (lowered_file f); figures = final_figures f }))

  by_output : (f : File) (c : Bool) → leb (final_figures f).bytes (length o) ≡ c → admit b (lent_in r s y) ≡ Ok f
      → lower_by (surveyed_of (ensure c Reason.ShortOutput (length o) >> Ok f)) b r s y o ≡ lower_of (of_file (ensure c Reason.ShortOutput (length o) >> Ok f)) r s y o
  unfolding lower_by
  by_output f true c e =
      ap (finished (Ok (shown_figures (final_figures f))) (zeros_for r) (zeros_for s) (zeros_for y))
      (finish_is b r s y f bytes e o (leb-true _ _ c))
  by_output f false c e = refl

  by_admission : (a : Outcome File) → admit b (lent_in r s y) ≡ a
      → let admitted = a >>= (λ f. check_output (length o) (final_figures f) >> Ok f) in
      lower_by (surveyed_of admitted) b r s y o ≡ lower_of (of_file admitted) r s y o
  unfolding lower_by check_output
  by_admission (Ok f) e = by_output f (leb (final_figures f).bytes (length o)) refl e
  by_admission (Err r) e = refl

  -- THE ANSWER by that of admission is 01's lowering.
  pub lower_is : (d : Outcome Surveyed) → d ≡ surveyed_of (admit_output b (lent_in r s y) (length o)) → lower_by d b r s y o ≡ lower_f b r s y o
  unfolding lower_f lower admit_output
  lower_is d e = ap (λ (d : Outcome Surveyed). lower_by d b r s y o) e ∙ by_admission (admit b (lent_in r s y)) refl
