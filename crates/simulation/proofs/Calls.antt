-- Calls for visits on tables are 01's: the import line is put where 01 puts it (02, request 1).
-- Assumes nothing.
use Rattle.std.specs.Prelude.{Ok, if◌then◌else◌, ◌≡◌, Bool, length}
use Rattle.std.proofs.Math.Path.{refl, sym, ap}
use Rattle.std.proofs.Common.{◌∙◌}
use Rattle.std.proofs.Math.Bool.{true, false}
use mathlib.Core.List.{List, [], ◌∷◌, ◌++◌, append-nil}
use Prim.Native.Nat.{ℕ, zero, suc, ◌+◌, ◌-◌, ◌≤◌, ◌<◌}
use native.Mathlib.Omega.{arith}
use Rattle.meaning.specs.Numbers.Tag
use Rattle.meaning.specs.Numbers.LineForm
use Rattle.meaning.specs.Numbers.KnownName
use Rattle.meaning.specs.Tree.{Head, hd, Forest, none, more, count, size, ◌&◌}
use Rattle.meaning.specs.Mentions.{mentions}
use Rattle.meaning.specs.File.{File}
use Rattle.meaning.specs.Scoping.{Store}
use Rattle.meaning.specs.Reading.{read_file}
use Rattle.meaning.specs.Walk.{Spot, at, leaving, over, is_over, visits, start, tree_at, store_at}
use Rattle.meaning.specs.ImportLine.{import_due, with_import, completed}
use Rattle.meaning.specs.Charges.{Figures, final_figures}
use Rattle.spec_laws.specs.Tags.{clash}
use Rattle.spec_laws.specs.Bools.{one_less}
use Rattle.spec_laws.specs.Trees.{count_size, visits_last}
use Rattle.spec_laws.specs.Calls.{completed_over, not_yet, start_complete}
use Rattle.charge_laws.proofs.Totals.Fits.{accepted_fits}
use Rattle.charge_laws.proofs.Counts.Left.{over_stays_lem}
use Rattle.bound_laws.specs.MentionsFit.{visits_mentions_fit, mentions_fit}
use Rattle.charge_laws.proofs.Fit.Final.{never_above}
use Rattle.charge_laws.proofs.Fit.Import.{line_grows, some_records, calls_above}
use Rattle.tables.specs.Loops.{turns}
use Rattle.tables.specs.Table.{capped, cap_one, column_f, set_column_f}
use Rattle.tables.specs.Stream.{Buf, emit_f, take_back_f}
use Rattle.tables.specs.declared.Row.{Row}
use Rattle.mentions.specs.Counters.{add_record_f, add_rows_f}
use Rattle.mentions.specs.Sums.{heads_of, named_by, all, all_length, record_added, added_at, whole_sum, counts_from, known_counts, count_at, counts_length}
use Rattle.path.specs.Path.{Tables, tables, on_records, with_cursor_f}
use Rattle.import_line.specs.Import.{import_due_f, count_child_f, write_import_f, add_import_f, complete_f, complete_in}
use Rattle.representation.specs.Gap.Cells.{table, free, line, rows_of, gapped, length_rows}
use Rattle.representation.proofs.Gap.Rows.{emit_gapped, take_back_gapped, turns_last}
use Rattle.representation.specs.Spots.Spots.{opens_at, visited_at, rest_at, Rest, walk_at, held}
use Rattle.representation.proofs.Spots.Lengths.{walk_eq}
use Rattle.representation.proofs.Counts.Heads.{open_heads, over_stands}
use Rattle.representation.proofs.Counts.Held.{with_counts, some_visited}
use Rattle.table_laws.specs.Lists.Plan.{cap_sum}
use Rattle.walk.specs.Over.{is_over_in}
use Rattle.walk.specs.Counted.{Counted, counted, visit_counted_f, complete_counted_f, complete_counted_in, complete_steps}
use Rattle.walk.specs.Call.{visit_call_f, over_unchanged, call_last, call_goes_on}
use Rattle.simulation.proofs.Visit.{over_told_lem}
use Rattle.simulation.proofs.Counted.{Placed, with_in, counted_in, on_counts_lem, visit_counted}
use Rattle.simulation.proofs.Visits.{held_in, at_spot, visit_holds}

-- ---- the line on tables

module _ (h : Head) (k r : Forest) (st : Store) (g : ℕ) (z : Rest) where
  -- the rows behind Program's
  abbrev behind : List Row
  behind = rows_of k ++ rows_of r

  -- Program's row with a child more, and the line's
  abbrev first : Row
  first = line h (suc (count k))

  abbrev import : Row
  import = line (hd Tag.ModuleLine LineForm.ImportHelper 0 0) 1

  abbrev named : Row
  named = line (hd Tag.Specifier st.helper KnownName.Default 0) 0

  abbrev rest : List ℕ
  rest = z.records

  count_law : count k < 65535
      → count_child_f (table (rows_of (more h k r) ++ (free (suc (suc g)) ++ [])) rest) ≡ table (first ∷ (behind ++ (free 2 ++ free g))) rest
  unfolding count_child_f table rows_of column_f set_column_f free
  count_law l =
      let n : capped (count k) 1 ≡ suc (count k) = cap_one (count k) l ∙ omega arith in
      rw (n, append-nil)

  back_law : take_back_f (suc (length behind) - 1) (record {
    t = table (first ∷ (behind ++ (free 2 ++ free g))) rest;
    read = suc (length behind) + 2;
    written = suc (length behind);
  })
      ≡ gapped rest (first ∷ []) 2 (behind ++ free g)
  unfolding gapped
  back_law = rw (one_less (length behind)) (take_back_gapped rest (first ∷ []) 2 behind (free g))

  write_law : (v : List Row) → (write_import_f st.helper (gapped rest (first ∷ []) 2 v)).t ≡ table (first ∷ import ∷ named ∷ v) rest
  unfolding write_import_f gapped free
  write_law v =
      ap (λ (b : Buf). (emit_f b named).t) (emit_gapped rest (first ∷ []) 1 v import (omega arith))
      ∙ ap (λ (b : Buf). b.t) (emit_gapped rest (first ∷ import ∷ []) 0 v named (omega arith))

  rows_are : table (first ∷ import ∷ named ∷ (behind ++ free g)) rest ≡ table (rows_of (with_import st.helper (more h k r)) ++ (free g ++ [])) rest
  unfolding with_import rows_of count ◌&◌
  rows_are = rw append-nil

  abbrev before : Tables
  before = held (over (more h k r) st) (suc (suc g)) z

  abbrev after : Tables
  after = held (over (with_import st.helper (more h k r)) st) g z

  few : size (more h k r) + 2 ≤ 65535 → count k < 65535
  unfolding size
  few fits = omega (arith, count_size k)

  streamed : (write_import_f st.helper (take_back_f (length (rows_of (more h k r)) - 1) (record {
    t = table (first ∷ (behind ++ (free 2 ++ free g))) rest;
    read = length (rows_of (more h k r)) + 2;
    written = length (rows_of (more h k r));
  }))).t
      ≡ table (first ∷ import ∷ named ∷ (behind ++ free g)) rest
  unfolding rows_of
  streamed = ap (λ (b : Buf). (write_import_f st.helper b).t) back_law ∙ write_law (behind ++ free g)

  -- the rows
  rows_law : size (more h k r) + 2 ≤ 65535 → (add_import_f (on_records before.records before.walk)).records ≡ after.records
  unfolding add_import_f held walk_at visited_at rest_at store_at
  rows_law fits =
      rw (cap_sum (length (rows_of (more h k r))) 2 (omega (arith, length_rows (more h k r))), count_law (few fits))
      (streamed ∙ rows_are)

  import_size : size (with_import st.helper (more h k r)) ≡ size (more h k r) + 2
  unfolding size
  import_size = (line_grows st.helper (more h k r) (omega arith)).0

  -- and the walk
  walk_law : size (more h k r) + 2 ≤ 65535 → (add_import_f (on_records before.records before.walk)).walk ≡ after.walk
  unfolding add_import_f held walk_at visited_at rest_at opens_at with_cursor_f store_at
  walk_law fits =
      let l = length_rows (more h k r) in
      let m = length_rows (with_import st.helper (more h k r)) in
      walk_eq (cap_sum (length (rows_of (more h k r))) 2 (omega arith) ∙ omega (arith, import_size))
      (omega (arith, import_size)) (omega (arith, import_size)) refl refl

  -- THE LINE IS PUT where 01 puts it
  import_law : size (more h k r) + 2 ≤ 65535 → import_due st ≡ true → complete_in before ≡ after
  unfolding complete_f import_due_f import_due held walk_at store_at
  import_law fits due = rw due (λ i. tables (rows_law fits i) after.scopes after.symbols (walk_law fits i))

-- and where it is not due nothing is put
no_import_law : (tree : Forest) (st : Store) (g : ℕ) (z : Rest) → import_due st ≡ false
    → complete_in (held (over tree st) g z) ≡ held (over tree st) g z
unfolding complete_f import_due_f import_due held walk_at store_at
no_import_law tree st g z due = rw due

-- ---- the end of the walk

module _ (x : Figures) (z : Rest) (small : x.records ≤ 65535) where
  by_due : (b : Bool) (h : Head) (k r : Forest) (st : Store) → import_due st ≡ b
      → (let after = over (if b then with_import st.helper (more h k r) else more h k r) st in
      size (tree_at after) ≤ x.records → complete_in (held_in x z (over (more h k r) st)) ≡ held_in x z after)
  unfolding tree_at store_at
  by_due true h k r st due most =
      let larger = import_size h k r st 0 z in
      let e : x.records - size (more h k r) ≡ suc (suc (x.records - size (with_import st.helper (more h k r)))) = omega (arith, most) in
      rw e (import_law h k r st _ _ (omega (arith, most)) due)
  by_due false h k r st due most = no_import_law (more h k r) st _ _ due

  pub complete_holds : (s : Spot) → is_over s ≡ true → 1 ≤ size (tree_at s) → size (tree_at (completed s)) ≤ x.records
      → complete_in (held_in x z s) ≡ held_in x z (completed s)
  unfolding completed is_over tree_at size
  complete_holds (over none st) o l most = absurd (omega arith)
  complete_holds (over (more h k r) st) o l most = by_due (import_due st) h k r st refl most
  complete_holds (at d h k r p st) o l most = absurd (clash refl o)
  complete_holds (leaving k h d r p st) o l most = absurd (clash refl o)

-- ---- with the counts of symbols (02, request 7)

module _ (h : Head) (k r : Forest) (y : ℕ) where
  abbrev line_heads : List Head
  line_heads = hd Tag.ModuleLine LineForm.ImportHelper 0 0 ∷ hd Tag.Specifier y KnownName.Default 0 ∷ []

  line_heads_lem : heads_of (with_import y (more h k r)) ≡ (h ∷ []) ++ (line_heads ++ (heads_of k ++ heads_of r))
  unfolding heads_of with_import ◌&◌
  line_heads_lem = refl

  line_mentions : (n : ℕ) → mentions n (with_import y (more h k r)) ≡ mentions n (more h k r) + named_by n line_heads
  unfolding mentions with_import ◌&◌ named_by
  line_mentions n = omega arith

module _ (x : Figures) (z : Rest) (n : ℕ) (small : x.records ≤ 65535) (placed : Placed x z n) where
  module _ (h : Head) (k r : Forest) (st : Store) (few : length st.symbols ≤ x.symbols) where
    abbrev now : Spot
    now = over (more h k r) st

    abbrev next : Spot
    next = over (with_import st.helper (more h k r)) st

    abbrev counts : List ℕ
    counts = counts_from (λ y. mentions y (more h k r)) n 1

    -- the line's rows
    line_added : (c : List ℕ) → add_rows_f (with_in x z n [] next).records 1 3 c ≡ all add_record_f c (line_heads h k r st.helper)
    unfolding add_rows_f tree_at open_heads
    line_added c =
        some_visited add_record_f next _ _ (h ∷ []) (line_heads h k r st.helper) (heads_of k ++ heads_of r) c 1 2
        ((over_stands (tree_at next) st).visited ∙ line_heads_lem h k r st.helper) refl refl

    line_counts : ((y : ℕ) → 1 ≤ y → mentions y (tree_at next) ≤ 65535)
        → all add_record_f counts (line_heads h k r st.helper) ≡ counts_from (λ y. mentions y (tree_at next)) n 1
    unfolding tree_at
    line_counts fits =
        let new = line_heads h k r st.helper in
        let l = counts_length (λ y. mentions y (more h k r)) n 1 in
        known_counts (λ y. mentions y (tree_at next)) n (all add_record_f counts new) (all_length add_record_f record_added counts new ∙ l)
        (λ y some in_table.
        let c = count_at (λ y. mentions y (more h k r)) n y some in_table in
        let m = line_mentions h k r st.helper y in
        whole_sum _ _ _ _ _ c (added_at y some counts new (omega arith) (omega (arith, fits y some))) m (fits y some))

    line_put : import_due st ≡ true → size (tree_at next) ≤ x.records → ((y : ℕ) → 1 ≤ y → mentions y (tree_at next) ≤ 65535)
        → complete_counted_in (counted_in x z n now) ≡ counted_in x z n next
    unfolding held walk_at store_at import_due_f import_due tree_at
    line_put due most fits =
        let before = counted_in x z n now in
        let after = with_in x z n counts next in
        let new = line_heads h k r st.helper in
        let put = by_due x (with_counts z counts) small true h k r st due most in
        let records = ap (λ (q : Tables). on_records q.records q.walk) put in
        let symbols =
        on_counts_lem x z n (add_rows_f after.records 1 3) counts now placed few (counts_length (λ y. mentions y (more h k r)) n 1)
        ∙ ap (λ (c : List ℕ). (with_in x z n c now).symbols) (line_added counts ∙ line_counts fits) in
        sym
        (ap (λ (c : Counted). tables c.records before.scopes c.symbols c.walk)
        (complete_steps (counted before.records before.symbols before.walk) true (on_records after.records after.walk) _ due (sym records) (sym symbols)))

    nothing_put : import_due st ≡ false → complete_counted_in (counted_in x z n now) ≡ counted_in x z n now
    unfolding complete_counted_f complete_f import_due_f import_due held walk_at store_at
    nothing_put due = rw due

    put_by : (b : Bool) → import_due st ≡ b
        → (let after = over (if b then with_import st.helper (more h k r) else more h k r) st in
        size (tree_at after) ≤ x.records → ((y : ℕ) → 1 ≤ y → mentions y (tree_at after) ≤ 65535)
        → complete_counted_in (counted_in x z n now) ≡ counted_in x z n after)
    put_by true due most fits = line_put due most fits
    put_by false due most fits = nothing_put due

  -- THE LINE AND ITS MENTION
  complete_counted : (s : Spot) → is_over s ≡ true → 1 ≤ size (tree_at s) → size (tree_at (completed s)) ≤ x.records
      → length (store_at s).symbols ≤ x.symbols → ((y : ℕ) → 1 ≤ y → mentions y (tree_at (completed s)) ≤ 65535)
      → complete_counted_in (counted_in x z n s) ≡ counted_in x z n (completed s)
  unfolding completed is_over tree_at store_at size
  complete_counted (over none st) o l most few fits = absurd (omega arith)
  complete_counted (over (more h k r) st) o l most few fits = put_by h k r st few (import_due st) refl most fits
  complete_counted (at d h k r p st) o l most few fits = absurd (clash refl o)
  complete_counted (leaving k h d r p st) o l most few fits = absurd (clash refl o)

-- ---- a file

module _ (b : List ℕ) (f : File) (e : read_file b ≡ Ok f) (z : Rest) (n : ℕ) (placed : Placed (final_figures f) z n) where
  abbrev x : Figures
  x = final_figures f

  abbrev spot : ℕ → Spot
  spot k = visits k (start f)

  -- the tables after the visits made, with the line from the last one on, and the counts of the tree
  abbrev pub holds : ℕ → Tables
  holds k = counted_in x z n (completed (spot k))

  told : (k : ℕ) → is_over_in (holds k) ≡ is_over (spot k)
  told k = over_told_lem (completed (spot k)) _ _ ∙ completed_over (spot k)

  visit_told : (k : ℕ) → is_over_in (counted_in x z n (spot k)) ≡ is_over (spot k)
  visit_told k = over_told_lem (spot k) _ _

  over_next : (k : ℕ) → is_over (spot k) ≡ true → spot (suc k) ≡ spot k
  unfolding visits
  over_next k o = visits_last k (start f) ∙ over_stays_lem 1 (spot k) o

  ended : (k : ℕ) → is_over (spot k) ≡ true → visit_call_f (holds k) ≡ holds (suc k)
  ended k o = over_unchanged (holds k) (told k ∙ o) ∙ ap (λ (s : Spot). counted_in x z n (completed s)) (sym (over_next k o))

  -- the rows that a spot takes
  rows_at_lem : (k : ℕ) → (size (tree_at (spot k)) ≤ x.records) × (length (store_at (spot k)).symbols ≤ x.symbols)
  rows_at_lem k = let m = never_above b f k e in let i = at_spot (spot k) in (omega arith, omega arith)

  visited : (k : ℕ) → is_over (spot k) ≡ false → visit_counted_f (counted_in x z n (spot k)) ≡ counted_in x z n (spot (suc k))
  visited k now =
      let next = visits_last k (start f) in
      let here = rows_at_lem k in
      let there = rows_at_lem (suc k) in
      rw next
      (visit_counted x z n (spot k) now (accepted_fits b f e).0 (here.0, rw next at there.0) placed (here.1, rw next at there.1)
      (λ r. visit_holds b f e k r ∙ ap (held_in x r) next)
      (λ y l. rw next at (visits_mentions_fit b f (suc k) y e l)))

  goes_on : (k : ℕ) (o : Bool) → is_over (spot k) ≡ false → is_over (spot (suc k)) ≡ o → visit_call_f (counted_in x z n (spot k)) ≡ holds (suc k)
  goes_on k true now next =
      let s = spot (suc k) in
      sym (call_last _ _ _ (visit_told k ∙ now) (sym (visited k now)) (visit_told (suc k) ∙ next) refl)
      ∙ complete_counted x z n (accepted_fits b f e).0 placed s next (some_records b f e (suc k))
      (omega (arith, at_spot (completed s), calls_above b f e (suc k)))
      (rows_at_lem (suc k)).1
      (λ y l. mentions_fit b f (suc k) y e l)
  goes_on k false now next =
      sym (call_goes_on _ _ (visit_told k ∙ now) (sym (visited k now)) (visit_told (suc k) ∙ next))
      ∙ ap (counted_in x z n) (sym (not_yet (spot (suc k)) next))

  call_holds : (k : ℕ) → visit_call_f (holds k) ≡ holds (suc k)
  call_holds k = go (is_over (spot k)) refl
    where
      go : (o : Bool) → is_over (spot k) ≡ o → visit_call_f (holds k) ≡ holds (suc k)
      go true o = ended k o
      go false o = ap (λ (s : Spot). visit_call_f (counted_in x z n s)) (not_yet (spot k) o) ∙ goes_on k (is_over (spot (suc k))) o refl

  -- THE CALLS ON TABLES ARE 01'S: after any number of them the tables hold what 01 has after so many, and the counts of its tree.
  pub calls_hold_tables : (k : ℕ) → turns k visit_call_f (counted_in x z n (start f)) ≡ holds k
  unfolding turns visits
  calls_hold_tables zero = ap (counted_in x z n) (sym (start_complete f))
  calls_hold_tables (suc k) = turns_last k visit_call_f _ ∙ ap visit_call_f (calls_hold_tables k) ∙ call_holds k
