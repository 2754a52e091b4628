-- WHAT IS CLAIMED, demand by demand, and then for each request of document 02.
--
-- The public functions are `checking::check`, `checking::figures`, `start::start`, `walk::visit_call` (with `walk::is_over` and
-- `walk::visit_some`) and `lowering::lower`; crate desk has the calls for C.
-- None has a `requires`, and each ensures an equation for all inputs, the lent memory included:
--   check       answers `checked_of (read_file file)`,
--   figures     answers `figured_of (figures_of file)`,
--   start       answers and leaves `start_f file records scopes symbols`,
--   visit_call  leaves `visit_call_f` of the tables and the walk that it is handed: the next visit, and the import line after the last,
--   is_over     answers `is_over_f` of them (`is_over_in`),
--   visit_some  answers and leaves `visit_some_f`: visits alone (`visit_f`), for a loop over many,
--   lower       answers and leaves `lower_f file records scopes symbols out`.
-- The claims below are about these same definitions. `read_file`, `figures_of`, `admit`, `visits`, `visit_calls`, `dues`, `import_dues`,
-- `final_figures`, `final_spot`, `lowered_file`, `mentions`, `ScopesAgree`, `renumbered`, `written` and `lower` are documents 01 and 02 (crate meaning); `visit_charges` tells the
-- charges without the walk.
-- A list of numbers stands for a lent slice; `lent_in r s y` are the rows of tables.
-- Assumes nothing.
use Rattle.figures.specs.declared.FinalFigures.{FinalFigures}
use Rattle.meaning.specs.declared.Reason.{Reason}
use Rattle.meaning.specs.Refusals.{Outcome, refused, number_of}
use Rattle.meaning.specs.declared.Reason.TheVariants as Reason
use Rattle.std.specs.Prelude.{Ok, if◌then◌else◌, ◌≡◌, refl, true, false, ◌||◌, ◌&&◌, List, [], ◌∷◌, ◌++◌, map, ◌⊎◌, ℕ, suc, ◌+◌, ◌*◌, ◌/◌, ◌≤◌, ◌<◌, eqb, leb, length, take, get_or, set}
use Rattle.std.proofs.Common.{ap, ◌∙◌}
use Rattle.std.proofs.Math.Logic.{⊎_map}
use Rattle.meaning.specs.Examples.{reason_numbers}
use Rattle.meaning.specs.Numbers.Tag
use Rattle.meaning.specs.Tree.{hd, Forest, none, more, one, size, flatten}
use Rattle.meaning.specs.Mentions.{mentions}
use Rattle.meaning.specs.File.{File, numbers_of, written}
use Rattle.meaning.specs.Reading.{read_file}
use Rattle.meaning.specs.Agreement.{ScopesAgree}
use Rattle.meaning.specs.Renumbering.{renumbered}
use Rattle.meaning.specs.Grammar.{module_line_right, right}
use Rattle.meaning.specs.Scoping.{Store}
use Rattle.meaning.specs.Statements.{make_context}
use Rattle.meaning.specs.Contexts.{transform_switch_statement}
use Rattle.meaning.specs.Program.{program_items}
use Rattle.meaning.specs.Walk.{is_over, visits, start, tree_at, store_at, file_at}
use Rattle.meaning.specs.ImportLine.{completed, visit_calls}
use Rattle.meaning.specs.Charges.{Figures, ◌⊕◌, total, initializers, figures_in, final_figures}
use Rattle.meaning.specs.Due.{dues, import_dues}
use Rattle.meaning.specs.declared.Place.{Place}
use Rattle.charge_laws.specs.VisitCharges.{visit_charges}
use Rattle.meaning.specs.Lowering.{Lent, Written, figures_of, admit, final_spot, lowered_file, lower}
use Rattle.cases.specs.Table.{table, table_holds}
use Rattle.cases.specs.TableImport.{import_table, imports_hold}
use Rattle.cases.specs.TableCounts.{count_table, counts_hold}
use Rattle.cases.specs.TableDepth.{depth_table, depth_holds}
use Rattle.cases.specs.TableOrder.{order_table, orders_hold}
use Rattle.cases.specs.TableWord.{const_in_body, using_in_body, const_after_using, using_after_using, word_table, words_hold}
use Rattle.charge_laws.specs.Counts.Figures.{joined}
use Rattle.charge_laws.proofs.Fit.Accepted.{accepted_dues}
use Rattle.charge_laws.proofs.Fit.Import.{imports_are}
use Rattle.spec_laws.specs.Trees.{Bytes}
use Rattle.spec_laws.specs.Calls.{calls_are}
use Rattle.figures.specs.Figures.{shown_figures, figured_of}
use Rattle.checking.specs.Flat.{checked_of}
use Rattle.tables.specs.Loops.{turns}
use Rattle.path.specs.Path.{Tables}
use Rattle.start.specs.Start.{begun, lent_in, ready, start_of, start_f}
use Rattle.start.specs.Filled.{admitted}
use Rattle.scoping.specs.Changes.{in_symbols}
use Rattle.representation.specs.Store.Held.{ctx_of}
use Rattle.helper_loader.specs.Load.{helper_load_f}
use Rattle.walk.specs.Visit.{visit_f}
use Rattle.walk.specs.Over.{is_over_in}
use Rattle.walk.specs.Call.{visit_call_f, over_unchanged}
use Rattle.walk.specs.Plain.{visit_some_f, some_visits}
use Rattle.hint_laws.specs.Hints.{asked, given}
use Rattle.readback_laws.specs.ReadBack.{fields_of, field_count, is_record}
use Rattle.fields.specs.Lengths.{lengths, no_tags, lengths_count, lengths_none}
use Rattle.fields.proofs.Lengths.{lengths_right}
use Rattle.readback_laws.specs.Decoded.{tree_of, tree_in}
use Rattle.readback_laws.proofs.Written.{file_written}
use Rattle.readback_laws.specs.Loads.Written.{is_load}
use Rattle.agreement_laws.specs.Agreed.{read_agrees}
use Rattle.renumbering_laws.specs.Final.{lowered_length, loads_written, lowered_gives}
use Rattle.parsing.specs.Counted.{read_uncounted, symbol_offset, CountsRight, LowestWrong, CountRefused, count_refused, counts_right, count_wrong, counts_accepted, count_lowest}
use Rattle.representation.specs.Shown.Shown.{records_in, scopes_in, symbols_in, counts_in}
use Rattle.claims.specs.Counts.{TrueCounts, TrueInBytes, counts_in_tables, counts_in_bytes, calls_mentions_fit}
use Rattle.claims.specs.Agreement.{scopes_in_tables}
use Rattle.claims.specs.Order.{InTreeOrder, AgreesInBytes, OneToOne, in_tree_order, agrees_in_bytes, final_one_to_one, numbered_once}
use Rattle.one_word_laws.specs.Changed.{OneWord}
use Rattle.one_word_laws.proofs.ChangedRead.{word_read}
use Rattle.claims.specs.OneWord.{WordPair, GrowsLittle, with_room, grows_little, LowersTo, room_enough, half_enough, GrowsMost, GrowsLeast, ReachedBy, most_reached, least_reached}
use Rattle.claims.specs.Letters.{ButLetters, letters_alone}
use Rattle.claims.specs.Depth.{read_deep, depth_first, read_before, Changed, depth_is_first, answer_changed, still_accepted, once_accepted}
use Rattle.claims.specs.Refusals.Numbers.{read_numbers, figures_numbers_lem, admit_numbers, lower_numbers}
use Rattle.claims.specs.Refusals.Small.{Enough, lower_total, short_output_lem, enough_output}
use Rattle.lowering.specs.Lower.{finished, zeros_for, written_over, lower_of, lower_f}
use Rattle.desk_numbers.specs.Answers.{checked_numbers, figured_numbers, started_numbers, outcome_numbers, plain_numbers, checked_numbers_lem, figured_numbers_lem, started_numbers_lem}
use Rattle.lowering.specs.Answers.{lowered_numbers, lowered_numbers_lem}
use Rattle.desk_numbers.specs.Numbers.{walk_numbers, walk_in, numbers_kept, begun_numbers}
use Rattle.path.specs.declared.Walk.{Walk}
use Rattle.claims.specs.Desk.{desk_calls, in_numbers, desk_calls_lem}
use Rattle.claims.specs.Hinting.{final_hints}
use Rattle.claims.specs.Import.{imports, IsHelper, calls, import_in_bytes, imports_in, LinesRead, accepted_lines, items_imports, load_told}
use Rattle.claims.specs.Calls.{first_tables, after_calls, charges_of, import_charge, final_charged, calls_tree, calls_scopes, calls_symbols, calls_over, calls_end, calls_last, calls_count, calls_most, file_shows}

-- ---- DEMAND 1: refusals, and that every input is answered

-- Check refuses with the numbers 1 to 7, figures up to 8, start up to 9, and lower up to 10. Which number and which place, `read_file`,
-- `figures_of`, `admit` and `lower` say: their steps are 01's checks in 01's order.
pub check_refusals : (bytes : List ℕ) (c : Reason) (p : ℕ) → read_file bytes ≡ refused c p → (1 ≤ number_of c) × (number_of c ≤ 7)
check_refusals = read_numbers

pub figures_refusals : (bytes : List ℕ) (c : Reason) (p : ℕ) → figures_of bytes ≡ refused c p → (1 ≤ number_of c) × (number_of c ≤ 8)
figures_refusals = figures_numbers_lem

pub start_refusals : (bytes : List ℕ) (lent : Lent) (c : Reason) (p : ℕ) → admit bytes lent ≡ refused c p → (1 ≤ number_of c) × (number_of c ≤ 9)
start_refusals = admit_numbers

pub lower_refusals : (bytes : List ℕ) (lent : Lent) (out : ℕ) (c : Reason) (p : ℕ) → lower bytes lent out ≡ refused c p → (1 ≤ number_of c) × (number_of c ≤ 10)
lower_refusals = lower_numbers

-- Each reason has 01's number, written out here once: a claim that says `refused Reason.FewRows p` says refusal 9 at p.
pub numbers_are_01 : (number_of Reason.TooLong ∷ number_of Reason.Cut ∷ number_of Reason.WrongTag ∷ number_of Reason.WrongLength ∷ number_of Reason.WrongNumber
    ∷ number_of Reason.TooDeep ∷ number_of Reason.BytesBehind ∷ number_of Reason.InlineContext ∷ number_of Reason.FewRows ∷ number_of Reason.ShortOutput ∷ [])
    ≡ 1 ∷ 2 ∷ 3 ∷ 4 ∷ 5 ∷ 6 ∷ 7 ∷ 8 ∷ 9 ∷ 10 ∷ []
numbers_are_01 = reason_numbers

-- A file that is admitted, with an output too short for the file to write, is refused with 10 at the output's length.
pub output_refusal : (bytes : List ℕ) (lent : Lent) (out : ℕ) (f : File) → admit bytes lent ≡ Ok f → out < (final_figures f).bytes
    → lower bytes lent out ≡ refused Reason.ShortOutput out
output_refusal = short_output_lem

-- A refused lowering answers that number and place, and every lent slice keeps its contents;
pub refused_keeps : (bytes r s y o : List ℕ) (c : Reason) (p : ℕ) → lower bytes (lent_in r s y) (length o) ≡ refused c p
    → lower_f bytes r s y o ≡ finished (refused c p) r s y o
unfolding lower_f
refused_keeps bytes r s y o c p e = ap (λ (a : Outcome Written). lower_of a r s y o) e

-- and so does a refused start.
pub refused_start_keeps : (bytes r s y : List ℕ) (c : Reason) (p : ℕ) → admit bytes (lent_in r s y) ≡ refused c p
    → start_f bytes r s y ≡ begun (refused c p) r s y
unfolding start_f
refused_start_keeps bytes r s y c p e = ap (λ (a : Outcome File). start_of a r s y) e

-- Every call of lower answers the final figures of the file that it admits, or a refusal with a number from 1 to 10. That the code ends and
-- does not misbehave is part of each function's proof.
pub always_answered : (bytes r s y o : List ℕ)
    → let answer = (lower_f bytes r s y o).answer in
    ((f : File) × (admit bytes (lent_in r s y) ≡ Ok f) × (answer ≡ Ok (shown_figures (final_figures f))))
    ⊎ ((c : Reason) × (p : ℕ) × (1 ≤ number_of c) × (number_of c ≤ 10) × (answer ≡ refused c p))
unfolding lower_f
always_answered bytes r s y o =
    let answered : Outcome Written → Outcome FinalFigures = λ a. (lower_of a r s y o).answer in
    ⊎_map
    (λ (f, e, long, w). (f, e, ap answered w))
    (λ (c, p, e). let n = lower_numbers bytes (lent_in r s y) (length o) c p e in (c, p, n.0, n.1, ap answered e))
    (lower_total bytes (lent_in r s y) (length o))

-- What the calls answer is an enum. In 01's numbers (the refusal's number or 0, its place, then the figures) it is 01's answer.
pub check_answers : (bytes : List ℕ) → checked_numbers (checked_of (read_file bytes)) ≡ plain_numbers (read_file bytes)
check_answers bytes = checked_numbers_lem (read_file bytes)

pub figures_answers : (bytes : List ℕ) → figured_numbers (figured_of (figures_of bytes)) ≡ outcome_numbers (λ g. g) (figures_of bytes)
figures_answers bytes = figured_numbers_lem (figures_of bytes)

pub start_answers : (bytes r s y : List ℕ) → started_numbers (start_f bytes r s y).answer ≡ plain_numbers (admit bytes (lent_in r s y))
unfolding start_f
start_answers bytes r s y = started_numbers_lem (admit bytes (lent_in r s y)) r s y

pub lower_answers : (bytes r s y o : List ℕ)
    → lowered_numbers (lower_f bytes r s y o).answer ≡ outcome_numbers (λ w. w.figures) (lower bytes (lent_in r s y) (length o))
unfolding lower_f
lower_answers bytes r s y o = lowered_numbers_lem (lower bytes (lent_in r s y) (length o)) r s y o

-- ---- DEMAND 2: the lowered file is 01's

-- Reading and writing are inverse: an accepted file is, byte for byte, what writing makes of what was read. Each byte is at most 255, as in
-- every `&[u8]`.
pub read_written : (bytes : List ℕ) (f : File) → Bytes bytes → read_file bytes ≡ Ok f → written f ≡ bytes
read_written = file_written

-- 01's proved cases, and more, as a table: each file gets the answer written beside it.
pub cases_hold : map (λ c. lower c.input c.rows c.output) table ≡ map (λ c. c.answer) table
cases_hold = table_holds

-- An accepted lowering writes the file that the call of the walk's last visit leaves, its scopes numbered in tree order (`lowered_file`), answers its
-- figures and length, leaves the tables all 0, and the output behind the file as it was.
pub lowering_is_01 : (bytes r s y o : List ℕ) (f : File) → admit bytes (lent_in r s y) ≡ Ok f → (final_figures f).bytes ≤ length o
    → lower_f bytes r s y o
    ≡ finished (Ok (shown_figures (final_figures f))) (zeros_for r) (zeros_for s) (zeros_for y)
    (written_over (written (lowered_file f)) o)
unfolding lower_f
lowering_is_01 bytes r s y o f e h =
    ap (λ (a : Outcome Written). lower_of a r s y o) (enough_output bytes (lent_in r s y) (length o) f e h)

-- THE HINTS. In the tree that the written bytes say, the Declarators whose initializer lowering has wrapped are those of the source's
-- usings that are taken up (in lists, a switch's too, and Fors, Program's recorded ones, and ForOf's), and each Call has the letter of the
-- hint that TC39 gives the source's declaration. Said with weights: whatever a Declarator's names, its initializer and a letter are
-- weighted by, the sum over the one side is the sum over the other, so each Declarator is there as often with each letter. An
-- initializer is known by the expressions in it, as they are written but for the numbers of scopes, so only Declarators of the same names and
-- the same text count alike. `given` counts every Call that is an initializer through a context that
-- lowering made (its symbol is behind those read), so lowering wraps no initializer that the source does not ask for, under a made name
-- (`_default`) either.
pub hints : (w : List ℕ → List ℕ → ℕ → ℕ) (bytes r s y : List ℕ) (f : File) → Bytes bytes → admit bytes (lent_in r s y) ≡ Ok f
    → let read = length f.symbols in
    given w read (tree_in (written (lowered_file f))) ≡ asked w f.tree
unfolding file_at
hints w bytes r s y f b e =
    let read_is = (admitted bytes r s y f e).0 in
    lowered_gives bytes f read_is b w (length f.symbols) ∙ final_hints w bytes f read_is

-- ---- DEMAND 3

-- THE WHOLE CLAIM, for a file f that passes the checks through 9, with the tables r, s, y lent, and any number k of calls.
pub record Demand3 (bytes r s y : List ℕ) (f : File) (k : ℕ) : Type 0 where
  -- start leaves the first tables, and hands out their walk
  pub started : start_f bytes r s y ≡ ready (first_tables f r s y)
  -- after k calls the tables show the tree, scopes and symbols that 01 and 02 have after so many
  pub tree : records_in (after_calls k f r s y) ≡ flatten (tree_at (visit_calls k (start f)))
  pub scopes : scopes_in (after_calls k f r s y) ≡ (store_at (visit_calls k (start f))).scopes
  pub symbols : symbols_in (after_calls k f r s y) ≡ (store_at (visit_calls k (start f))).symbols
  -- that is what 01's rewrites at the visits made give, and, once the last is made, the import line if it is due (02)
  pub visits_made : visit_calls k (start f) ≡ completed (visits k (start f))
  -- they number those read and what the calls are charged: the visits made, each by what it does, and the line from the last on
  pub record_count : length (records_in (after_calls k f r s y)) ≡ size f.tree + (charges_of k f).records
  pub scope_count : length (scopes_in (after_calls k f r s y)) ≡ length f.scopes + (charges_of k f).scopes
  pub symbol_count : length (symbols_in (after_calls k f r s y)) ≡ length f.symbols + (charges_of k f).symbols
  -- none is above its final figure
  pub records_most : length (records_in (after_calls k f r s y)) ≤ (final_figures f).records
  pub scopes_most : length (scopes_in (after_calls k f r s y)) ≤ (final_figures f).scopes
  pub symbols_most : length (symbols_in (after_calls k f r s y)) ≤ (final_figures f).symbols
  -- the charges, in order, are an account from the source alone: of the visits, and of the line after the last of them
  pub charges : dues k (start f) ≡ take k (visit_charges f)
  pub import_charged : import_dues (visits k (start f)) ≡ (if leb (length (visit_charges f)) k then import_charge f else [])
  -- the final figures follow from the source alone: those read and all charges
  pub final : final_figures f ≡ figures_in f ⊕ total (joined (visit_charges f) ++ import_charge f)
  -- the walk has as many visits as charges, and where it is over is its final spot
  pub ends : is_over (visit_calls k (start f)) ≡ leb (length (visit_charges f)) k
  pub last : is_over (visit_calls k (start f)) ≡ true → visit_calls k (start f) ≡ final_spot f
  -- over is told exactly when 01's walk is over, and then a call leaves every number of the tables and the walk as it is
  pub over_told : is_over_in (after_calls k f r s y) ≡ is_over (visit_calls k (start f))
  pub over_stays : is_over_in (after_calls k f r s y) ≡ true → visit_call_f (after_calls k f r s y) ≡ after_calls k f r s y
  -- an accepted lowering writes what the last visit's call leaves, its scopes numbered in tree order, and answers the final figures
  pub writes : (out : ℕ) → (final_figures f).bytes ≤ out
      → lower bytes (lent_in r s y) out ≡ Ok (record { file = written (lowered_file f); figures = final_figures f })
  -- the written file shows them: reading its fields back counts them, and its length is the answer's
  pub records_shown : field_count is_record (fields_of (written (lowered_file f))) ≡ (final_figures f).records
  pub scopes_shown : field_count (λ t. eqb t Tag.Scope) (fields_of (written (lowered_file f))) ≡ (final_figures f).scopes
  pub symbols_shown : field_count (λ t. eqb t Tag.Symbol) (fields_of (written (lowered_file f))) ≡ (final_figures f).symbols
  pub length_shown : length (written (lowered_file f)) ≡ (final_figures f).bytes
  -- and the number of contexts is how many the walk made, and how many Loads it added: those written are those read, and one for each
  pub contexts_shown : (store_at (final_spot f)).contexts ≡ (final_figures f).contexts
  pub loads_shown : field_count is_load (fields_of (written (lowered_file f))) ≡ field_count is_load (fields_of bytes) + (final_figures f).contexts

-- DEMAND 3. Each byte is at most 255, as in every `&[u8]`.
pub demand_3 : (bytes r s y : List ℕ) (f : File) → Bytes bytes → admit bytes (lent_in r s y) ≡ Ok f → (k : ℕ) → Demand3 bytes r s y f k
unfolding start_f
demand_3 bytes r s y f b e k =
    let read = (admitted bytes r s y f e).0 in
    let count = calls_count bytes r s y f e k in
    let most = calls_most bytes r s y f e k in
    let shown = file_shows bytes r s y f e b in
    record {
      started = ap (λ (a : Outcome File). start_of a r s y) e;
      tree = calls_tree bytes r s y f e k;
      scopes = calls_scopes bytes r s y f e k;
      symbols = calls_symbols bytes r s y f e k;
      visits_made = calls_are k f;
      record_count = count.0;
      scope_count = count.1;
      symbol_count = count.2;
      records_most = most.0;
      scopes_most = most.1;
      symbols_most = most.2;
      charges = accepted_dues bytes f k read;
      import_charged = imports_are bytes f read k;
      final = final_charged bytes r s y f e;
      ends = calls_end bytes r s y f e k;
      last = calls_last bytes r s y f e k;
      over_told = calls_over bytes r s y f e k;
      over_stays = over_unchanged (after_calls k f r s y);
      writes = λ out h. enough_output bytes (lent_in r s y) out f e h;
      records_shown = shown.0;
      scopes_shown = shown.1;
      symbols_shown = shown.2;
      length_shown = lowered_length bytes f read b;
      contexts_shown = shown.3;
      loads_shown = loads_written bytes f read b;
    }

-- Some visits in one call are the visits that it reports, one after the other, on any tables: none once the walk is over, and otherwise one at
-- least and n at most.
pub visits_reported : (n : ℕ) (q : Tables)
    → let v = visit_some_f n q in
    (v.tables ≡ turns v.visits visit_f q) × (v.visits ≤ n) × (is_over_in q ≡ true → v.visits ≡ 0)
    × (is_over_in q ≡ false → 1 ≤ n → 1 ≤ v.visits)
visits_reported = some_visits

-- THROUGH C. The eleven numbers in which a walk is kept lose nothing of it,
pub walk_kept : (w : Walk) → walk_in (walk_numbers w) ≡ w
walk_kept = numbers_kept

-- so demand 3 holds of calls of `desk_visit` too: after `desk_start` and k + 1 of them, each handed what the one before left, the tables and the
-- walk's numbers are those of as many calls of `visit_call`, and the last one has answered 1 if 01's walk is over, and else 0.
pub desk_visits : (bytes r s y : List ℕ) (f : File) → admit bytes (lent_in r s y) ≡ Ok f → (old : List ℕ) (k : ℕ)
    → desk_calls (suc k) (begun_numbers old (start_f bytes r s y)) ≡ in_numbers (is_over (visit_calls (suc k) (start f))) (after_calls (suc k) f r s y)
desk_visits = desk_calls_lem

-- ---- REQUEST 1 of document 02: the import line (when it stands, and that it stands once: proofs/Claims.antt)

-- A lowering that is accepted writes it: in the tree that the written bytes say, it is Program's first child.
pub import_written : (bytes r s y : List ℕ) (f : File) → Bytes bytes → admit bytes (lent_in r s y) ≡ Ok f → imports f ≡ true
    → (items : Forest) × (helper : ℕ)
    × (tree_in (written (lowered_file f))
    ≡ one (hd Tag.Program 1 0 0) (more (hd Tag.ModuleLine 4 0 0) (one (hd Tag.Specifier helper 3 0) none) items))
    × IsHelper (store_at (final_spot f)) helper
import_written = import_in_bytes

-- A line of its form that was read stays among the lines of a lowered Program, as it is and in its order.
pub import_kept : (items : Forest) (st : Store)
    → (imports_in (program_items items st).0.kept ≡ imports_in items) × (imports_in (program_items items st).0.moved ≡ none)
import_kept = items_imports

-- Reading asks of a Module line a form up to 3, or form 4 and n = 1; where that is not so it refuses the line with 5 (`read_list`).
pub import_rule : (p : Place) (syms a b c d next : ℕ)
    → right p syms (record { tag = Tag.ModuleLine; a = a; b = b; c = c; d = d; next = next }) ≡ (leb a 3 || (eqb a 4 && eqb c 1))
unfolding right module_line_right
import_rule p syms a b c d next = refl

-- So in every accepted file a line of form 4 has exactly one child.
pub import_read : (bytes : List ℕ) (f : File) → read_file bytes ≡ Ok f → LinesRead f.tree
import_read = accepted_lines

-- `helper_load` tells whether its load is the first of the walk: it equals `helper_load_f`, and that tells so just if no context was made before
-- the one that loads, in whatever mode.
pub first_load_lem : (scopes t : List ℕ) (scope cur : ℕ) (st : Store)
    → (helper_load_f scopes (in_symbols t (ctx_of (make_context scope st).1)) cur).loaded.first ≡ eqb st.contexts 0
first_load_lem = load_told

-- The cases as a table: a module with rows and bytes just enough and too few, a script, other modes, a lowered Program, a StaticBlock left last, and
-- lines of form 4 that are read.
pub import_cases_hold : map (λ c. lower c.input c.rows c.output) import_table ≡ map (λ c. c.answer) import_table
import_cases_hold = imports_hold

-- ---- REQUEST 3 of document 02: lengths from a table

-- The table of lengths, whose entry at a tag `fields::length_of` answers (`get_or lengths tag 0`), has the tags 0 to 42; each entry, and the 0 behind
-- the last, is 01's length in bytes, two for each number that the tag has; the tags below 43 that do not exist have 0.
pub lengths_are_01 : (length lengths ≡ 43) × ((t : ℕ) → get_or lengths t 0 ≡ 2 * numbers_of t)
    × (map (λ t. get_or lengths t 0) no_tags ≡ map (λ t. 0) no_tags)
lengths_are_01 = (lengths_count, lengths_right, lengths_none)

-- ---- REQUEST 4 of document 02: each declaration by its own hint, in a switch too

-- That the letters in a switch, too, are those of their declarations is said by `hints`. Nothing else has changed: the rewrite of a Switch leaves
-- the rows that it left before, and makes the tree that it made before, but for the letters of Calls. So its Step is awaited as before, if
-- one of its usings is an `await using`, with an initializer or without.
pub letters_only : ButLetters transform_switch_statement
letters_only = letters_alone

-- ---- REQUEST 6 of document 02: depth before the rest

-- Every reader here reads as `read_file` does up to level 64 (`read_deep`), and differs in what it answers for a record at level 65. The
-- reader of before, `read_before`, judged the record's field and numbers first, and then its depth.
pub record DepthFirst (read : List ℕ → Outcome File) : Type 0 where
  -- now: 2 where the three bytes of its head are not there, else 6, whatever they say
  pub deep : (bytes : List ℕ) → read bytes ≡ read_deep depth_first bytes
  -- so each answer is the one of before, or it is 6 where there was 2 for a cut payload, 3, 4 or 5, at the same place
  pub changed : (bytes : List ℕ) → Changed bytes (read_before bytes) (read bytes)

pub depth_first_lem : DepthFirst read_file
depth_first_lem = record { deep = depth_is_first; changed = answer_changed }

-- What was accepted still is, as the same file, and nothing else is.
pub depth_accepts : (bytes : List ℕ) (f : File)
    → (read_before bytes ≡ Ok f → read_file bytes ≡ Ok f) × (read_file bytes ≡ Ok f → read_before bytes ≡ Ok f)
depth_accepts bytes f = (still_accepted bytes (answer_changed bytes), once_accepted bytes (answer_changed bytes))

-- The cases as a table: at level 65 a wrong tag, length and number, a cut payload, three bytes that are no head, a cut head, no bytes.
pub depth_cases_hold : map (λ c. lower c.input c.rows c.output) depth_table ≡ map (λ c. c.answer) depth_table
depth_cases_hold = depth_holds

-- ---- REQUEST 7 of document 02: how often a symbol is named

-- After any number of calls, the import line's among them, the tables show for each symbol row how often the records of the tree name it
-- (`mentions`); start's tables are those after 0 calls.
pub counts_true : (bytes r s y : List ℕ) (f : File) → admit bytes (lent_in r s y) ≡ Ok f → (k : ℕ)
    → TrueCounts (λ k f. counts_in (after_calls k f r s y)) f k
counts_true = counts_in_tables

-- Each of these counts fits 16 bits.
pub counts_fit : (bytes : List ℕ) (f : File) (k y : ℕ) → read_file bytes ≡ Ok f → 1 ≤ y → mentions y (tree_at (visit_calls k (start f))) ≤ 65535
counts_fit = calls_mentions_fit

-- A lowering that is accepted writes them: in the written bytes the fifth number of each symbol row is how often the records in these bytes name it,
-- for a reader who counts field by field (`mentions_in`).
pub counts_written : (bytes r s y : List ℕ) (f : File) → admit bytes (lent_in r s y) ≡ Ok f → Bytes bytes
    → TrueInBytes (written (lowered_file f))
counts_written = counts_in_bytes

-- THE NEW REFUSAL EXACTLY, said of any reader. `read_uncounted` makes all checks of reading but the one of counts.
pub record CountsChecked (read : List ℕ → Outcome File) : Type 0 where
  -- what it refuses is refused as before
  pub before : (bytes : List ℕ) (c : Reason) (p : ℕ) → read_uncounted bytes ≡ refused c p → read bytes ≡ refused c p
  -- what it accepts is accepted where every count is right,
  pub right : (bytes : List ℕ) (f : File) → read_uncounted bytes ≡ Ok f → CountsRight bytes f → read bytes ≡ Ok f
  -- and else refused with 5 at the lowest row with a wrong one
  pub wrong : (bytes : List ℕ) (f : File) (y : ℕ) → read_uncounted bytes ≡ Ok f → LowestWrong bytes f y
      → read bytes ≡ refused Reason.WrongNumber (symbol_offset f y)
  -- so an accepted file has right counts, and a file that is refused for its counts alone has a lowest wrong one
  pub accepts : (bytes : List ℕ) (f : File) → read bytes ≡ Ok f → (read_uncounted bytes ≡ Ok f) × CountsRight bytes f
  pub refuses : (bytes : List ℕ) (f : File) (c : Reason) (p : ℕ) → read_uncounted bytes ≡ Ok f → read bytes ≡ refused c p → CountRefused bytes f c p

pub count_refusal : CountsChecked read_file
count_refusal =
    record {
      before = count_refused;
      right = counts_right;
      wrong = count_wrong;
      accepts = counts_accepted;
      refuses = count_lowest;
    }

-- The cases as a table: every tag that names a symbol, 0, a Step that names one row twice, the lowest of several wrong counts, the checks before and
-- behind it, and symbol rows of four and of six numbers.
pub count_cases_hold : map (λ c. lower c.input c.rows c.output) count_table ≡ map (λ c. c.answer) count_table
count_cases_hold = counts_hold

-- ---- REQUEST 9 of document 02: scope rows in tree order

-- In the tree that the bytes of a written file say, the scopes are named 1, 2, 3 and so on, as many as the bytes have scope rows. Each byte of the
-- file that is lowered is at most 255, as in every `&[u8]`.
pub tree_order : InTreeOrder lower_f
tree_order = in_tree_order

-- The scope rows in these bytes agree with that tree as 01 asks of a file: so the rows have followed, and each has its parent's new number.
pub written_scopes_agree : AgreesInBytes lower_f
written_scopes_agree = agrees_in_bytes

-- What is written is what the last call leaves, with new numbers for the scopes (`lowered_file`, `renumbered`). The k-th scope that the
-- tree names gets k, and they are one to one: each row of what is left gets the number of a row, and no two get the same.
pub renumbering_one_to_one : (bytes : List ℕ) (f : File) → read_file bytes ≡ Ok f → OneToOne (file_at (final_spot f))
renumbering_one_to_one = final_one_to_one

-- Numbered once more, the file stays as it is; so a second lowering leaves the numbers, too (`lowers_to_itself`).
pub numbered_stays : (bytes : List ℕ) (f : File) → read_file bytes ≡ Ok f → renumbered (lowered_file f) ≡ lowered_file f
numbered_stays = numbered_once

-- The cases as a table: rows in other orders with and without a lowering, in every mode, for each tag that names a scope, and with rows and bytes
-- just enough and too few.
pub order_cases_hold : map (λ c. lower c.input c.rows c.output) order_table ≡ map (λ c. c.answer) order_table
order_cases_hold = orders_hold

-- ---- REQUEST 13 of document 02: one word changed

-- Two files that reading accepts, in runtime or external mode, are the same but for one Declaration, in the list of a Block, a Body, a StaticBlock or a
-- Case (`WordPair`, `OneWord`): const in the first, `using` or `await using` in the second. Figures are told of both. The second file's records
-- are more by at least its initializers and at most 12 on top of them, and 2 for the import line in a runtime module; its scopes by at most 4,
-- its symbols by at most 3; none are fewer (`Growth`, which has contexts and bytes too).
pub one_word : GrowsLittle figures_of
one_word = grows_little

-- The change is one byte of an accepted file, and gives a file that reading accepts.
pub one_word_read : (bytes : List ℕ) (f f' : File) (d : Forest) → read_file bytes ≡ Ok f → OneWord d f f'
    → (at : ℕ) × (kind : ℕ) × (read_file (set bytes at kind) ≡ Ok f')
one_word_read bytes f f' d read word = word_read d f f' bytes word read

-- The bounds are reached: 12, 4, 3 and 2 all at once, by a Declaration with 1 initializer in a Body of a runtime module; and the least, 1 record more,
-- in a list that has a using already.
pub one_word_most : ReachedBy GrowsMost 1 const_in_body using_in_body
one_word_most = most_reached

pub one_word_least : ReachedBy GrowsLeast 1 const_after_using using_after_using
one_word_least = least_reached

-- THE ROOM TO LEND. Lent so much more than the figures g of a file say (`with_room n g`: n + 14 record rows, 4 scope rows, 3 symbol rows, and
-- 9 * n + 173 bytes of output), lowering accepts the file after any one such change of a Declaration with at most n initializers.
pub room_for_one_word : (bytes bytes' r s y o : List ℕ) (f f' : File) (d : Forest) (g : Figures) (n : ℕ) → WordPair bytes bytes' f f' d
    → figures_of bytes ≡ Ok g → initializers d ≤ n → Enough (lent_in r s y) (with_room n g) → (with_room n g).bytes ≤ length o
    → LowersTo bytes' f' r s y o
room_for_one_word bytes bytes' r s y o f f' d g n p answer = room_enough bytes bytes' f f' d p g answer r s y o n

-- With n half of the records, it accepts the file after any one such change at all.
pub room_for_any_word : (bytes bytes' r s y o : List ℕ) (f f' : File) (d : Forest) (g : Figures) → WordPair bytes bytes' f f' d
    → figures_of bytes ≡ Ok g → Enough (lent_in r s y) (with_room (g.records / 2) g) → (with_room (g.records / 2) g).bytes ≤ length o
    → LowersTo bytes' f' r s y o
room_for_any_word bytes bytes' r s y o f f' d g p answer =
    room_enough bytes bytes' f f' d p g answer r s y o (g.records / 2) (half_enough bytes bytes' f f' d p g answer)

-- The cases as a table: for each kind of list the figures with const and with the word changed; a list with a using, a body of a ForOf that takes its
-- using and one that does not, no initializer, and Program's own list, where they grow by more.
pub word_cases_hold
    : (map (λ c. figures_of c.before) word_table ≡ map (λ c. Ok c.said) word_table)
    × (map (λ c. figures_of c.after) word_table ≡ map (λ c. Ok (c.said ⊕ c.growth)) word_table)
word_cases_hold = words_hold

-- ---- REQUEST 14 of document 02: lowering twice, and scope rows that agree with the tree

-- After any number of calls, the import line's among them, the scope rows and the tree that the tables show agree as 01 asks of a file
-- (`ScopesAgree`): each row is named once, Program's is the first, and the parent of a row is the scope around the record that names it. Start's
-- tables are those after 0 calls.
pub scopes_agree : (bytes r s y : List ℕ) (f : File) → admit bytes (lent_in r s y) ≡ Ok f → (k : ℕ)
    → let tables = after_calls k f r s y in ScopesAgree (scopes_in tables) (tree_of (records_in tables))
scopes_agree = scopes_in_tables

-- So they do in every file that reading accepts.
pub read_scopes_agree : (bytes : List ℕ) (f : File) → read_file bytes ≡ Ok f → ScopesAgree f.scopes f.tree
read_scopes_agree = read_agrees
