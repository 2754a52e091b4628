-- What 01 shuts out by name: each wrong lowering is written down here and refuted on a file, it is not 01's. And what the claims on requests
-- shut out.
-- Assumes nothing.
use Rattle.meaning.specs.declared.Reason.{Reason}
use Rattle.figures.specs.declared.FinalFigures.{FinalFigures}
use Rattle.meaning.specs.Refusals.{Outcome, refused, number_of as reason_number}
use Rattle.meaning.specs.declared.Reason.TheVariants as Reason
use Rattle.std.specs.Prelude.{Ok, Err, if◌then◌else◌, ◌≡◌, refl, Bool, true, false, not, ◌||◌, ◌&&◌, List, [], ◌∷◌, ◌++◌, map, ℕ, zero, suc, ◌+◌, ◌*◌, ◌-◌, ◌/◌, ◌≤◌, ◌<◌, length, get_or, take, replicate, eqb, leb}
use Rattle.std.proofs.Common.{sym, ap, ◌∙◌, arith, leb-true}
use Rattle.meaning.specs.Numbers.Tag
use Rattle.meaning.specs.Numbers.Mode
use Rattle.meaning.specs.Numbers.KnownName
use Rattle.meaning.specs.Numbers.Letter
use Rattle.meaning.specs.Tree.{Head, hd, Forest, none, more, one, Node, single, size, ◌&◌}
use Rattle.meaning.specs.Mentions.{mentions}
use Rattle.meaning.specs.File.{File, Scope, scope_row, Symbol, numbers_of, symbol_bytes, written}
use Rattle.meaning.specs.Grammar.{two, is_row}
use Rattle.meaning.specs.Scoping.{Change, row_at, no_scope}
use Rattle.meaning.specs.Agreement.{enclosing_scopes, ScopesAgree}
use Rattle.meaning.specs.Renumbering.{named_scopes, renumbered}
use Rattle.meaning.specs.Statements.{wrap_initializer}
use Rattle.meaning.specs.Contexts.{take_up_cases, transform_switch_statement}
use Rattle.meaning.specs.Reading.{◌>>=◌, ◌>>◌, read_forest, most_levels, read_with, read_file}
use Rattle.meaning.specs.Walk.{Spot, over, is_over, visit, visits, store_of, start, tree_at, store_at, file_at}
use Rattle.meaning.specs.ImportLine.{with_import, completed, visit_calls}
use Rattle.meaning.specs.Charges.{Figures, figures, ◌⊕◌, total, initializers, figures_in, figures_at, walk_figures, import_lines, final_figures}
use Rattle.meaning.specs.Lowering.{Lent, Written, check_output, check_file, admit, last_spot, final_spot, lower}
use Rattle.meaning.specs.Notation.{bytes}
use Rattle.meaning.specs.Computing.{computing}
use Rattle.meaning.specs.Examples.{nested, deep}
use Rattle.meaning.specs.Hint.{hint_of, letter_of}
use Rattle.spec_laws.specs.Tags.{clash, and_left, and_right}
use Rattle.spec_laws.specs.Trees.{Bytes}
use Rattle.figures.specs.Figures.{shown_figures}
use Rattle.start.specs.Start.{lent_in}
use Rattle.lowering.specs.Lower.{Finished, written_over, lower_of}
use Rattle.fields.specs.Lengths.{lengths}
use Rattle.parsing.specs.Counted.{read_uncounted, first_symbol, symbol_offset, fifth_number, CountRight, LowestWrong}
use Rattle.mentions.specs.Sums.{counts_from}
use Rattle.path.specs.Path.{Tables}
use Rattle.representation.specs.Spots.Spots.{Rest, held}
use Rattle.walk.specs.Over.{is_over_in}
use Rattle.simulation.proofs.Visit.{over_told_lem}
use Rattle.hint_laws.specs.Hints.{sum_over, names_of, of_initializer, over_declarators, shown, as_in_source, usings_in, asks_for, asked, called, calls_in, given}
use Rattle.readback_laws.specs.ReadBack.{numbers_in, fields_in, fields_of, field_count}
use Rattle.readback_laws.specs.Counted.{names_in, often, mentions_in, counts_said}
use Rattle.readback_laws.specs.Decoded.{records_of, row_of, trees_from, tree_in}
use Rattle.readback_laws.specs.Loads.Written.{is_load}
use Rattle.idempotence_laws.specs.Fields.{field_figures}
use Rattle.claims.specs.Depth.{forest_with, read_deep, depth_first, read_before}
use Rattle.claims.specs.Letters.{take_up_before, take_up_cases_before, switch_by, switch_before, unlettered, ButLetters}
use Rattle.claims.specs.Import.{imports, ImportLine}
use Rattle.claims.specs.Counts.{TrueCounts, TrueInBytes}
use Rattle.claims.specs.Twice.{Run, Wrote, LowersTwice}
use Rattle.renumbering_laws.specs.Order.{up_from}
use Rattle.claims.specs.Order.{InTreeOrder, scopes_said, AgreesInBytes}
use Rattle.one_word_laws.specs.Changed.{WordChanged, here, behind, in_list_lem, inside, beside, in_runtime_module, Growth}
use Rattle.cases.specs.TableWord.{const_in_body, using_in_body, const_in_script, using_in_script, const_in_program, using_in_program, const_after_using, using_after_using}
use Rattle.claims.specs.OneWord.{WordPair, GrowsLittle, file_of, declarator, declarators, body_pair, after_pair}
use Rattle.claims.specs.Refusals.Small.{Enough}
use Rattle.claims.specs.Claims.{DepthFirst, CountsChecked}

-- ---- two files and what is seen of an answer

-- 01's whole case: a using in a block, and none directly in Program
abbrev pub whole : List ℕ
whole = bytes "40:1,0 41:0,16 41:1,0 42:10,6,2,0,1 1:1,1 2:2,1 5:3,1 6:0,1,2 26:1 24:7,0"

-- an empty Program
abbrev pub empty : List ℕ
empty = bytes "40:1,0 41:0,16 1:1,0"

abbrev pub lend : ℕ → ℕ → ℕ → Lent
lend r s y = record { records = r; scopes = s; symbols = y }

-- what `desklower` lends
abbrev pub desk : Lent
desk = lend 4096 1024 1024

abbrev pub Lowering : Type 0
Lowering = List ℕ → Lent → ℕ → Outcome Written

abbrev pub on : Lowering → List ℕ → Outcome Written
on l file = l file desk 65536

abbrev pub is_accepted : Outcome Written → Bool
is_accepted (Ok w) = true
is_accepted (Err r) = false

-- the length of the file, and the records that the answer says; 0 for a refusal
abbrev pub file_length : Outcome Written → ℕ
file_length (Ok w) = length w.file
file_length (Err r) = 0

abbrev pub records_said : Outcome Written → ℕ
records_said (Ok w) = w.figures.records
records_said (Err r) = 0

whole_accepted : is_accepted (on lower whole) ≡ true
unfolding computing
whole_accepted = refl

whole_length : file_length (on lower whole) ≡ 215
unfolding computing
whole_length = refl

empty_length : file_length (on lower empty) ≡ 21
unfolding computing
empty_length = refl

whole_records : records_said (on lower whole) ≡ 18
unfolding computing
whole_records = refl

-- ---- copying the input through (excluded by `lowering_is_01`)

abbrev pub with_file : List ℕ → Outcome Written → Outcome Written
with_file file (Ok w) = Ok (record { file = file; figures = w.figures })
with_file file (Err r) = Err r

unfoldable pub copying : Lowering
copying file lent out = with_file file (lower file lent out)

copied_length : file_length (on copying whole) ≡ 76
unfolding copying computing
copied_length = refl

pub no_copying : copying ≡ lower → ⊥
no_copying e = omega (arith, copied_length, whole_length, ap (λ (l : Lowering). file_length (on l whole)) e)

-- ---- lowering Program and skipping inner lists (excluded by `lowering_is_01`)

-- the rewrite of Program, the walk's first visit, alone
unfoldable pub program_only : Lowering
program_only file lent out = do
  f ← admit file lent
  check_output out (final_figures f)
  Ok (record { file = written (renumbered (file_at (visits 1 (start f)))); figures = final_figures f })

program_length : file_length (on program_only whole) ≡ 76
unfolding program_only computing
program_length = refl

pub no_skipping : program_only ≡ lower → ⊥
no_skipping e = omega (arith, program_length, whole_length, ap (λ (l : Lowering). file_length (on l whole)) e)

-- ---- refusing all (excluded by `lowering_is_01` and `small_tables`)

abbrev pub refusing_all : Reason → ℕ → Lowering
refusing_all c p file lent out = refused c p

pub no_refusing_all : (c : Reason) (p : ℕ) → refusing_all c p ≡ lower → ⊥
no_refusing_all c p e = clash refl (ap (λ (l : Lowering). is_accepted (on l whole)) e ∙ whole_accepted)

-- ---- crying small tables at once (excluded by `small_tables`)

-- as soon as a file is checked
unfoldable pub crying : Lowering
crying file lent out = do
  f ← check_file file
  refused Reason.FewRows 0

crying_refuses : is_accepted (on crying whole) ≡ false
unfolding crying computing
crying_refuses = refl

pub no_crying : crying ≡ lower → ⊥
no_crying e = clash crying_refuses (ap (λ (l : Lowering). is_accepted (on l whole)) e ∙ whole_accepted)

-- ---- one fixed tree (excluded by `lowering_is_01`)

-- the file of any accepted answer is one and the same
unfoldable pub fixed : List ℕ → Lowering
fixed one file lent out = with_file one (lower file lent out)

fixed_whole : (one : List ℕ) → file_length (on (fixed one) whole) ≡ length one
unfolding fixed computing
fixed_whole one = refl

fixed_empty : (one : List ℕ) → file_length (on (fixed one) empty) ≡ length one
unfolding fixed computing
fixed_empty one = refl

pub no_fixed_tree : (one : List ℕ) → fixed one ≡ lower → ⊥
no_fixed_tree one e =
    omega (
      arith,
      fixed_whole one,
      fixed_empty one,
      whole_length,
      empty_length,
      ap (λ (l : Lowering). file_length (on l whole)) e,
      ap (λ (l : Lowering). file_length (on l empty)) e,
    )

-- ---- all rewrites at the first visit and idle visits after (excluded by the counts of `demand_3`)

-- where the walk stands after so many calls
unfoldable pub hasty : ℕ → File → Spot
hasty zero f = start f
hasty (suc k) f = final_spot f

abbrev pub honest : ℕ → File → Spot
honest k f = visit_calls k (start f)

abbrev pub records_after_one : (ℕ → File → Spot) → ℕ
records_after_one walk = (figures_at (walk 1 (file_of (read_file whole)))).records

pub hasty_records : records_after_one hasty ≡ 18
unfolding hasty computing
hasty_records = refl

pub honest_records : records_after_one honest ≡ 6
unfolding computing
honest_records = refl

-- ---- never over (excluded by `over_told` of `demand_3`)

-- what is told of the tables: there is always a visit left
abbrev pub never_over : Tables → Bool
never_over q = false

-- the end of the walk over the empty Program
abbrev pub end : Spot
end = final_spot (file_of (read_file empty))

end_over : is_over end ≡ true
unfolding computing
end_over = refl

pub no_endless : never_over ≡ is_over_in → ⊥
no_endless e =
    let rest : Rest = record { records = []; scopes = []; symbols = [] } in
    clash refl (ap (λ (o : Tables → Bool). o (held end 0 rest)) e ∙ over_told_lem end 0 rest ∙ end_over)

-- ---- invented figures (excluded by the counts in the written file, `demand_3`)

-- one record more than there are
abbrev pub one_more : Figures → Figures
one_more g = figures (suc g.records) g.scopes g.symbols g.contexts g.bytes

abbrev pub with_figures : (Figures → Figures) → Outcome Written → Outcome Written
with_figures change (Ok w) = Ok (record { file = w.file; figures = change w.figures })
with_figures change (Err r) = Err r

unfoldable pub inventing : Lowering
inventing file lent out = with_figures one_more (lower file lent out)

invented_records : records_said (on inventing whole) ≡ 19
unfolding inventing computing
invented_records = refl

pub no_inventing : inventing ≡ lower → ⊥
no_inventing e = omega (arith, invented_records, whole_records, ap (λ (l : Lowering). records_said (on l whole)) e)

-- and one context more
abbrev pub context_more : Figures → Figures
context_more g = figures g.records g.scopes g.symbols (suc g.contexts) g.bytes

unfoldable pub inventing_contexts : Lowering
inventing_contexts file lent out = with_figures context_more (lower file lent out)

abbrev pub contexts_said : Outcome Written → ℕ
contexts_said (Ok w) = w.figures.contexts
contexts_said (Err r) = 0

whole_contexts : contexts_said (on lower whole) ≡ 1
unfolding computing
whole_contexts = refl

invented_contexts : contexts_said (on inventing_contexts whole) ≡ 2
unfolding inventing_contexts computing
invented_contexts = refl

pub no_inventing_contexts : inventing_contexts ≡ lower → ⊥
no_inventing_contexts e = omega (arith, invented_contexts, whole_contexts, ap (λ (l : Lowering). contexts_said (on l whole)) e)

-- ---- one letter for all (excluded by `hints`)

abbrev pub Weight : Type 0
Weight = List ℕ → List ℕ → ℕ → ℕ

-- a block with an `await using`
abbrev pub awaited : List ℕ
awaited = bytes "40:1,0 41:0,16 41:1,0 42:10,6,2,0,1 1:1,1 2:2,1 5:4,1 6:0,1,2 26:1 24:7,0"

-- every using is taken for a plain one
unfoldable pub asked_plain : Weight → Forest → ℕ
asked_plain w tree = sum_over (asks_for w (λ _. 0)) tree

-- each using counts its letter
abbrev pub by_letter : Weight
by_letter names e letter = letter

asked_letter : asked by_letter (file_of (read_file awaited)).tree ≡ 1
unfolding asked sum_over asks_for usings_in over_declarators of_initializer names_of hint_of letter_of computing
asked_letter = refl

plain_letter : asked_plain by_letter (file_of (read_file awaited)).tree ≡ 0
unfolding asked_plain sum_over asks_for usings_in over_declarators of_initializer names_of computing
plain_letter = refl

pub no_one_letter : asked ≡ asked_plain → ⊥
no_one_letter e =
    omega (
      arith,
      asked_letter,
      plain_letter,
      ap (λ (a : Weight → Forest → ℕ). a by_letter (file_of (read_file awaited)).tree) e,
    )

-- ---- hints in the written file

-- what is written; nothing for a refusal
abbrev pub bytes_of : Outcome Written → List ℕ
bytes_of (Ok w) = w.file
bytes_of (Err r) = []

-- what the source asks for, and what is called in the file that a lowering writes
abbrev pub asked_in : List ℕ → Weight → ℕ
asked_in file w = asked w (file_of (read_file file)).tree

abbrev pub given_by : Lowering → List ℕ → Weight → ℕ
given_by l file w = given w (length (file_of (read_file file)).symbols) (tree_in (bytes_of (on l file)))

-- what `hints` says of a lowering, on a file
abbrev pub Hinted : Lowering → List ℕ → Type 0
Hinted l file = (w : Weight) → given_by l file w ≡ asked_in file w

-- what the last call leaves, written in some other form
abbrev pub writing_as : (File → File) → Lowering
writing_as form file lent out = do
  f ← admit file lent
  check_output out (final_figures f)
  Ok (record { file = written (form (file_at (final_spot f))); figures = final_figures f })

-- a lowering that changes the lowered tree before it is written
abbrev pub with_tree : File → Forest → File
with_tree f tree = record { mode = f.mode; is_module = f.is_module; scopes = f.scopes; symbols = f.symbols; tree = tree }

abbrev pub changing : (List Symbol → Forest → Forest) → Lowering
changing change file lent out = writing_as (λ g. renumbered (with_tree g (change g.symbols g.tree))) file lent out

-- ---- the letters of two declarations swapped (excluded by `hints`)

-- a Block with `using [] = 7` and `await using [] = 8`, whose Declarators both bind no name
abbrev pub twins : List ℕ
twins = bytes "40:1,0 41:0,16 41:1,0 1:1,1 2:2,2 5:3,1 6:1,0,1 24:7,0 5:4,1 6:1,0,1 24:8,0"

-- each Call has the other letter
unfoldable pub other_letters : Forest → Forest
other_letters none = none
other_letters (more h k r) =
    more (if eqb h.tag Tag.Call then hd Tag.Call (1 - h.a) h.b 0 else h) (other_letters k) (other_letters r)

unfoldable pub swapping : Lowering
swapping file lent out = changing (λ _ tree. other_letters tree) file lent out

-- the letter of the declaration whose initializer is `24:8`
abbrev pub of_eight : Weight
of_eight names e letter = if eqb (get_or e 1 0) 8 then letter else 0

twins_asked : asked_in twins of_eight ≡ 1
unfolding asked sum_over asks_for usings_in over_declarators of_initializer names_of shown hint_of letter_of computing
twins_asked = refl

twins_swapped : given_by swapping twins of_eight ≡ 0
unfolding swapping other_letters given sum_over calls_in over_declarators of_initializer names_of called shown as_in_source tree_in trees_from records_of row_of fields_of fields_in numbers_in computing
twins_swapped = refl

twins_lowered : given_by lower twins of_eight ≡ 1
unfolding given sum_over calls_in over_declarators of_initializer names_of called shown as_in_source tree_in trees_from records_of row_of fields_of fields_in numbers_in computing
twins_lowered = refl

pub no_swapped_letters : swapping ≡ lower → ⊥
no_swapped_letters e = omega (arith, twins_lowered, twins_swapped, ap (λ (l : Lowering). given_by l twins of_eight) e)

-- its file has not what `hints` says
pub swapped_not_hinted : Hinted swapping twins → ⊥
swapped_not_hinted e = omega (arith, twins_asked, twins_swapped, e of_eight)

-- ---- the value of `_default` wrapped (excluded by `hints`)

-- a module with a using and an exported value
abbrev pub exporting : List ℕ
exporting = bytes "40:1,1 41:0,17 42:10,6,1,0,1 1:1,2 5:3,1 6:0,1,2 26:1 24:7,0 18:1 24:5,0"

-- the row of the first symbol with a name
unfoldable pub row_named : ℕ → ℕ → List Symbol → ℕ
row_named name i [] = 0
row_named name i (y ∷ ys) = if eqb y.name name then i else row_named name (suc i) ys

-- the initializer of `_default` is called through the context, too
unfoldable pub wrap_default : List Symbol → Forest → Forest
wrap_default ys none = none
wrap_default ys (more h k r) =
    more h
    (if eqb h.tag Tag.Declarator && eqb (get_or (names_of 1 k) 0 0) (row_named KnownName.DefaultValue 1 ys) then
    wrap_initializer 0 (row_named KnownName.UsingCtx 1 ys) 1 k
    else wrap_default ys k)
    (wrap_default ys r)

unfoldable pub wrapping_default : Lowering
wrapping_default file lent out = changing wrap_default file lent out

-- every initializer that is called counts
abbrev pub any_called : Weight
any_called names e letter = 1

default_asked : asked_in exporting any_called ≡ 1
unfolding asked sum_over asks_for usings_in over_declarators of_initializer names_of shown hint_of letter_of computing
default_asked = refl

default_wrapped : given_by wrapping_default exporting any_called ≡ 2
unfolding wrapping_default wrap_default row_named given sum_over calls_in over_declarators of_initializer names_of called shown as_in_source tree_in trees_from records_of row_of fields_of fields_in numbers_in computing
default_wrapped = refl

default_lowered : given_by lower exporting any_called ≡ 1
unfolding given sum_over calls_in over_declarators of_initializer names_of called shown as_in_source tree_in trees_from records_of row_of fields_of fields_in numbers_in computing
default_lowered = refl

pub no_wrapped_default : wrapping_default ≡ lower → ⊥
no_wrapped_default e = omega (arith, default_lowered, default_wrapped, ap (λ (l : Lowering). given_by l exporting any_called) e)

pub wrapped_not_hinted : Hinted wrapping_default exporting → ⊥
wrapped_not_hinted e = omega (arith, default_asked, default_wrapped, e any_called)

-- ---- the running letter of before in a switch (excluded by `hints`)

-- an `await using` in a Case, and a `using` in the next
abbrev pub cases : List ℕ
cases =
    bytes "40:1,0 41:0,16 41:1,0 42:10,6,2,0,1 42:11,6,2,0,1 1:1,1 9:2,3 24:0,0 10:0,1 5:4,1 6:0,1,2 26:1 24:7,0 10:0,1 5:3,1 6:0,1,2 26:2 24:8,0"

abbrev pub first_head : Forest → Head
first_head none = hd 0 0 0 0
first_head (more h k r) = h

abbrev pub first_children : Forest → Forest
first_children none = none
first_children (more h k r) = k

abbrev pub SwitchRewrite : Type 0
SwitchRewrite = ℕ → Head → Forest → Change Node

-- a Program with a Switch alone, that being rewritten
abbrev pub switched : SwitchRewrite → File → File
switched switch f =
    let s = first_children f.tree in
    let e = switch 1 (first_head s) (first_children s) (store_of f) in
    record {
      mode = f.mode;
      is_module = f.is_module;
      scopes = e.1.scopes;
      symbols = e.1.symbols;
      tree = one (first_head f.tree) (single e.0);
    }

-- lowering does no more to such a file
pub cases_switched : written (renumbered (switched transform_switch_statement (file_of (read_file cases)))) ≡ bytes_of (on lower cases)
unfolding computing
cases_switched = refl

-- and before it did this
unfoldable pub running : Lowering
running file lent out = do
  f ← admit file lent
  check_output out (final_figures f)
  Ok (record { file = written (renumbered (switched switch_before f)); figures = final_figures f })

cases_asked : asked_in cases by_letter ≡ 1
unfolding asked sum_over asks_for usings_in over_declarators of_initializer names_of shown hint_of letter_of computing
cases_asked = refl

cases_running : given_by running cases by_letter ≡ 2
unfolding running switch_by take_up_cases_before take_up_before given sum_over calls_in over_declarators of_initializer names_of called shown as_in_source tree_in trees_from records_of row_of fields_of fields_in numbers_in computing
cases_running = refl

cases_lowered : given_by lower cases by_letter ≡ 1
unfolding given sum_over calls_in over_declarators of_initializer names_of called shown as_in_source tree_in trees_from records_of row_of fields_of fields_in numbers_in computing
cases_lowered = refl

pub no_running_letter : running ≡ lower → ⊥
no_running_letter e = omega (arith, cases_lowered, cases_running, ap (λ (l : Lowering). given_by l cases by_letter) e)

pub running_not_hinted : Hinted running cases → ⊥
running_not_hinted e = omega (arith, cases_asked, cases_running, e by_letter)

-- ---- the usings of Cases left as they are (excluded by `hints`, since it speaks of switches too)

-- each Call is replaced by what it calls
unfoldable pub uncalled : Forest → Forest
uncalled none = none
uncalled (more h k r) = if eqb h.tag Tag.Call then k & uncalled r else more h (uncalled k) (uncalled r)

unfoldable pub uncalled_cases : Forest → Forest
uncalled_cases none = none
uncalled_cases (more h k r) = more h (if eqb h.tag Tag.Case then uncalled k else uncalled_cases k) (uncalled_cases r)

unfoldable pub skipping_cases : Lowering
skipping_cases file lent out = changing (λ _ tree. uncalled_cases tree) file lent out

cases_skipped : given_by skipping_cases cases by_letter ≡ 0
unfolding skipping_cases uncalled_cases uncalled given sum_over calls_in over_declarators of_initializer names_of called shown as_in_source tree_in trees_from records_of row_of fields_of fields_in numbers_in computing
cases_skipped = refl

pub no_skipped_cases : skipping_cases ≡ lower → ⊥
no_skipped_cases e = omega (arith, cases_lowered, cases_skipped, ap (λ (l : Lowering). given_by l cases by_letter) e)

pub skipped_not_hinted : Hinted skipping_cases cases → ⊥
skipped_not_hinted e = omega (arith, cases_asked, cases_skipped, e by_letter)

-- ---- a switch's step by its letters alone (excluded by `letters_only`)

-- a Call with the letter `a`
unfoldable pub calls_a : Forest → Bool
calls_a none = false
calls_a (more h k r) = (eqb h.tag Tag.Call && eqb h.a Letter.A) || calls_a k || calls_a r

-- the release is awaited if a Call in a Case has the letter `a`
abbrev pub switch_by_letters : SwitchRewrite
switch_by_letters = switch_by take_up_cases (λ k. calls_a (take_up_cases 1 k))

-- a Switch with an `await using` without an initializer
abbrev pub bare : File
bare = file_of (read_file (bytes "40:1,0 41:0,16 41:1,0 42:10,6,2,0,1 1:1,1 9:2,2 24:0,0 10:0,1 5:4,1 6:0,1,1 26:1"))

-- the forms of all Steps
unfoldable pub steps : Forest → ℕ
steps f = sum_over (λ h k. if eqb h.tag Tag.Step then h.a else 0) f

abbrev pub bare_steps : SwitchRewrite → ℕ
bare_steps switch = steps (unlettered (switched switch bare).tree)

steps_before : bare_steps switch_before ≡ 2
unfolding steps unlettered sum_over switch_by take_up_cases_before take_up_before computing
steps_before = refl

steps_by_letters : bare_steps switch_by_letters ≡ 1
unfolding steps unlettered sum_over calls_a switch_by computing
steps_by_letters = refl

pub no_letter_step : ButLetters switch_by_letters → ⊥
unfolding steps unlettered sum_over
no_letter_step e =
    let s = first_children bare.tree in
    let same = (e 1 (first_head s) (first_children s) (store_of bare)).1 in
    omega (arith, steps_before, steps_by_letters, ap steps same)

-- ---- the import line at another time or place (excluded by `import_line_lem`)

-- a block with a using, in a runtime module and in a script
abbrev pub importing : File
importing = file_of (read_file (bytes "40:0,1 41:0,16 41:1,0 42:10,6,2,0,1 1:1,1 2:2,1 5:3,1 6:0,1,2 26:1 24:7,0"))

abbrev pub script : File
script = file_of (read_file (bytes "40:0,0 41:0,16 41:1,0 42:10,6,2,0,1 1:1,1 2:2,1 5:3,1 6:0,1,2 26:1 24:7,0"))

-- how many records there are
abbrev pub records_at : Spot → ℕ
records_at s = size (tree_at s)

-- the line stands from the first visit on
unfoldable pub early_calls : ℕ → File → Spot
early_calls zero f = start f
early_calls (suc k) f =
    let s = visits (suc k) (start f) in
    over (with_import (store_at (last_spot f)).helper (tree_at s)) (store_at s)

early_records : records_at (early_calls 1 importing) ≡ 8
unfolding early_calls computing
early_records = refl

module_records : records_at (visits 1 (start importing)) ≡ 6
unfolding computing
module_records = refl

one_visit : is_over (visits 1 (start importing)) ≡ false
unfolding computing
one_visit = refl

pub no_early_line : ImportLine early_calls importing 1 → ⊥
no_early_line i = omega (arith, early_records, module_records, ap records_at (i.before one_visit))

-- each call puts the line once the walk is over
unfoldable pub again_calls : ℕ → File → Spot
again_calls zero f = start f
again_calls (suc k) f = completed (visit (again_calls k f))

again_records : (records_at (again_calls 18 importing) ≡ 20) × (records_at (again_calls 19 importing) ≡ 22)
unfolding again_calls computing
again_records = (refl, refl)

all_visits : is_over (visits 18 (start importing)) ≡ true
unfolding computing
all_visits = refl

pub no_second_line : ImportLine again_calls importing 18 → ⊥
no_second_line i = omega (arith, again_records, ap records_at (i.once all_visits))

-- a script gets the line too
unfoldable pub script_calls : ℕ → File → Spot
script_calls k f =
    let s = visits k (start f) in
    if is_over s && not (eqb (store_at s).helper 0) then over (with_import (store_at s).helper (tree_at s)) (store_at s) else s

script_records : records_at (script_calls 18 script) ≡ 20
unfolding script_calls computing
script_records = refl

plain_records : records_at (visits 18 (start script)) ≡ 18
unfolding computing
plain_records = refl

no_import : imports script ≡ false
unfolding computing
no_import = refl

pub no_line_in_scripts : ImportLine script_calls script 18 → ⊥
no_line_in_scripts i = omega (arith, script_records, plain_records, ap records_at (i.elsewhere no_import))

-- no line is put at all
has_import : imports importing ≡ true
unfolding computing
has_import = refl

pub no_missing_line : ImportLine (λ k f. visits k (start f)) importing 18 → ⊥
unfolding size
no_missing_line i =
    let p = i.first has_import all_visits in
    omega (arith, ap size p.2, ap size p.3)

-- ---- lengths that are none of 01's (excluded by `lengths_are_01`)

-- what `lengths_are_01` says of the table
abbrev pub RightLengths : List ℕ → Type 0
RightLengths table = (t : ℕ) → get_or table t 0 ≡ 2 * numbers_of t

-- entries that count numbers, not bytes
unfoldable pub count_table : List ℕ
count_table = map (λ (n : ℕ). n / 2) lengths

pub no_count_table : RightLengths count_table → ⊥
unfolding count_table lengths numbers_of
no_count_table right = omega (arith, right Tag.Program)

-- a length where no tag is
unfoldable pub filled_table : List ℕ
filled_table = map (λ (n : ℕ). if eqb n 0 then 2 else n) lengths

pub no_filled_table : RightLengths filled_table → ⊥
unfolding filled_table lengths numbers_of
no_filled_table right = omega (arith, right 21)

-- ---- depth at another time than right after a head (excluded by `depth_first_lem`)

-- a refusal's number, 0 for none
abbrev pub number_of : Outcome File → ℕ
number_of (Ok f) = 0
number_of (Err r) = reason_number r.reason

-- a record at level 65 with a tag that may not stand there, with a head of two bytes, and with nothing wrong
abbrev pub wrong_tag : List ℕ
wrong_tag = deep 62 ++ bytes "2:1,0"

abbrev pub cut_head : List ℕ
cut_head = deep 62 ++ 24 ∷ 0 ∷ []

abbrev pub too_deep_only : List ℕ
too_deep_only = deep 62 ++ bytes "24:1,0"

-- behind the record's own checks, as before
late_number : number_of (read_before wrong_tag) ≡ 3
unfolding read_before forest_with nested computing
late_number = refl

first_number : number_of (read_deep depth_first wrong_tag) ≡ 6
unfolding forest_with nested computing
first_number = refl

pub no_late_depth : DepthFirst read_before → ⊥
no_late_depth d = omega (arith, late_number, first_number, ap number_of (d.deep wrong_tag))

-- before the head is whole
unfoldable pub read_early : List ℕ → Outcome File
read_early = read_deep (λ f syms p cur at m. refused Reason.TooDeep at)

early_number : number_of (read_early cut_head) ≡ 6
unfolding read_early forest_with nested computing
early_number = refl

cut_number : number_of (read_deep depth_first cut_head) ≡ 2
unfolding forest_with nested computing
cut_number = refl

pub no_early_depth : DepthFirst read_early → ⊥
no_early_depth d = omega (arith, early_number, cut_number, ap number_of (d.deep cut_head))

-- one level later
unfoldable pub one_level_more : List ℕ → Outcome File
one_level_more = read_with (read_forest (suc most_levels))

more_number : number_of (one_level_more too_deep_only) ≡ 0
unfolding one_level_more nested computing
more_number = refl

deep_number : number_of (read_deep depth_first too_deep_only) ≡ 6
unfolding forest_with nested computing
deep_number = refl

pub no_level_more : DepthFirst one_level_more → ⊥
no_level_more d = omega (arith, more_number, deep_number, ap number_of (d.deep too_deep_only))

-- ---- counts that are not those of the tree (excluded by `counts_true`, `counts_written` and `count_refusal`)

abbrev pub whole_file : File
whole_file = file_of (read_file whole)

-- counts as they were read, and 0 for new symbols
unfoldable pub stale_counts : ℕ → File → List ℕ
stale_counts k f = counts_from (λ y. mentions y f.tree) (length (store_at (visit_calls k (start f))).symbols) 1

-- the count of the context's symbol, the second, once the block is rewritten
stale_count : get_or (stale_counts 2 whole_file) 1 0 ≡ 0
unfolding stale_counts counts_from computing
stale_count = refl

true_count : (let s = visit_calls 2 (start whole_file) in get_or (counts_from (λ y. mentions y (tree_at s)) (length (store_at s).symbols) 1) 1 0 ≡ 4)
unfolding counts_from computing
true_count = refl

pub no_stale_counts : TrueCounts stale_counts whole_file 2 → ⊥
no_stale_counts e = omega (arith, stale_count, true_count, ap (λ (c : List ℕ). get_or c 1 0) e)

-- the lowered file with such counts
abbrev pub stale_file : List ℕ
stale_file =
    bytes "40:1,0 41:0,16 41:1,0 41:1,2 41:3,0 41:1,0 42:10,6,2,0,1 42:5,1,1,1,0 42:2,17,4,0,0 1:1,1 11:3,3 2:2,2 5:0,1 6:0,1,2 26:2 28:1,0 5:2,1 6:0,1,2 26:1 27:0,2,1 24:7,0 12:3,1,0,2 26:3 2:4,1 29:0,2,3 2:5,1 29:1,2,0"

stale_said : get_or (counts_said (fields_of stale_file)) 1 0 ≡ 0
unfolding counts_said fields_of fields_in numbers_in computing
stale_said = refl

named_there : mentions_in 2 (fields_of stale_file) ≡ 4
unfolding mentions_in often names_in fields_of fields_in numbers_in computing
named_there = refl

rows_there : field_count (λ t. eqb t Tag.Symbol) (fields_of stale_file) ≡ 3
unfolding field_count fields_of fields_in numbers_in computing
rows_there = refl

pub no_stale_file : TrueInBytes stale_file → ⊥
unfolding counts_from
no_stale_file e = omega (arith, stale_said, named_there, ap (λ (c : List ℕ). get_or c 1 0) (rw rows_there at e))

-- a file in which the second and the third row have wrong counts
abbrev pub wrong_counts : List ℕ
wrong_counts = bytes "40:1,0 41:0,16 42:10,6,1,0,0 42:11,6,1,0,1 42:12,6,1,0,1 1:1,0"

abbrev pub miscounted : File
miscounted = file_of (read_uncounted wrong_counts)

but_for_counts : read_uncounted wrong_counts ≡ Ok miscounted
unfolding read_uncounted computing
but_for_counts = refl

three_rows : length miscounted.symbols ≡ 3
unfolding read_uncounted computing
three_rows = refl

second_said : fifth_number wrong_counts miscounted 2 ≡ 1
unfolding read_uncounted computing
second_said = refl

second_named_lem : mentions 2 miscounted.tree ≡ 0
unfolding read_uncounted computing
second_named_lem = refl

-- a reader that does not look at counts
pub no_unread_counts : CountsChecked read_uncounted → ⊥
no_unread_counts c =
    omega (arith, second_said, second_named_lem, (c.accepts wrong_counts miscounted but_for_counts).1 2 (omega arith) (omega (arith, three_rows)))

-- a reader that refuses at the highest wrong row: its number, or 0 if there is none
unfoldable pub highest_wrong : List ℕ → (ℕ → ℕ) → ℕ → ℕ → ℕ → ℕ
highest_wrong f count zero y at = 0
highest_wrong f count (suc n) y at =
    let higher = highest_wrong f count n (suc y) (at + symbol_bytes) in
    if not (eqb higher 0) then higher else if eqb (two f (at + 11)) (count y) then 0 else y

abbrev pub highest : List ℕ → File → Outcome File
highest f g =
    let y = highest_wrong f (λ y. mentions y g.tree) (length g.symbols) 1 (first_symbol g) in
    if eqb y 0 then Ok g else refused Reason.WrongNumber (symbol_offset g y)

unfoldable pub read_highest : List ℕ → Outcome File
read_highest f = read_uncounted f >>= highest f

-- the place of a refusal, 0 for none
abbrev pub place_of : Outcome File → ℕ
place_of (Ok f) = 0
place_of (Err r) = r.place

highest_place : place_of (read_highest wrong_counts) ≡ 40
unfolding read_highest highest_wrong read_uncounted computing
highest_place = refl

second_place : symbol_offset miscounted 2 ≡ 27
unfolding read_uncounted computing
second_place = refl

first_right : (j : ℕ) → 1 ≤ j → j < 2 → CountRight wrong_counts miscounted j
unfolding read_uncounted computing
first_right zero l m = absurd (omega arith)
first_right (suc zero) l m = refl
first_right (suc (suc j)) l m = absurd (omega arith)

second_wrong : LowestWrong wrong_counts miscounted 2
second_wrong =
    record {
      from_one = omega arith;
      a_row = omega (arith, three_rows);
      wrong = λ e. omega (arith, second_said, second_named_lem, e);
      below = first_right;
    }

pub no_highest_row : CountsChecked read_highest → ⊥
no_highest_row c = omega (arith, highest_place, second_place, ap place_of (c.wrong wrong_counts miscounted 2 but_for_counts second_wrong))

-- ---- scope rows that do not agree with the tree (excluded by `scopes_agree`)

-- a Body with a Block and a using: the Block's row, the third, comes below the new scope 4
abbrev pub block_in_body : File
block_in_body =
    file_of (read_file (bytes "40:1,0 41:0,16 41:1,8 41:2,0 42:20,64,1,0,1 42:10,6,2,0,1 1:1,1 13:0,2,1,2 24:1,0 14:2 2:3,0 5:3,1 6:0,1,2 26:2 24:7,0"))

-- where its fourth visit leads
abbrev pub body_entered : Spot
body_entered = visit_calls 4 (start block_in_body)

-- the first number, 0 for none
abbrev pub first_of : List ℕ → ℕ
first_of ns = get_or ns 0 0

third_below : enclosing_scopes 3 0 (tree_at body_entered) ≡ 4 ∷ []
unfolding computing
third_below = refl

-- rows that were read keep the parents that they were read with
unfoldable pub unmoved : List Scope → List Scope → List Scope
unmoved [] ss = ss
unmoved (r ∷ rs) [] = []
unmoved (r ∷ rs) (s ∷ ss) = scope_row r.parent s.flags ∷ unmoved rs ss

abbrev pub unmoved_rows : List Scope
unmoved_rows = unmoved block_in_body.scopes (store_at body_entered).scopes

third_unmoved : (is_row (length unmoved_rows) 3 ≡ true) × ((row_at no_scope unmoved_rows 3).parent ≡ 2)
unfolding unmoved computing
third_unmoved = (refl, refl)

pub no_unmoved_parent : ScopesAgree unmoved_rows (tree_at body_entered) → ⊥
no_unmoved_parent a =
    omega (arith, third_unmoved.1, ap first_of third_below, ap first_of (a.rows 3 third_unmoved.0))

-- a row more than records name
abbrev pub idle_rows : List Scope
idle_rows = (store_at body_entered).scopes ++ scope_row 1 0 ∷ []

eighth_idle : (is_row (length idle_rows) 8 ≡ true) × (enclosing_scopes 8 0 (tree_at body_entered) ≡ [])
unfolding computing
eighth_idle = (refl, refl)

pub no_idle_row : ScopesAgree idle_rows (tree_at body_entered) → ⊥
no_idle_row a = omega (arith, ap (λ (ns : List ℕ). length ns) eighth_idle.1, ap (λ (ns : List ℕ). length ns) (a.rows 8 eighth_idle.0))

-- a Catch and the Block in it that share a row
unfoldable pub sharing : ℕ → Forest → Forest
sharing s none = none
sharing s (more h k r) =
    let inside = if eqb h.tag Tag.Catch then h.a else 0 in
    more (if eqb h.tag Tag.Block && not (eqb s 0) then hd Tag.Block s 0 0 else h) (sharing inside k) (sharing s r)

fifth_shared : (is_row (length (store_at body_entered).scopes) 5 ≡ true) × (enclosing_scopes 5 0 (sharing 0 (tree_at body_entered)) ≡ 2 ∷ 5 ∷ [])
unfolding sharing computing
fifth_shared = (refl, refl)

pub no_shared_row : ScopesAgree (store_at body_entered).scopes (sharing 0 (tree_at body_entered)) → ⊥
no_shared_row a = omega (arith, ap (λ (ns : List ℕ). length ns) fifth_shared.1, ap (λ (ns : List ℕ). length ns) (a.rows 5 fifth_shared.0))

-- ---- lowerings that do not leave their own files as they are (excluded by `lowers_to_itself`)

-- a lowering as it is called
abbrev pub as_run : Lowering → Run
as_run l file r s y o = lower_of (l file (lent_in r s y) (length o)) r s y o

-- so many zeros are lent
abbrev pub zeros : ℕ → List ℕ
zeros n = replicate n 0

-- each byte of a list is at most 255
unfoldable pub small : List ℕ → Bool
small [] = true
small (x ∷ xs) = leb x 255 && small xs

pub small_bytes : (xs : List ℕ) → small xs ≡ true → Bytes xs
unfolding small
small_bytes [] e i = omega arith
small_bytes (x ∷ xs) e zero = leb-true x 255 (and_left (leb x 255) (small xs) e)
small_bytes (x ∷ xs) e (suc i) = small_bytes xs (and_right (leb x 255) (small xs) e) i

-- what a lowering wrote
pub wrote_by : (l : Lowering) (file r s y o : List ℕ) (w : Written) → l file (lent_in r s y) (length o) ≡ Ok w
    → take w.figures.bytes (written_over w.file o) ≡ w.file → Wrote (as_run l) file r s y o w.file
wrote_by l file r s y o w e t = (
  shown_figures w.figures,
  ap (λ (a : Outcome Written). (lower_of a r s y o).answer) e,
  sym t ∙ sym (ap (λ (a : Outcome Written). take w.figures.bytes (lower_of a r s y o).out) e),
)

-- the whole case lowered
abbrev pub whole_lowered : List ℕ
whole_lowered =
    bytes "40:1,0 41:0,16 41:1,0 41:1,2 41:3,0 41:1,0 42:10,6,2,0,1 42:5,1,1,1,4 42:2,17,4,0,2 1:1,1 11:3,3 2:2,2 5:0,1 6:0,1,2 26:2 28:1,0 5:2,1 6:0,1,2 26:1 27:0,2,1 24:7,0 12:3,1,0,2 26:3 2:4,1 29:0,2,3 2:5,1 29:1,2,0"

pub whole_small : small whole ≡ true
unfolding small computing
whole_small = refl

pub whole_read : read_file whole_lowered ≡ Ok (file_of (read_file whole_lowered))
unfolding computing
whole_read = refl

whole_own : field_figures whole_lowered ≡ figures 18 5 3 0 215
unfolding field_figures field_count fields_of fields_in numbers_in computing
whole_own = refl

-- of a lowering that leaves its own files as they are: what it answers for one that it wrote, with the memory of the first call
second_answer : (l : Lowering) (file r s y o : List ℕ) (w : Written) (g : File) → LowersTwice (as_run l) → small file ≡ true
    → l file (lent_in r s y) (length o) ≡ Ok w → take w.figures.bytes (written_over w.file o) ≡ w.file
    → read_file w.file ≡ Ok g → Enough (lent_in r s y) (field_figures w.file) → length w.file ≤ length o
    → (lower_of (l w.file (lent_in r s y) (length o)) r s y o).answer ≡ Ok (shown_figures (field_figures w.file))
second_answer l file r s y o w g twice bytes e t read rows long =
    ap (λ (f : Finished). f.answer)
    ((twice file r s y o w.file g (small_bytes file bytes) (wrote_by l file r s y o w e t) read).same r s y o rows long)

-- just enough for the whole case
pub whole_lent : lent_in (zeros 126) (zeros 15) (zeros 18) ≡ lend 18 5 3
unfolding lent_in
whole_lent = refl

whole_enough : Enough (lent_in (zeros 126) (zeros 15) (zeros 18)) (field_figures whole_lowered)
whole_enough = rw (whole_lent, whole_own) (omega arith, omega arith, omega arith)

lowered_length : length whole_lowered ≡ 215
unfolding computing
lowered_length = refl

pub whole_front : take 215 (written_over whole_lowered (zeros 215)) ≡ whole_lowered
unfolding computing
whole_front = refl

abbrev pub whole_written : Written
whole_written = record { file = whole_lowered; figures = figures 18 5 3 1 215 }

abbrev pub whole_second : Lowering → Outcome FinalFigures
whole_second l = (lower_of (l whole_lowered (lent_in (zeros 126) (zeros 15) (zeros 18)) 215) (zeros 126) (zeros 15) (zeros 18) (zeros 215)).answer

whole_second_lem : (l : Lowering) → l whole (lend 18 5 3) 215 ≡ Ok whole_written → LowersTwice (as_run l)
    → whole_second l ≡ Ok (shown_figures (field_figures whole_lowered))
whole_second_lem l e twice =
    second_answer l whole (zeros 126) (zeros 15) (zeros 18) (zeros 215) whole_written (file_of (read_file whole_lowered)) twice whole_small
    (ap (λ (lent : Lent). l whole lent 215) whole_lent ∙ e)
    whole_front whole_read whole_enough (omega (arith, lowered_length))

-- 01's lowering wrote such a file, so the claim speaks of some: the whole case, lowered, is lowered to itself
pub whole_first : lower whole (lend 18 5 3) 215 ≡ Ok whole_written
unfolding computing
whole_first = refl

-- the contexts that were made before are counted again, by their Loads
abbrev pub by_loads : Outcome Written → Outcome Written
by_loads (Ok w) =
    let x = w.figures in
    Ok
    (record {
      file = w.file;
      figures = figures x.records x.scopes x.symbols (field_count is_load (fields_of w.file)) x.bytes;
    })
by_loads (Err r) = Err r

unfoldable pub counting_again : Lowering
counting_again file lent out = by_loads (lower file lent out)

counting_first : counting_again whole (lend 18 5 3) 215 ≡ Ok whole_written
unfolding counting_again field_count fields_of fields_in numbers_in computing
counting_first = refl

abbrev pub contexts_in : Outcome FinalFigures → ℕ
contexts_in (Ok x) = x.contexts
contexts_in (Err r) = 0

counting_second : contexts_in (whole_second counting_again) ≡ 1
unfolding counting_again lent_in field_count fields_of fields_in numbers_in computing
counting_second = refl

pub no_counting_again : LowersTwice (as_run counting_again) → ⊥
no_counting_again twice =
    omega (
      arith,
      counting_second,
      ap contexts_in (whole_second_lem counting_again counting_first twice),
      ap (λ (x : Figures). x.contexts) whole_own,
    )

-- a file that was lowered before is refused
unfoldable pub refusing_lowered : Lowering
refusing_lowered file lent out = if leb 1 (field_count is_load (fields_of file)) then refused Reason.InlineContext 0 else lower file lent out

refusing_first : refusing_lowered whole (lend 18 5 3) 215 ≡ Ok whole_written
unfolding refusing_lowered field_count fields_of fields_in numbers_in computing
refusing_first = refl

abbrev pub records_told : Outcome FinalFigures → ℕ
records_told (Ok x) = x.records
records_told (Err r) = 0

refusing_second : records_told (whole_second refusing_lowered) ≡ 0
unfolding refusing_lowered field_count fields_of fields_in numbers_in computing
refusing_second = refl

pub no_refusing_lowered : LowersTwice (as_run refusing_lowered) → ⊥
no_refusing_lowered twice =
    omega (
      arith,
      refusing_second,
      ap records_told (whole_second_lem refusing_lowered refusing_first twice),
      ap (λ (x : Figures). x.records) whole_own,
    )

-- the import line is put wherever a Load of the helper stands, also one that was read
unfoldable pub first_load : Forest → ℕ
first_load none = 0
first_load (more h k r) =
    let inside = first_load k in
    if eqb h.tag Tag.Load then h.b else if eqb inside 0 then first_load r else inside

abbrev pub with_line : File → File
with_line f =
    let y = first_load f.tree in
    if eqb f.mode 0 && eqb f.is_module 1 && not (eqb y 0) then with_tree f (with_import y f.tree) else f

unfoldable pub importing_again : Lowering
importing_again file lent out = do
  f ← admit file lent
  Ok
      (record {
        file = written (renumbered (with_line (file_at (last_spot f))));
        figures = figures_in (with_line (file_at (last_spot f))) ⊕ figures 0 0 0 (final_figures f).contexts 0;
      })

abbrev pub module_file : List ℕ
module_file = bytes "40:0,1 41:0,16 41:1,0 42:10,6,2,0,1 1:1,1 2:2,1 5:3,1 6:0,1,2 26:1 24:7,0"

abbrev pub module_lowered : List ℕ
module_lowered =
    bytes "40:0,1 41:0,16 41:1,0 41:1,2 41:3,0 41:1,0 42:10,6,2,0,1 42:5,1,1,1,4 42:5,32,1,1,2 42:2,17,4,0,2 1:1,2 17:4,0,1 20:3,3 11:3,3 2:2,2 5:0,1 6:0,1,2 26:2 28:0,3 5:2,1 6:0,1,2 26:1 27:0,2,1 24:7,0 12:3,1,0,2 26:4 2:4,1 29:0,2,4 2:5,1 29:1,2,0"

abbrev pub module_written : Written
module_written = record { file = module_lowered; figures = figures 20 5 4 1 244 }

module_first : importing_again module_file (lend 20 5 4) 244 ≡ Ok module_written
unfolding importing_again first_load computing
module_first = refl

module_lent : lent_in (zeros 140) (zeros 15) (zeros 24) ≡ lend 20 5 4
unfolding lent_in
module_lent = refl

module_own : field_figures module_lowered ≡ figures 20 5 4 0 244
unfolding field_figures field_count fields_of fields_in numbers_in computing
module_own = refl

module_small : small module_file ≡ true
unfolding small computing
module_small = refl

module_read : read_file module_lowered ≡ Ok (file_of (read_file module_lowered))
unfolding computing
module_read = refl

module_length : length module_lowered ≡ 244
unfolding computing
module_length = refl

module_front : take 244 (written_over module_lowered (zeros 244)) ≡ module_lowered
unfolding computing
module_front = refl

-- the second call puts a second line
module_again
    : records_told (lower_of (importing_again module_lowered (lent_in (zeros 140) (zeros 15) (zeros 24)) 244) (zeros 140) (zeros 15) (zeros 24) (zeros 244)).answer ≡ 22
unfolding importing_again first_load lent_in computing
module_again = refl

pub no_importing_again : LowersTwice (as_run importing_again) → ⊥
no_importing_again twice =
    omega (
      arith,
      module_again,
      ap records_told
          (second_answer importing_again module_file (zeros 140) (zeros 15) (zeros 24) (zeros 244) module_written (file_of (read_file module_lowered)) twice module_small
          (ap (λ (lent : Lent). importing_again module_file lent 244) module_lent ∙ module_first)
          module_front module_read (rw (module_lent, module_own) (omega arith, omega arith, omega arith)) (omega (arith, module_length))),
      ap (λ (x : Figures). x.records) module_own,
    )

-- ---- scopes numbered in the order of making (excluded by `tree_order`)

-- what the last call leaves, as it stands: the scopes that the walk made have the last numbers
unfoldable pub as_made : Lowering
as_made file lent out = writing_as (λ g. g) file lent out

-- a Switch with a using: the Block made around it stands before it in the tree, and its row behind
abbrev pub one_case : List ℕ
one_case = bytes "40:1,0 41:0,16 41:1,0 42:10,6,2,0,1 1:1,1 9:2,2 24:0,0 10:0,1 5:3,1 6:0,1,2 26:1 24:7,0"

abbrev pub one_case_made : List ℕ
one_case_made =
    bytes "40:1,0 41:0,16 41:3,0 41:1,0 41:1,2 41:4,0 41:1,0 42:10,6,2,0,1 42:5,1,1,1,4 42:2,17,5,0,2 1:1,1 11:3,3 2:3,2 5:0,1 6:0,1,2 26:2 28:1,0 9:2,2 24:0,0 10:0,1 5:2,1 6:0,1,2 26:1 27:0,2,1 24:7,0 12:4,1,0,2 26:3 2:5,1 29:0,2,3 2:6,1 29:1,2,0"

abbrev pub made_written : Written
made_written = record { file = one_case_made; figures = figures 21 6 3 1 243 }

made_first : as_made one_case (lend 21 6 3) 243 ≡ Ok made_written
unfolding as_made computing
made_first = refl

made_lent : lent_in (zeros 147) (zeros 18) (zeros 18) ≡ lend 21 6 3
unfolding lent_in
made_lent = refl

made_small : small one_case ≡ true
unfolding small computing
made_small = refl

made_front : take 243 (written_over one_case_made (zeros 243)) ≡ one_case_made
unfolding computing
made_front = refl

-- its tree names 1, 3, 2, 4, 5 and 6
made_order : get_or (named_scopes (tree_in one_case_made)) 1 0 ≡ 3
unfolding tree_in trees_from records_of row_of fields_of fields_in numbers_in computing
made_order = refl

made_rows : get_or (up_from 1 (field_count (λ t. eqb t Tag.Scope) (fields_of one_case_made))) 1 0 ≡ 2
unfolding up_from field_count fields_of fields_in numbers_in computing
made_rows = refl

pub no_order_of_making : InTreeOrder (as_run as_made) → ⊥
no_order_of_making ordered =
    omega (
      arith,
      made_order,
      made_rows,
      ap (λ (order : List ℕ). get_or order 1 0)
          (ordered one_case (zeros 147) (zeros 18) (zeros 18) (zeros 243) one_case_made (small_bytes one_case made_small)
          (wrote_by as_made one_case (zeros 147) (zeros 18) (zeros 18) (zeros 243) made_written
          (ap (λ (lent : Lent). as_made one_case lent 243) made_lent ∙ made_first) made_front)),
    )

-- ---- parents that keep their old numbers (excluded by `written_scopes_agree`)

abbrev pub old_parents : File → File
old_parents g =
    record {
      mode = g.mode;
      is_module = g.is_module;
      scopes = map (row_at no_scope g.scopes) (named_scopes g.tree);
      symbols = (renumbered g).symbols;
      tree = (renumbered g).tree;
    }

unfoldable pub keeping_parents : Lowering
keeping_parents file lent out = writing_as old_parents file lent out

-- a Block in a Block, the row of the inner one first
abbrev pub inside_out : List ℕ
inside_out = bytes "40:1,0 41:0,16 41:3,0 41:1,0 1:1,1 2:3,1 2:2,0"

abbrev pub inside_out_kept : List ℕ
inside_out_kept = bytes "40:1,0 41:0,16 41:1,0 41:3,0 1:1,1 2:2,1 2:3,0"

abbrev pub kept_written : Written
kept_written = record { file = inside_out_kept; figures = figures 3 3 0 0 49 }

kept_first : keeping_parents inside_out (lend 3 3 0) 49 ≡ Ok kept_written
unfolding keeping_parents computing
kept_first = refl

kept_lent : lent_in (zeros 21) (zeros 9) (zeros 0) ≡ lend 3 3 0
unfolding lent_in
kept_lent = refl

kept_small : small inside_out ≡ true
unfolding small computing
kept_small = refl

kept_front : take 49 (written_over inside_out_kept (zeros 49)) ≡ inside_out_kept
unfolding computing
kept_front = refl

-- the inner Block stands in scope 2, and its row says 3
kept_around : get_or (enclosing_scopes 3 0 (tree_in inside_out_kept)) 0 0 ≡ 2
unfolding tree_in trees_from records_of row_of fields_of fields_in numbers_in computing
kept_around = refl

kept_row : (is_row (length (scopes_said (fields_of inside_out_kept))) 3 ≡ true) × ((row_at no_scope (scopes_said (fields_of inside_out_kept)) 3).parent ≡ 3)
unfolding scopes_said fields_of fields_in numbers_in computing
kept_row = (refl, refl)

pub no_old_parents : AgreesInBytes (as_run keeping_parents) → ⊥
no_old_parents agrees =
    let agree =
    agrees inside_out (zeros 21) (zeros 9) (zeros 0) (zeros 49) inside_out_kept (small_bytes inside_out kept_small)
    (wrote_by keeping_parents inside_out (zeros 21) (zeros 9) (zeros 0) (zeros 49) kept_written
    (ap (λ (lent : Lent). keeping_parents inside_out lent 49) kept_lent ∙ kept_first) kept_front) in
    omega (arith, kept_around, kept_row.1, ap (λ (around : List ℕ). get_or around 0 0) (agree.rows 3 kept_row.0))

-- ---- symbols that keep the old numbers of their scopes (excluded by `lowering_is_01`)

abbrev pub old_symbols : File → File
old_symbols g =
    record {
      mode = g.mode;
      is_module = g.is_module;
      scopes = (renumbered g).scopes;
      symbols = g.symbols;
      tree = (renumbered g).tree;
    }

unfoldable pub keeping_symbols : Lowering
keeping_symbols file lent out = writing_as old_symbols file lent out

-- a symbol in the inner of two Blocks, whose row stands first
abbrev pub inner_symbol : List ℕ
inner_symbol = bytes "40:1,0 41:0,16 41:3,0 41:1,0 42:10,6,2,0,0 1:1,1 2:3,1 2:2,0"

-- the number of its scope, of which the low byte is behind 36 others, is 2 still, and 3 by 02
symbol_kept : get_or (bytes_of (on keeping_symbols inner_symbol)) 36 0 ≡ 2
unfolding keeping_symbols computing
symbol_kept = refl

symbol_follows : get_or (bytes_of (on lower inner_symbol)) 36 0 ≡ 3
unfolding computing
symbol_follows = refl

pub no_old_symbols : keeping_symbols ≡ lower → ⊥
no_old_symbols e = omega (arith, symbol_kept, symbol_follows, ap (λ (l : Lowering). get_or (bytes_of (on l inner_symbol)) 36 0) e)

-- ---- figures that grow otherwise with one word (excluded by `one_word`)

abbrev pub Telling : Type 0
Telling = List ℕ → Outcome Figures

-- the figures told of a file that is checked
abbrev pub telling : (File → Figures) → Telling
telling count file = do
  f ← check_file file
  Ok (count f)

abbrev pub rows_told : Outcome Figures → ℕ
rows_told (Ok g) = g.records
rows_told (Err r) = 0

-- the same for all files, as much as 16 bits hold
unfoldable pub worst_case : Telling
worst_case = telling (λ f. figures 65535 65535 65535 65535 65535)

-- the usings of the pairs have one initializer
one_initializer : (initializers declarator ≡ 1) × (initializers declarators ≡ 1)
unfolding computing
one_initializer = (refl, refl)

worst_told : rows_told (worst_case const_in_body) ≡ rows_told (worst_case using_in_body)
unfolding worst_case computing
worst_told = refl

pub no_worst_case : GrowsLittle worst_case → ⊥
no_worst_case claim =
    let (g, g', before, after, grown) = claim _ _ _ _ _ body_pair in
    omega (arith, ap rows_told before, ap rows_told after, worst_told, one_initializer)

-- by the number of contexts alone, so that calls are free
unfoldable pub by_contexts : Telling
by_contexts = telling (λ f. let c = (final_figures f).contexts in figures_in f ⊕ figures (14 * c) (4 * c) (3 * c) c (173 * c))

contexts_told : rows_told (by_contexts const_after_using) ≡ rows_told (by_contexts using_after_using)
unfolding by_contexts computing
contexts_told = refl

pub no_free_calls : GrowsLittle by_contexts → ⊥
no_free_calls claim =
    let (g, g', before, after, grown) = claim _ _ _ _ _ after_pair in
    omega (arith, ap rows_told before, ap rows_told after, contexts_told, one_initializer)

-- with the import line wherever there is a context
unfoldable pub line_everywhere : Telling
line_everywhere = telling (λ f. walk_figures f ⊕ total (import_lines Mode.Runtime 1 (walk_figures f)))

script_pair : WordPair const_in_script using_in_script (file_of (read_file const_in_script)) (file_of (read_file using_in_script)) declarator
unfolding computing
script_pair =
    record {
      before = refl;
      after = refl;
      word = record { mode = refl; is_module = refl; scopes = refl; symbols = refl; tree = inside (inside (beside (in_list_lem refl (here refl)))) };
      mode = refl;
    }

line_told : (rows_told (line_everywhere const_in_script) ≡ 8) × (rows_told (line_everywhere using_in_script) ≡ 23)
unfolding line_everywhere computing
line_told = (refl, refl)

script_most : initializers declarator + 12 + in_runtime_module (file_of (read_file const_in_script)) 2 ≡ 13
unfolding computing
script_most = refl

pub no_line_everywhere : GrowsLittle line_everywhere → ⊥
no_line_everywhere claim =
    let (g, g', before, after, grown) = claim _ _ _ _ _ script_pair in
    omega (arith, ap rows_told before, ap rows_told after, line_told, grown.records_most, script_most)

-- ---- Program's own list (excepted in `one_word`)

-- A word in it makes the figures grow by more, so that it has to be excepted.
pub program_excepted
    : let f = file_of (read_file const_in_program) in
    let f' = file_of (read_file using_in_program) in
    (k : Forest) × (k' : Forest) × (f.tree ≡ one (hd Tag.Program 1 0 0) k) × (f'.tree ≡ one (hd Tag.Program 1 0 0) k')
    × WordChanged declarator k k' × (Growth f declarator (final_figures f) (final_figures f') → ⊥)
unfolding computing
program_excepted = (_, _, refl, refl, behind (here refl), λ grown. omega (arith, grown.records_most))
