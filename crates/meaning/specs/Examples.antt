-- Small files, computed: each holds the definitions to a rule of 01 or of a request. All of 01's cases are in crates/cases.
-- Assumes nothing.
use Rattle.meaning.specs.Refusals.{Outcome, refused, number_of}
use Rattle.std.specs.Prelude.{Ok, Err, ◌≡◌, refl, true, List, [], ◌∷◌, ◌++◌, map, ℕ, zero, suc, length, take}
use Prim.Native.String.{String}
use Rattle.meaning.specs.declared.Reason.TheVariants as Reason
use Rattle.meaning.specs.Numbers.Tag
use Rattle.meaning.specs.Numbers.Kind
use Rattle.meaning.specs.Numbers.Letter
use Rattle.meaning.specs.Numbers.SymbolFlag
use Rattle.meaning.specs.Tree.{hd, Forest, none, one, ◌&◌}
use Rattle.meaning.specs.File.{scope_row, Symbol, symbol_row, File}
use Rattle.meaning.specs.Reading.{read_forest, read_file}
use Rattle.meaning.specs.Scoping.{get_binding, find_binding, block_scoped_in}
use Rattle.meaning.specs.Shapes.{call, load}
use Rattle.meaning.specs.Statements.{take_up}
use Rattle.meaning.specs.Contexts.{any_case_await_using}
use Rattle.meaning.specs.Agreement.{enclosing_scopes}
use Rattle.meaning.specs.Walk.{store_of, start, visits, tree_at, store_at}
use Rattle.meaning.specs.ImportLine.{visit_calls}
use Rattle.meaning.specs.Charges.{Line, import_line, figures, figures_at}
use Rattle.meaning.specs.Due.{import_dues}
use Rattle.meaning.specs.Lowering.{Lent, Written, figures_of, admit, admit_output, lower}
use Rattle.meaning.specs.Notation.{bytes}
use Rattle.meaning.specs.Computing.{computing}
use Rattle.meaning.specs.declared.Place.TheVariants.{Expression}

abbrev lend : ℕ → ℕ → ℕ → Lent
lend r s y = record { records = r; scopes = s; symbols = y }

-- the file that a text says, lowered with rows and output enough
abbrev lowered : String → Outcome Written
lowered text = lower (bytes text) (lend 100 100 100) 1000

-- records, scopes, symbols, contexts and length, and the file written
abbrev gives : ℕ → ℕ → ℕ → ℕ → ℕ → String → Outcome Written
gives r s y c b text = Ok (record { file = bytes text; figures = figures r s y c b })

-- a block with one using
abbrev whole_case : List ℕ
whole_case = bytes "40:1,0 41:0,16 41:1,0 42:10,6,2,0,1 1:1,1 2:2,1 5:3,1 6:0,1,2 26:1 24:7,0"

-- so many Expressions in each other, the innermost without its child
unfoldable pub nested : ℕ → List ℕ
nested zero = []
nested (suc n) = bytes "24:1,1" ++ nested n

-- Program, a Plain and so many Expressions in each other: 2 levels and so many
abbrev pub deep : ℕ → List ℕ
deep n = bytes "40:1,0 41:0,16 1:1,1 3:0,1,1" ++ nested n

-- ---- the numbers of the refusals

-- each reason's number, written out: so these theorems, which name reasons, say numbers
pub reason_numbers : (number_of Reason.TooLong ∷ number_of Reason.Cut ∷ number_of Reason.WrongTag ∷ number_of Reason.WrongLength ∷ number_of Reason.WrongNumber
    ∷ number_of Reason.TooDeep ∷ number_of Reason.BytesBehind ∷ number_of Reason.InlineContext ∷ number_of Reason.FewRows ∷ number_of Reason.ShortOutput ∷ [])
    ≡ 1 ∷ 2 ∷ 3 ∷ 4 ∷ 5 ∷ 6 ∷ 7 ∷ 8 ∷ 9 ∷ 10 ∷ []
reason_numbers = refl

-- ---- reading

-- a field's head is three bytes
pub cut_head_lem : read_file (take 16 (bytes "40:1,0 41:0,16 1:1,1")) ≡ refused Reason.Cut 14
unfolding computing
cut_head_lem = refl

-- 3 goes before 4
pub tag_before_length : read_file (bytes "40:1,0 41:0,16 2:1") ≡ refused Reason.WrongTag 14
unfolding computing
tag_before_length = refl

-- the module setting is 0 or 1
pub module_setting : read_file (bytes "40:1,2 41:0,16 1:1,0") ≡ refused Reason.WrongNumber 0
unfolding computing
module_setting = refl

-- a scope row is named by one record
pub named_once : read_file (bytes "40:1,0 41:0,16 41:1,0 1:1,2 2:2,0 2:2,0") ≡ refused Reason.WrongNumber 35
unfolding computing
named_once = refl

-- the lowest row that no record names is refused at its own field
pub unnamed_row : read_file (bytes "40:1,0 41:0,16 41:1,0 41:1,0 41:1,0 1:1,1 2:3,0") ≡ refused Reason.WrongNumber 14
unfolding computing
unnamed_row = refl

-- one record may name a symbol twice: both numbers of a Step count
pub named_twice : read_file (bytes "40:1,0 41:0,16 42:10,6,1,0,1 1:1,1 29:0,1,1") ≡ refused Reason.WrongNumber 14
unfolding computing
named_twice = refl

-- the lowest row with a wrong count is refused at its own field, behind the unnamed rows
pub wrong_count_lem : read_file (bytes "40:1,0 41:0,16 42:10,6,1,0,0 42:11,6,1,0,1 42:12,6,1,0,1 1:1,0") ≡ refused Reason.WrongNumber 27
unfolding computing
wrong_count_lem = refl

pub unnamed_before_count : read_file (bytes "40:1,0 41:0,16 41:1,0 42:10,6,1,0,1 1:1,0") ≡ refused Reason.WrongNumber 14
unfolding computing
unnamed_before_count = refl

-- a symbol row of four numbers is one of before
pub four_numbers : read_file (bytes "40:1,0 41:0,16 42:10,6,1,0 1:1,0") ≡ refused Reason.WrongLength 14
unfolding computing
four_numbers = refl

-- a record at level 65 is too deep before its tag is looked at, once its head is there
pub deep_tag : read_file (deep 62 ++ bytes "2:1,0") ≡ refused Reason.TooDeep 464
unfolding nested computing
deep_tag = refl

-- with no level left: two bytes of a head
pub deep_cut_head : read_forest 0 (24 ∷ 0 ∷ []) 0 (λ _. Expression) 1 0 1 0 [] ≡ refused Reason.Cut 0
unfolding computing
deep_cut_head = refl

-- ---- figures and rows

-- a Block statement's context costs 11 records, and no helper in external mode
pub whole_figures : figures_of whole_case ≡ Ok (figures 18 5 3 1 215)
unfolding figures_of computing
whole_figures = refl

-- refusal 9 names records before scopes
pub records_first : admit whole_case (lend 17 4 2) ≡ refused Reason.FewRows 0
unfolding computing
records_first = refl

-- the place of refusal 10 is the output's length
pub short_output_lem : admit_output whole_case (lend 18 5 3) 214 ≡ refused Reason.ShortOutput 214
unfolding computing
short_output_lem = refl

-- the last row of a name is bound, and a class moves with the block-scoped names
abbrev rows : List Symbol
rows =
    symbol_row 11 SymbolFlag.FunctionScoped 2 0 ∷ symbol_row 12 SymbolFlag.Class 2 0 ∷ symbol_row 13 SymbolFlag.BlockScoped 2 0
    ∷ symbol_row 13 SymbolFlag.BlockScoped 2 0
    ∷ []

pub last_row : get_binding rows 2 13 ≡ 4
unfolding computing
last_row = refl

-- a name is bound in the nearest scope: one row in scope 1, and one in scope 2 below it
pub nearest_scope
    : find_binding 2 (store_of (record {
      mode = 1;
      is_module = 0;
      scopes = scope_row 0 16 ∷ scope_row 1 0 ∷ [];
      symbols = symbol_row 13 SymbolFlag.BlockScoped 2 0 ∷ symbol_row 13 SymbolFlag.BlockScoped 1 0 ∷ [];
      tree = none;
    })) 2 13
    ≡ 1
unfolding computing
nearest_scope = refl

pub moving_rows : block_scoped_in rows 2 rows 1 ≡ 2 ∷ 4 ∷ []
unfolding computing
moving_rows = refl

-- ---- scope rows and tree

-- the scopes around the records that name each of so many rows, from row s on
unfoldable pub enclosing : ℕ → ℕ → Forest → List (List ℕ)
enclosing zero s tree = []
enclosing (suc n) s tree = enclosing_scopes s 0 tree ∷ enclosing n (suc s) tree

-- for each row after some visits: the scopes around the records that name it, and its parent
abbrev around : ℕ → Outcome File → List (List ℕ)
around k (Ok f) = let s = visits k (start f) in enclosing (length (store_at s).scopes) 1 (tree_at s)
around k (Err r) = []

abbrev parents : ℕ → Outcome File → List (List ℕ)
parents k (Ok f) = map (λ r. r.parent ∷ []) (store_at (visits k (start f))).scopes
parents k (Err r) = []

-- a Try with a Catch: its Block stands in the Catch
abbrev caught : List ℕ
caught = bytes "40:1,0 41:0,16 41:1,0 41:1,2 41:3,0 1:1,1 11:1,2 2:2,0 12:3,0,0,1 2:4,0"

pub catch_names
    : (around 0 (read_file caught) ≡ (0 ∷ []) ∷ (1 ∷ []) ∷ (1 ∷ []) ∷ (3 ∷ []) ∷ []) × (parents 0 (read_file caught) ≡ around 0 (read_file caught))
unfolding enclosing computing
catch_names = (refl, refl)

-- a Body with a Block and a using: at the fourth visit the Block comes below the new scope 4
abbrev block_in_body : List ℕ
block_in_body = bytes "40:1,0 41:0,16 41:1,8 41:2,0 42:20,64,1,0,1 42:10,6,2,0,1 1:1,1 13:0,2,1,2 24:1,0 14:2 2:3,0 5:3,1 6:0,1,2 26:2 24:7,0"

pub block_moves
    : (around 4 (read_file block_in_body) ≡ (0 ∷ []) ∷ (1 ∷ []) ∷ (4 ∷ []) ∷ (2 ∷ []) ∷ (2 ∷ []) ∷ (5 ∷ []) ∷ (2 ∷ []) ∷ [])
    × (parents 4 (read_file block_in_body) ≡ around 4 (read_file block_in_body))
unfolding enclosing computing
block_moves = (refl, refl)

-- ---- rewrites

-- a declaration of one Declarator without names
abbrev declared : ℕ → Forest → Forest
declared kind initializer = one (hd Tag.Declaration kind 0 0) (one (hd Tag.Declarator 1 0 0) initializer)

-- a `using` before an `await using` has its own letter
pub two_letters
    : take_up 9 (declared Kind.Using (load 1 2) & declared Kind.AwaitUsing (load 1 3))
    ≡ declared Kind.Const (call Letter.U 9 (load 1 2)) & declared Kind.Const (call Letter.A 9 (load 1 3))
unfolding computing
two_letters = refl

-- an `await using` without an initializer counts for its switch
pub bare_counts : any_case_await_using (one (hd Tag.Case 0 0 0) (declared Kind.AwaitUsing none)) ≡ true
unfolding computing
bare_counts = refl

-- each declaration has its own letter
pub own_letters
    : lowered "40:1,0 41:0,16 41:1,0 42:10,6,2,0,1 42:11,6,2,0,1 42:12,6,2,0,1 1:1,1 2:2,3 5:3,1 6:0,1,2 26:1 24:7,0 5:4,1 6:0,1,2 26:2 24:8,0 5:3,1 6:0,1,2 26:3 24:9,0"
    ≡ gives 28 5 5 1 315 "40:1,0 41:0,16 41:1,0 41:1,2 41:3,0 41:1,0 42:10,6,2,0,1 42:11,6,2,0,1 42:12,6,2,0,1 42:5,1,1,1,6 42:2,17,4,0,2 1:1,1 11:3,3 2:2,4 5:0,1 6:0,1,2 26:4 28:1,0 5:2,1 6:0,1,2 26:1 27:0,4,1 24:7,0 5:2,1 6:0,1,2 26:2 27:1,4,1 24:8,0 5:2,1 6:0,1,2 26:3 27:0,4,1 24:9,0 12:3,1,0,2 26:5 2:4,1 29:0,4,5 2:5,1 29:2,4,0"
unfolding computing
own_letters = refl

-- in a switch too: a `using` in the Case behind an `await using`'s keeps its own, and the context's release is awaited
pub case_letters
    : lowered "40:1,0 41:0,16 41:1,0 41:2,0 42:10,6,3,0,1 42:11,6,3,0,1 1:1,1 2:2,1 9:3,3 24:1,0 10:1,2 24:2,0 5:4,1 6:0,1,2 26:1 24:7,0 10:0,1 5:3,1 6:0,1,2 26:2 24:8,0"
    ≡ gives 29 7 4 1 321 "40:1,0 41:0,16 41:1,0 41:2,0 41:3,0 41:2,2 41:5,0 41:2,0 42:10,6,4,0,1 42:11,6,4,0,1 42:5,1,2,1,5 42:2,17,6,0,2 1:1,1 2:2,1 11:3,3 2:3,2 5:0,1 6:0,1,2 26:3 28:1,0 9:4,3 24:1,0 10:1,2 24:2,0 5:2,1 6:0,1,2 26:1 27:1,3,1 24:7,0 10:0,1 5:2,1 6:0,1,2 26:2 27:0,3,1 24:8,0 12:5,1,0,2 26:4 2:6,1 29:0,3,4 2:7,1 29:2,3,0"
unfolding computing
case_letters = refl

-- an `await using` without an initializer gets no letter, and the release is awaited
pub bare_awaits
    : lowered "40:1,0 41:0,16 41:1,0 42:10,6,2,0,1 42:11,6,2,0,1 1:1,1 9:2,2 24:0,0 10:0,2 5:4,1 6:0,1,1 26:1 5:3,1 6:0,1,2 26:2 24:8,0"
    ≡ gives 24 6 4 1 277 "40:1,0 41:0,16 41:1,0 41:2,0 41:1,2 41:4,0 41:1,0 42:10,6,3,0,1 42:11,6,3,0,1 42:5,1,1,1,4 42:2,17,5,0,2 1:1,1 11:3,3 2:2,2 5:0,1 6:0,1,2 26:3 28:1,0 9:3,2 24:0,0 10:0,2 5:2,1 6:0,1,1 26:1 5:2,1 6:0,1,2 26:2 27:0,3,1 24:8,0 12:4,1,0,2 26:4 2:5,1 29:0,3,4 2:6,1 29:2,3,0"
unfolding computing
bare_awaits = refl

-- a catch parameter moves with the lowered handler, which costs 12 records as a try part
pub handler_moves
    : lowered "40:1,0 41:0,16 41:1,0 41:1,2 41:3,0 42:10,17,4,0,1 42:11,6,4,0,1 1:1,1 11:1,2 2:2,0 12:3,1,0,2 26:1 2:4,1 5:3,1 6:0,1,2 26:2 24:7,0"
    ≡ gives 23 8 4 1 286 "40:1,0 41:0,16 41:1,0 41:1,2 41:3,0 41:4,0 41:4,2 41:6,0 41:4,0 42:10,17,4,0,1 42:11,6,5,0,1 42:5,1,1,1,4 42:2,17,7,0,2 1:1,1 11:1,2 2:2,0 12:3,1,0,2 26:1 2:4,1 11:3,3 2:5,2 5:0,1 6:0,1,2 26:3 28:1,0 5:2,1 6:0,1,2 26:2 27:0,3,1 24:7,0 12:6,1,0,2 26:4 2:7,1 29:0,3,4 2:8,1 29:1,3,0"
unfolding computing
handler_moves = refl

-- a ForOf's body that binds the name is wrapped in a Block
pub body_wrapped
    : lowered "40:1,0 41:0,16 41:1,0 41:2,0 42:10,6,2,0,1 42:10,2,3,0,1 1:1,1 8:2,0,3 5:3,1 6:0,1,1 26:1 24:7,0 2:3,1 5:1,1 6:0,1,1 26:2"
    ≡ gives 27 7 5 1 318 "40:1,0 41:0,16 41:1,0 41:2,0 41:3,0 41:2,2 41:5,0 41:2,0 42:10,6,3,0,1 42:10,2,4,0,1 42:10,6,2,1,2 42:5,1,1,1,4 42:2,17,6,0,2 1:1,1 8:2,0,3 5:2,1 6:0,1,1 26:3 24:7,0 11:3,3 2:3,3 5:0,1 6:0,1,2 26:4 28:1,0 5:2,1 6:0,1,2 26:1 27:0,4,1 25:3 2:4,1 5:1,1 6:0,1,1 26:2 12:5,1,0,2 26:5 2:6,1 29:0,4,5 2:7,1 29:1,4,0"
unfolding computing
body_wrapped = refl

-- by the rows as read: the second ForOf's body is wrapped, although the first visit moved the row that binds its name
pub rows_as_read
    : lowered "40:1,0 41:0,16 41:1,0 41:2,0 41:1,0 41:4,0 42:10,6,5,0,1 42:10,6,4,0,1 1:1,2 8:2,0,3 5:3,1 6:0,1,1 26:1 24:7,0 2:3,0 8:4,0,3 5:3,1 6:0,1,1 26:2 24:8,0 2:5,0"
    ≡ gives 46 12 8 2 533 "40:1,0 41:0,16 41:1,0 41:2,0 41:2,2 41:4,0 41:2,0 41:1,0 41:7,0 41:8,0 41:7,2 41:10,0 41:7,0 42:10,6,3,0,1 42:10,6,8,0,1 42:10,6,2,1,2 42:5,1,1,1,4 42:2,17,5,0,2 42:10,6,7,1,2 42:5,1,1,1,4 42:2,17,11,0,2 1:1,2 8:2,0,3 5:2,1 6:0,1,1 26:3 24:7,0 11:3,3 2:3,2 5:0,1 6:0,1,2 26:4 28:1,0 5:2,1 6:0,1,2 26:1 27:0,4,1 25:3 12:4,1,0,2 26:5 2:5,1 29:0,4,5 2:6,1 29:1,4,0 8:7,0,3 5:2,1 6:0,1,1 26:6 24:8,0 11:3,3 2:8,3 5:0,1 6:0,1,2 26:7 28:1,0 5:2,1 6:0,1,2 26:2 27:0,7,1 25:6 2:9,0 12:10,1,0,2 26:8 2:11,1 29:0,7,8 2:12,1 29:1,7,0"
unfolding computing
rows_as_read = refl

-- a direct declaration becomes var; what is exported comes first, and the Block last
pub kept_first
    : lowered "40:1,1 41:0,17 42:10,6,1,0,1 42:11,6,1,0,1 1:1,2 5:3,1 6:0,1,2 26:1 24:7,0 19:1 5:4,1 6:0,1,2 26:2 24:8,0"
    ≡ gives 24 5 4 1 272 "40:1,1 41:0,17 41:1,1 41:1,3 41:3,1 41:1,1 42:10,1,1,0,1 42:11,1,1,0,2 42:5,1,1,1,4 42:2,17,4,0,2 1:1,2 17:2,0,1 20:2,11 11:3,3 2:2,3 5:0,1 6:0,1,2 26:3 28:1,0 5:0,1 6:0,1,2 26:1 27:0,3,1 24:7,0 5:0,1 6:0,1,2 26:2 24:8,0 12:3,1,0,2 26:4 2:4,1 29:0,3,4 2:5,1 29:1,3,0"
unfolding computing
kept_first = refl

-- ---- the import line

-- in a runtime module the helper's import is Program's first child: two records and 16 bytes more
abbrev importing : List ℕ
importing = bytes "40:0,1 41:0,16 41:1,0 42:10,6,2,0,1 1:1,1 2:2,1 5:3,1 6:0,1,2 26:1 24:7,0"

pub line_first
    : lower importing (lend 20 5 4) 244
    ≡ gives 20 5 4 1 244 "40:0,1 41:0,16 41:1,0 41:1,2 41:3,0 41:1,0 42:10,6,2,0,1 42:5,1,1,1,4 42:5,32,1,1,2 42:2,17,4,0,2 1:1,2 17:4,0,1 20:3,3 11:3,3 2:2,2 5:0,1 6:0,1,2 26:2 28:0,3 5:2,1 6:0,1,2 26:1 27:0,2,1 24:7,0 12:3,1,0,2 26:4 2:4,1 29:0,2,4 2:5,1 29:1,2,0"
unfolding computing
line_first = refl

-- its rows are counted: one too few
pub line_counted : admit importing (lend 19 5 4) ≡ refused Reason.FewRows 0
unfolding computing
line_counted = refl

-- in a script there is none
pub no_line_in_script
    : lowered "40:0,0 41:0,16 41:1,0 42:10,6,2,0,1 1:1,1 2:2,1 5:3,1 6:0,1,2 26:1 24:7,0"
    ≡ gives 18 5 4 1 228 "40:0,0 41:0,16 41:1,0 41:1,2 41:3,0 41:1,0 42:10,6,2,0,1 42:5,1,1,1,4 42:5,1,1,1,1 42:2,17,4,0,2 1:1,1 11:3,3 2:2,2 5:0,1 6:0,1,2 26:2 28:0,3 5:2,1 6:0,1,2 26:1 27:0,2,1 24:7,0 12:3,1,0,2 26:4 2:4,1 29:0,2,4 2:5,1 29:1,2,0"
unfolding computing
no_line_in_script = refl

-- so many records stand after some calls: the second makes the context, the 18th is the last and puts the line
abbrev records_after : ℕ → Outcome File → ℕ
records_after k (Ok f) = (figures_at (visit_calls k (start f))).records
records_after k (Err r) = 0

pub line_last
    : (records_after 2 (read_file importing) ≡ 18) × (records_after 17 (read_file importing) ≡ 18) × (records_after 18 (read_file importing) ≡ 20)
    × (records_after 19 (read_file importing) ≡ 20)
unfolding computing
line_last = (refl, refl, refl, refl)

-- it is charged then, and not with the first load
abbrev line_charged : ℕ → Outcome File → List Line
line_charged k (Ok f) = import_dues (visits k (start f))
line_charged k (Err r) = []

pub line_charged_lem : (line_charged 2 (read_file importing) ≡ []) × (line_charged 18 (read_file importing) ≡ import_line ∷ [])
unfolding computing
line_charged_lem = (refl, refl)

-- on reading it has one Specifier, and stays among the lines of a lowered Program
pub line_alone : read_file (bytes "40:1,0 41:0,16 1:1,1 17:4,0,0") ≡ refused Reason.WrongNumber 21
unfolding computing
line_alone = refl

pub line_read
    : lowered "40:1,1 41:0,17 42:10,6,1,0,1 42:5,32,1,1,1 1:1,2 5:3,1 6:0,1,1 26:1 17:4,7,1 20:2,9"
    ≡ gives 18 5 4 1 228 "40:1,1 41:0,17 41:1,1 41:1,3 41:3,1 41:1,1 42:10,1,1,0,1 42:5,32,1,1,1 42:5,1,1,1,3 42:2,17,4,0,2 1:1,2 17:4,7,1 20:2,9 11:3,3 2:2,2 5:0,1 6:0,1,2 26:3 28:1,0 5:0,1 6:0,1,1 26:1 12:3,1,0,2 26:4 2:4,1 29:0,3,4 2:5,1 29:1,3,0"
unfolding computing
line_read = refl

-- ---- scopes in tree order

-- nothing is lowered, and the rows are put in order: what the tree names third comes third, and the symbol's scope and the parents follow
pub rows_in_order
    : lowered "40:1,0 41:0,16 41:3,0 41:1,2 42:10,6,2,0,0 1:1,1 2:3,1 2:2,0"
    ≡ gives 3 3 1 0 62 "40:1,0 41:0,16 41:1,2 41:2,0 42:10,6,3,0,0 1:1,1 2:2,1 2:3,0"
unfolding computing
rows_in_order = refl

-- in an inline file too; a function's scope is its second number, and a Plain may name none
pub inline_in_order
    : lowered "40:2,0 41:0,16 41:3,0 41:1,8 1:1,2 3:0,0,0 13:0,3,0,2 24:0,0 14:1 2:2,0"
    ≡ gives 6 3 0 0 74 "40:2,0 41:0,16 41:1,8 41:2,0 1:1,2 3:0,0,0 13:0,2,0,2 24:0,0 14:1 2:3,0"
unfolding computing
inline_in_order = refl
