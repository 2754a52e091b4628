-- Reading a file: the rows and the tree, or the refusal with its place (01, "Who can be refused, and for what").
-- Assumes nothing.
use Rattle.std.specs.Prelude.{if◌then◌else◌, List, [], ◌∷◌, Bool, true, false, ◌||◌, ◌&&◌, ℕ, zero, suc, ◌+◌, ◌*◌, length, get_or, replicate, eqb, leb, ltb, Result, Ok, Err}
use Rattle.meaning.specs.Numbers.Tag
use Rattle.meaning.specs.Numbers.Mode
use Rattle.meaning.specs.Tree.{Forest, none, more}
use Rattle.meaning.specs.Mentions.{mentions}
use Rattle.meaning.specs.File.{Scope, scope_row, Symbol, symbol_row, File, head_bytes, settings_bytes, scope_bytes, symbol_bytes}
use Rattle.meaning.specs.Grammar.{
  field_at,
  two,
  right,
  scope_right,
  symbol_right,
  scope_of,
  below,
  children_of,
  place_of,
  head_of,
  may_name,
  naming,
  scope_offset,
  parent_in,
  unnamed,
}
use Rattle.meaning.specs.declared.Place.{Place}
use Rattle.meaning.specs.declared.Place.TheVariants.{Settings, ScopeRow, SymbolRow, Program}
use Rattle.meaning.specs.declared.Field.{Field}
use Rattle.meaning.specs.declared.Reason.{Reason}
use Rattle.meaning.specs.declared.Reason.TheVariants as Reason
use Rattle.meaning.specs.declared.Rows.{Rows}
use Rattle.meaning.specs.Refusals.{Outcome, refused}

-- ---- steps that may refuse

infixl 5 ◌>>=◌
abbrev pub ◌>>=◌ : {A B : Type 0} → Outcome A → (A → Outcome B) → Outcome B
◌>>=◌ (Ok a) g = g a
◌>>=◌ (Err r) g = Err r

infixl 5 ◌>>◌
abbrev pub ◌>>◌ : {A B : Type 0} → Outcome A → Outcome B → Outcome B
◌>>◌ m n = m >>= (λ _. n)

-- the test passes, or the check refuses
abbrev pub ensure : Bool → Reason → ℕ → Outcome (Unit {0})
ensure true c p = Ok tt
ensure false c p = refused c p

-- ---- the tree

-- records beside each other, the offset behind them, and the marks
pub record Records : Type 0 where
  pub forest : Forest
  pub next : ℕ
  pub marks : List ℕ

abbrev records : Forest → ℕ → List ℕ → Records
records t at m = record { forest = t; next = at; marks = m }

-- n records from child k on, each at its place, below the scope `cur`. `inside` reads a record's children: it is handed the record, its place,
-- the scope below it and the marks.
unfoldable pub read_list
    : (Place → Field → ℕ → List ℕ → Outcome Records)
    → List ℕ → ℕ → (ℕ → Place) → ℕ → ℕ → ℕ → ℕ → List ℕ → Outcome Records
read_list inside f syms place cur k zero at m = Ok (records none at m)
read_list inside f syms place cur k (suc n) at m = do
  x ← field_at f (place k) at
  ensure (right (place k) syms x) Reason.WrongNumber at
  ensure (may_name f cur m (scope_of (head_of x))) Reason.WrongNumber at
  kids ← inside (place k) x (below cur (scope_of (head_of x))) (naming m (scope_of (head_of x)))
  beside ← read_list inside f syms place cur (suc k) n kids.next kids.marks
  Ok (records (more (head_of x) kids.forest beside.forest) beside.next beside.marks)

-- a record below the last level: too deep whatever its head says, once that is there (02, request 6)
abbrev pub too_deep : {A : Type 0} → List ℕ → ℕ → Outcome A
too_deep f at = refused (if ltb (length f) (at + head_bytes) then Reason.Cut else Reason.TooDeep) at

-- with so many levels left
unfoldable pub read_forest : ℕ → List ℕ → ℕ → (ℕ → Place) → ℕ → ℕ → ℕ → ℕ → List ℕ → Outcome Records
read_forest zero f syms place cur k zero at m = Ok (records none at m)
read_forest zero f syms place cur k (suc n) at m = too_deep f at
read_forest (suc l) f syms place cur k n at m =
    read_list (λ p x cur m. read_forest l f syms (place_of p x) cur 0 (children_of x) x.next m) f syms place cur k n at m

-- ---- the rows

-- a field that passes its test
abbrev pub judged : (Field → Bool) → ℕ → Outcome Field → Outcome Field
judged test at (Ok x) = if test x then Ok x else refused Reason.WrongNumber at
judged test at (Err r) = Err r

-- the field of scope row k counted from 0, and that of a symbol row
unfoldable pub scope_at : List ℕ → ℕ → ℕ → Outcome Field
scope_at f k at = judged (scope_right k) at (field_at f ScopeRow at)

unfoldable pub symbol_at : List ℕ → ℕ → ℕ → Outcome Field
symbol_at f scopes at = judged (symbol_right scopes) at (field_at f SymbolRow at)

abbrev pub rows_read : ℕ → ℕ → Rows
rows_read k at = record { count = k; next = at }

-- rows from row k on, as long as there are more, at most n
unfoldable pub read_rows : (ℕ → ℕ → Bool) → (ℕ → ℕ → Outcome Field) → ℕ → ℕ → ℕ → Outcome Rows
read_rows again one zero k at = Ok (rows_read k at)
read_rows again one (suc n) k at =
    if again k at then one k at >>= (λ x. read_rows again one n (k + 1) x.next) else Ok (rows_read k at)

-- more scope rows, and more symbol rows, than a file of 65,535 bytes holds
abbrev pub most_rows : ℕ
most_rows = 9362

abbrev pub most_symbols : ℕ
most_symbols = 5042

-- one scope row, then more while the next tag is 41; symbol rows while it is 42
unfoldable pub read_scopes : List ℕ → ℕ → Outcome Rows
read_scopes f from = read_rows (λ k at. eqb k 0 || eqb (get_or f at 0) Tag.Scope) (scope_at f) most_rows 0 from

unfoldable pub read_symbols : List ℕ → ℕ → ℕ → Outcome Rows
read_symbols f scopes from = read_rows (λ k at. eqb (get_or f at 0) Tag.Symbol) (λ k at. symbol_at f scopes at) most_symbols 0 from

-- n scope rows from row s on; n symbol rows from an offset on
unfoldable pub scopes_in : List ℕ → ℕ → ℕ → List Scope
scopes_in f zero s = []
scopes_in f (suc n) s = scope_row (parent_in f s) (two f (scope_offset s + 5)) ∷ scopes_in f n (suc s)

unfoldable pub symbols_in : List ℕ → ℕ → ℕ → List Symbol
symbols_in f zero at = []
symbols_in f (suc n) at =
    symbol_row (two f (at + 3)) (two f (at + 5)) (two f (at + 7)) (two f (at + 9)) ∷ symbols_in f n (at + symbol_bytes)

-- The lowest of n symbol rows, of which the first is row y at an offset, whose fifth number is not its count; counted from 0, or n (02, request 7).
unfoldable pub wrong_count : List ℕ → (ℕ → ℕ) → ℕ → ℕ → ℕ → ℕ
wrong_count f count zero y at = 0
wrong_count f count (suc n) y at =
    if eqb (two f (at + 11)) (count y) then 1 + wrong_count f count n (suc y) (at + symbol_bytes) else 0

abbrev pub check_counts : List ℕ → (ℕ → ℕ) → ℕ → ℕ → Outcome (Unit {0})
check_counts f count n at =
    let wrong = wrong_count f count n 1 at in
    ensure (leb n wrong) Reason.WrongNumber (at + symbol_bytes * wrong)

-- ---- the file

-- a file holds so many bytes at most, and its records so many levels
abbrev pub most_bytes : ℕ
most_bytes = 65535

abbrev pub most_levels : ℕ
most_levels = 64

-- The checks in their order: 1; field by field; 7; 5 for the lowest unnamed row; and `last`, which is handed the tree, the number of symbol rows and the
-- offset of the first. The tree is read by `forest`.
abbrev pub read_through
    : (List ℕ → ℕ → (ℕ → Place) → ℕ → ℕ → ℕ → ℕ → List ℕ → Outcome Records) → (Forest → ℕ → ℕ → Outcome (Unit {0})) → List ℕ → Outcome File
read_through forest last f = do
  ensure (leb (length f) most_bytes) Reason.TooLong most_bytes
  settings ← field_at f Settings 0
  ensure (leb settings.a Mode.Inline && leb settings.b 1) Reason.WrongNumber 0
  scopes ← read_scopes f settings.next
  symbols ← read_symbols f scopes.count scopes.next
  program ← forest f symbols.count (λ _. Program) 0 0 1 symbols.next (replicate scopes.count 0)
  ensure (leb (length f) program.next) Reason.BytesBehind program.next
  ensure (leb scopes.count (unnamed program.marks)) Reason.WrongNumber (settings_bytes + scope_bytes * unnamed program.marks)
  last program.forest symbols.count scopes.next
  Ok
      (record {
        mode = settings.a;
        is_module = settings.b;
        scopes = scopes_in f scopes.count 1;
        symbols = symbols_in f symbols.count scopes.next;
        tree = program.forest;
      })

-- the last is 5 for the lowest wrong count (02, request 7)
abbrev pub read_with : (List ℕ → ℕ → (ℕ → Place) → ℕ → ℕ → ℕ → ℕ → List ℕ → Outcome Records) → List ℕ → Outcome File
read_with forest f = read_through forest (λ tree n at. check_counts f (λ y. mentions y tree) n at) f

unfoldable pub read_file : List ℕ → Outcome File
read_file f = read_with (read_forest most_levels) f
