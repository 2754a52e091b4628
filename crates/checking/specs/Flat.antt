-- What the check computes: the reader's answers and marks, with no tree.
-- Assumes nothing.
use Rattle.meaning.specs.declared.Reason.TheVariants as Reason
use Rattle.meaning.specs.Refusals.{Outcome, refused}
use Rattle.std.specs.Prelude.{Ok, Err, Option, Some, None, if◌then◌else◌, ℕ, zero, suc, ◌+◌, ◌*◌, ◌-◌, min, Bool, true, false, ◌&&◌, List, [], ◌∷◌, eqb, leb, ltb, get_or, length, replicate}
use Rattle.meaning.specs.Numbers.Tag
use Rattle.meaning.specs.Numbers.Form
use Rattle.meaning.specs.Numbers.Mode
use Rattle.meaning.specs.Tree.{one_of, hd}
use Rattle.meaning.specs.File.{symbol_bytes}
use Rattle.meaning.specs.Grammar.{index, allowed, two, field_of, field_at, is_row, right, scope_of, below, children_of, place_of, head_of, may_name, naming, unnamed}
use Rattle.meaning.specs.Reading.{◌>>=◌, ◌>>◌, ensure, too_deep, judged, symbols_in, read_scopes, read_symbols, wrong_count, most_bytes}
use Rattle.meaning.specs.declared.Place.{Place}
use Rattle.meaning.specs.declared.Place.TheVariants.{
  Settings,
  Program,
  PlainItem,
  Name,
  ForLeft,
  ForOfLeft,
  Expression,
  SwitchExpression,
  ClassItem,
  DefaultExport,
}
use Rattle.meaning.specs.declared.Field.{Field}
use Rattle.meaning.specs.declared.Rows.{Rows}
use Rattle.checking.specs.declared.Layout.{Layout}
use Rattle.checking.specs.declared.Progress.{Progress}
use Rattle.checking.specs.declared.Whole.{Whole}
use Rattle.meaning.specs.Statements.{is_using}
use Rattle.tables.specs.Loops.{turns}
use Rattle.mentions.specs.Counters.{add_record_f}
use Rattle.figures.specs.Tally.{role_index, role_of, body_role, inserts_in, no_tally, ◌⊞◌, cap, own}
use Rattle.figures.specs.declared.tally.Tally.{Tally}
use Rattle.figures.specs.declared.tally.Role.{Role}
use Rattle.figures.specs.declared.tally.Role.TheVariants.{Plain}

-- ---- answers of the code, with the marks that it leaves

-- a field that was entered, and the offset behind some records; the marks count where there is no refusal
pub record Entered : Type 0 where
  pub field : Field
  pub marks : List ℕ

pub record Past : Type 0 where
  pub next : ℕ
  pub marks : List ℕ
  pub tally : Tally

abbrev pub next_f : ℕ → Tally → Outcome Progress
next_f at t = Ok (record { at = at; tally = t })

abbrev pub entered : Outcome Field → List ℕ → Outcome Entered
entered (Ok x) m = Ok (record { field = x; marks = m })
entered (Err r) m = Err r

abbrev pub past : Outcome Progress → List ℕ → Outcome Past
past (Ok q) m = Ok (record { next = q.at; marks = m; tally = q.tally })
past (Err r) m = Err r

abbrev pub answer_of : Outcome Past → Outcome Progress
answer_of (Ok q) = next_f q.next q.tally
answer_of (Err r) = Err r

-- ---- leaves: plain records without scope and children

-- a field with this tag may stand here, and is whole with `len` bytes of numbers
unfoldable pub is_whole : List ℕ → Place → ℕ → ℕ → ℕ → Bool
is_whole f p tag len at = leb (at + (3 + len)) (length f) && allowed p tag && eqb (two f (at + 1)) len

-- the bytes of the 24 at an offset, where it is right and has no children
unfoldable pub expression_size : List ℕ → Place → ℕ → Option ℕ
expression_size f p at = if is_whole f p 24 4 at && eqb (two f (at + 5)) 0 then Some 7 else None

-- the same of a 25 or 26
unfoldable pub mention_size : List ℕ → Place → ℕ → ℕ → ℕ → Option ℕ
mention_size f p syms tag at = if is_whole f p tag 2 at && is_row syms (two f (at + 3)) then Some 5 else None

-- the bytes of the leaf at an offset, if there is one
unfoldable pub leaf_size : List ℕ → Place → Role → ℕ → ℕ → Option ℕ
leaf_size f p u syms at =
    let tag = get_or f at 0 in
    if eqb (role_index u) 0
    then (if eqb tag 24 then expression_size f p at
    else if eqb tag 25 then mention_size f p syms 25 at
    else if eqb tag 26 then mention_size f p syms 26 at
    else None)
    else None

-- ---- where an expression stands

-- by its tag, or by its form
unfoldable pub expression_at : List ℕ → ℕ → Bool
expression_at f at =
    let tag = get_or f at 0 in
    if one_of (Tag.Expression ∷ Tag.Read ∷ Tag.Call ∷ Tag.Load ∷ []) tag then true
    else if one_of (Tag.Function ∷ Tag.Class ∷ []) tag then eqb (two f (at + 3)) Form.Expression
    else false

-- by its place, and where a place takes others too, by what stands there; a Name counts as one
unfoldable pub expression_here : List ℕ → Place → ℕ → Bool
expression_here f p at =
    let here = index p in
    if one_of (index Expression ∷ index SwitchExpression ∷ index Name ∷ []) here then true
    else if one_of (index PlainItem ∷ index ForLeft ∷ index ForOfLeft ∷ index ClassItem ∷ index DefaultExport ∷ []) here then expression_at f at
    else false

-- ---- records

-- the checks 2 to 5 of a record but for its scope row
unfoldable pub right_at : List ℕ → ℕ → Place → ℕ → Outcome Field
right_at f syms p at = judged (right p syms) at (field_at f p at)

-- the checks 2 to 5 of a record
unfoldable pub enter_f : List ℕ → ℕ → Place → ℕ → ℕ → List ℕ → Outcome Entered
enter_f f syms p cur at m = do
  x ← field_at f p at
  ensure (right p syms x) Reason.WrongNumber at
  ensure (may_name f cur m (scope_of (head_of x))) Reason.WrongNumber at
  Ok (record { field = x; marks = naming m (scope_of (head_of x)) })

-- what child k is to a record
abbrev pub ups_f : List ℕ → Role → Field → ℕ → Role
ups_f f u x k = role_of u x.tag (is_using (head_of x)) (body_role f x.next) k

-- the tally before a record, with the record and its children's tally
abbrev pub add_f : List ℕ → ℕ → ℕ → Role → Field → Tally → Tally → Tally
add_f f scopes syms u x t kids =
    cap (t ⊞ cap (own u (inserts_in (symbols_in f syms (7 + 7 * scopes)) u (head_of x)) (head_of x) (children_of x) kids))

-- n records in a row, from child k on
unfoldable pub list_f : (ℕ → Tally → ℕ → List ℕ → Outcome Past) → ℕ → ℕ → Tally → ℕ → List ℕ → Outcome Past
list_f one zero k t at m = Ok (record { next = at; marks = m; tally = t })
list_f one (suc n) k t at m = do
  q ← one k t at m
  list_f one n (k + 1) q.tally q.next q.marks

-- one record, with levels left; it is `u` to the one around it, and the tally before it is t
unfoldable pub record_f : ℕ → List ℕ → ℕ → ℕ → Place → Role → ℕ → Tally → ℕ → List ℕ → Outcome Past
record_f zero f scopes syms p u cur t at m = too_deep f at
record_f (suc l) f scopes syms p u cur t at m = do
  e ← enter_f f syms p cur at m
  q ←
      list_f
      (λ k t₁ a m₁.
      record_f l f scopes syms (place_of p e.field k) (ups_f f u e.field k) (below cur (scope_of (head_of e.field))) t₁ a m₁)
      (children_of e.field)
      0
      no_tally
      e.field.next
      e.marks
  Ok (record { next = q.next; marks = q.marks; tally = add_f f scopes syms u e.field t q.tally })

-- n records below the last level: none, or the first is too deep
abbrev pub below_last : List ℕ → ℕ → ℕ → Outcome Progress
below_last f zero at = next_f at no_tally
below_last f (suc n) at = answer_of (too_deep f at)

-- the children of a record at p
unfoldable pub children_f : ℕ → List ℕ → ℕ → ℕ → Place → Role → Field → ℕ → List ℕ → Outcome Past
children_f l f scopes syms p u x cur m =
    list_f (λ k t a m₁. record_f l f scopes syms (place_of p x k) (ups_f f u x k) cur t a m₁) (children_of x) 0 no_tally x.next m

-- a record behind its children
abbrev pub added_f : List ℕ → ℕ → ℕ → Role → Tally → Field → Past → Outcome Past
added_f f scopes syms u t x q =
    Ok (record { next = q.next; marks = q.marks; tally = add_f f scopes syms u x t q.tally })

-- what is left of a record that was entered, with levels left for its children
unfoldable pub after_f : ℕ → List ℕ → ℕ → ℕ → Place → Role → ℕ → Tally → Outcome Entered → Outcome Past
after_f l f scopes syms p u cur t o = do
  e ← o
  q ← children_f l f scopes syms p u e.field (below cur (scope_of (head_of e.field))) e.marks
  added_f f scopes syms u t e.field q

-- ---- the whole file

-- before the records are counted
abbrev pub layout : Field → ℕ → ℕ → ℕ → ℕ → Layout
layout s scopes symbols first tree =
    record { mode = s.a; esm = s.b; scopes = scopes; symbols = symbols; records = 0; first = min first 65535; tree = min tree 65535 }

abbrev pub with_records : Layout → ℕ → Layout
with_records l n =
    record {
      mode = l.mode;
      esm = l.esm;
      scopes = l.scopes;
      symbols = l.symbols;
      records = min n 65535;
      first = l.first;
      tree = l.tree;
    }

-- behind the tree: 7, and the lowest unnamed row of n
unfoldable pub end_f : List ℕ → ℕ → Outcome Past → Outcome Past
end_f f n o = do
  q ← o
  ensure (leb (length f) q.next) Reason.BytesBehind q.next
  ensure (leb n (unnamed q.marks)) Reason.WrongNumber (7 + 7 * unnamed q.marks)
  Ok q

unfoldable pub tree_f : List ℕ → ℕ → ℕ → ℕ → List ℕ → Outcome Progress
tree_f f scopes syms at m = answer_of (end_f f (length m) (record_f 64 f scopes syms Program Plain 0 no_tally at m))

-- ---- how often symbols are named

-- the counters, and the offset of the next record
pub record Counting : Type 0 where
  pub t : List ℕ
  pub at : ℕ

abbrev pub counting : List ℕ → ℕ → Counting
counting t at = record { t = t; at = at }

unfoldable pub next_count : List ℕ → Counting → Counting
next_count f s =
    let x = field_of f s.at in
    counting (add_record_f s.t (hd x.tag x.a x.b x.c)) x.next

-- n records from an offset on
unfoldable pub count_f : List ℕ → ℕ → ℕ → List ℕ → List ℕ
count_f f n at t = (turns n (next_count f) (counting t at)).t

-- the lowest of so many rows, where there is one
abbrev pub row_below : ℕ → ℕ → Option ℕ
row_below i n = if ltb i n then Some i else None

-- the lowest row whose fifth number is not its counter, of rows from an offset on
unfoldable pub wrong_in : List ℕ → List ℕ → ℕ → ℕ
wrong_in f t first = wrong_count f (λ y. get_or t (y - 1) 0) (length t) 1 first

unfoldable pub wrong_f : List ℕ → Layout → ℕ
wrong_f f l = wrong_in f (count_f f l.records l.tree (replicate l.symbols 0)) l.first

abbrev pub whole : Layout → Tally → Outcome Whole
whole l t = Ok (record { layout = l; tally = t })

-- a file with a right tree
unfoldable pub counted_f : List ℕ → Layout → Tally → Outcome Whole
counted_f f l t =
    let wrong = wrong_f f l in
    if leb l.symbols wrong then whole l t else refused Reason.WrongNumber (l.first + symbol_bytes * wrong)

-- a file by the answer of its tree
abbrev pub run_answer : List ℕ → Layout → Outcome Progress → Outcome Whole
run_answer f l a = a >>= (λ q. counted_f f (with_records l q.tally.records) q.tally)

-- ---- the rows and the settings

abbrev pub by_rows : Outcome Rows → (ℕ → ℕ → Outcome Whole) → Outcome Whole
by_rows d g = d >>= (λ q. g q.count q.next)

-- the symbol rows and the tree behind so many scope rows; the rows behind the settings; the settings
unfoldable pub symbols_f : List ℕ → Field → ℕ → ℕ → Outcome Whole
symbols_f f s n at = by_rows (read_symbols f n at) (λ syms at₂. run_answer f (layout s n syms at at₂) (tree_f f n syms at₂ (replicate n 0)))

unfoldable pub rows_f : List ℕ → Field → Outcome Whole
rows_f f s = by_rows (read_scopes f s.next) (symbols_f f s)

unfoldable pub settings_f : List ℕ → Field → Outcome Whole
settings_f f s =
    if leb s.a Mode.Inline then (if leb s.b 1 then rows_f f s else refused Reason.WrongNumber 0)
    else refused Reason.WrongNumber 0

unfoldable pub file_f : List ℕ → Outcome Whole
file_f f = if leb (length f) most_bytes then (field_at f Settings 0 >>= settings_f f) else refused Reason.TooLong most_bytes

-- what a check answers
abbrev pub checked_of : {A : Type 0} → Outcome A → Outcome (Unit {0})
checked_of (Ok a) = Ok tt
checked_of (Err r) = Err r
