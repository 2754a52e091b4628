-- The names that a Declaration binds, row by row.
-- Assumes nothing.
use Rattle.std.specs.Prelude.{if◌then◌else◌, List, Bool, not, ◌&&◌, ℕ, ◌-◌, eqb}
use Rattle.meaning.specs.Numbers.Tag
use Rattle.meaning.specs.Numbers.SymbolFlag
use Rattle.tables.specs.Columns.RecordTable
use Rattle.tables.specs.Columns.SymbolTable
use Rattle.tables.specs.Loops.{until}
use Rattle.tables.specs.Table.{largest, capped, column_f, row_f, closed_row_f}
use Rattle.tables.specs.Stream.{Buf, buf, emit_f}
use Rattle.scoping.specs.Rows.{symbol_number}
use Rattle.scoping.specs.Changes.{SymbolRows, in_symbols, set_symbol_flags_f}
use Rattle.scoping.specs.declared.Ctx.{Ctx}
use Rattle.rewrite_items.specs.declared.Names.{Names}
use Rattle.rewrite_items.specs.declared.Counted.{Counted}
use Rattle.rewrite_items.specs.declared.Specifying.{Specifying}

abbrev pub names : ℕ → ℕ → ℕ → ℕ → Names
names at declarators children below =
    record { at = record { 0 = at }; declarators = declarators; children = children; below = below }

-- n Declarators after a row
abbrev pub first_names : ℕ → ℕ → Names
first_names after n = names after n 0 0

-- the next row is such a name
unfoldable pub is_name_f : List ℕ → Names → Bool
is_name_f t s = eqb s.below 0 && (not (eqb s.children 0) && eqb (column_f t s.at.0 RecordTable.Tag) Tag.Name)

-- the next row is passed
unfoldable pub next_name_f : List ℕ → Names → Names
next_name_f t s =
    let r = row_f t s.at.0 in
    let next = capped s.at.0 1 in
    if eqb s.below 0 then (
    if eqb s.children 0 then (
    if eqb r.tag Tag.Declarator then names next (s.declarators - 1) r.n 0 else names next (s.declarators - 1) 0 r.n)
    else names next s.declarators (s.children - 1) r.n)
    else names next s.declarators s.children (capped (s.below - 1) r.n)

unfoldable pub names_done_f : Names → Bool
names_done_f s = eqb s.declarators 0 && (eqb s.children 0 && eqb s.below 0)

-- ---- counting them

abbrev pub counted : Names → ℕ → Counted
counted s sum = record { names = s; sum = sum }

unfoldable pub count_name_f : List ℕ → Counted → Counted
count_name_f t s = counted (next_name_f t s.names) (capped s.sum (if is_name_f t s.names then 1 else 0))

abbrev pub all_counted : Counted → Bool
all_counted s = names_done_f s.names

unfoldable pub count_names_f : List ℕ → ℕ → ℕ → ℕ
count_names_f t after n = (until largest all_counted (count_name_f t) (counted (first_names after n) 0)).sum

-- ---- their flags

pub record Flagging : Type 0 where
  pub t : List ℕ
  pub names : Names

abbrev pub flagging : List ℕ → Names → Flagging
flagging t s = record { t = t; names = s }

unfoldable pub flag_name_f : List ℕ → Ctx → Flagging → Flagging
flag_name_f records x s =
    flagging
    (if is_name_f records s.names then set_symbol_flags_f (in_symbols s.t x) (column_f records s.names.at.0 RecordTable.A) SymbolFlag.FunctionScoped else s.t)
    (next_name_f records s.names)

abbrev pub all_flagged : Flagging → Bool
all_flagged s = names_done_f s.names

unfoldable pub flag_names_f : List ℕ → SymbolRows → ℕ → ℕ → List ℕ
flag_names_f records q after n =
    (until largest all_flagged (flag_name_f records q.ctx) (flagging q.t (first_names after n))).t

-- ---- their Specifiers

pub record SpecifyingF : Type 0 where
  pub buf : Buf
  pub names : Names

abbrev pub specifying_f : Buf → Names → SpecifyingF
specifying_f b s = record { buf = b; names = s }

abbrev pub specifying : List ℕ → Specifying → SpecifyingF
specifying t s = specifying_f (buf t s.at) s.names

unfoldable pub specifier_f : SymbolRows → SpecifyingF → SpecifyingF
specifier_f q s =
    let y = column_f s.buf.t s.names.at.0 RecordTable.A in
    let r = closed_row_f Tag.Specifier y (symbol_number q.t q.ctx.symbols y SymbolTable.Name) 0 0 in
    let next = next_name_f s.buf.t s.names in
    if is_name_f s.buf.t s.names then specifying_f (emit_f s.buf r) next else specifying_f s.buf next

abbrev pub all_specified : SpecifyingF → Bool
all_specified s = names_done_f s.names

unfoldable pub specify_all_f : SymbolRows → SpecifyingF → SpecifyingF
specify_all_f q s = until largest all_specified (specifier_f q) s

unfoldable pub specifiers_f : SymbolRows → ℕ → Buf → Buf
specifiers_f q n b = (specify_all_f q (specifying_f b (first_names (capped b.read 1) n))).buf
