-- `enter_for_of_statement` on tables.
-- Assumes nothing.
use Rattle.std.specs.Prelude.{if◌then◌else◌, List, Bool, false, not, ◌&&◌, ℕ, ◌+◌, ◌-◌, eqb, ltb}
use Rattle.meaning.specs.Numbers.Tag
use Rattle.meaning.specs.Numbers.Kind
use Rattle.meaning.specs.Numbers.SymbolFlag
use Rattle.meaning.specs.Statements.{is_using}
use Rattle.meaning.specs.ForOf.{binds_name}
use Rattle.tables.specs.Columns.RecordTable
use Rattle.tables.specs.Columns.SymbolTable
use Rattle.tables.specs.Table.{capped, column_f, row_f, closed_row_f, head_f, end_f}
use Rattle.tables.specs.Stream.{Buf, emit_f, replace_row_f, copy_row_f, copy_f}
use Rattle.tables.specs.declared.Row.{Row}
use Rattle.scoping.specs.Rows.{symbol_number, symbols_f}
use Rattle.scoping.specs.Changes.{SymbolRows, in_scopes, in_symbols, create_symbol_f, move_binding_f}
use Rattle.statements.specs.Try.{declare_f}
use Rattle.creation.specs.Scopes.{insert_scope_below_f}
use Rattle.path.specs.Path.{Tables, tables, charged_f, with_ctx_f}

-- ---- what is done

-- a Declarator that binds an identifier
unfoldable pub is_identifier_f : Row → Bool
is_identifier_f r = eqb r.tag Tag.Declarator && eqb r.a 0

-- the ForOf after a row has a using of an identifier on its left side
unfoldable pub takes_using_f : List ℕ → ℕ → Bool
takes_using_f t after =
    let r = row_f t (capped after 1) in
    if ltb (column_f t after RecordTable.N) 3 then false
    else if eqb r.n 0 then false
    else is_using (head_f r) && is_identifier_f (row_f t (capped after 2))

unfoldable pub using_symbol_f : List ℕ → ℕ → ℕ
using_symbol_f t after = column_f t (capped after 3) RecordTable.A

-- the row before the body
unfoldable pub body_after_f : List ℕ → ℕ → ℕ
body_after_f t after = end_f t (capped after 1) 2

-- the body is a Block that does not bind the using's name, by the symbol rows as read
unfoldable pub inserts_f : List ℕ → SymbolRows → ℕ → Bool
inserts_f t q after =
    let r = row_f t (body_after_f t after) in
    eqb r.tag Tag.Block && not (binds_name (symbols_f q.t SymbolTable.ReadScope q.ctx.read 0) r.a (using_symbol_f t after))

-- ---- rows

-- the flags of the new symbol
abbrev pub temp_flags : ℕ
temp_flags = SymbolFlag.BlockScoped + SymbolFlag.Const

-- the rows of a using in the body: Declaration, Declarator, Name and Read; and with a Block around the body
abbrev pub using_rows : ℕ
using_rows = 4

abbrev pub wrapped_using_rows : ℕ
wrapped_using_rows = 5

unfoldable pub make_temp_f : SymbolRows → ℕ → ℕ → SymbolRows
make_temp_f q y scope = create_symbol_f q (symbol_number q.t q.ctx.symbols y SymbolTable.Name) temp_flags scope 1

-- the ForOf up to its body
unfoldable pub left_rows_f : ℕ → Buf → Buf
left_rows_f temp b =
    let b₁ = copy_row_f b in
    let declarators = column_f b₁.t b₁.read RecordTable.N in
    let b₂ = replace_row_f b₁ (closed_row_f Tag.Declaration Kind.Const 0 0 declarators) in
    let m = column_f b₂.t b₂.read RecordTable.N in
    let b₃ = copy_row_f b₂ in
    let below = column_f b₃.t b₃.read RecordTable.N in
    let b₄ = replace_row_f b₃ (closed_row_f Tag.Name temp 0 0 below) in
    copy_f b₄ (capped (capped below (m - 1)) declarators)

-- `using x = _x`
unfoldable pub using_rows_f : ℕ → ℕ → ℕ → Buf → Buf
using_rows_f kind y temp b = emit_f (declare_f kind y b) (closed_row_f Tag.Read temp 0 0 0)

unfoldable pub insert_rows_f : ℕ → ℕ → ℕ → Buf → Buf
insert_rows_f kind y temp b =
    let b₁ = left_rows_f temp b in
    let r = row_f b₁.t b₁.read in
    let b₂ = replace_row_f b₁ (closed_row_f r.tag r.a r.b r.c (capped r.n 1)) in
    using_rows_f kind y temp b₂

unfoldable pub wrap_rows_f : ℕ → ℕ → ℕ → ℕ → Buf → Buf
wrap_rows_f kind y temp scope b =
    let b₁ = left_rows_f temp b in
    let b₂ = emit_f b₁ (closed_row_f Tag.Block scope 0 0 2) in
    using_rows_f kind y temp b₂

-- ---- the ForOf

unfoldable pub insert_using_f : Tables → Tables
insert_using_f q =
    let w = q.walk in
    let read = w.gap.0 in
    let y = using_symbol_f q.records read in
    let kind = column_f q.records (capped read 1) RecordTable.A in
    let s = make_temp_f (in_symbols q.symbols w.ctx) y (column_f q.records read RecordTable.A) in
    let ys = move_binding_f s y (column_f q.records (body_after_f q.records read) RecordTable.A) in
    let v = charged_f w using_rows in
    let b = insert_rows_f kind y s.ctx.symbols (record { t = q.records; read = read; written = v.gap.0 }) in
    tables b.t q.scopes ys (with_ctx_f v s.ctx)

unfoldable pub wrap_body_f : Tables → Tables
wrap_body_f q =
    let w = q.walk in
    let read = w.gap.0 in
    let y = using_symbol_f q.records read in
    let kind = column_f q.records (capped read 1) RecordTable.A in
    let scope = column_f q.records read RecordTable.A in
    let s = make_temp_f (in_symbols q.symbols w.ctx) y scope in
    let c = insert_scope_below_f q.records (in_scopes q.scopes s.ctx) scope (body_after_f q.records read) 1 in
    let ys = move_binding_f (in_symbols s.t c.ctx) y c.ctx.scopes in
    let v = charged_f w wrapped_using_rows in
    let b =
    wrap_rows_f kind y s.ctx.symbols c.ctx.scopes (record { t = q.records; read = read; written = v.gap.0 })
    in
    tables b.t c.t ys (with_ctx_f v c.ctx)
