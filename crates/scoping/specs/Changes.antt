-- Changes of the scope and symbol rows.
-- Assumes nothing.
use Rattle.std.specs.Prelude.{if◌then◌else◌, List, Bool, ◌&&◌, ℕ, ◌+◌, ◌*◌, ◌%◌, get_or, set}
use Rattle.meaning.specs.Scoping.{is_among_bindings}
use Rattle.tables.specs.Columns.ScopeTable
use Rattle.tables.specs.Columns.SymbolTable
use Rattle.tables.specs.Table.{capped}
use Rattle.tables.specs.Loops.{turns}
use Rattle.scoping.specs.Rows.{with_scope, with_symbol, scope_number, set_scope_f, set_symbol_f, symbol_at, symbols_f, block_scoped}
use Rattle.scoping.specs.declared.Ctx.{Ctx}

-- a table of scope or symbol rows with the counters
pub record ScopeRows : Type 0 where
  pub t : List ℕ
  pub ctx : Ctx

abbrev pub in_scopes : List ℕ → Ctx → ScopeRows
in_scopes t x = record { t = t; ctx = x }

pub record SymbolRows : Type 0 where
  pub t : List ℕ
  pub ctx : Ctx

abbrev pub in_symbols : List ℕ → Ctx → SymbolRows
in_symbols t x = record { t = t; ctx = x }

-- ---- scopes

unfoldable pub create_child_scope_f : ScopeRows → ℕ → ℕ → ScopeRows
create_child_scope_f q parent flags =
    let at = q.ctx.scopes * ScopeTable.Numbers in
    in_scopes
    (set (set q.t at parent) (at + ScopeTable.Flags) (capped flags (scope_number q.t q.ctx.scopes parent ScopeTable.Flags % 2)))
    (with_scope q.ctx)

unfoldable pub change_scope_parent_f : ScopeRows → ℕ → ℕ → List ℕ
change_scope_parent_f q s parent = set_scope_f q.t q.ctx.scopes s ScopeTable.Parent parent

unfoldable pub set_scope_flags_f : ScopeRows → ℕ → ℕ → List ℕ
set_scope_flags_f q s flags = set_scope_f q.t q.ctx.scopes s ScopeTable.Flags flags

unfoldable pub insert_scope_between_f : ScopeRows → ℕ → ℕ → ScopeRows
insert_scope_between_f q s flags =
    let q₁ = create_child_scope_f q (scope_number q.t q.ctx.scopes s ScopeTable.Parent) flags in
    in_scopes (change_scope_parent_f q₁ s q₁.ctx.scopes) q₁.ctx

-- ---- symbols

unfoldable pub create_symbol_f : SymbolRows → ℕ → ℕ → ℕ → ℕ → SymbolRows
create_symbol_f q name flags scope made =
    let at = q.ctx.symbols * SymbolTable.Numbers in
    in_symbols
    (set
    (set (set (set q.t at name) (at + SymbolTable.Flags) flags) (at + SymbolTable.Scope) scope)
    (at + SymbolTable.Made) made)
    (with_symbol q.ctx)

unfoldable pub move_binding_f : SymbolRows → ℕ → ℕ → List ℕ
move_binding_f q y scope = set_symbol_f q.t q.ctx.symbols y SymbolTable.Scope scope

unfoldable pub set_symbol_flags_f : SymbolRows → ℕ → ℕ → List ℕ
set_symbol_flags_f q y flags = set_symbol_f q.t q.ctx.symbols y SymbolTable.Flags flags

-- the row after i others is bound in the scope, block-scoped or as a class; it moves
unfoldable pub moves_f : SymbolRows → ℕ → ℕ → Bool
moves_f q from i =
    is_among_bindings (symbols_f q.t SymbolTable.Scope q.ctx.symbols 0) from (capped i 1) (symbol_at q.t SymbolTable.Scope i)
    && block_scoped (get_or q.t (i * SymbolTable.Numbers + SymbolTable.Flags) 0)

unfoldable pub move_bound_f : SymbolRows → ℕ → ℕ → ℕ → List ℕ
move_bound_f q from to i = if moves_f q from i then move_binding_f q (capped i 1) to else q.t

-- rows on the way, the next one being the row after `at` others
pub record Moving : Type 0 where
  pub t : List ℕ
  pub at : ℕ

abbrev pub moving : List ℕ → ℕ → Moving
moving t at = record { t = t; at = at }

unfoldable pub move_one : Ctx → ℕ → ℕ → Moving → Moving
move_one x from to s = moving (move_bound_f (in_symbols s.t x) from to s.at) (s.at + 1)

unfoldable pub move_block_scoped_f : SymbolRows → ℕ → ℕ → List ℕ
move_block_scoped_f q from to = (turns q.ctx.symbols (move_one q.ctx from to) (moving q.t 0)).t
