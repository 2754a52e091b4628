-- `helper_load` on tables.
-- Assumes nothing.
use Rattle.std.specs.Prelude.{if◌then◌else◌, Bool, List, ℕ, eqb, leb}
use Rattle.meaning.specs.Numbers.Mode
use Rattle.meaning.specs.Numbers.SymbolFlag
use Rattle.meaning.specs.Numbers.KnownName
use Rattle.meaning.specs.Scoping.{find_binding}
use Rattle.scoping.specs.Rows.{root_scope, with_helper, store_f}
use Rattle.scoping.specs.Changes.{SymbolRows, in_symbols, create_symbol_f}
use Rattle.scoping.specs.declared.Ctx.{Ctx}
use Rattle.helper_loader.specs.declared.Loaded.{Loaded}

-- the symbol rows, and what was loaded
pub record Loading : Type 0 where
  pub t : List ℕ
  pub loaded : Loaded

abbrev pub loading : List ℕ → Loaded → Loading
loading t x = record { t = t; loaded = x }

-- an import in a module, a var elsewhere
abbrev pub helper_flags : ℕ → ℕ
helper_flags esm = if eqb esm 1 then SymbolFlag.Import else SymbolFlag.FunctionScoped

unfoldable pub make_helper_f : SymbolRows → SymbolRows
make_helper_f q =
    let q₁ = create_symbol_f q KnownName.UsingCtx (helper_flags q.ctx.esm) root_scope 1 in
    in_symbols q₁.t (with_helper q₁.ctx q₁.ctx.symbols)

unfoldable pub load_runtime_f : SymbolRows → SymbolRows
load_runtime_f q = if eqb q.ctx.helper.0 0 then make_helper_f q else q

-- the walk's first load: the only context is its own, which is counted already
abbrev pub is_first_f : Ctx → Bool
is_first_f x = leb x.contexts 1

abbrev pub loaded_f : Ctx → ℕ → ℕ → Bool → Loaded
loaded_f x form y first = record { ctx = x; form = form; symbol = record { 0 = y }; first = first }

unfoldable pub helper_load_f : List ℕ → SymbolRows → ℕ → Loading
helper_load_f ss q cur =
    let r = load_runtime_f q in
    let y = find_binding q.ctx.scopes (store_f ss q.t q.ctx) cur KnownName.BabelHelpers in
    if eqb q.ctx.mode Mode.Runtime then loading r.t (loaded_f r.ctx Mode.Runtime r.ctx.helper.0 (is_first_f q.ctx))
    else loading q.t (loaded_f q.ctx Mode.External y (is_first_f q.ctx))
