-- The rows that a context makes.
-- Assumes nothing.
use Rattle.std.specs.Prelude.{List, ℕ, ◌+◌}
use Rattle.meaning.specs.Numbers.KnownName
use Rattle.meaning.specs.Numbers.SymbolFlag
use Rattle.meaning.specs.Numbers.ScopeFlag
use Rattle.tables.specs.Table.{capped}
use Rattle.scoping.specs.Rows.{with_context}
use Rattle.scoping.specs.Changes.{SymbolRows, in_scopes, in_symbols, create_child_scope_f, create_symbol_f}
use Rattle.scoping.specs.declared.Ctx.{Ctx}
use Rattle.helper_loader.specs.Load.{helper_load_f}
use Rattle.statements.specs.Try.{step_form}
use Rattle.creation.specs.declared.Transformed.{Transformed}
use Rattle.creation.specs.declared.Created.{Created}

-- both tables with the counters
pub record InRows : Type 0 where
  pub scopes : List ℕ
  pub symbols : List ℕ
  pub ctx : Ctx

abbrev pub in_rows : List ℕ → List ℕ → Ctx → InRows
in_rows s y x = record { scopes = s; symbols = y; ctx = x }

-- the symbol rows with a context's numbers
pub record Transforming : Type 0 where
  pub symbols : List ℕ
  pub transformed : Transformed

abbrev pub transforming : List ℕ → Transformed → Transforming
transforming y t = record { symbols = y; transformed = t }

-- both tables with the numbers of a Try
pub record Creating : Type 0 where
  pub scopes : List ℕ
  pub symbols : List ℕ
  pub created : Created

abbrev pub creating : List ℕ → List ℕ → Created → Creating
creating s y c = record { scopes = s; symbols = y; created = c }

-- ---- the context

unfoldable pub make_context_f : SymbolRows → ℕ → SymbolRows
make_context_f q scope = let q₁ = create_symbol_f q KnownName.UsingCtx SymbolFlag.FunctionScoped scope 1 in in_symbols q₁.t (with_context q₁.ctx)

unfoldable pub load_context_f : List ℕ → SymbolRows → ℕ → ℕ → Transforming
load_context_f ss q context cur =
    let l = helper_load_f ss q cur in
    transforming l.t
    (record { ctx = l.loaded.ctx; context = record { 0 = context }; form = l.loaded.form; load = l.loaded.symbol })

unfoldable pub transform_statements_f : List ℕ → SymbolRows → ℕ → ℕ → Transforming
transform_statements_f ss q cur hoist = let q₁ = make_context_f q hoist in load_context_f ss q₁ q₁.ctx.symbols cur

unfoldable pub with_ctx_f : Transformed → Ctx → Transformed
with_ctx_f t x = record { ctx = x; context = t.context; form = t.form; load = t.load }

-- ---- the Try

-- the flags of `_` in a Catch
abbrev pub error_flags : ℕ
error_flags = SymbolFlag.FunctionScoped + SymbolFlag.Catch

unfoldable pub create_catch_clause_f : InRows → ℕ → InRows
create_catch_clause_f q parent =
    let s₁ = create_child_scope_f (in_scopes q.scopes q.ctx) parent ScopeFlag.Catch in
    let s₂ = create_child_scope_f s₁ s₁.ctx.scopes 0 in
    let y = create_symbol_f (in_symbols q.symbols s₂.ctx) KnownName.Underscore error_flags s₂.ctx.scopes 0 in
    in_rows s₂.t y.t y.ctx

unfoldable pub create_try_stmt_f : List ℕ → List ℕ → Transformed → ℕ → ℕ → Creating
create_try_stmt_f ss ys t parent awaits =
    let q = create_catch_clause_f (in_rows ss ys t.ctx) parent in
    let s = create_child_scope_f (in_scopes q.scopes q.ctx) parent 0 in
    creating s.t q.symbols
    (record {
      ctx = s.ctx;
      parts =
          record {
            context = t.context;
            form = t.form;
            load = t.load;
            scope = record { 0 = capped t.ctx.scopes 1 };
            error = record { 0 = q.ctx.symbols };
            step = step_form awaits;
          };
    })
