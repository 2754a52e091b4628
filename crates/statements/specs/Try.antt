-- The rows of a Try.
-- Assumes nothing.
use Rattle.std.specs.Prelude.{if◌then◌else◌, ℕ, eqb}
use Rattle.meaning.specs.Numbers.Tag
use Rattle.meaning.specs.Numbers.Kind
use Rattle.meaning.specs.Numbers.Parts as TryParts
use Rattle.meaning.specs.Numbers.StepForm
use Rattle.tables.specs.Table.{capped, closed_row_f}
use Rattle.tables.specs.Stream.{Buf, emit_f}
use Rattle.statements.specs.TakeUp.{take_up_f}
use Rattle.statements.specs.declared.Parts.{Parts}

unfoldable pub step_form : ℕ → ℕ
step_form awaits = if eqb awaits 0 then StepForm.Dispose else StepForm.AwaitDispose

-- a Declaration of a name, up to its initializer
unfoldable pub declare_f : ℕ → ℕ → Buf → Buf
declare_f kind y b =
    let b₁ = emit_f b (closed_row_f Tag.Declaration kind 0 0 1) in
    let b₂ = emit_f b₁ (closed_row_f Tag.Declarator 0 1 0 2) in
    emit_f b₂ (closed_row_f Tag.Name y 0 0 0)

unfoldable pub declare_context_f : Parts → Buf → Buf
declare_context_f p b = emit_f (declare_f Kind.Var p.context.0 b) (closed_row_f Tag.Load p.form p.load.0 0 0)

unfoldable pub catch_clause_f : Parts → Buf → Buf
catch_clause_f p b =
    let b₁ = emit_f b (closed_row_f Tag.Catch p.scope.0 1 0 2) in
    let b₂ = emit_f b₁ (closed_row_f Tag.Name p.error.0 0 0 0) in
    let b₃ = emit_f b₂ (closed_row_f Tag.Block (capped p.scope.0 1) 0 0 1) in
    emit_f b₃ (closed_row_f Tag.Step StepForm.KeepError p.context.0 p.error.0 0)

unfoldable pub finally_block_f : Parts → Buf → Buf
finally_block_f p b =
    let b₁ = emit_f b (closed_row_f Tag.Block (capped p.scope.0 2) 0 0 1) in
    emit_f b₁ (closed_row_f Tag.Step p.step p.context.0 0 0)

unfoldable pub handlers_f : Parts → Buf → Buf
handlers_f p b = finally_block_f p (catch_clause_f p b)

-- the rows that a context adds where its list stays in its Block, besides a Call for each initializer: a Try; Declaration, Declarator, Name and
-- Load of the context; Catch, Name, Block and Step; Block and Step
abbrev pub context_rows : ℕ
context_rows = 11

-- the rows that a context adds where its list goes into a new Block: that Block, too
abbrev pub wrapped_context_rows : ℕ
wrapped_context_rows = 12

-- the Try's row and that of its first Block
unfoldable pub open_try_f : ℕ → ℕ → Buf → Buf
open_try_f scope n b = emit_f (emit_f b (closed_row_f Tag.Try TryParts.Both 0 0 3)) (closed_row_f Tag.Block scope 0 0 n)

-- what follows for a list of n items
unfoldable pub transform_list_f : ℕ → Parts → Buf → Buf
transform_list_f n p b = handlers_f p (take_up_f n p.context.0 (declare_context_f p b))

-- a Module line of a form, with one Specifier
unfoldable pub line_f : ℕ → ℕ → ℕ → Buf → Buf
line_f form y name b = emit_f (emit_f b (closed_row_f Tag.ModuleLine form 0 0 1)) (closed_row_f Tag.Specifier y name 0 0)
