-- The records that lowering makes.
-- Assumes nothing.
use Rattle.std.specs.Prelude.{if◌then◌else◌, ℕ, Bool}
use Rattle.meaning.specs.Numbers.Tag
use Rattle.meaning.specs.Numbers.Form
use Rattle.meaning.specs.Numbers.LineForm
use Rattle.meaning.specs.Numbers.KnownName
use Rattle.meaning.specs.Numbers.Parts
use Rattle.meaning.specs.Numbers.StepForm
use Rattle.meaning.specs.Tree.{hd, Forest, none, more, one, Node, node}

-- `{ list }`
abbrev pub block : ℕ → Forest → Forest
block scope list = one (hd Tag.Block scope 0 0) list

-- `var y = e`, `const y = e`, `using y = e`, by kind
abbrev pub declaration : ℕ → ℕ → Forest → Forest
declaration kind y e = one (hd Tag.Declaration kind 0 0) (one (hd Tag.Declarator 0 1 0) (more (hd Tag.Name y 0 0) none e))

-- `y`
abbrev pub read : ℕ → Forest
read y = one (hd Tag.Read y 0 0) none

-- `_usingCtx.u(e)` or `_usingCtx.a(e)`, by letter
abbrev pub call : ℕ → ℕ → Forest → Forest
call letter ctx e = one (hd Tag.Call letter ctx 0) e

-- `using_ctx()` or `babelHelpers.using_ctx()`, by mode
abbrev pub load : ℕ → ℕ → Forest
load form y = one (hd Tag.Load form y 0) none

-- `_usingCtx.e = _`
abbrev pub keep_error : ℕ → ℕ → Forest
keep_error ctx y = one (hd Tag.Step StepForm.KeepError ctx y) none

-- `_usingCtx.d()` or `await _usingCtx.d()`
abbrev pub dispose : Bool → ℕ → Forest
dispose awaited ctx = one (hd Tag.Step (if awaited then StepForm.AwaitDispose else StepForm.Dispose) ctx 0) none

-- `catch (y) body`
abbrev pub catch_clause : ℕ → ℕ → Forest → Forest
catch_clause scope y body = one (hd Tag.Catch scope 1 0) (more (hd Tag.Name y 0 0) none body)

-- `export { y as exported }`, for the Specifiers given
abbrev pub export_named : Forest → Forest
export_named specifiers = one (hd Tag.ModuleLine LineForm.ExportNamed 0 0) specifiers

-- `y as exported`, before others
abbrev pub specifier : ℕ → ℕ → Forest → Forest
specifier y exported rest = more (hd Tag.Specifier y exported 0) none rest

-- `import { default as y }` of the runtime helper
abbrev pub import_helper : ℕ → Forest
import_helper y = one (hd Tag.ModuleLine LineForm.ImportHelper 0 0) (specifier y KnownName.Default none)

-- a Class as an expression
abbrev pub class_expression : ℕ → ℕ → Forest → Forest
class_expression scope y items = one (hd Tag.Class Form.Expression scope y) items

-- `try { .. } catch (y) { .. } finally { .. }`, of its three parts
abbrev pub try_statement : Forest → Node
try_statement parts = node (hd Tag.Try Parts.Both 0 0) parts
