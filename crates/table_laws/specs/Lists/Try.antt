-- What stands in a Try around a list: the declaration of its context, its Catch and its last Block.
-- Assumes nothing.
use Rattle.std.specs.Prelude.{◌+◌}
use Rattle.meaning.specs.Numbers.Tag
use Rattle.meaning.specs.Numbers.Kind
use Rattle.meaning.specs.Tree.{hd, Forest, none, one, ◌&◌}
use Rattle.meaning.specs.Shapes.{block, declaration, load, keep_error, catch_clause}
use Rattle.statements.specs.declared.Parts.{Parts}

-- the declaration of a context, and the Catch with the last Block
unfoldable pub context_of : Parts → Forest
context_of p = declaration Kind.Var p.context.0 (load p.form p.load.0)

unfoldable pub handlers_of : Parts → Forest
handlers_of p =
    catch_clause p.scope.0 p.error.0 (block (p.scope.0 + 1) (keep_error p.context.0 p.error.0))
    & block (p.scope.0 + 2) (one (hd Tag.Step p.step p.context.0 0) none)
