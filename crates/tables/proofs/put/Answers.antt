-- `tables::put` meets its contract. Assumes nothing.
use mathlib.Core.Path.{sym}
use lib.Seq.{set_out}
use borrow.Author.Rules.{rules}
use Rattle.tables.proofs.put.Goals as goal

pub returns-then-at-table : goal.returns-then-at-table
returns-then-at-table g c = search rules

pub returns-else-at-table : goal.returns-else-at-table
returns-else-at-table g c =
    sym (set_out _ _ _ c.if-at-table.false)
