-- `figures::tally::SymbolRows::binds_name` meets its contract. Assumes nothing.
use borrow.Author.Tests.{ne_eqb}
use Rattle.meaning.specs.ForOf.{binds_name}
use Rattle.figures.proofs.tally.Laws.{row_number}
use Rattle.figures.proofs.tally.SymbolRows.binds_name.Goals as goal

pub returns-then-number_of-eq0 : goal.returns-then-number_of-eq0
unfolding binds_name
returns-then-number_of-eq0 c =
    let file = c.args.self.now.file.now in
    rw (row_number file (λ s. s.made) _ _ _, ← c.number_of.ensures, c.if-number_of-eq0.true, row_number file (λ s. s.name) _ _ _, ← c.number_of-then-number_of-eq0.ensures) c.any_binds.ensures

pub returns-else-number_of-eq0 : goal.returns-else-number_of-eq0
unfolding binds_name
returns-else-number_of-eq0 c =
    rw (row_number c.args.self.now.file.now (λ s. s.made) _ _ _, ← c.number_of.ensures, ne_eqb _ _ c.if-number_of-eq0.false)
