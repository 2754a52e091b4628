-- `figures::tally::SymbolRows::any_binds` meets its contract. Assumes nothing.
use mathlib.Core.Path.{◌≡◌, refl}
use mathlib.Core.Bool.{true, false}
use native.Mathlib.Omega.{arith}
use borrow.Author.Rules.{rules}
use borrow.Author.Tests.{tests}
use Rattle.std.proofs.lemmas.Iterator.{cases_from_any, YieldsList-from_range}
use Rattle.figures.specs.Tally.{rows_from}
use Rattle.figures.proofs.tally.Laws.{binds_at, any_bound}
use Rattle.figures.proofs.tally.SymbolRows.any_binds.Goals as goal

pub returns : goal.returns
returns c =
    let s = c.args.self.now in
    let at = rows_from s.scopes in
    let binds = binds_at s.file.now at s.count c.args.scope.0 c.args.name in
    any_bound s.file.now at s.count c.args.scope.0 c.args.name c.any.result
    (cases_from_any _ _ _ (λ i. binds i ≡ true) (λ i. binds i ≡ false) c.any.ensures.ran (YieldsList-from_range 0 s.count s.count refl (omega arith)) (λ x q k. search (rules, tests)) (λ x q k. search (rules, tests)))
