-- `scoping::next_near` meets its contract. Assumes nothing.
use Rattle.std.proofs.Common.{rules, ◌≡◌, ◌+◌, ◌*◌, get_or, ℕ}
use Rattle.std.proofs.lemmas.Iterator.{first_from_Range}
use Rattle.tables.specs.Columns.SymbolTable
use Rattle.scoping.proofs.Skips.{finds_first}
use Rattle.scoping.proofs.next_near.Goals as goal

pub returns : goal.returns
returns c =
    let at : ℕ → Type 0 = λ k. get_or c.args.symbols.now (k * SymbolTable.Numbers + c.args.f) 0 ≡ c.args.want in
    finds_first _ _ _ _ _ _ (first_from_Range _ _ _ _ at (λ k. at k → ⊥) c.find.ensures.ran
    (λ x q k. search rules) (λ x q k. (search rules, search rules)))
