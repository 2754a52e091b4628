-- `checking::first_wrong` meets its contract. Assumes nothing.
use Rattle.std.proofs.Common.{rules, tests, ◌≡◌, ◌+◌, ◌*◌, get_or, ℕ}
use Rattle.std.proofs.lemmas.Iterator.{first_from_Range}
use Rattle.meaning.specs.File.{symbol_bytes}
use Rattle.meaning.specs.Grammar.{two}
use Rattle.checking.proofs.Counts.{first_row}
use Rattle.checking.proofs.first_wrong.Goals as goal

pub returns : goal.returns
returns c =
    let right : ℕ → Type 0 = λ k. two c.args.file.now (c.args.first + symbol_bytes * k + 11) ≡ get_or c.args.counts.now k 0 in
    first_row _ _ _ _ (first_from_Range _ _ _ _ (λ k. right k → ⊥) right c.find.ensures.ran
    (λ x q k. search (rules, tests)) (λ x q k. (search rules, search (rules, tests))))
