-- `writing::Source::put_named` meets its contract. Assumes nothing.
use mathlib.Core.Path.{refl, sym, ◌∙◌}
use mathlib.Core.List.{append-nil}
use native.Mathlib.Omega.{arith}
use borrow.Author.Tests.{eq-eqb, ne_eqb}
use Rattle.meaning.specs.Renumbering.{scope_named}
use Rattle.writing.specs.Writing.{list_bytes}
use Rattle.writing.proofs.Source.put_named.Goals as goal

pub returns-then-s-eq0 : goal.returns-then-s-eq0
unfolding scope_named list_bytes
returns-then-s-eq0 c =
    let none = eq-eqb _ 0 (sym c.scope_of-s.ensures ∙ c.if-s-eq0.true) in
    rw none (record { bytes = refl; next = omega arith })

pub returns : goal.returns
unfolding scope_named list_bytes
returns c =
    let is = c.scope_of-s.ensures in
    let e = ne_eqb _ 0 c.if-s-eq0.false in
    rw (← is, e) (record { bytes = rw append-nil c.put_scope.ensures; next = omega arith })
