-- `scoping::is_bound` meets its contract. Assumes nothing.
use mathlib.Core.Path.{sym, ◌∙◌}
use native.Mathlib.Omega.{arith}
use Rattle.scoping.proofs.Skips.{bound_last}
use Rattle.scoping.proofs.is_bound.Goals as goal

pub returns : goal.returns
returns c =
    bound_last _ _ _ _ _ _ c.requires (omega (arith, c.ranges)) (sym c.get.ensures ∙ c.if-get-scope.false) (sym c.get-2.ensures ∙ c.if-get-ne0.false) (sym c.get-3.ensures) c.binding_from.ensures
