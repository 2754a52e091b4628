-- `checking::enter_expression` meets its contract. Assumes nothing.
use mathlib.Core.Path.{refl, sym}
use mathlib.Core.Logic.{inl, inr}
use mathlib.Core.List.{[], ◌∷◌}
use Prim.Native.Nat.{ℕ, ◌+◌, ◌≤◌, ◌<◌}
use native.Mathlib.Omega.{arith}
use types.Run.{OneOf}
use Rattle.std.proofs.Common.{⊎_elim, eq-or-lt_of_le}
use Rattle.meaning.specs.Numbers.Tag
use Rattle.meaning.specs.Grammar.{scope_of}
use Rattle.checking.proofs.Laws.{enter_tagged}
use Rattle.checking.proofs.enter_expression.Goals as goal
use Rattle.checking.proofs.enter_expression.Goals.{then-tag-lt26, else-tag-lt26+else-tag-lt27+then-tag-lt29}

-- two numbers in a row
one_of_two : (lo t : ℕ) → lo ≤ t → t < lo + 2 → OneOf (lo ∷ (lo + 1) ∷ []) t
one_of_two lo t h l = ⊎_elim (λ q. inl (sym q)) (λ q. inr (omega arith)) (eq-or-lt_of_le h)

pub returns-in-24 : goal.returns-in-24
unfolding scope_of
returns-in-24 c =
    elim c.in-24-1.branch [
      | then-tag-lt26 w ↦
          rw c.read_right.ensures
          (enter_tagged _ _ _ _ _ _ (Tag.Expression ∷ Tag.Read ∷ []) _ c.tag-tag.ensures (λ a b c. refl)
          (one_of_two Tag.Expression _ (omega arith) (omega arith)))
      | else-tag-lt26+else-tag-lt27+then-tag-lt29 w ↦
          rw c.read_right.ensures
          (enter_tagged _ _ _ _ _ _ (Tag.Call ∷ Tag.Load ∷ []) _ c.tag-tag.ensures (λ a b c. refl)
          (one_of_two Tag.Call _ (omega arith) (omega arith)))
    ]
