-- A silent record is charged nothing.
-- Assumes nothing.
use mathlib.Core.Path.{◌≡◌}
use mathlib.Core.Bool.{Bool, true, false, not, and-false}
use mathlib.Core.List.{[], ◌∷◌}
use Prim.Native.Nat.{ℕ, ◌≤◌, ◌<◌}
use native.Mathlib.Nat.{add-zero}
use native.Mathlib.Omega.{arith}
use lib.Dec.{eqb}
use borrow.Author.Tests.{not-true, ne_eqb, leb-true}
use Rattle.meaning.specs.Numbers.Tag
use Rattle.meaning.specs.Tree.{one_of, Head}
use Rattle.meaning.specs.File.{field_bytes}
use Rattle.meaning.specs.Statements.{is_using}
use Rattle.spec_laws.specs.Tags.{and_left, and_right, or_none}
use Rattle.figures.specs.Tally.{role_index, takes_up, takes_up_cases, gets_context, is_export, items_kept, own, is_silent, silent}
use Rattle.figures.specs.declared.tally.Tally.{Tally}
use Rattle.figures.specs.declared.tally.Role.{Role}
use Rattle.figures.specs.declared.tally.Role.TheVariants.{Item, Default, Exported, ExportedName, Held, Body}

-- what is exported, a Declarator's part, held or a body
exporting : (role_index Item < role_index Default) × (role_index Item < role_index Exported) × (role_index Item < role_index ExportedName)
    × (role_index Item < role_index Held) × (role_index Item < role_index (Body 0))
unfolding role_index
exporting = (omega arith, omega arith, omega arith, omega arith, omega arith)

module _ (u : Role) (inserts : Bool) (h : Head) (n : ℕ) (kids : Tally) (is : is_silent u h.tag ≡ true) where
  tests : (one_of (Tag.Program ∷ Tag.Block ∷ Tag.Declaration ∷ Tag.For ∷ Tag.Switch ∷ Tag.Case ∷ Tag.Body ∷ Tag.Class ∷ Tag.StaticBlock ∷ []) h.tag ≡ false) × (role_index u ≤ role_index Item)
  unfolding is_silent
  tests =
      let t = h.tag in
      let some = one_of (Tag.Program ∷ Tag.Block ∷ Tag.Declaration ∷ Tag.For ∷ Tag.Switch ∷ Tag.Case ∷ Tag.Body ∷ Tag.Class ∷ Tag.StaticBlock ∷ []) t in
      (not-true some (and_left (not some) _ is), leb-true (role_index u) (role_index Item) (and_right (not some) _ is))

  no_role : (k : ℕ) → role_index Item < k → eqb (role_index u) k ≡ false
  no_role k l = ne_eqb (role_index u) k (λ e. omega (arith, tests.1))

  pub own_silent : own u inserts h n kids ≡ silent (field_bytes h.tag) kids
  unfolding own takes_up takes_up_cases gets_context is_export items_kept is_using
  own_silent =
      let t = h.tag in
      let n₁ = or_none (eqb t Tag.Program) _ tests.0 in
      let n₂ = or_none (eqb t Tag.Block) _ n₁.1 in
      let n₅ = or_none (eqb t Tag.Declaration) _ n₂.1 in
      let n₇ = or_none (eqb t Tag.For) _ n₅.1 in
      let n₉ = or_none (eqb t Tag.Switch) _ n₇.1 in
      let n₁₀ = or_none (eqb t Tag.Case) _ n₉.1 in
      let n₁₄ = or_none (eqb t Tag.Body) _ n₁₀.1 in
      let n₁₅ = or_none (eqb t Tag.Class) _ n₁₄.1 in
      let n₁₆ = or_none (eqb t Tag.StaticBlock) _ n₁₅.1 in
      simp (n₁.0, n₂.0, n₅.0, n₇.0, n₉.0, n₁₀.0, n₁₄.0, n₁₅.0, n₁₆.0, no_role (role_index Default) exporting.0, no_role (role_index Exported) exporting.1, no_role (role_index ExportedName) exporting.2, no_role (role_index Held) exporting.3, no_role (role_index (Body 0)) exporting.4, and-false, add-zero)
