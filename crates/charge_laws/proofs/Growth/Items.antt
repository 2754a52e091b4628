-- What is known of an item for which a lowered Program chooses an act: one view for every property of items.
-- Assumes nothing.
use Rattle.std.specs.Prelude.{if◌then◌else◌, ◌≡◌, Bool, ◌&&◌, [], ◌∷◌, ℕ}
use Rattle.std.proofs.Math.Path.{refl}
use Rattle.std.proofs.Math.Bool.{true, false, not}
use Rattle.std.proofs.Common.{arith}
use Rattle.std.proofs.Math.Dec.{eqb}
use Rattle.meaning.specs.Numbers.Tag
use Rattle.meaning.specs.Numbers.Form
use Rattle.meaning.specs.Tree.{one_of, Head, hd, Forest, none, more, count}
use Rattle.meaning.specs.Program.{
  ItemAct,
  stay,
  move,
  lower_class,
  lower_declaration,
  export_declaration,
  export_class,
  export_default_class,
  export_default_value,
  export_act,
  keeps_default,
  default_act,
  item_act,
}
use Rattle.spec_laws.specs.Tags.{Seen, other, here, there, seen}

-- an export has one child; so has each of a list
abbrev pub Export : Head → Forest → Type 0
Export h k = one_of (Tag.DefaultExport ∷ Tag.ExportedDeclaration ∷ []) h.tag ≡ true → count k ≡ 1

abbrev pub Exports : Forest → Type 0
Exports none = Unit {0}
Exports (more h k r) = Export h k × Exports r

-- what stands behind the child of an export: anything, or nothing
pub data Anything : Forest → Type 0 where
  anything : {r : Forest} → Anything r

pub data Alone : Forest → Type 0 where
  alone : Alone none

abbrev Behind : (Forest → Type 0) → Forest → Type 0
Behind R none = Unit {0}
Behind R (more h k r) = R r

-- `R` is what is known of the records behind an export's child. What stays: functions and imports; exports without a child; a default export
-- of a form 0 Function; an export of neither a Class nor a Declaration.
pub data Staying (R : Forest → Type 0) : Head → Forest → Type 0 where
  function : {a b c : ℕ} {k : Forest} → Staying R (hd Tag.Function a b c) k
  module_line : {a b c : ℕ} {k : Forest} → Staying R (hd Tag.ModuleLine a b c) k
  no_default : {a b c : ℕ} → Staying R (hd Tag.DefaultExport a b c) none
  default_function : {a b c y z : ℕ} {k r : Forest} → R r → Staying R (hd Tag.DefaultExport a b c) (more (hd Tag.Function Form.Declaration y z) k r)
  no_export : {a b c : ℕ} → Staying R (hd Tag.ExportedDeclaration a b c) none
  export_other : {a b c : ℕ} {h : Head} {k r : Forest} → eqb h.tag Tag.Class ≡ false → eqb h.tag Tag.Declaration ≡ false → R r
      → Staying R (hd Tag.ExportedDeclaration a b c) (more h k r)

-- by its tag it stays, and is no Declaration
pub staying_tag : {R : Forest → Type 0} {h : Head} {k : Forest} → Staying R h k
    → (one_of (Tag.Function ∷ Tag.ModuleLine ∷ Tag.DefaultExport ∷ Tag.ExportedDeclaration ∷ []) h.tag ≡ true) × (eqb h.tag Tag.Declaration ≡ false)
staying_tag function = (refl, refl)
staying_tag module_line = (refl, refl)
staying_tag no_default = (refl, refl)
staying_tag (default_function q) = (refl, refl)
staying_tag no_export = (refl, refl)
staying_tag (export_other e₁₅ e₅ q) = (refl, refl)

-- what is known of an item by its act; those that move have none of the tags that are asked for
pub data ChosenItem (R : Forest → Type 0) : ItemAct → Head → Forest → Type 0 where
  as_kept : {h : Head} {k : Forest} → Staying R h k → ChosenItem R stay h k
  as_moved : {h : Head} {k : Forest} → eqb h.tag Tag.Function ≡ false → eqb h.tag Tag.ModuleLine ≡ false → eqb h.tag Tag.DefaultExport ≡ false → eqb h.tag Tag.ExportedDeclaration ≡ false
      → eqb h.tag Tag.Class ≡ false → eqb h.tag Tag.Declaration ≡ false → ChosenItem R move h k
  as_class : {a b c : ℕ} {k : Forest} → ChosenItem R lower_class (hd Tag.Class a b c) k
  as_declaration : {a b c : ℕ} {k : Forest} → ChosenItem R lower_declaration (hd Tag.Declaration a b c) k
  as_exported_declaration : {a b c x y z : ℕ} {k r : Forest} → R r
      → ChosenItem R (export_declaration k) (hd Tag.ExportedDeclaration a b c) (more (hd Tag.Declaration x y z) k r)
  as_exported_class : {a b c x y z : ℕ} {k r : Forest} → R r
      → ChosenItem R (export_class (hd Tag.Class x y z) k) (hd Tag.ExportedDeclaration a b c) (more (hd Tag.Class x y z) k r)
  as_default_class : {a b c y z : ℕ} {k r : Forest} → eqb z 0 ≡ false → R r
      → ChosenItem R (export_default_class (hd Tag.Class Form.Declaration y z) k) (hd Tag.DefaultExport a b c) (more (hd Tag.Class Form.Declaration y z) k r)
  as_default_value : {a b c : ℕ} {h : Head} {k r : Forest} → keeps_default h ≡ false
      → (eqb h.tag Tag.Class && eqb h.a 0 && not (eqb h.c 0)) ≡ false → R r
      → ChosenItem R (export_default_value h k) (hd Tag.DefaultExport a b c) (more h k r)

module _ {R : Forest → Type 0} where
  -- below 19
  export_item : {t : ℕ} (a b c x y z : ℕ) (k r : Forest) → R r → Seen (Tag.Class ∷ Tag.Declaration ∷ []) t
      → ChosenItem R (export_act (more (hd t x y z) k r)) (hd Tag.ExportedDeclaration a b c) (more (hd t x y z) k r)
  unfolding export_act
  export_item a b c x y z k r q here = as_exported_class q
  export_item a b c x y z k r q (there e₁₅ here) = as_exported_declaration q
  export_item a b c x y z k r q (there e₁₅ (there e₅ other)) = rw (e₁₅, e₅) (as_kept (export_other e₁₅ e₅ q))

  -- below 18
  default_item : {t a₁ : ℕ} (a b c y z : ℕ) (k r : Forest) → R r → Seen (0 ∷ []) a₁ → Seen (Tag.Function ∷ Tag.Class ∷ []) t
      → ChosenItem R (default_act (more (hd t a₁ y z) k r)) (hd Tag.DefaultExport a b c) (more (hd t a₁ y z) k r)
  unfolding default_act keeps_default
  default_item a b c y z k r q here here = as_kept (default_function q)
  default_item a b c y z k r q here (there e₁₃ here) = named (eqb z 0) refl
    where
      named : (n : Bool) → eqb z 0 ≡ n
          → ChosenItem R (if not n then export_default_class (hd Tag.Class Form.Declaration y z) k else export_default_value (hd Tag.Class Form.Declaration y z) k) (hd Tag.DefaultExport a b c)
          (more (hd Tag.Class Form.Declaration y z) k r)
      named true e = as_default_value {h = hd Tag.Class Form.Declaration y z} refl (rw e) q
      named false e = as_default_class e q
  default_item {t} a b c y z k r q here (there e₁₃ (there e₁₅ other)) =
      rw (e₁₃, e₁₅) (as_default_value {h = hd t 0 y z} (rw e₁₃) (rw e₁₅) q)
  default_item {a₁ = a₁} a b c y z k r q (there e₀ other) here = rw e₀ (as_default_value {h = hd Tag.Function a₁ y z} (rw e₀) refl q)
  default_item {a₁ = a₁} a b c y z k r q (there e₀ other) (there e₁₃ here) = rw e₀ (as_default_value {h = hd Tag.Class a₁ y z} refl (rw e₀) q)
  default_item {t} {a₁} a b c y z k r q (there e₀ other) (there e₁₃ (there e₁₅ other)) =
      rw (e₁₃, e₁₅) (as_default_value {h = hd t a₁ y z} (rw e₁₃) (rw e₁₅) q)

  item_as_lem : {t : ℕ} (a b c : ℕ) (k : Forest) → (one_of (Tag.DefaultExport ∷ Tag.ExportedDeclaration ∷ []) t ≡ true → Behind R k) → Seen (Tag.Function ∷ Tag.ModuleLine ∷ Tag.DefaultExport ∷ Tag.ExportedDeclaration ∷ Tag.Class ∷ Tag.Declaration ∷ []) t
      → ChosenItem R (item_act (hd t a b c) k) (hd t a b c) k
  unfolding item_act export_act default_act
  item_as_lem a b c k q here = as_kept function
  item_as_lem a b c k q (there e₁₃ here) = as_kept module_line
  item_as_lem a b c none q (there e₁₃ (there e₁₇ here)) = as_kept no_default
  item_as_lem a b c (more h k r) q (there e₁₃ (there e₁₇ here)) =
      default_item a b c h.b h.c k r (q refl) (seen (0 ∷ []) h.a) (seen (Tag.Function ∷ Tag.Class ∷ []) h.tag)
  item_as_lem a b c none q (there e₁₃ (there e₁₇ (there e₁₈ here))) = as_kept no_export
  item_as_lem a b c (more h k r) q (there e₁₃ (there e₁₇ (there e₁₈ here))) =
      export_item a b c h.a h.b h.c k r (q refl) (seen (Tag.Class ∷ Tag.Declaration ∷ []) h.tag)
  item_as_lem a b c k q (there e₁₃ (there e₁₇ (there e₁₈ (there e₁₉ here)))) = as_class
  item_as_lem a b c k q (there e₁₃ (there e₁₇ (there e₁₈ (there e₁₉ (there e₁₅ here))))) = as_declaration
  item_as_lem {t} a b c k q (there e₁₃ (there e₁₇ (there e₁₈ (there e₁₉ (there e₁₅ (there e₅ other)))))) =
      rw (e₁₃, e₁₇, e₁₈, e₁₉, e₁₅, e₅) (as_moved e₁₃ e₁₇ e₁₈ e₁₉ e₁₅ e₅)

  item : (h : Head) (k : Forest) → (one_of (Tag.DefaultExport ∷ Tag.ExportedDeclaration ∷ []) h.tag ≡ true → Behind R k) → ChosenItem R (item_act h k) h k
  item h k q = item_as_lem h.a h.b h.c k q (seen (Tag.Function ∷ Tag.ModuleLine ∷ Tag.DefaultExport ∷ Tag.ExportedDeclaration ∷ Tag.Class ∷ Tag.Declaration ∷ []) h.tag)

-- THE VIEW: what is known of every item, and of one whose export has one child
pub chosen_item : (h : Head) (k : Forest) → ChosenItem Anything (item_act h k) h k
chosen_item h k = item h k (λ _. behind k)
  where
    behind : (k : Forest) → Behind Anything k
    behind none = tt
    behind (more h k r) = anything

pub only_item : (h : Head) (k : Forest) → Export h k → ChosenItem Alone (item_act h k) h k
unfolding count
only_item h k x = item h k (λ e. behind k (x e))
  where
    behind : (k : Forest) → count k ≡ 1 → Behind Alone k
    behind none n = tt
    behind (more h k none) n = alone
    behind (more h k (more h₁ k₁ r₁)) n = absurd (omega arith)
