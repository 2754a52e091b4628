-- The kind of an item, told by its row and its child's, is what 01 makes of it.
-- Assumes nothing.
use Rattle.std.specs.Prelude.{if◌then◌else◌, ◌≡◌, refl, Bool, true, false, not, ◌&&◌, List, ◌∷◌, ◌++◌, ℕ, ◌+◌, ◌<◌, eqb, length}
use Rattle.std.proofs.Common.{arith}
use Rattle.meaning.specs.Numbers.Tag
use Rattle.meaning.specs.Tree.{Head, Forest, none, more, count, size}
use Rattle.meaning.specs.Program.{
  ItemAct,
  stay,
  move,
  lower_class,
  lower_declaration,
  export_declaration,
  export_class,
  export_default_class,
  export_default_value,
  keeps_default,
}
use Rattle.spec_laws.specs.Tags.{clash}
use Rattle.charge_laws.proofs.Growth.Items.{Alone, alone, function, module_line, no_default, default_function, no_export, export_other, ChosenItem, as_kept, as_moved, as_class, as_declaration, as_exported_declaration, as_exported_class, as_default_class, as_default_value}
use Rattle.tables.specs.Table.{capped, row_f}
use Rattle.tables.specs.declared.Row.{Row}
use Rattle.representation.specs.Gap.Cells.{line, rows_of, gapped}
use Rattle.representation.proofs.Gap.Rows.{next_gapped}
use Rattle.rewrite_items.specs.Kinds.{item_f, default_item_f, default_class_item_f, exported_item_f}
use Rattle.rewrite_items.specs.declared.Item.{Item}
use Rattle.rewrite_items.specs.declared.Item.TheVariants.{
  Kept,
  Moved,
  Declared,
  Class,
  DefaultClass,
  DefaultValue,
  ExportedClass,
  ExportedDeclaration,
}
use Rattle.scoping_laws.specs.Itemized.Rows.{second_gapped}
use Rattle.scoping_laws.specs.Itemized.Held.{IsKind}

unfoldable pub kind_of : ItemAct → Item
kind_of stay = Kept
kind_of move = Moved
kind_of lower_class = Class
kind_of lower_declaration = Declared
kind_of (export_declaration k) = ExportedDeclaration
kind_of (export_class h k) = ExportedClass
kind_of (export_default_class h k) = DefaultClass
kind_of (export_default_value h k) = DefaultValue

-- the row behind that of an item is its first child's
abbrev pub ChildRow : List ℕ → ℕ → Forest → Type 0
ChildRow t at none = Unit {0}
ChildRow t at (more h k r) = row_f t (capped at 1) ≡ line h (count k)

-- by the tests of a default export's child
value_kind : (direct callable class unnamed : Bool) → (callable && direct) ≡ false → (class && direct && not unnamed) ≡ false
    → (if direct then (if callable then Kept else if class then (if unnamed then DefaultValue else DefaultClass) else DefaultValue)
    else DefaultValue)
    ≡ DefaultValue
value_kind true true class unnamed e d = absurd (clash e refl)
value_kind true false true true e d = refl
value_kind true false true false e d = absurd (clash d refl)
value_kind true false false unnamed e d = refl
value_kind false callable class unnamed e d = refl

-- WHAT IT IS in the table
pub kind_is : (t : List ℕ) (at : ℕ) {x : ItemAct} {h : Head} {k : Forest} → ChosenItem Alone x h k → row_f t at ≡ line h (count k) → ChildRow t at k
    → item_f t at ≡ kind_of x
unfolding item_f default_item_f default_class_item_f exported_item_f kind_of keeps_default count
kind_is t at (as_kept function) e d = rw e
kind_is t at (as_kept module_line) e d = rw e
kind_is t at (as_kept no_default) e d = rw e
kind_is t at (as_kept (default_function alone)) e d = rw (e, d)
kind_is t at (as_kept no_export) e d = rw e
kind_is t at (as_kept (export_other e₁₅ e₅ alone)) e d = rw (e, d, e₅, e₁₅)
kind_is t at (as_moved e₁₃ e₁₇ e₁₈ e₁₉ e₁₅ e₅) e d = rw (e, e₅, e₁₃, e₁₅, e₁₇, e₁₈, e₁₉)
kind_is t at as_class e d = rw e
kind_is t at as_declaration e d = rw e
kind_is t at (as_exported_declaration alone) e d = rw (e, d)
kind_is t at (as_exported_class alone) e d = rw (e, d)
kind_is t at (as_default_class named alone) e d = rw (e, d, named)
kind_is t at (as_default_value {h = h} f c alone) e d =
    rw (e, d) (value_kind (eqb h.a 0) (eqb h.tag Tag.Function) (eqb h.tag Tag.Class) (eqb h.c 0) f c)

child_row : (z : List ℕ) (a : List Row) (g : ℕ) (x : Row) (k : Forest) (v : List Row) → length a + g < 65535
    → (let b = gapped z a g (x ∷ (rows_of k ++ v)) in ChildRow b.t b.read k)
unfolding rows_of
child_row z a g x none v i = tt
child_row z a g x (more h k r) v i = second_gapped z a g x (line h (count k)) ((rows_of k ++ rows_of r) ++ v) i

-- AND SO WHEREVER IT STANDS
pub is_kind : {x : ItemAct} {h : Head} {k : Forest} → ChosenItem Alone x h k → IsKind h k (kind_of x)
unfolding size
is_kind {h = h} {k = k} c z a g v q =
    let x = line h (count k) in kind_is _ _ c (next_gapped z a g x (rows_of k ++ v)) (child_row z a g x k v (omega arith))
