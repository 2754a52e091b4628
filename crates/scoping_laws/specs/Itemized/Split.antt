-- Which rows stay items of Program and which go into its Block: in what order they stand, and how to tell them apart.
-- Assumes nothing.
use Rattle.std.specs.Prelude.{◌≡◌, refl, Bool, true, false, [], ◌∷◌, ℕ}
use Rattle.meaning.specs.Numbers.Tag
use Rattle.meaning.specs.Tree.{one_of, Head, Forest, none, more}
use Rattle.meaning.specs.Scoping.{Store}
use Rattle.meaning.specs.Program.{transform_class_decl, Split, top_level_class, top_level_declaration, exported_declaration, exported_class, default_class, default_value, ItemAct, item_as, program_item}
use Rattle.charge_laws.proofs.Growth.Items.{Anything, anything, staying_tag, ChosenItem, as_kept, as_moved, as_class, as_declaration, as_exported_declaration, as_exported_class, as_default_class, as_default_value, chosen_item}

-- functions, imports and exports
abbrev pub stays : ℕ → Bool
stays t = one_of (Tag.Function ∷ Tag.ModuleLine ∷ Tag.DefaultExport ∷ Tag.ExportedDeclaration ∷ []) t

-- each record of a list stays, or none does
abbrev pub Stay : Bool → Forest → Type 0
Stay b none = Unit {0}
Stay b (more h k r) = (stays h.tag ≡ b) × Stay b r

abbrev pub Parted : Split → Type 0
Parted s = Stay true s.kept × Stay false s.moved

item_by : {x : ItemAct} {h : Head} {k : Forest} (st : Store) → ChosenItem Anything x h k → Parted (item_as x h k st).0
unfolding item_as top_level_class top_level_declaration exported_declaration exported_class default_class default_value transform_class_decl
item_by st (as_kept s) = (((staying_tag s).0, tt), tt)
item_by st (as_moved e₁₃ e₁₇ e₁₈ e₁₉ e₁₅ e₅) = (tt, (rw (e₁₃, e₁₇, e₁₈, e₁₉), tt))
item_by st as_class = (tt, (refl, tt))
item_by st as_declaration = (tt, (refl, tt))
item_by st (as_exported_declaration anything) = ((refl, tt), (refl, tt))
item_by st (as_exported_class anything) = ((refl, tt), (refl, tt))
item_by st (as_default_class named anything) = ((refl, tt), (refl, tt))
item_by st (as_default_value e d anything) = ((refl, tt), (refl, tt))

-- WHAT STAYS OF AN ITEM, and what moves, is told by its tag
pub item_parted : (h : Head) (k : Forest) (st : Store) → Parted (program_item h k st).0
unfolding program_item
item_parted h k st = item_by st (chosen_item h k)
