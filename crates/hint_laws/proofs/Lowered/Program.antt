-- What stays an item of a Program that is lowered is no using.
-- Assumes nothing.
use Rattle.std.specs.Prelude.{◌≡◌, refl, false}
use Rattle.meaning.specs.Tree.{Head, Forest, none, more, ◌&◌}
use Rattle.meaning.specs.Scoping.{Store, Change}
use Rattle.meaning.specs.Statements.{is_using, any_using}
use Rattle.meaning.specs.Program.{
  Split,
  top_level_class,
  top_level_declaration,
  exported_declaration,
  exported_class,
  default_class,
  default_value,
  ItemAct,
  item_as,
  program_item,
  program_items,
  enter_program,
}
use Rattle.spec_laws.specs.Tags.{or_none}
use Rattle.charge_laws.proofs.Growth.Items.{Anything, anything, staying_tag, ChosenItem, as_kept, as_moved, as_class, as_declaration, as_exported_declaration, as_exported_class, as_default_class, as_default_value, chosen_item}

no_using_& : (f g : Forest) → any_using f ≡ false → any_using g ≡ false → any_using (f & g) ≡ false
unfolding any_using ◌&◌
no_using_& none g p q = q
no_using_& (more h k r) g p q =
    let first : is_using h ≡ false = (or_none _ _ p).0 in
    rw (first, no_using_& r g (or_none (is_using h) (any_using r) p).1 q)

-- what stays of an item has no using
abbrev Keeps : Change Split → Store → Type 0
Keeps c st = any_using (c st).0.kept ≡ false

item_kept : {x : ItemAct} {h : Head} {k : Forest} (st : Store) → ChosenItem Anything x h k → Keeps (item_as x h k) st
unfolding item_as top_level_class top_level_declaration exported_declaration exported_class default_class default_value any_using is_using
item_kept st (as_kept s) = rw (staying_tag s).1
item_kept st (as_moved e₁₃ e₁₇ e₁₈ e₁₉ e₁₅ e₅) = refl
item_kept st as_class = refl
item_kept st as_declaration = refl
item_kept st (as_exported_declaration anything) = refl
item_kept st (as_exported_class anything) = refl
item_kept st (as_default_class named anything) = refl
item_kept st (as_default_value e d anything) = refl

items_kept_lem : (f : Forest) (st : Store) → Keeps (program_items f) st
unfolding program_items program_item any_using
items_kept_lem none st = refl
items_kept_lem (more h k r) st = no_using_& _ _ (item_kept st (chosen_item h k)) (items_kept_lem r _)

-- So no using stands directly in a lowered Program.
pub program_list : (h : Head) (k : Forest) (st : Store) → any_using (enter_program h k st).0.children ≡ false
unfolding enter_program any_using is_using
program_list h k st = no_using_& _ _ (items_kept_lem k st) refl
