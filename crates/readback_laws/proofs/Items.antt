-- A Program that is lowered: records without n get no children.
-- Assumes nothing.
use Rattle.std.specs.Prelude.{if◌then◌else◌, ◌≡◌, refl, Bool, true, false, List, [], ◌∷◌, ℕ, eqb}
use Rattle.meaning.specs.Numbers.Tag
use Rattle.meaning.specs.Numbers.Form
use Rattle.meaning.specs.Tree.{Head, hd, Forest, none, more, one, single}
use Rattle.meaning.specs.File.{has_children}
use Rattle.meaning.specs.Scoping.{Store}
use Rattle.meaning.specs.Program.{
  transform_class_decl,
  Split,
  bound_names,
  specifiers,
  top_level_class,
  top_level_declaration,
  exported_declaration,
  exported_class,
  default_class,
  as_expression,
  default_value,
  ItemAct,
  item_as,
  program_item,
  program_items,
  enter_program,
}
use Rattle.spec_laws.specs.Tags.{clash}
use Rattle.charge_laws.proofs.Growth.Items.{Anything, anything, ChosenItem, as_kept, as_moved, as_class, as_declaration, as_exported_declaration, as_exported_class, as_default_class, as_default_value, chosen_item}
use Rattle.readback_laws.proofs.Back.{Childless}
use Rattle.readback_laws.proofs.Taken.{Bare, never, childless_&}

-- what stays and what moves
abbrev Both : Split × Store → Type 0
Both e = Childless e.0.kept × Childless e.0.moved

class_childless : (h : Head) (k : Forest) (st : Store) → Childless k → Childless (transform_class_decl h k st).0
unfolding transform_class_decl has_children
class_childless h k st p = (never, (never, ((λ _. refl), tt, (never, p, tt)), tt), tt)

specifiers_childless : (st : Store) (names : List ℕ) → Childless (specifiers st names)
unfolding specifiers
specifiers_childless st [] = tt
specifiers_childless st (y ∷ names) = ((λ _. refl), tt, specifiers_childless st names)

expression_bare : (b : Bool) (h : Head) (k : Forest) → Bare h k → Bare (if b then hd Tag.Class Form.Expression h.b h.c else h) k
unfolding has_children
expression_bare true h k o = never
expression_bare false h k o = o

item_childless : {x : ItemAct} {h : Head} {k : Forest} (st : Store) → Bare h k → Childless k → ChosenItem Anything x h k
    → Both (item_as x h k st)
unfolding item_as top_level_class top_level_declaration exported_declaration exported_class default_class default_value as_expression has_children
item_childless st o p (as_kept s) = ((o, p, tt), tt)
item_childless st o p (as_moved e₁₃ e₁₇ e₁₈ e₁₉ e₁₅ e₅) = (tt, (o, p, tt))
item_childless {h = h} {k = k} st o p as_class = (tt, class_childless h k st p)
item_childless st o p as_declaration = (tt, (never, p, tt))
item_childless st o p (as_exported_declaration {k = k} anything) = ((never, specifiers_childless _ (bound_names k), tt), (never, p.1, tt))
item_childless st o p (as_exported_class {k = k} anything) = ((never, ((λ _. refl), tt, tt), tt), class_childless _ k st p.1)
item_childless st o p (as_default_class {k = k} named anything) = ((never, ((λ _. refl), tt, tt), tt), class_childless _ k st p.1)
item_childless st o p (as_default_value {h = h} {k = k} e d anything) = (
  (never, ((λ _. refl), tt, tt), tt),
  (never, (never, ((λ _. refl), tt, (expression_bare (eqb h.tag Tag.Class) h k p.0, p.1, tt)), tt), tt),
)

items_childless : (f : Forest) (st : Store) → Childless f → Both (program_items f st)
unfolding program_items program_item
items_childless none st p = (tt, tt)
items_childless (more h k r) st p =
    let i = program_item h k st in
    let j = program_items r i.1 in
    let q = item_childless st p.0 p.1 (chosen_item h k) in
    let s = items_childless r i.1 p.2 in
    (childless_& i.0.kept j.0.kept q.0 s.0, childless_& i.0.moved j.0.moved q.1 s.1)

pub program_childless : (h : Head) (k : Forest) (st : Store) → has_children h.tag ≡ true → Childless k
    → Childless (single (enter_program h k st).0)
unfolding enter_program has_children
program_childless h k st c p =
    let s = program_items k st in
    let i = items_childless k st p in
    ((λ e. absurd (clash e c)), childless_& s.0.kept (one _ s.0.moved) i.0 (never, i.1, tt), tt)
