-- A Program's items keep their Loads, and no line of theirs charges a context.
-- Assumes nothing.
use Rattle.std.specs.Prelude.{if◌then◌else◌, ◌≡◌, refl, Bool, true, false, ◌&&◌, List, [], ◌∷◌, ◌++◌, ℕ, ◌+◌, length, eqb}
use Rattle.std.proofs.Common.{ap, arith}
use Rattle.meaning.specs.Numbers.Tag
use Rattle.meaning.specs.Numbers.Form
use Rattle.meaning.specs.Tree.{Head, hd, Forest, none, more, one, single, ◌&◌}
use Rattle.meaning.specs.Shapes.{block}
use Rattle.meaning.specs.Scoping.{Store, insert_scope_below, set_flags_of}
use Rattle.meaning.specs.Program.{
  transform_class_decl,
  Split,
  bound_names,
  specifiers,
  top_level_class,
  top_level_declaration,
  exported_declaration,
  exported_class,
  default_class,
  as_expression,
  default_value,
  ItemAct,
  stay,
  move,
  lower_class,
  lower_declaration,
  export_declaration,
  export_class,
  export_default_class,
  export_default_value,
  item_act,
  item_as,
  program_item,
  program_items,
  enter_program,
}
use Rattle.meaning.specs.Charges.{Line, top_level_class as top_class_line, exported_class as class_line, default_export, exported_names, helper, line_charge, total, act_lines, item_lines}
use Rattle.meaning.specs.Due.{any_context, missing}
use Rattle.spec_laws.specs.Figures.{total_++}
use Rattle.spec_laws.specs.Trees.{expression_tag}
use Rattle.charge_laws.proofs.Growth.Items.{Exports, Alone, alone, ChosenItem, as_kept, as_moved, as_class, as_declaration, as_exported_declaration, as_exported_class, as_default_class, as_default_value, only_item}
use Rattle.charge_laws.proofs.Growth.Charged.{helper_line}
use Rattle.readback_laws.specs.Loads.Contexts.{load_of, loads, contexts_of}
use Rattle.readback_laws.proofs.Loads.Contexts.{loads_&}

-- what stays and what moves
abbrev KeepsItem : Forest → Split × Store → Type 0
KeepsItem f e = loads e.0.kept + loads e.0.moved ≡ loads f

class_loads : (h : Head) (k : Forest) (st : Store) → h.tag ≡ Tag.Class → loads (transform_class_decl h k st).0 ≡ loads (one h k)
unfolding transform_class_decl loads load_of
class_loads h k st e = omega (arith, ap load_of e)

specifiers_loads : (st : Store) (ys : List ℕ) → loads (specifiers st ys) ≡ 0
unfolding specifiers loads load_of
specifiers_loads st [] = refl
specifiers_loads st (y ∷ ys) = omega (arith, specifiers_loads st ys)

expression_loads : (h : Head) → load_of (as_expression h).tag ≡ load_of h.tag
unfolding as_expression
expression_loads h = ap load_of (expression_tag (eqb h.tag Tag.Class) h refl)

item_keeps : {x : ItemAct} {h : Head} {k : Forest} (st : Store) → ChosenItem Alone x h k → KeepsItem (one h k) (item_as x h k st)
unfolding item_as top_level_class top_level_declaration exported_declaration exported_class default_class default_value loads load_of
item_keeps st (as_kept s) = omega arith
item_keeps st (as_moved e₁₃ e₁₇ e₁₈ e₁₉ e₁₅ e₅) = omega arith
item_keeps {h = h} {k = k} st as_class = omega (arith, class_loads h k st refl)
item_keeps st as_declaration = omega arith
item_keeps st (as_exported_declaration {k = k} alone) =
    omega (arith, specifiers_loads (set_flags_of (bound_names k) 1 st).1 (bound_names k))
item_keeps st (as_exported_class {x = x} {y = y} {z = z} {k = k} alone) = omega (arith, class_loads (hd Tag.Class x y z) k st refl)
item_keeps st (as_default_class {y = y} {z = z} {k = k} named alone) = omega (arith, class_loads (hd Tag.Class Form.Declaration y z) k st refl)
item_keeps st (as_default_value {h = h} e d alone) = omega (arith, expression_loads h)

items_keep : (f : Forest) (st : Store) → Exports f → KeepsItem f (program_items f st)
unfolding program_items program_item loads
items_keep none st x = refl
items_keep (more h k r) st x =
    let item = program_item h k st in
    let rest = program_items r item.1 in
    omega (
      arith,
      item_keeps st (only_item h k x.0),
      items_keep r item.1 x.1,
      loads_& item.0.kept rest.0.kept,
      loads_& item.0.moved rest.0.moved,
    )

pub program_keeps : (h : Head) (k : Forest) (st : Store) → Exports k → loads (single (enter_program h k st).0) ≡ loads (one h k)
unfolding enter_program loads load_of
program_keeps h k st x =
    let parts = program_items k st in
    let s = insert_scope_below h.a parts.0.moved parts.1 in
    omega (arith, items_keep k st x, loads_& parts.0.kept (block s.0 parts.0.moved))

-- ---- the lines

-- no line charges a context
pub record Free (ls : List Line) : Type 0 where
  pub free : contexts_of ls ≡ 0

free_none : Free []
unfolding total
free_none = record { free = refl }

free_line : (l : Line) → (line_charge l).contexts ≡ 0 → Free (l ∷ [])
unfolding total
free_line l e = record { free = omega arith }

free_if : (b : Bool) {xs zs : List Line} → Free xs → Free zs → Free (if b then xs else zs)
free_if true p q = p
free_if false p q = q

free_++ : {xs zs : List Line} → Free xs → Free zs → Free (xs ++ zs)
free_++ {xs} {zs} p q = record { free = omega (arith, total_++ xs zs, p.free, q.free) }

act_free : (x : ItemAct) → Free (act_lines x)
unfolding act_lines line_charge
act_free stay = free_none
act_free move = free_none
act_free lower_class = free_line top_class_line refl
act_free lower_declaration = free_none
act_free (export_declaration k) = free_line (exported_names (length (bound_names k))) refl
act_free (export_class h k) = free_line class_line refl
act_free (export_default_class h k) = free_line default_export refl
act_free (export_default_value h k) = free_line default_export refl

pub items_free : (f : Forest) → Free (item_lines f)
unfolding item_lines
items_free none = free_none
items_free (more h k r) = free_++ (act_free (item_act h k)) (items_free r)

pub helper_free : (st : Store) (ls : List Line) → Free (helper_line st ls)
unfolding helper_line line_charge
helper_free st ls = free_if (missing st && any_context ls) (free_line helper refl) free_none
