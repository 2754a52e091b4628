-- A Program with a using: its items, and its Block.
-- Assumes nothing.
use Rattle.std.specs.Prelude.{◌≡◌, refl, false, List, [], ◌∷◌, ℕ, ◌+◌, ◌*◌, length, eqb}
use Rattle.std.proofs.Common.{ap, arith}
use Rattle.meaning.specs.Numbers.Tag
use Rattle.meaning.specs.Numbers.Kind
use Rattle.meaning.specs.Numbers.Form
use Rattle.meaning.specs.Tree.{Head, hd, Forest, none, more, one, size, ◌&◌}
use Rattle.meaning.specs.File.{field_bytes, numbers_of}
use Rattle.meaning.specs.Scoping.{Store, symbol_in, create_symbol, set_flags_of}
use Rattle.meaning.specs.Shapes.{block, declaration, export_named, specifier, class_expression}
use Rattle.meaning.specs.Program.{
  preserve_class_expression_name,
  transform_class_decl,
  Split,
  bound_names,
  specifiers,
  top_level_declaration,
  exported_declaration,
  default_class,
  as_expression,
  default_value,
  ItemAct,
  item_as,
  program_item,
  program_items,
  enter_program,
}
use Rattle.meaning.specs.Charges.{
  Line,
  program_block,
  top_level_class,
  exported_class,
  default_export,
  exported_names,
  line_charge,
  total,
  act_lines,
  item_lines,
  record_bytes,
}
use Rattle.meaning.specs.Due.{is_context, any_context}
use Rattle.charge_laws.proofs.Growth.Rows.{Grown, both, scope_below, symbol_made, symbol_flags, flags_of}
use Rattle.charge_laws.proofs.Growth.Trees.{More, block_bytes_lem, more_&}
use Rattle.charge_laws.proofs.Growth.Items.{Exports, Alone, alone, ChosenItem, as_kept, as_moved, as_class, as_declaration, as_exported_declaration, as_exported_class, as_default_class, as_default_value, only_item}
use Rattle.charge_laws.proofs.Growth.Charged.{Pays, PaysFor, pays, pays_nothing, pays_line, pays_below, pays_both}
use Rattle.spec_laws.specs.Trees.{expression_tag}

-- what stays and what moves pay for the lines together
abbrev pub PaysItem : List Line → Forest → Store → Split × Store → Type 0
PaysItem ls f st e = Pays ls f (e.0.kept & e.0.moved) st e.1

-- ---- what is made

declaration_more : (kind y : ℕ) (f : Forest) → More 3 21 f (declaration kind y f)
unfolding size record_bytes field_bytes numbers_of
declaration_more kind y f = omega arith

export_more : (y name : ℕ) (f : Forest) → More 2 16 f (export_named (specifier y name none) & f)
unfolding ◌&◌ size record_bytes field_bytes numbers_of
export_more y name f = omega arith

specifiers_sized : (st : Store) (ys : List ℕ)
    → (size (specifiers st ys) ≡ length ys) × (record_bytes (specifiers st ys) ≡ 7 * length ys)
unfolding specifiers size record_bytes field_bytes numbers_of
specifiers_sized st [] = omega arith
specifiers_sized st (y ∷ ys) = omega (arith, specifiers_sized st ys)

names_more : (st : Store) (ys : List ℕ) (f : Forest)
    → More (1 + length ys) (9 + 7 * length ys) f (export_named (specifiers st ys) & f)
unfolding ◌&◌ size record_bytes field_bytes numbers_of
names_more st ys f = omega (arith, specifiers_sized st ys)

-- ---- classes

name_grows : (h : Head) (st : Store) → Grown false 0 1 0 st (preserve_class_expression_name h st).1
unfolding preserve_class_expression_name
name_grows h st = both (symbol_made _ 8 h.b _ st) (symbol_flags h.c 1 _)

class_grows : (h : Head) (k : Forest) (st : Store) → Grown false 0 1 0 st (transform_class_decl h k st).1
unfolding transform_class_decl
class_grows h k st = name_grows h st

class_bytes_lem : (h : Head) → h.tag ≡ Tag.Class → field_bytes h.tag ≡ 11
unfolding field_bytes numbers_of
class_bytes_lem h e = ap field_bytes e

class_more : (h : Head) (k : Forest) (st : Store) → h.tag ≡ Tag.Class → More 3 21 (one h k) (transform_class_decl h k st).0
unfolding transform_class_decl size record_bytes
class_more h k st e =
    let y = (preserve_class_expression_name h st).0 in
    omega (
      arith,
      class_bytes_lem h e,
      class_bytes_lem (hd Tag.Class Form.Expression h.b y) refl,
      declaration_more 0 h.c (class_expression h.b y k),
    )

-- ---- an item

expression_bytes : (h : Head) → field_bytes (as_expression h).tag ≡ field_bytes h.tag
unfolding as_expression
expression_bytes h = ap field_bytes (expression_tag (eqb h.tag Tag.Class) h refl)

export_bytes_lem : (field_bytes 18 ≡ 5) × (field_bytes 19 ≡ 5)
unfolding field_bytes numbers_of
export_bytes_lem = (refl, refl)

pub item_pays : {x : ItemAct} {h : Head} {k : Forest} (st : Store) → ChosenItem Alone x h k
    → PaysItem (act_lines x) (one h k) st (item_as x h k st)
unfolding act_lines item_as Rattle.meaning.specs.Program.top_level_class top_level_declaration exported_declaration Rattle.meaning.specs.Program.exported_class default_class default_value total line_charge any_context is_context size record_bytes ◌&◌
item_pays {h = h} {k = k} st (as_kept s) = pays_nothing (one h k) st
item_pays {h = h} {k = k} st (as_moved e₁₃ e₁₇ e₁₈ e₁₉ e₁₅ e₅) = pays_nothing (one h k) st
item_pays {h = h} {k = k} st as_class = pays 3 21 (top_level_class ∷ []) refl (omega arith) (class_grows h k st) (class_more h k st refl)
item_pays {k = k} st as_declaration = pays 0 0 [] refl (omega arith) (flags_of (bound_names k) 1 st) (omega arith)
item_pays st (as_exported_declaration {k = k} alone) =
    let ys = bound_names k in
    let n = length ys in
    pays n (4 + 7 * n) (exported_names n ∷ []) refl (omega arith) (flags_of ys 1 st)
    (omega (arith, export_bytes_lem, names_more (set_flags_of ys 1 st).1 ys (one (hd Tag.Declaration Kind.Var 0 0) k)))
item_pays st (as_exported_class {x = x} {y = y} {z = z} {k = k} alone) =
    let h = hd Tag.Class x y z in
    pays 4 32 (exported_class ∷ []) refl (omega arith) (class_grows h k st)
    (omega (arith, export_bytes_lem, class_more h k st refl, export_more z (symbol_in st z).name (transform_class_decl h k st).0))
item_pays st (as_default_class {y = y} {z = z} {k = k} named alone) =
    let h = hd Tag.Class Form.Declaration y z in
    pays 4 32 (default_export ∷ []) refl (omega arith) (class_grows h k st)
    (omega (arith, export_bytes_lem, class_more h k st refl, export_more z 3 (transform_class_decl h k st).0))
item_pays st (as_default_value {h = h} {k = k} e d alone) =
    let y = (create_symbol 4 1 1 0 st).0 in
    let var = declaration Kind.Var y (one (as_expression h) k) in
    pays 4 32 (default_export ∷ []) refl (omega arith) (symbol_made 4 1 1 0 st)
    (omega (arith, export_bytes_lem, expression_bytes h, declaration_more 0 y (one (as_expression h) k), export_more y 3 var))

-- ---- all items

regrouped : {ls : List Line} {g : Forest} {st st' : Store} (a b c d : Forest)
    → Pays ls g ((a & b) & (c & d)) st st' → Pays ls g ((a & c) & (b & d)) st st'
regrouped a b c d p =
    let same : More 0 0 ((a & b) & (c & d)) ((a & c) & (b & d)) =
    omega (arith, more_& (a & c) (b & d), more_& a c, more_& b d, more_& (a & b) (c & d), more_& a b, more_& c d) in
    record { rows = p.rows; records = omega arith; bytes = omega arith }

pub items_pay : (f : Forest) (st : Store) → Exports f → PaysItem (item_lines f) f st (program_items f st)
unfolding item_lines program_items program_item ◌&◌
items_pay none st x = pays_nothing none st
items_pay (more h k r) st x =
    let item = program_item h k st in
    let rest = program_items r item.1 in
    regrouped item.0.kept item.0.moved rest.0.kept rest.0.moved
    (pays_both (item_pays st (only_item h k x.0)) (items_pay r item.1 x.1))

-- ---- the Block

wrapped_more : (s : ℕ) (f g : Forest) → More 1 7 (f & g) (f & block s g)
unfolding size record_bytes
wrapped_more s f g = omega (arith, more_& f g, more_& f (block s g), block_bytes_lem (hd Tag.Block s 0 0) refl)

pub program_pays : (h : Head) (k : Forest) (st : Store) → Exports k
    → PaysFor (program_block ∷ item_lines k) (one h k) st (enter_program h k st)
unfolding enter_program line_charge is_context
program_pays h k st x =
    let parts = program_items k st in
    pays_below h
    (pays_line 1 7 program_block refl (omega arith) (items_pay k st x)
    (scope_below h.a parts.0.moved parts.1)
    (wrapped_more _ parts.0.kept parts.0.moved))
