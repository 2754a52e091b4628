-- One item of a Program: its rows and the symbols come to what 01 makes of them.
-- Assumes nothing.
use Rattle.std.specs.Prelude.{◌≡◌, List, ◌∷◌, ◌++◌, ℕ, ◌+◌, ◌≤◌, length}
use Rattle.std.proofs.Common.{sym, ap, append-nil, zero-add, arith}
use Rattle.std.proofs.Math.Nat.{add-zero}
use Rattle.meaning.specs.Tree.{Head, Forest, none, one, count, size}
use Rattle.meaning.specs.Scoping.{Store}
use Rattle.meaning.specs.Program.{
  transform_class_decl,
  split,
  bound_names,
  top_level_class,
  top_level_declaration,
  exported_declaration,
  exported_class,
  default_class,
  default_value,
  ItemAct,
  item_act,
  item_as,
  program_item,
}
use Rattle.meaning.specs.Charges.{line_charge, total, act_lines, item_lines}
use Rattle.charge_laws.proofs.Growth.Items.{Export, Alone, alone, ChosenItem, as_kept, as_moved, as_class, as_declaration, as_exported_declaration, as_exported_class, as_default_class, as_default_value, only_item}
use Rattle.tables.specs.Stream.{Buf}
use Rattle.tables.specs.declared.Row.{Row}
use Rattle.representation.specs.Gap.Cells.{line, rows_of, gapped}
use Rattle.representation.proofs.Gap.Streams.{copy_all}
use Rattle.representation.proofs.Store.Agreed.{Agreed, flags_agreed}
use Rattle.scoping_laws.specs.Created.Held.{free_symbols}
use Rattle.rewrite_items.specs.Items.{copied_f}
use Rattle.rewrite_items.specs.declared.Item.TheVariants.{
  Kept,
  Moved,
  Declared,
  Class,
  DefaultClass,
  DefaultValue,
  ExportedClass,
  ExportedDeclaration,
}
use Rattle.scoping_laws.specs.Itemized.Held.{held, Lowers, one_rows, IsKind, lowers}
use Rattle.scoping_laws.specs.Itemized.Kinds.{kind_of, is_kind}
use Rattle.scoping_laws.specs.Itemized.Classes.{
  class_law,
  exported_class_law,
  default_class_law,
  default_value_law,
  class_agreed,
  class_symbols,
  value_agreed,
  value_symbols,
}
use Rattle.scoping_laws.proofs.Itemized.Declarations.{declared_law, exported_declaration_law, flags_symbols}

-- the rows and the symbols that items add, by their lines
abbrev pub items_rows : Forest → ℕ
items_rows f = (total (item_lines f)).records

abbrev pub items_symbols : Forest → ℕ
items_symbols f = (total (item_lines f)).symbols

abbrev pub item_rows : Head → Forest → ℕ
item_rows h k = (total (act_lines (item_act h k))).records

abbrev pub item_symbols : Head → Forest → ℕ
item_symbols h k = (total (act_lines (item_act h k))).symbols

-- ---- items that do not change

copied_law : (z : List ℕ) (h : Head) (k : Forest) (st : Store) (zy : List ℕ) (a : List Row) (g : ℕ) (v : List Row)
    → length a + (0 + g) + size (one h k) ≤ 65535
    → copied_f (held (gapped z a (0 + g) (line h (count k) ∷ (rows_of k ++ v))) st (free_symbols 0 zy))
    ≡ held (gapped z (a ++ rows_of (one h k)) g v) st zy
unfolding copied_f free_symbols count
copied_law z h k st zy a g v q =
    rw (zero-add g, ← one_rows h k v) (ap (λ (b : Buf). held b st zy) (copy_all z (one h k) a g v (rw zero-add at q)))

kept : (h : Head) (k : Forest) (st : Store) → Agreed st → IsKind h k Kept → Lowers 0 0 h k st (split (one h k) none, st)
unfolding rows_of
kept h k st ag is =
    lowers 0 0 h k st (split (one h k) none, st) Kept is
    (λ z a g v zy r q. rw append-nil (copied_law z h k st zy a g v q))
    ag (sym (add-zero (length st.symbols)))

moved : (h : Head) (k : Forest) (st : Store) → Agreed st → IsKind h k Moved → Lowers 0 0 h k st (split none (one h k), st)
unfolding rows_of
moved h k st ag is =
    lowers 0 0 h k st (split none (one h k), st) Moved is (λ z a g v zy r q. copied_law z h k st zy a g v q) ag
    (sym (add-zero (length st.symbols)))

-- ---- Classes and Declarations

module _ (h : Head) (k : Forest) (st : Store) (ag : Agreed st) where
  top_class : IsKind h k Class → (let class = transform_class_decl h k st in Lowers 3 1 h k st (split none class.0, class.1))
  unfolding rows_of size
  top_class is =
      lowers 3 1 h k st _ Class is
      (λ z m g v zy r q. class_law z h k st zy m g v ag (omega (arith, class_symbols h k st)) (omega arith))
      (class_agreed h k st ag)
      (class_symbols h k st)

  top_declaration : IsKind h k Declared → Lowers 0 0 h k st (top_level_declaration h k st)
  unfolding top_level_declaration free_symbols size
  top_declaration is =
      lowers 0 0 h k st _ Declared is
      (λ z m g v zy r q. rw (zero-add g) (declared_law z h k st zy m g v (omega arith)))
      (flags_agreed st ag (bound_names k) 1)
      (flags_symbols (bound_names k) st)

-- ---- below 18 and 19

module _ (h h₁ : Head) (k₁ : Forest) (st : Store) (ag : Agreed st) where
  exported_class_lem : IsKind h (one h₁ k₁) ExportedClass → Lowers 4 1 h (one h₁ k₁) st (exported_class h₁ k₁ st)
  unfolding exported_class size
  exported_class_lem is =
      lowers 4 1 h (one h₁ k₁) st _ ExportedClass is
      (λ z a g v zy r q.
      rw (one_rows h₁ k₁ v) (exported_class_law z _ h₁ k₁ st zy a g v ag (omega (arith, class_symbols h₁ k₁ st)) (omega arith)))
      (class_agreed h₁ k₁ st ag)
      (class_symbols h₁ k₁ st)

  default_class_lem : IsKind h (one h₁ k₁) DefaultClass → Lowers 4 1 h (one h₁ k₁) st (default_class h₁ k₁ st)
  unfolding default_class size
  default_class_lem is =
      lowers 4 1 h (one h₁ k₁) st _ DefaultClass is
      (λ z a g v zy r q.
      rw (one_rows h₁ k₁ v) (default_class_law z _ h₁ k₁ st zy a g v ag (omega (arith, class_symbols h₁ k₁ st)) (omega arith)))
      (class_agreed h₁ k₁ st ag)
      (class_symbols h₁ k₁ st)

  default_value_lem : IsKind h (one h₁ k₁) DefaultValue → Lowers 4 1 h (one h₁ k₁) st (default_value h₁ k₁ st)
  unfolding size
  default_value_lem is =
      lowers 4 1 h (one h₁ k₁) st _ DefaultValue is
      (λ z a g v zy r q.
      rw (one_rows h₁ k₁ v) (default_value_law z _ h₁ k₁ st zy a g v ag (omega (arith, value_symbols h₁ k₁ st)) (omega arith)))
      (value_agreed h₁ k₁ st ag)
      (value_symbols h₁ k₁ st)

  exported_declaration_lem : IsKind h (one h₁ k₁) ExportedDeclaration
      → Lowers (length (bound_names k₁) + 0) 0 h (one h₁ k₁) st (exported_declaration k₁ st)
  unfolding exported_declaration free_symbols size
  exported_declaration_lem is =
      lowers (length (bound_names k₁) + 0) 0 h (one h₁ k₁) st _ ExportedDeclaration is
      (λ z a g v zy r q.
      rw (one_rows h₁ k₁ v, add-zero (length (bound_names k₁))) (exported_declaration_law z _ h₁ k₁ st zy a g v (omega arith)))
      (flags_agreed st ag (bound_names k₁) 1)
      (flags_symbols (bound_names k₁) st)

-- ---- any item

item : {x : ItemAct} {h : Head} {k : Forest} (st : Store) → Agreed st → ChosenItem Alone x h k → IsKind h k (kind_of x)
    → Lowers (total (act_lines x)).records (total (act_lines x)).symbols h k st (item_as x h k st)
unfolding act_lines item_as top_level_class kind_of total line_charge
item {h = h} {k = k} st ag (as_kept s) is = kept h k st ag is
item {h = h} {k = k} st ag (as_moved e₁₃ e₁₇ e₁₈ e₁₉ e₁₅ e₅) is = moved h k st ag is
item {h = h} {k = k} st ag as_class is = top_class h k st ag is
item {h = h} {k = k} st ag as_declaration is = top_declaration h k st ag is
item {h = h} st ag (as_exported_declaration {k = k} alone) is = exported_declaration_lem h _ k st ag is
item {h = h} st ag (as_exported_class {k = k} alone) is = exported_class_lem h _ k st ag is
item {h = h} st ag (as_default_class {k = k} named alone) is = default_class_lem h _ k st ag is
item {h = h} st ag (as_default_value {k = k} e d alone) is = default_value_lem h _ k st ag is

-- WHAT AN ITEM COMES TO
pub item_law : (h : Head) (k : Forest) (st : Store) → Agreed st → Export h k
    → Lowers (item_rows h k) (item_symbols h k) h k st (program_item h k st)
unfolding program_item
item_law h k st ag x = let c = only_item h k x in item st ag c (is_kind c)
