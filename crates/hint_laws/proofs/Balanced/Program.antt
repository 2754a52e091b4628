-- A Program with a using: what stays of its items, and its Block, count what it counted.
-- Assumes nothing.
use Rattle.std.specs.Prelude.{◌≡◌, true, List, [], ◌∷◌, ℕ, ◌+◌}
use Rattle.std.proofs.Math.Path.{refl}
use native.Mathlib.Omega.{arith}
use Rattle.meaning.specs.Numbers.Tag
use Rattle.meaning.specs.Numbers.Kind
use Rattle.meaning.specs.Numbers.Form
use Rattle.meaning.specs.Tree.{one_of, Head, hd, Forest, none, more, one, ◌&◌}
use Rattle.meaning.specs.Scoping.{Store, symbol_in, create_symbol, set_flags_of, insert_scope_below}
use Rattle.meaning.specs.Shapes.{specifier}
use Rattle.meaning.specs.Statements.{is_using}
use Rattle.meaning.specs.Program.{
  Split,
  bound_names,
  specifiers,
  top_level_class,
  top_level_declaration,
  exported_declaration,
  exported_class,
  default_class,
  default_value,
  ItemAct,
  item_as,
  program_item,
  program_items,
  enter_program,
}
use Rattle.charge_laws.proofs.Growth.Items.{Exports, Alone, alone, ChosenItem, as_kept, as_moved, as_class, as_declaration, as_exported_declaration, as_exported_class, as_default_class, as_default_value, only_item}
use Rattle.charge_laws.proofs.Counts.Program.{Kinds}
use Rattle.hint_laws.specs.Hints.{letter_for, asks_for, calls_in}
use Rattle.hint_laws.proofs.Requested.Asked.{OldCalls}
use Rattle.hint_laws.specs.Balanced.Balance.{letter_in, waits, gives, balance_of}
use Rattle.hint_laws.proofs.Balanced.Sums.{own_letter, worth, balance_more, balance_none, balance_&, usings_&, done_&}
use Rattle.hint_laws.proofs.Balanced.Tries.{listed}
use Rattle.hint_laws.proofs.Balanced.Contexts.{Keeps, list_counts}
use Rattle.hint_laws.proofs.Balanced.Items.{
  itemed,
  Item,
  nothing,
  stays,
  plain_item,
  moves,
  var_counts,
  declaration_counts,
  class_counts,
  none_idle,
  specifier_idle,
  specifiers_idle,
  named,
  export_counts,
  value_counts,
}

module _ (w : List ℕ → List ℕ → ℕ → ℕ) (read : ℕ) where
  itemed_& : (f g : Forest) → itemed w read (f & g) ≡ itemed w read f + itemed w read g
  itemed_& f g = omega (arith, balance_& w read f g, usings_& w read letter_for f g, done_& w read f g)

  listed_& : (f g : Forest) → listed w read (f & g) ≡ listed w read f + listed w read g
  listed_& f g = omega (arith, balance_& w read f g, usings_& w read own_letter f g, done_& w read f g)

  -- ---- an item

  program_item_lem : {x : ItemAct} {h : Head} {k : Forest} (st : Store) → OldCalls read k
      → (is_using h ≡ true → one_of (Kind.Using ∷ Kind.AwaitUsing ∷ []) h.a ≡ true)
      → ChosenItem Alone x h k → Item w read h k (item_as x h k st).0
  unfolding item_as top_level_class top_level_declaration exported_declaration exported_class default_class default_value calls_in
  program_item_lem {h = h} {k = k} st o u (as_kept s) = stays w read h k
  program_item_lem {h = h} {k = k} st o u (as_moved e₁₃ e₁₇ e₁₈ e₁₉ e₁₅ e₅) = moves w read h k e₅
  program_item_lem {h = h} {k = k} st o u as_class =
      omega (arith, nothing w read, class_counts w read h k st refl, plain_item w read h k refl)
  program_item_lem {h = h} {k = k} st o u as_declaration =
      omega (arith, nothing w read, declaration_counts w read (is_using h) h.a h.b h.c k refl u)
  program_item_lem {h = h} {k = k} st o u (as_exported_declaration {x = x} {y = y} {z = z} {k = k₁} alone) =
      let st' = (set_flags_of (bound_names k₁) 1 st).1 in
      omega (
        arith,
        named w read (specifiers st' (bound_names k₁)) (specifiers_idle w read st' (bound_names k₁)),
        var_counts w read x y z k₁,
        export_counts w read h k refl refl refl,
      )
  program_item_lem {h = h} {k = k} st o u (as_exported_class {x = x} {y = y} {z = z} {k = k₁} alone) =
      omega (
        arith,
        named w read (specifier z (symbol_in st z).name none) (specifier_idle w read z (symbol_in st z).name none (none_idle w read)),
        class_counts w read (hd Tag.Class x y z) k₁ st refl,
        export_counts w read h k refl refl refl,
      )
  program_item_lem {h = h} {k = k} st o u (as_default_class {y = y} {z = z} {k = k₁} e alone) =
      omega (
        arith,
        named w read (specifier z 3 none) (specifier_idle w read z 3 none (none_idle w read)),
        class_counts w read (hd Tag.Class Form.Declaration y z) k₁ st refl,
        export_counts w read h k refl refl refl,
      )
  program_item_lem {h = h} {k = k} st o u (as_default_value {h = h₁} {k = k₁} e d alone) =
      let y = (create_symbol 4 1 1 0 st).0 in
      omega (
        arith,
        named w read (specifier y 3 none) (specifier_idle w read y 3 none (none_idle w read)),
        value_counts w read h₁ k₁ st o.0,
        export_counts w read h k refl refl refl,
      )

  -- ---- all items, and the Program

  -- an item and the rest of them
  joined : (h : Head) (k r : Forest) (s t : Split) → Item w read h k s → itemed w read t.kept + listed w read t.moved ≡ itemed w read r
      → itemed w read (s.kept & t.kept) + listed w read (s.moved & t.moved) ≡ itemed w read (more h k r)
  unfolding ◌&◌
  joined h k r s t i j =
      let all : itemed w read (more h k r) ≡ itemed w read (one h k) + itemed w read r = itemed_& (one h k) r in
      omega (arith, itemed_& s.kept t.kept, listed_& s.moved t.moved)

  items : (f : Forest) (st : Store) → OldCalls read f → Exports f → Kinds f
      → let s = (program_items f st).0 in
      itemed w read s.kept + listed w read s.moved ≡ itemed w read f
  unfolding program_items program_item
  items none st o x u = omega (arith, nothing w read)
  items (more h k r) st o x u =
      let item = program_item h k st in
      joined h k r item.0 (program_items r item.1).0
      (program_item_lem st o.1 u.0 (only_item h k x.0))
      (items r item.1 o.2 x.1 u.1)

  program_counts : (a b c : ℕ) (k : Forest) → balance_of w read (one (hd Tag.Program a b c) k) ≡ itemed w read k
  unfolding worth waits gives asks_for letter_in
  program_counts a b c k = omega (arith, balance_more w read (hd Tag.Program a b c) k none, balance_none w read)

  pub program_keeps : (a b c : ℕ) (k : Forest) (st : Store) → OldCalls read k → Exports k → Kinds k
      → Keeps w read (hd Tag.Program a b c) k (enter_program (hd Tag.Program a b c) k st)
  unfolding enter_program
  program_keeps a b c k st o x u =
      let s = program_items k st in
      let block = one (hd Tag.Block (insert_scope_below a s.0.moved s.1).0 0 0) s.0.moved in
      omega (
        arith,
        items k st o x u,
        program_counts a b c k,
        program_counts a b c (s.0.kept & block),
        itemed_& s.0.kept block,
        plain_item w read (hd Tag.Block (insert_scope_below a s.0.moved s.1).0 0 0) s.0.moved refl,
        list_counts w read (insert_scope_below a s.0.moved s.1).0 0 0 s.0.moved,
      )
