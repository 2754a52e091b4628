-- Classes and values: their rows, and the symbols of the store.
-- Assumes nothing.
use Rattle.std.specs.Prelude.{if◌then◌else◌, ◌≡◌, Bool, ℕ, suc, ◌+◌, ◌≤◌, eqb}
use Rattle.std.proofs.Math.Path.{refl, sym}
use Rattle.std.proofs.Common.{ap, ◌∙◌}
use Rattle.std.proofs.Math.Bool.{true, false}
use mathlib.Core.List.{List, ◌∷◌, ◌++◌, append_assoc}
use native.Mathlib.Omega.{arith}
use Rattle.std.proofs.Math.ListN.{length}
use Rattle.meaning.specs.Numbers.Tag
use Rattle.meaning.specs.Numbers.Kind
use Rattle.meaning.specs.Numbers.Form
use Rattle.meaning.specs.Tree.{Head, hd, Forest, none, one, count, size}
use Rattle.meaning.specs.Scoping.{Store, symbol_in, create_symbol, set_symbol_flags}
use Rattle.meaning.specs.Shapes.{declaration, export_named, specifier}
use Rattle.meaning.specs.Program.{
  preserve_class_expression_name,
  transform_class_decl,
  exported_class,
  default_class,
  as_expression,
  default_value,
}
use Rattle.tables.specs.Table.{closed_row_f}
use Rattle.tables.specs.declared.Row.{Row}
use Rattle.representation.specs.Gap.Cells.{line, rows_of, gapped}
use Rattle.representation.proofs.Gap.Rows.{next_gapped}
use Rattle.scoping.specs.Changes.{in_symbols}
use Rattle.scoping.specs.declared.Ctx.{Ctx}
use Rattle.representation.specs.Store.Held.{symbol_cells, symbols_held}
use Rattle.representation.proofs.Store.Symbols.{name_is, made_is, symbol_flags_set, symbol_flags_ctx, symbol_number_lem, symbol_made}
use Rattle.representation.proofs.Store.Agreed.{Agreed, agrees_length, symbol_agreed, symbol_flags_agreed}
use Rattle.scoping_laws.specs.Created.Held.{free_symbols}
use Rattle.rewrite_items.specs.Items.{
  drop_f,
  export_rows_f,
  preserve_name_f,
  PassingF,
  class_f,
  exported_class_f,
  default_class_f,
  as_expression_f,
  default_value_f,
}
use Rattle.scoping_laws.specs.Itemized.Rows.{next_c, drop_gapped, export_length, export_rows_law, value_law}
use Rattle.scoping_laws.specs.Itemized.Held.{held, Becomes}

-- `preserve_class_expression_name`
module _ (h : Head) (st : Store) where
  preserve_held : (n : ℕ) (zy : List ℕ) → Agreed st → suc (length st.symbols) ≤ 65535
      → preserve_name_f (symbols_held st (free_symbols 1 zy)) (line h n) ≡ symbols_held (preserve_class_expression_name h st).1 zy
  unfolding preserve_name_f preserve_class_expression_name free_symbols set_symbol_flags
  preserve_held n zy a room =
      let y = symbol_in st h.c in
      let ys = st.symbols in
      let st₁ = (create_symbol y.name 8 h.b y.made st).1 in
      rw (
        name_is ys st.as_read (0 ∷ 0 ∷ 0 ∷ 0 ∷ 0 ∷ zy) h.c,
        made_is ys st.as_read (0 ∷ 0 ∷ 0 ∷ 0 ∷ 0 ∷ zy) h.c,
        symbol_made st y.name 8 h.b y.made 0 0 0 0 zy room (agrees_length st.as_read ys a),
        symbol_flags_set st₁ h.c zy 1,
      )
      (ap (in_symbols (symbol_cells (set_symbol_flags h.c 1 st₁).1.symbols st₁.as_read zy)) (sym (symbol_flags_ctx st₁ h.c 1)))

  preserve_number : (preserve_class_expression_name h st).0 ≡ length (preserve_class_expression_name h st).1.symbols
  unfolding preserve_class_expression_name
  preserve_number =
      let y = symbol_in st h.c in
      let st₁ = (create_symbol y.name 8 h.b y.made st).1 in
      symbol_number_lem st y.name 8 h.b y.made ∙ sym (ap (λ (x : Ctx). x.symbols) (symbol_flags_ctx st₁ h.c 1))

module _ (z : List ℕ) where
  -- `var C = class C {}`
  pub class_law : (h : Head) (k : Forest) (st : Store) (zy : List ℕ) (a : List Row) (g : ℕ) (v : List Row) → Agreed st
      → suc (length st.symbols) ≤ 65535 → length a + (3 + g) + suc (size k) ≤ 65535
      → class_f (held (gapped z a (3 + g) (line h (count k) ∷ (rows_of k ++ v))) st (free_symbols 1 zy))
      ≡ held (gapped z (a ++ rows_of (transform_class_decl h k st).0) g v) (transform_class_decl h k st).1 zy
  unfolding class_f transform_class_decl
  class_law h k st zy a g v ag room q =
      let x = line h (count k) in
      let st' = (preserve_class_expression_name h st).1 in
      let n = length st'.symbols in
      rw (
        next_gapped z a (3 + g) x (rows_of k ++ v),
        preserve_held h st (count k) zy ag room,
        preserve_number h st,
        value_law z h.c (hd Tag.Class Form.Expression h.b n) k x a g v q,
      )

  -- exported under a name, the export's own row being dropped
  module _ (o : Row) (h : Head) (k : Forest) (st : Store) (zy : List ℕ) (a : List Row) (g : ℕ) (v : List Row) (ag : Agreed st)
      (room : suc (length st.symbols) ≤ 65535) (q : length a + (4 + g) + suc (suc (size k)) ≤ 65535) where
    abbrev item : List Row
    item = line h (count k) ∷ (rows_of k ++ v)

    abbrev start : PassingF
    start = held (gapped z a (4 + g) (o ∷ item)) st (free_symbols 1 zy)

    dropped : drop_f (gapped z a (4 + g) (o ∷ item)) ≡ gapped z a (2 + (3 + g)) item
    dropped = drop_gapped z a (4 + g) o item (omega arith) ∙ ap (λ (n : ℕ). gapped z a n item) (omega arith)

    named_class : (name : ℕ)
        → (let class = transform_class_decl h k st in
        class_f (held (export_rows_f h.c name (gapped z a (2 + (3 + g)) item)) st (free_symbols 1 zy))
        ≡ held (gapped z (a ++ (rows_of (export_named (specifier h.c name none)) ++ rows_of class.0)) g v) class.1 zy)
    named_class name =
        let m = rows_of (export_named (specifier h.c name none)) in
        rw (export_rows_law z h.c name a (3 + g) item (omega arith))
        (class_law h k st zy (a ++ m) g v ag room (omega (arith, export_length h.c name a))
        ∙ rw (append_assoc a m (rows_of (transform_class_decl h k st).0)))

    pub exported_class_law : Becomes z a g v zy (exported_class h k st) (exported_class_f start)
    unfolding exported_class_f exported_class
    exported_class_law =
        rw (
          dropped,
          next_c z a (2 + (3 + g)) (line h (count k)) (rows_of k ++ v),
          name_is st.symbols st.as_read (free_symbols 1 zy) h.c,
        )
        (named_class (symbol_in st h.c).name)

    pub default_class_law : Becomes z a g v zy (default_class h k st) (default_class_f start)
    unfolding default_class_f default_class
    default_class_law = rw (dropped, next_c z a (2 + (3 + g)) (line h (count k)) (rows_of k ++ v)) (named_class 3)

    -- `export default e`
    expression_row : as_expression_f (line h (count k)) ≡ line (as_expression h) (count k)
    unfolding as_expression_f as_expression
    expression_row = by (eqb h.tag Tag.Class)
      where
        by : (c : Bool) → (if c then closed_row_f 15 1 h.b h.c (count k) else line h (count k))
            ≡ line (if c then hd Tag.Class Form.Expression h.b h.c else h) (count k)
        by true = refl
        by false = refl

    pub default_value_law : Becomes z a g v zy (default_value h k st) (default_value_f start)
    unfolding default_value_f default_value free_symbols
    default_value_law =
        let st' = (create_symbol 4 1 1 0 st).1 in
        let n = length st'.symbols in
        let m = rows_of (export_named (specifier n 3 none)) in
        rw (
          symbol_made st 4 1 1 0 0 0 0 0 zy room (agrees_length st.as_read st.symbols ag),
          dropped,
          next_gapped z a (2 + (3 + g)) (line h (count k)) (rows_of k ++ v),
          expression_row,
          export_rows_law z n 3 a (3 + g) item (omega arith),
          symbol_number_lem st 4 1 1 0,
          value_law z n (as_expression h) k (line h (count k)) (a ++ m) g v (omega (arith, export_length n 3 a)),
          append_assoc a m (rows_of (declaration Kind.Var n (one (as_expression h) k))),
        )

-- ---- the store

module _ (h : Head) (k : Forest) (st : Store) where
  pub class_agreed : Agreed st → Agreed (transform_class_decl h k st).1
  unfolding transform_class_decl preserve_class_expression_name
  class_agreed a =
      let y = symbol_in st h.c in
      let st₁ = (create_symbol y.name 8 h.b y.made st).1 in
      symbol_flags_agreed st₁ (symbol_agreed st a y.name 8 h.b y.made) h.c 1

  pub class_symbols : length (transform_class_decl h k st).1.symbols ≡ length st.symbols + 1
  unfolding transform_class_decl preserve_class_expression_name create_symbol
  class_symbols = sym (preserve_number h st) ∙ omega arith

  pub value_agreed : Agreed st → Agreed (default_value h k st).1
  unfolding default_value
  value_agreed a = symbol_agreed st a 4 1 1 0

  pub value_symbols : length (default_value h k st).1.symbols ≡ length st.symbols + 1
  unfolding default_value create_symbol
  value_symbols = sym (symbol_number_lem st 4 1 1 0) ∙ omega arith
