-- Declarations that become var, exported or not: their rows, and the symbols of the store.
-- Assumes nothing.
use Rattle.std.specs.Prelude.{if◌then◌else◌, ◌≡◌, refl, List, [], ◌∷◌, ◌++◌, ℕ, suc, ◌+◌, ◌≤◌}
use Rattle.std.proofs.Common.{sym, ap, ◌∙◌, append_assoc, append-nil, add-zero, arith}
use Rattle.std.proofs.Math.ListN.{length, length-append}
use Rattle.meaning.specs.Numbers.Tag
use Rattle.meaning.specs.Numbers.Kind
use Rattle.meaning.specs.Tree.{Head, hd, Forest, count, size}
use Rattle.meaning.specs.Scoping.{Store, set_symbol_flags, set_flags_of}
use Rattle.meaning.specs.Shapes.{export_named}
use Rattle.meaning.specs.Statements.{is_using}
use Rattle.meaning.specs.Program.{bound_names, specifiers, top_level_declaration, exported_declaration}
use Rattle.charge_laws.proofs.Growth.Rows.{flags_of}
use Rattle.tables.specs.Table.{capped, closed_row_f}
use Rattle.tables.specs.Stream.{Buf}
use Rattle.tables.specs.declared.Row.{Row}
use Rattle.representation.specs.Gap.Cells.{free, line, rows_of, gapped}
use Rattle.representation.proofs.Gap.Rows.{next_gapped, emit_gapped, length_snoc}
use Rattle.scoping.specs.declared.Ctx.{Ctx}
use Rattle.representation.specs.Store.Held.{symbol_cells, ctx_of, symbols_held}
use Rattle.representation.proofs.Store.Symbols.{symbol_flags_ctx}
use Rattle.rewrite_items.specs.Names.{count_names_f, flag_names_f}
use Rattle.rewrite_items.specs.Items.{declared_f, exported_declaration_f}
use Rattle.scoping_laws.specs.Itemized.Rows.{table_behind, length_behind, next_behind, next_n, drop_gapped, pass_record}
use Rattle.scoping_laws.specs.Itemized.Held.{held, Becomes}
use Rattle.scoping_laws.specs.Itemized.Names.{count_names_law, flag_names_law, specifiers_law}
use Rattle.scoping_laws.specs.Itemized.Declarations.{recorded_row}

-- ---- the store: no symbol is new

flags_ctx : (ys : List ℕ) (st : Store) → ctx_of (set_flags_of ys 1 st).1 ≡ ctx_of st
unfolding set_flags_of
flags_ctx [] st = refl
flags_ctx (y ∷ ys) st = flags_ctx ys (set_symbol_flags y 1 st).1 ∙ symbol_flags_ctx st y 1

pub flags_symbols : (ys : List ℕ) (st : Store) → length (set_flags_of ys 1 st).1.symbols ≡ length st.symbols + 0
flags_symbols ys st = ap (λ (x : Ctx). x.symbols) (flags_ctx ys st) ∙ sym (add-zero (length st.symbols))

count_specifiers : (st : Store) (ys : List ℕ) → count (specifiers st ys) ≡ length ys
unfolding specifiers count
count_specifiers st [] = refl
count_specifiers st (y ∷ ys) = ap suc (count_specifiers st ys)

length_specifiers : (st : Store) (ys : List ℕ) → length (rows_of (specifiers st ys)) ≡ length ys
unfolding specifiers rows_of
length_specifiers st [] = refl
length_specifiers st (y ∷ ys) = ap suc (length_specifiers st ys)

exported_rows : (st : Store) (ys : List ℕ)
    → rows_of (export_named (specifiers st ys)) ≡ closed_row_f 17 2 0 0 (length ys) ∷ rows_of (specifiers st ys)
unfolding rows_of
exported_rows st ys = rw (count_specifiers st ys, append-nil)

-- ---- on their way

module _ (z : List ℕ) where
  -- the names of the Declarators after the next row
  module _ (o : Row) (k : Forest) (a : List Row) (g : ℕ) (v : List Row) (q : length a + g + suc (size k) ≤ 65535) where
    abbrev rows : Buf
    rows = gapped z a g (o ∷ (rows_of k ++ v))

    abbrev before : List Row
    before = a ++ (free g ++ o ∷ [])

    names_counted : count_names_f rows.t (capped rows.read 1) (count k) ≡ length (bound_names k)
    names_counted =
        rw (next_behind z a g o (o ∷ (rows_of k ++ v)) (omega arith))
        (count_names_law z k before v rows.t (table_behind z a g o (rows_of k ++ v)) (omega (arith, length_behind a g o)))

    names_flagged : (st : Store) (zy : List ℕ)
        → (let st' = (set_flags_of (bound_names k) 1 st).1 in
        flag_names_f rows.t (symbols_held st zy) (capped rows.read 1) (count k) ≡ symbol_cells st'.symbols st'.as_read zy)
    names_flagged st zy =
        rw (next_behind z a g o (o ∷ (rows_of k ++ v)) (omega arith), (flags_of (bound_names k) 1 st).as_read)
        (flag_names_law z k before v rows.t (table_behind z a g o (rows_of k ++ v)) (omega (arith, length_behind a g o)) st zy)

  -- a direct Declaration
  pub declared_law : (h : Head) (k : Forest) (st : Store) (zy : List ℕ) (a : List Row) (g : ℕ) (v : List Row)
      → length a + g + suc (size k) ≤ 65535
      → Becomes z a g v zy (top_level_declaration h k st) (declared_f (held (gapped z a g (line h (count k) ∷ (rows_of k ++ v))) st zy))
  unfolding declared_f top_level_declaration rows_of
  declared_law h k st zy a g v q =
      let x = line h (count k) in
      let h' = hd Tag.Declaration Kind.Var (if is_using h then h.a else 0) 0 in
      rw (
        next_gapped z a g x (rows_of k ++ v),
        names_flagged x k a g v q st zy,
        recorded_row h (count k),
        pass_record z h' k x a g v q,
        flags_ctx (bound_names k) st,
      )

  -- an exported one
  pub exported_declaration_law : (o : Row) (h : Head) (k : Forest) (st : Store) (zy : List ℕ) (a : List Row) (g : ℕ) (v : List Row)
      → length a + (length (bound_names k) + g) + suc (suc (size k)) ≤ 65535
      → Becomes z a g v zy (exported_declaration k st)
      (exported_declaration_f (held (gapped z a (length (bound_names k) + g) (o ∷ line h (count k) ∷ (rows_of k ++ v))) st zy))
  unfolding exported_declaration_f exported_declaration
  exported_declaration_law o h k st zy a g v q =
      let n = length (bound_names k) in
      let x = line h (count k) in
      let w = rows_of k ++ v in
      let st' = (set_flags_of (bound_names k) 1 st).1 in
      let e = closed_row_f 17 2 0 0 n in
      let m = rows_of (specifiers st' (bound_names k)) in
      rw (
        drop_gapped z a (n + g) o (x ∷ w) (omega arith),
        next_n z a (suc (n + g)) x w,
        names_flagged x k a (suc (n + g)) v (omega arith) st zy,
        names_counted x k a (suc (n + g)) v (omega arith),
        emit_gapped z a (n + g) (x ∷ w) e (omega arith),
        ← flags_ctx (bound_names k) st,
        specifiers_law z k h (count k) st' zy (a ++ e ∷ []) g v (omega (arith, length_snoc a e)),
        pass_record z (hd Tag.Declaration Kind.Var 0 0) k x ((a ++ e ∷ []) ++ m) g v
            (omega (arith, length-append (a ++ e ∷ []) m, length_snoc a e, length_specifiers st' (bound_names k))),
        exported_rows st' (bound_names k),
      )
      (simp append_assoc)
