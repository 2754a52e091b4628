-- The names that a Declaration binds: counted, with new flags, and exported.
-- Assumes nothing.
use Rattle.std.specs.Prelude.{if◌then◌else◌, ◌≡◌, Bool, false, ℕ, suc, ◌+◌, ◌≤◌, ◌<◌, eqb, length}
use Rattle.std.proofs.Math.Path.{refl, ap}
use Rattle.std.proofs.Common.{sym, ap₂, ◌∙◌, add-zero, suc-add, arith, length-append}
use Rattle.std.proofs.Math.Bool.{true}
use mathlib.Core.List.{List, [], ◌∷◌, ◌++◌, append_assoc, append-nil}
use Rattle.std.proofs.Math.Nat.{zero-add}
use Rattle.meaning.specs.Numbers.Tag
use Rattle.meaning.specs.Tree.{Head, Forest, none, more, count, size}
use Rattle.meaning.specs.File.{Symbol}
use Rattle.meaning.specs.Scoping.{Store, symbol_in, set_symbol_flags, set_flags_of}
use Rattle.meaning.specs.Contexts.{names_in}
use Rattle.meaning.specs.Program.{bound_names, specifiers}
use Rattle.charge_laws.proofs.Growth.Rows.{flags_of}
use Rattle.tables.specs.Table.{cap_one, column_f, closed_row_f}
use Rattle.tables.specs.Stream.{Buf, emit_f}
use Rattle.tables.specs.declared.Row.{Row}
use Rattle.representation.specs.Gap.Cells.{table, free, line, rows_of, gapped}
use Rattle.representation.proofs.Gap.Rows.{length_snoc, emit_gapped}
use Rattle.scoping.specs.Rows.{symbol_number}
use Rattle.scoping.specs.Changes.{SymbolRows}
use Rattle.scoping.specs.declared.Ctx.{Ctx}
use Rattle.representation.specs.Store.Held.{symbol_cells, ctx_of, symbols_held}
use Rattle.representation.proofs.Store.Symbols.{name_is, symbol_flags_set, symbol_flags_ctx}
use Rattle.table_laws.specs.Lists.Plan.{cap_sum}
use Rattle.rewrite_items.specs.Names.{
  is_name_f,
  next_name_f,
  first_names,
  counted,
  count_name_f,
  all_counted,
  count_names_f,
  Flagging,
  flagging,
  flag_name_f,
  all_flagged,
  flag_names_f,
  SpecifyingF,
  specifying_f,
  specifier_f,
  all_specified,
  specify_all_f,
  specifiers_f,
}
use Rattle.rewrite_items.specs.declared.Names.{Names}
use Rattle.rewrite_items.specs.declared.Counted.{Counted}
use Rattle.scoping_laws.specs.Itemized.Rows.{table_behind, length_behind}
use Rattle.scoping_laws.specs.Itemized.Visits.{visited, Visiting, visits_all}

-- ---- how many there are

names_size : (f : Forest) → length (names_in f) ≤ size f
unfolding names_in size
names_size none = omega arith
names_size (more h k r) = omega (arith, by (eqb h.tag Tag.Name), names_size r)
  where
    by : (c : Bool) → length (if c then h.a ∷ names_in r else names_in r) ≤ suc (length (names_in r))
    by true = omega arith
    by false = omega arith

-- no more than records
bound_size : (f : Forest) → length (bound_names f) ≤ size f
unfolding bound_names size
bound_size none = omega arith
bound_size (more h k r) =
    let own : List ℕ = if eqb h.tag Tag.Declarator then names_in k else [] in
    omega (arith, by (eqb h.tag Tag.Declarator), names_size k, length-append own (bound_names r), bound_size r)
  where
    by : (c : Bool) → length (if c then names_in k else []) ≤ length (names_in k)
    by true = omega arith
    by false = omega arith

-- ---- counted

module _ (z : List ℕ) (a w : List Row) where
  abbrev t : List ℕ
  t = table (a ++ w) z

  count_pass : (n : ℕ) (s : Names) → n ≤ 65535 → is_name_f t s ≡ false → count_name_f t (counted s n) ≡ counted (next_name_f t s) n
  unfolding count_name_f
  count_pass n s i e = rw (e, cap_sum n 0 (omega arith), add-zero)

  count_visit : (n : ℕ) (s : Names) → n + 1 ≤ 65535 → is_name_f t s ≡ true → count_name_f t (counted s n) ≡ counted (next_name_f t s) (n + 1)
  unfolding count_name_f
  count_visit n s i e = rw (e, cap_sum n 1 i)

  abbrev counts : Visiting ℕ Counted (λ (n : ℕ) (ys : List ℕ). n + length ys ≤ 65535) z (length a) w
  counts =
      record {
        stop = all_counted;
        step = count_name_f t;
        state = λ n ys s. counted s n;
        go = λ y n. n + 1;
        before = λ n ys. a;
        stops = λ n ys s. refl;
        long = λ n ys p. refl;
        next = λ n y ys p. omega arith;
        passes = λ n ys s p e. count_pass n s (omega arith) e;
        visits = λ n y ys s p e c. count_visit n s (omega arith) e;
      }

  -- with new flags
  module _ (zy : List ℕ) (x : Ctx) where
    abbrev flags : Store → List ℕ
    flags st = symbol_cells st.symbols st.as_read zy

    flag_pass : (st : Store) (s : Names) → is_name_f t s ≡ false
        → flag_name_f t x (flagging (flags st) s) ≡ flagging (flags st) (next_name_f t s)
    unfolding flag_name_f
    flag_pass st s e = rw e

    flag_visit : (st : Store) (y : ℕ) (s : Names) → ctx_of st ≡ x → is_name_f t s ≡ true → column_f t s.at.0 1 ≡ y
        → flag_name_f t x (flagging (flags st) s) ≡ flagging (flags (set_symbol_flags y 1 st).1) (next_name_f t s)
    unfolding flag_name_f set_symbol_flags
    flag_visit st y s o e c = rw (e, c, ← o) (ap (λ (u : List ℕ). flagging u (next_name_f t s)) (symbol_flags_set st y zy 1))

    abbrev flagged : Visiting Store Flagging (λ (st : Store) (ys : List ℕ). ctx_of st ≡ x) z (length a) w
    flagged =
        record {
          stop = all_flagged;
          step = flag_name_f t x;
          state = λ st ys s. flagging (flags st) s;
          go = λ y st. (set_symbol_flags y 1 st).1;
          before = λ st ys. a;
          stops = λ st ys s. refl;
          long = λ st ys p. refl;
          next = λ st y ys p. symbol_flags_ctx st y 1 ∙ p;
          passes = λ st ys s p e. flag_pass st s e;
          visits = λ st y ys s p e c. flag_visit st y s p e c;
        }

count_visited : (ys : List ℕ) (n : ℕ) → visited (λ y m. m + 1) ys n ≡ n + length ys
count_visited [] n = sym (add-zero n)
count_visited (y ∷ ys) n = count_visited ys (n + 1) ∙ omega arith

flags_visited : (ys : List ℕ) (st : Store) → visited (λ y x. (set_symbol_flags y 1 x).1) ys st ≡ (set_flags_of ys 1 st).1
unfolding set_flags_of
flags_visited [] st = refl
flags_visited (y ∷ ys) st = flags_visited ys (set_symbol_flags y 1 st).1

-- the Declarators standing after others in the table
module _ (z : List ℕ) (k : Forest) (a v : List Row) (t : List ℕ) (e : t ≡ table (a ++ (rows_of k ++ v)) z)
    (q : length a + size k ≤ 65535) where
  -- HOW MANY NAMES THEY BIND
  pub count_names_law : count_names_f t (length a) (count k) ≡ length (bound_names k)
  unfolding count_names_f
  count_names_law =
      let ys = bound_names k in
      rw e
      (ap (λ (s : Counted). s.sum) (visits_all (counts z a (rows_of k ++ v)) k v 0 (omega (arith, bound_size k)) refl q)
      ∙ count_visited ys 0
      ∙ zero-add (length ys))

  -- THEIR FLAGS become 1
  pub flag_names_law : (st : Store) (zy : List ℕ)
      → flag_names_f t (symbols_held st zy) (length a) (count k) ≡ symbol_cells (set_flags_of (bound_names k) 1 st).1.symbols st.as_read zy
  unfolding flag_names_f
  flag_names_law st zy =
      let ys = bound_names k in
      let st' = (set_flags_of ys 1 st).1 in
      rw e
      (ap (λ (s : Flagging). s.t) (visits_all (flagged z a (rows_of k ++ v) zy (ctx_of st)) k v st refl refl q)
      ∙ ap (flags z a (rows_of k ++ v) zy (ctx_of st)) (flags_visited ys st)
      ∙ ap (λ (rs : List Symbol). symbol_cells st'.symbols rs zy) (flags_of ys 1 st).as_read)

-- ---- exported

-- one row, the table being any that is written so
module _ (q : SymbolRows) (b : Buf) (t : List ℕ) (o : b.t ≡ t) (s : Names) where
  specify_pass : is_name_f t s ≡ false → specifier_f q (specifying_f b s) ≡ specifying_f b (next_name_f t s)
  unfolding specifier_f
  specify_pass e = rw (o, e)

  specify_visit : (y : ℕ) → is_name_f t s ≡ true → column_f t s.at.0 1 ≡ y
      → specifier_f q (specifying_f b s)
      ≡ specifying_f (emit_f b (closed_row_f 20 y (symbol_number q.t q.ctx.symbols y 0) 0 0)) (next_name_f t s)
  unfolding specifier_f
  specify_visit y e c =
      let e₁ : is_name_f b.t s ≡ true = rw o e in
      let c₁ : column_f b.t s.at.0 1 ≡ y = rw o c in
      rw (← o, e₁, c₁)

-- the rows w, with the row o before them, behind the gap
module _ (z : List ℕ) (g : ℕ) (o : Row) (w : List Row) (st : Store) (zy : List ℕ) (base : ℕ) (small : base ≤ 65535) where
  abbrev exported : ℕ → List Row → List Row
  exported y a = a ++ closed_row_f 20 y (symbol_in st y).name 0 0 ∷ []

  abbrev stream : List Row → List ℕ → Buf
  stream a ys = gapped z a (length ys + g) (o ∷ w)

  specified : (a : List Row) (y : ℕ) (ys : List ℕ) → length a < 65535
      → emit_f (stream a (y ∷ ys)) (closed_row_f 20 y (symbol_number (symbol_cells st.symbols st.as_read zy) (length st.symbols) y 0) 0 0)
      ≡ stream (exported y a) ys
  specified a y ys i =
      rw (suc-add (length ys) g, name_is st.symbols st.as_read zy y)
      (emit_gapped z a (length ys + g) (o ∷ w) (closed_row_f 20 y (symbol_in st y).name 0 0) i)

  abbrev specifies : Visiting (List Row) SpecifyingF (λ (a : List Row) (ys : List ℕ). length a + (length ys + g) + 1 ≡ base) z base w
  specifies =
      record {
        stop = all_specified;
        step = specifier_f (symbols_held st zy);
        state = λ a ys s. specifying_f (stream a ys) s;
        go = exported;
        before = λ a ys. a ++ (free (length ys + g) ++ o ∷ []);
        stops = λ a ys s. refl;
        long = λ a ys p. length_behind a (length ys + g) o ∙ p;
        next = λ a y ys p. omega (arith, length_snoc a (closed_row_f 20 y (symbol_in st y).name 0 0));
        passes = λ a ys s p e. specify_pass (symbols_held st zy) (stream a ys) _ (table_behind z a (length ys + g) o w) s e;
        visits = λ a y ys s p e c.
            specify_visit (symbols_held st zy) (stream a (y ∷ ys)) _ (table_behind z a (suc (length ys) + g) o w) s y e c
            ∙ ap (λ (b : Buf). specifying_f b (next_name_f (table ((a ++ (free (suc (length ys) + g) ++ o ∷ [])) ++ w) z) s))
            (specified a y ys (omega arith));
      }

  specify_all : (k : Forest) (v a : List Row) → length a + (length (bound_names k) + g) + 1 ≡ base → w ≡ rows_of k ++ v
      → base + size k ≤ 65535
      → specify_all_f (symbols_held st zy) (specifying_f (stream a (bound_names k)) (first_names base (count k)))
      ≡ specifying_f (stream (visited exported (bound_names k) a) []) (first_names (base + size k) 0)
  unfolding specify_all_f
  specify_all k v a p e q = visits_all specifies k v a p e q

specifiers_visited : (st : Store) (ys : List ℕ) (a : List Row)
    → visited (λ y m. m ++ closed_row_f 20 y (symbol_in st y).name 0 0 ∷ []) ys a ≡ a ++ rows_of (specifiers st ys)
unfolding specifiers rows_of count
specifiers_visited st [] a = sym (append-nil a)
specifiers_visited st (y ∷ ys) a = specifiers_visited st ys _ ∙ simp append_assoc

-- two rows from the cursor on
specifiers_first : (z : List ℕ) (q : SymbolRows) (n : ℕ) (a : List Row) (g : ℕ) (w : List Row) → length a + g < 65535
    → specifiers_f q n (gapped z a g w) ≡ (specify_all_f q (specifying_f (gapped z a g w) (first_names (length a + g + 1) n))).buf
unfolding specifiers_f gapped
specifiers_first z q n a g w i =
    ap (λ (j : ℕ). (specify_all_f q (specifying_f (gapped z a g w) (first_names j n))).buf) (cap_one (length a + g) i)

-- THEIR SPECIFIERS are written before the Declaration
pub specifiers_law : (z : List ℕ) (k : Forest) (h : Head) (n : ℕ) (st : Store) (zy : List ℕ) (a : List Row) (g : ℕ) (v : List Row)
    → length a + (length (bound_names k) + g) + suc (size k) ≤ 65535
    → specifiers_f (symbols_held st zy) (count k) (gapped z a (length (bound_names k) + g) (line h n ∷ (rows_of k ++ v)))
    ≡ gapped z (a ++ rows_of (specifiers st (bound_names k))) g (line h n ∷ (rows_of k ++ v))
specifiers_law z k h n st zy a g v q =
    let w = rows_of k ++ v in
    let m = length (bound_names k) + g in
    specifiers_first z (symbols_held st zy) (count k) a m (line h n ∷ w) (omega arith)
    ∙ ap (λ (s : SpecifyingF). s.buf)
    (specify_all z g (line h n) w st zy (length a + m + 1) (omega arith) k v a refl refl (omega arith))
    ∙ ap₂ (λ (u : List Row) (j : ℕ). gapped z u j (line h n ∷ w)) (specifiers_visited st (bound_names k) a) (zero-add g)
