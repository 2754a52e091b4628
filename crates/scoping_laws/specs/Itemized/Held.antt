-- An item on its way, and what it comes to.
-- Assumes nothing.
use Rattle.std.specs.Prelude.{◌≡◌, List, ◌∷◌, ◌++◌, ℕ, ◌+◌, ◌≤◌, length}
use Rattle.std.proofs.Common.{ap, ◌∙◌, append-nil}
use Rattle.meaning.specs.Tree.{Head, Forest, one, count, size}
use Rattle.meaning.specs.Scoping.{Store}
use Rattle.meaning.specs.Program.{Split}
use Rattle.tables.specs.Stream.{Buf}
use Rattle.tables.specs.declared.Row.{Row}
use Rattle.representation.specs.Gap.Cells.{line, rows_of, gapped}
use Rattle.representation.specs.Store.Held.{symbol_cells, ctx_of}
use Rattle.representation.proofs.Store.Agreed.{Agreed}
use Rattle.scoping_laws.specs.Created.Held.{free_symbols}
use Rattle.rewrite_items.specs.Kinds.{item_f}
use Rattle.rewrite_items.specs.Items.{PassingF, passing_f, transform_as, transform_item_f}
use Rattle.rewrite_items.specs.declared.Item.{Item}

-- rows on their way, with the symbols and the counters of a store
abbrev pub held : Buf → Store → List ℕ → PassingF
held b st zy = passing_f b (symbol_cells st.symbols st.as_read zy) (ctx_of st)

-- what an item comes to
abbrev pub Becomes : List ℕ → List Row → ℕ → List Row → List ℕ → Split × Store → PassingF → Type 0
Becomes z a g v zy e s = s ≡ held (gapped z (a ++ (rows_of e.0.kept ++ rows_of e.0.moved)) g v) e.1 zy

-- An item of n more rows and m more symbols comes to what it does in 01; and so does the store.
pub record Lowers (n m : ℕ) (h : Head) (k : Forest) (st : Store) (e : Split × Store) : Type 0 where
  pub law : (z : List ℕ) (a : List Row) (g : ℕ) (v : List Row) (zy : List ℕ) → length e.1.symbols ≤ 65535
      → length a + (n + g) + size (one h k) ≤ 65535
      → Becomes z a g v zy e (transform_item_f (held (gapped z a (n + g) (rows_of (one h k) ++ v)) st (free_symbols m zy)))
  pub agreed : Agreed e.1
  pub symbols : length e.1.symbols ≡ length st.symbols + m

-- the rows of an item before others
pub one_rows : (h : Head) (k : Forest) (v : List Row) → rows_of (one h k) ++ v ≡ line h (count k) ∷ (rows_of k ++ v)
unfolding rows_of
one_rows h k v = ap (λ (m : List Row). line h (count k) ∷ (m ++ v)) (append-nil (rows_of k))

-- an item is of a kind, wherever it stands
abbrev pub IsKind : Head → Forest → Item → Type 0
IsKind h k kind =
    (z : List ℕ) (a : List Row) (g : ℕ) (v : List Row) → length a + g + size (one h k) ≤ 65535
    → (let b = gapped z a g (line h (count k) ∷ (rows_of k ++ v)) in item_f b.t b.read ≡ kind)

-- by its kind
pub lowers : (n m : ℕ) (h : Head) (k : Forest) (st : Store) (e : Split × Store) (kind : Item) → IsKind h k kind
    → ((z : List ℕ) (a : List Row) (g : ℕ) (v : List Row) (zy : List ℕ) → length e.1.symbols ≤ 65535
    → length a + (n + g) + size (one h k) ≤ 65535
    → Becomes z a g v zy e (transform_as kind (held (gapped z a (n + g) (line h (count k) ∷ (rows_of k ++ v))) st (free_symbols m zy))))
    → Agreed e.1 → length e.1.symbols ≡ length st.symbols + m → Lowers n m h k st e
unfolding transform_item_f
lowers n m h k st e kind is changes agreed symbols =
    record {
      law = λ z a g v zy r q.
          rw (one_rows h k v)
          (ap (λ (i : Item). transform_as i (held (gapped z a (n + g) (line h (count k) ∷ (rows_of k ++ v))) st (free_symbols m zy)))
          (is z a (n + g) v q)
          ∙ changes z a g v zy r q);
      agreed = agreed;
      symbols = symbols;
    }
