-- The items of a Program on tables, with the Block's row, come to what 01 makes of them.
-- Assumes nothing.
use Rattle.std.specs.Prelude.{◌≡◌, refl, ℕ, ◌+◌, ◌≤◌, ◌<◌, length}
use Rattle.std.proofs.Common.{◌∙◌, arith, length-append}
use mathlib.Core.List.{List, [], ◌∷◌, ◌++◌, append_assoc}
use Rattle.meaning.specs.Tree.{Forest, count, size}
use Rattle.meaning.specs.Scoping.{Store}
use Rattle.meaning.specs.Program.{Split, program_items}
use Rattle.charge_laws.proofs.Growth.Items.{Exports}
use Rattle.tables.specs.Table.{cap_one, capped, closed_row_f}
use Rattle.tables.specs.Stream.{Buf, emit_f}
use Rattle.tables.specs.declared.Row.{Row}
use Rattle.representation.specs.Gap.Cells.{table, free, rows_of, gapped}
use Rattle.representation.proofs.Gap.Rows.{emit_gapped}
use Rattle.representation.specs.Store.Held.{symbol_cells, ctx_of}
use Rattle.representation.proofs.Store.Agreed.{Agreed}
use Rattle.table_laws.specs.Lists.Plan.{cap_sum}
use Rattle.scoping_laws.specs.Created.Held.{free_symbols}
use Rattle.rewrite_items.specs.Items.{PassingF}
use Rattle.scoping_laws.specs.Itemized.Held.{held}
use Rattle.scoping_laws.proofs.Itemized.Items.{items_rows, items_symbols}
use Rattle.scoping_laws.proofs.Itemized.Program.{mixed, items_law}
use Rattle.rewrite_program.specs.Plan.{plan}
use Rattle.rewrite_program.specs.Arrange.{kept_rows_f, arrange_f}
use Rattle.rewrite_program.specs.Program.{transform_items_f, rewrite_items_f}
use Rattle.simulation.proofs.Arranged.Mix.{mix_length}
use Rattle.simulation.proofs.Arranged.Arrange.{items_mix, kept_rows_law, arrange_law}
use Rattle.simulation.proofs.Arranged.Plan.{items_size}
use Rattle.spec_laws.specs.Trees.{count_size}

-- the Block's row: it has the next scope
abbrev pub block_row : Forest → Store → Row
block_row k st = let (s, st') = program_items k st in closed_row_f 2 (length st'.scopes + 1) 0 0 (count s.moved)

written_is : (z : List ℕ) (a : List Row) (g : ℕ) (v : List Row) → (gapped z a g v).written ≡ length a
unfolding gapped
written_is z a g v = refl

module _ (z : List ℕ) (k : Forest) (st : Store) (a v : List Row) (zy : List ℕ) (x : Exports k) (ag : Agreed st) where
  abbrev s : Split
  s = (program_items k st).0

  abbrev st' : Store
  st' = (program_items k st).1

  abbrev row : Row
  row = block_row k st

  -- the items on their way, and with the Block's row behind them
  abbrev start : PassingF
  start = held (gapped z a (items_rows k + 1) (rows_of k ++ v)) st (free_symbols (items_symbols k) zy)

  abbrev written : Buf
  written = gapped z ((a ++ mixed k st) ++ row ∷ []) 0 v

  written_rows : written.t ≡ table (a ++ ((mixed k st ++ row ∷ []) ++ v)) z
  unfolding gapped free
  written_rows = simp append_assoc

  module _ (symbols : length st'.symbols ≤ 65535) (scopes : length st'.scopes < 65535)
      (q : length a + (items_rows k + 1) + size k ≤ 65535) where
    long : length (mixed k st) ≡ size k + items_rows k
    long = mix_length (items_mix k st) ∙ items_size k st x

    all_items : capped (count s.kept) (count s.moved) ≡ count s.kept + count s.moved
    all_items = cap_sum _ _ (omega (arith, items_size k st x, count_size s.kept, count_size s.moved))

    kept_rows : kept_rows_f written.t (length a) (count s.kept + count s.moved) ≡ size s.kept
    kept_rows = kept_rows_law z k st a (row ∷ v) written.t (written_rows ∙ simp append_assoc) (omega (arith, long))

    arranged : arrange_f written.t (length a) (count s.kept + count s.moved) (size s.kept)
        ≡ table (a ++ ((rows_of s.kept ++ row ∷ rows_of s.moved) ++ v)) z
    arranged = rw written_rows (arrange_law z k st a v row refl (omega (arith, long)))

    emitted : emit_f (gapped z (a ++ mixed k st) 1 v) (closed_row_f 2 (capped (length st'.scopes) 1) 0 0 (count s.moved)) ≡ written
    emitted =
        rw (cap_one (length st'.scopes) scopes)
        (emit_gapped z (a ++ mixed k st) 0 v row (omega (arith, length-append a (mixed k st), long)))

    block_is : capped (capped (length a) (size s.kept)) 1 ≡ length a + size s.kept + 1
    block_is =
        let l = items_size k st x in
        rw (cap_sum (length a) (size s.kept) (omega arith)) (cap_one _ (omega arith))

    -- ALL ROWS, with the symbols and the counters of the store
    pub rewrite_items_law : (i : ℕ)
        → rewrite_items_f (count k) (plan i (items_rows k) (count s.kept) (count s.moved)) start
        ≡ record {
          records = table (a ++ ((rows_of s.kept ++ row ∷ rows_of s.moved) ++ v)) z;
          symbols = symbol_cells st'.symbols st'.as_read zy;
          ctx = ctx_of st';
          block = length a + size s.kept + 1;
        }
    unfolding rewrite_items_f transform_items_f
    rewrite_items_law i =
        rw (
          items_law z k a 1 v st zy x ag symbols q,
          written_is z a (items_rows k + 1) (rows_of k ++ v),
          emitted,
          all_items,
          kept_rows,
          arranged,
          block_is,
        )
