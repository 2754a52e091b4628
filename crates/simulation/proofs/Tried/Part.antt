-- One part of a Try.
-- Assumes nothing.
use Rattle.std.specs.Prelude.{if◌then◌else◌, ◌≡◌, refl, Bool, ◌&&◌, ℕ, suc, ◌+◌, ◌≤◌, length}
use Rattle.std.proofs.Common.{sym, ◌∙◌, zero-add}
use Rattle.std.proofs.Math.Path.{ap, ap₂}
use mathlib.Core.List.{List, ◌∷◌, ◌++◌}
use Rattle.std.proofs.Math.Bool.{true, false}
use native.Mathlib.Omega.{arith}
use Rattle.std.proofs.Math.Dec.{eqb}
use Rattle.meaning.specs.Numbers.Tag
use Rattle.meaning.specs.Tree.{Head, Forest, Node, node, one, single, count, size}
use Rattle.meaning.specs.Scoping.{Store, Change, return, insert_scope_between}
use Rattle.meaning.specs.Statements.{any_using, transform_statements}
use Rattle.meaning.specs.Contexts.{transform_try_block}
use Rattle.meaning.specs.Charges.{wraps}
use Rattle.meaning.specs.Due.{missing}
use Rattle.charge_laws.proofs.Growth.Rows.{Grown, one_if, both, scope_between, binding_moved}
use Rattle.charge_laws.proofs.Growth.Made.{statements_grow, statements_more, try_grows, try_more}
use Rattle.tables.specs.Table.{column_f, row_f, closed_row_f}
use Rattle.tables.specs.Stream.{copy_f}
use Rattle.tables.specs.declared.Row.{Row}
use Rattle.representation.specs.Gap.Cells.{line, rows_of, gapped, length_rows}
use Rattle.representation.proofs.Gap.Rows.{next_gapped}
use Rattle.representation.proofs.Gap.Streams.{copy_all}
use Rattle.representation.proofs.Store.Agreed.{Agreed}
use Rattle.table_laws.specs.Lists.Plan.{awaits, any_usings}
use Rattle.scoping_laws.specs.Created.Held.{free_scopes, free_symbols, Room}
use Rattle.scoping_laws.specs.Created.Parts.{part_parts, part_held, part_node, part_room, part_agreed}
use Rattle.rewrite_contexts.specs.Lists.{list_scope, wrapped_rows_f}
use Rattle.rewrite_contexts.specs.Tries.{parting_f, transform_try_block_f, is_part_f, transform_part_f}
use Rattle.table_laws.specs.Streamed.Places.{one_row, plan_gapped}
use Rattle.table_laws.proofs.Streamed.Lists.{wrapped_rows_law}
use Rattle.table_laws.specs.Streamed.Parts.{own_rows}
use Rattle.simulation.proofs.Tried.Passing.{beside, passing, new_scopes, new_symbols, Later, grown_later, none_new, Rewrites}

-- a part, by whether it is a Block with a using
abbrev pub part_if : Bool → ℕ → ℕ → Head → Forest → Change Node
part_if b cur hoist h k = if b then transform_try_block cur hoist h k else return (node h k)

abbrev pub part_of : ℕ → ℕ → Head → Forest → Change Node
part_of cur hoist h k = part_if (eqb h.tag Tag.Block && any_using k) cur hoist h k

-- ---- what it adds

one_used : (b : Bool) → one_if (b && true) ≡ one_if b
one_used true = refl
one_used false = refl

module _ (cur hoist : ℕ) (h : Head) (k : Forest) (st : Store) where
  part_grows : Grown true 4 2 1 st (transform_try_block cur hoist h k st).1
  unfolding transform_try_block
  part_grows =
      both (both (both (statements_grow cur h.a k st) (scope_between h.a 0 _)) (try_grows h.a _ _ _ _ _)) (binding_moved _ hoist _)

  part_size : size (single (transform_try_block cur hoist h k st).0) ≡ suc (size k) + (12 + wraps k)
  unfolding transform_try_block size
  part_size =
      let t = transform_statements cur h.a k st in
      let s = insert_scope_between h.a 0 t.1 in
      omega (
        arith,
        (statements_more cur h.a k st).0,
        (try_more h.a t.0.statements t.0.using_ctx s.0 t.0.needs_await s.1).0,
      )

  size_if : (b : Bool) → size (single (part_if b cur hoist h k st).0) ≡ suc (size k) + (if b then 12 + wraps k else 0)
  unfolding size
  size_if true = part_size
  size_if false = omega arith

  later_if : (b : Bool) → Later st (part_if b cur hoist h k st).1
  later_if true = grown_later part_grows
  later_if false = omega arith

  agreed_if : (b : Bool) → Agreed st → Agreed (part_if b cur hoist h k st).1
  agreed_if true a = part_agreed cur hoist h k st a
  agreed_if false a = a

  -- ---- its rows

  -- the rows of the context, and the record with its list in a Try
  try_block : (z zs zy : List ℕ) (a : List Row) (g : ℕ) (v : List Row) → Agreed st → Room (transform_try_block cur hoist h k st).1
      → length a + (12 + wraps k + g) + suc (size k) ≤ 65535
      → (let e = transform_try_block cur hoist h k st in
      transform_try_block_f cur hoist (awaits k)
      (passing z (free_scopes (new_scopes st e.1) zs) (free_symbols (new_symbols st e.1) zy) a (12 + wraps k + g)
      (line h (count k) ∷ (rows_of k ++ v)) st)
      ≡ passing z zs zy (a ++ rows_of (single e.0)) g v e.1)
  unfolding transform_try_block_f row_f
  try_block z zs zy a g v ag room fits =
      let e = transform_try_block cur hoist h k st in
      let n = awaits k in
      let p = part_parts cur h k st n in
      let m = 12 + wraps k + g in
      let x = line h (count k) in
      let u = rows_of k ++ v in
      let s : new_scopes st e.1 ≡ 4 = omega (arith, part_grows.scopes) in
      let y : new_symbols st e.1 ≡ 2 + one_if (missing st) = omega (arith, part_grows.symbols, one_used (missing st)) in
      let old : column_f (gapped z a m (x ∷ u)).t (gapped z a m (x ∷ u)).read 1 ≡ h.a =
      ap (λ (r : Row). r.a) (next_gapped z a m x u) in
      let rows : wrapped_rows_f (closed_row_f 2 (list_scope p) 0 0 1) h.a p (gapped z a m (x ∷ u)) ≡ gapped z (a ++ rows_of (single e.0)) g v =
      ap₂ (λ (i : ℕ) (w : List Row). wrapped_rows_f (closed_row_f 2 (list_scope p) 0 0 1) h.a p (gapped z a i (w ++ v)))
      (omega arith)
      (sym (one_row h k))
      ∙ wrapped_rows_law z 2 (list_scope p) h k h.a p a g v (omega arith) (part_room cur hoist h k st n room)
      ∙ ap (λ (d : Node). gapped z (a ++ rows_of (single d)) g v) (sym (part_node cur hoist h k st n refl)) in
      rw (s, y, old, part_held cur hoist h k st zs zy n ag room, rows)

  -- by whether it is a Block with a using
  part_by : (b : Bool) (z zs zy : List ℕ) (a : List Row) (g : ℕ) (v : List Row) → Agreed st → Room (part_if b cur hoist h k st).1
      → length a + ((if b then 12 + wraps k else 0) + g) + suc (size k) ≤ 65535
      → (let e = part_if b cur hoist h k st in
      let s = passing z (free_scopes (new_scopes st e.1) zs) (free_symbols (new_symbols st e.1) zy) a
      ((if b then 12 + wraps k else 0) + g) (line h (count k) ∷ (rows_of k ++ v)) st in
      (if b then transform_try_block_f cur hoist (awaits k) s else parting_f (copy_f s.buf 1) s.scopes s.symbols s.ctx)
      ≡ passing z zs zy (a ++ rows_of (single e.0)) g v e.1)
  unfolding free_scopes free_symbols size count
  part_by true z zs zy a g v ag room fits = try_block z zs zy a g v ag room fits
  part_by false z zs zy a g v ag room fits =
      rw (zero-add, none_new (length st.scopes), none_new (length st.symbols))
      (ap (beside zs zy st)
      (ap (λ (w : List Row). copy_f (gapped z a g (w ++ v)) 1) (sym (one_row h k)) ∙ copy_all z (one h k) a g v (omega arith)))

  -- A PART OF A TRY
  pub part_law : Agreed st
      → (let e = part_of cur hoist h k st in
      Rewrites (transform_part_f cur hoist) (own_rows h k) (rows_of (one h k)) (rows_of (single e.0)) st e.1)
  unfolding transform_part_f is_part_f size
  part_law ag =
      let b = eqb h.tag Tag.Block && any_using k in
      let e = part_of cur hoist h k st in
      let l = length_rows (one h k) in
      record {
        passes =
            λ z zs zy a g v room fits.
            let m = own_rows h k + g in
            rw (
              one_row h k,
              next_gapped z a m (line h (count k)) (rows_of k ++ v),
              plan_gapped z h k a m v (omega arith),
              ← any_usings k,
            )
            (part_by b z zs zy a g v ag room (omega arith));
        longer = omega (arith, length_rows (single e.0), size_if b);
        later = later_if b;
        agreed = agreed_if b ag;
      }
