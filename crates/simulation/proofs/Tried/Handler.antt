-- A Catch: its parts are rewritten, and its names move with a lowered body.
-- Assumes nothing.
use Rattle.std.specs.Prelude.{if◌then◌else◌, ◌≡◌, refl, Bool, true, false, not, ℕ, suc, ◌+◌, ◌≤◌, ◌<◌, eqb, length}
use Rattle.std.proofs.Common.{sym, ◌∙◌, arith}
use Rattle.std.proofs.Math.Path.{ap, ap₂}
use mathlib.Core.List.{List, [], ◌∷◌, ◌++◌, append_assoc}
use Rattle.meaning.specs.Numbers.Tag
use Rattle.meaning.specs.Tree.{Head, Forest, one, single, count, size}
use Rattle.meaning.specs.Scoping.{Store, Change, return, move_bindings}
use Rattle.meaning.specs.Contexts.{names_in, last_block_scope, any_part_using, move_catch_names, transform_try_parts}
use Rattle.spec_laws.specs.Trees.{transform_handler}
use Rattle.spec_laws.specs.SameScopes.{moved_scopes}
use Rattle.charge_laws.proofs.Totals.Roles.{Lacks}
use Rattle.tables.specs.Table.{cap_one, capped, column_f}
use Rattle.tables.specs.Stream.{Buf, copy_row_f}
use Rattle.tables.specs.declared.Row.{Row}
use Rattle.scoping.specs.declared.Ctx.{Ctx}
use Rattle.representation.specs.Gap.Cells.{table, free, line, rows_of, gapped, length_rows}
use Rattle.representation.proofs.Gap.Rows.{length_snoc, pass_gapped, length_left}
use Rattle.representation.specs.Store.Held.{ctx_of}
use Rattle.representation.proofs.Store.Symbols.{bindings_ctx}
use Rattle.representation.proofs.Store.Agreed.{Agreed, bindings_agreed}
use Rattle.scoping_laws.specs.Created.Held.{free_scopes, free_symbols}
use Rattle.rewrite_contexts.specs.Tries.{PartingF, parting_f, transform_parts_f, plan_parts_f, last_block_scope_f, move_names_f, transform_handler_f}
use Rattle.table_laws.specs.Streamed.Places.{one_row, below_here, rows_below, n_gapped}
use Rattle.table_laws.specs.Streamed.Parts.{part_rows}
use Rattle.table_laws.proofs.Streamed.Parts.{any_parts, plan_parts_law, last_block_law}
use Rattle.simulation.proofs.Tried.Passing.{beside, passing, new_scopes, new_symbols, Rewrites}
use Rattle.simulation.proofs.Tried.Parts.{parts_law, parts_count, parts_names}
use Rattle.simulation.proofs.Tried.Names.{move_names_law}

-- ---- the names move, or not

abbrev move_if : Bool → List ℕ → ℕ → Change (Unit {0})
move_if b ys scope = if b then move_bindings ys scope else return tt

moved_ctx : (b : Bool) (ys : List ℕ) (scope : ℕ) (st : Store) → ctx_of (move_if b ys scope st).1 ≡ ctx_of st
moved_ctx true ys scope st = bindings_ctx st ys scope
moved_ctx false ys scope st = refl

moved_agreed : (b : Bool) (ys : List ℕ) (scope : ℕ) (st : Store) → Agreed st → Agreed (move_if b ys scope st).1
moved_agreed true ys scope st a = bindings_agreed st a ys scope
moved_agreed false ys scope st a = a

-- once the parts of a Catch are written, by whether they got no rows
abbrev handled : Bool → ℕ → ℕ → PartingF → PartingF
handled b list n o =
    if b then o
    else parting_f o.buf o.scopes (move_names_f o.buf.t o.ctx (last_block_scope_f o.buf.t list n) list n o.symbols) o.ctx

handled_law : (b : Bool) (z zs zy : List ℕ) (a : List Row) (f : Forest) (g : ℕ) (v : List Row) (st : Store)
    → length a + size f ≤ 65535
    → (let st' = (move_if (not b) (names_in f) (last_block_scope f) st).1 in
    handled b (length a) (count f) (passing z zs zy (a ++ rows_of f) g v st) ≡ passing z zs zy (a ++ rows_of f) g v st')
unfolding gapped
handled_law true z zs zy a f g v st q = refl
handled_law false z zs zy a f g v st q =
    let t = table ((a ++ rows_of f) ++ (free g ++ v)) z in
    let e : t ≡ table (a ++ (rows_of f ++ (free g ++ v))) z = simp append_assoc in
    let scope = last_block_scope f in
    rw (
      last_block_law z f a (free g ++ v) t e q,
      move_names_law z zy scope t f a (free g ++ v) st e q,
      bindings_ctx st (names_in f) scope,
      moved_scopes (names_in f) scope st,
    )

-- ---- a Catch

-- the steps of `transform_handler_f`
handler_form : (cur hoist : ℕ) (s o : PartingF) (n added list : ℕ)
    → column_f s.buf.t s.buf.read 4 ≡ n
    → plan_parts_f s.buf.t (capped s.buf.read 1) n ≡ added
    → capped s.buf.written 1 ≡ list
    → transform_parts_f cur hoist n (parting_f (copy_row_f s.buf) s.scopes s.symbols s.ctx) ≡ o
    → transform_handler_f cur hoist s ≡ handled (eqb added 0) list n o
unfolding transform_handler_f
handler_form cur hoist s o n added list e₁ e₂ e₃ e₄ = rw (e₁, e₂, e₃, e₄)

-- the place below a row that is written next
place_below : (z : List ℕ) (a : List Row) (m : ℕ) (u : List Row) (x : Row) → length a < 65535
    → capped (gapped z a m u).written 1 ≡ length (a ++ x ∷ [])
unfolding gapped
place_below z a m u x q = cap_one (length a) q ∙ sym (length_snoc a x)

-- the rows that its parts get
parts_planned : (z : List ℕ) (h : Head) (k : Forest) (a : List Row) (m : ℕ) (v : List Row) → length a + m + suc (size k) ≤ 65535
    → part_rows k ≤ 65535
    → (let b = gapped z a m (line h (count k) ∷ (rows_of k ++ v)) in
    plan_parts_f b.t (capped b.read 1) (count k) ≡ part_rows k)
unfolding gapped
parts_planned z h k a m v q i =
    let x = line h (count k) in
    let a₁ = a ++ free m in
    let l = length_left a m in
    let t = table (a ++ (free m ++ x ∷ (rows_of k ++ v))) z in
    let e : t ≡ table (a₁ ++ x ∷ (rows_of k ++ v)) z = simp append_assoc in
    rw (← l, below_here z h k a₁ v t e (omega arith))
    (plan_parts_law z k (a₁ ++ x ∷ []) v t (rows_below z h k a₁ v t e (omega arith)) (omega (arith, length_snoc a₁ x)) i)

module _ (cur hoist : ℕ) (h : Head) (k : Forest) (st : Store) (lacks : Lacks Tag.Catch k) (ag : Agreed st) where
  abbrev parts : Forest × Store
  parts = transform_try_parts cur hoist k st

  abbrev after : Store
  after = (transform_handler h k (transform_try_parts cur hoist k) st).1

  -- moving names adds no row
  after_ctx : ctx_of after ≡ ctx_of parts.1
  unfolding move_catch_names
  after_ctx = moved_ctx (any_part_using k) (names_in k) (last_block_scope parts.0) parts.1

  after_scopes : length after.scopes ≡ length parts.1.scopes
  after_scopes = ap (λ (x : Ctx). x.scopes) after_ctx

  after_symbols : length after.symbols ≡ length parts.1.symbols
  after_symbols = ap (λ (x : Ctx). x.symbols) after_ctx

  after_contexts : after.contexts ≡ parts.1.contexts
  after_contexts = ap (λ (x : Ctx). x.contexts) after_ctx

  -- its names
  names_moved : (z zs zy : List ℕ) (a : List Row) (g : ℕ) (v : List Row) → length a + suc (size parts.0) ≤ 65535
      → (let a₁ = a ++ line h (count k) ∷ [] in
      handled (eqb (part_rows k) 0) (length a₁) (count k) (passing z zs zy (a₁ ++ rows_of parts.0) g v parts.1)
      ≡ passing z zs zy (a ++ rows_of (one h parts.0)) g v after)
  unfolding move_catch_names
  names_moved z zs zy a g v fits =
      let f = parts.0 in
      let a₁ = a ++ line h (count k) ∷ [] in
      let c = parts_count k cur hoist st in
      let e : a₁ ++ rows_of f ≡ a ++ rows_of (one h f) = rw (one_row h f, c) (simp append_assoc) in
      ap (λ (n : ℕ). handled (eqb (part_rows k) 0) (length a₁) n (passing z zs zy (a₁ ++ rows_of f) g v parts.1)) (sym c)
      ∙ handled_law (eqb (part_rows k) 0) z zs zy a₁ f g v parts.1 (omega (arith, length_snoc a (line h (count k))))
      ∙ ap₂ (λ (w : List Row) (d : Store). passing z zs zy w g v d) e
      (ap₂ (λ (b : Bool) (ys : List ℕ). (move_if b ys (last_block_scope f) parts.1).1) (sym (any_parts k lacks))
      (parts_names k cur hoist st lacks))

  -- A CATCH
  pub handler_law :
      (let e = transform_handler h k (transform_try_parts cur hoist k) st in
      Rewrites (transform_handler_f cur hoist) (part_rows k) (rows_of (one h k)) (rows_of (single e.0)) st e.1)
  unfolding move_catch_names size
  handler_law =
      let p = parts_law k cur hoist st lacks ag in
      let f = parts.0 in
      let l₁ = length_rows (one h k) in
      let l₂ = length_rows k in
      let l₃ = length_rows f in
      let x = line h (count k) in
      record {
        passes =
            λ z zs zy a g v room fits.
            let m = part_rows k + g in
            let u = rows_of k ++ v in
            let a₁ = a ++ x ∷ [] in
            let s₁ = length_snoc a x in
            let zs₁ = free_scopes (new_scopes st parts.1) zs in
            let zy₁ = free_symbols (new_symbols st parts.1) zy in
            ap (transform_handler_f cur hoist) (rw (one_row h k, after_scopes, after_symbols))
            ∙ handler_form cur hoist (passing z zs₁ zy₁ a m (x ∷ u) st) (passing z zs zy (a₁ ++ rows_of f) g v parts.1) (count k)
            (part_rows k) (length a₁)
            (n_gapped z a m x u)
            (parts_planned z h k a m v (omega arith) (omega arith))
            (place_below z a m (x ∷ u) x (omega arith))
            (ap (λ (b : Buf). transform_parts_f cur hoist (count k) (beside zs₁ zy₁ st b)) (pass_gapped z a m x u (omega arith))
            ∙ p.passes z zs zy a₁ g v (omega (arith, after_scopes, after_symbols, after_contexts)) (omega arith))
            ∙ names_moved z zs zy a g v (omega (arith, p.longer));
        longer = omega (arith, length_rows (one h f), p.longer);
        later = omega (arith, p.later, after_scopes, after_symbols, after_contexts);
        agreed = moved_agreed (any_part_using k) (names_in k) (last_block_scope f) parts.1 p.agreed;
      }
