-- The Names of a list move to a scope.
-- Assumes nothing.
use Rattle.std.specs.Prelude.{if◌then◌else◌, ◌≡◌, List, ◌∷◌, ◌++◌, Bool, true, false, ℕ, suc, ◌+◌, ◌≤◌, length}
use Rattle.std.proofs.Math.Path.{refl, ap}
use Rattle.std.proofs.Common.{◌∙◌, arith}
use Rattle.std.proofs.Math.Dec.{eqb}
use Rattle.meaning.specs.Numbers.Tag
use Rattle.meaning.specs.Tree.{Head, Forest, none, more, count, size}
use Rattle.meaning.specs.Scoping.{Store, move_binding, move_bindings}
use Rattle.meaning.specs.Contexts.{names_in}
use Rattle.tables.specs.Loops.{turns}
use Rattle.tables.specs.declared.Row.{Row}
use Rattle.scoping.specs.Changes.{move_binding_f}
use Rattle.scoping.specs.declared.Ctx.{Ctx}
use Rattle.representation.specs.Gap.Cells.{table, line, rows_of}
use Rattle.representation.specs.Store.Held.{symbol_cells, ctx_of, symbols_held}
use Rattle.representation.proofs.Store.Symbols.{binding_moved, binding_ctx}
use Rattle.table_laws.specs.Lists.TakeUp.{length_line}
use Rattle.rewrite_contexts.specs.Tries.{Naming, naming, move_name_f, move_names_f}
use Rattle.table_laws.specs.Lists.Plan.{parted, row_here, end_here}

-- a symbol moves, or not
abbrev moved_if : Bool → ℕ → ℕ → Store → Store
moved_if b y scope st = if b then (move_binding y scope st).1 else st

abbrev cells_of : Store → List ℕ → List ℕ
cells_of st zy = symbol_cells st.symbols st.as_read zy

moved_cells : (b : Bool) (y scope : ℕ) (st : Store) (zy : List ℕ)
    → (if b then move_binding_f (symbols_held st zy) y scope else cells_of st zy) ≡ cells_of (moved_if b y scope st) zy
unfolding move_binding
moved_cells true y scope st zy = binding_moved st y zy scope
moved_cells false y scope st zy = refl

moved_ctx : (b : Bool) (y scope : ℕ) (st : Store) → ctx_of (moved_if b y scope st) ≡ ctx_of st
moved_ctx true y scope st = binding_ctx st y scope
moved_ctx false y scope st = refl

moved_first : (b : Bool) (y scope : ℕ) (ys : List ℕ) (st : Store)
    → move_bindings ys scope (moved_if b y scope st) ≡ move_bindings (if b then y ∷ ys else ys) scope st
unfolding move_bindings
moved_first true y scope ys st = refl
moved_first false y scope ys st = refl

module _ (z zy : List ℕ) (scope : ℕ) (t : List ℕ) (x : Ctx) where
  move_name : (h : Head) (k : Forest) (a v : List Row) (st : Store) → ctx_of st ≡ x
      → t ≡ table (a ++ line h (count k) ∷ (rows_of k ++ v)) z → length a + suc (size k) ≤ 65535
      → move_name_f t x scope (naming (cells_of st zy) (length a))
      ≡ naming (cells_of (moved_if (eqb h.tag Tag.Name) h.a scope st) zy) (length (a ++ line h (count k) ∷ rows_of k))
  unfolding move_name_f
  move_name h k a v st o e q =
      rw (row_here z h k a v t e q, end_here z h k a v t e q, ← o, moved_cells (eqb h.tag Tag.Name) h.a scope st zy)

  names_turns : (f : Forest) (a v : List Row) (st : Store) → ctx_of st ≡ x → t ≡ table (a ++ (rows_of f ++ v)) z
      → length a + size f ≤ 65535
      → (turns (count f) (move_name_f t x scope) (naming (cells_of st zy) (length a))).t ≡ cells_of (move_bindings (names_in f) scope st).1 zy
  unfolding turns names_in move_bindings count size
  names_turns none a v st o e q = refl
  names_turns (more h k r) a v st o e q =
      let e₁ = parted z h k r a v t e in
      let b = eqb h.tag Tag.Name in
      let y = line h (count k) in
      let l = length_line a y k in
      ap (λ (s : Naming). (turns (count r) (move_name_f t x scope) s).t) (move_name h k a (rows_of r ++ v) st o e₁.0 (omega arith))
      ∙ names_turns r (a ++ y ∷ rows_of k) v (moved_if b h.a scope st) (moved_ctx b h.a scope st ∙ o) e₁.1 (omega arith)
      ∙ ap (λ (m : Unit {0} × Store). cells_of m.1 zy) (moved_first b h.a scope (names_in r) st)

-- THE NAMES OF A LIST IN THE TABLE move to the scope
pub move_names_law : (z zy : List ℕ) (scope : ℕ) (t : List ℕ) (f : Forest) (a v : List Row) (st : Store)
    → t ≡ table (a ++ (rows_of f ++ v)) z → length a + size f ≤ 65535
    → (let st' = (move_bindings (names_in f) scope st).1 in
    move_names_f t (ctx_of st) scope (length a) (count f) (symbol_cells st.symbols st.as_read zy)
    ≡ symbol_cells st'.symbols st'.as_read zy)
unfolding move_names_f
move_names_law z zy scope t f a v st e q = names_turns z zy scope t (ctx_of st) f a v st refl e q
