-- The outermost scopes of a list get a parent: found on the rows of the list.
-- Assumes nothing.
use Rattle.std.specs.Prelude.{if◌then◌else◌, ◌≡◌, Bool, true, false, ◌&&◌}
use Rattle.std.proofs.Math.Path.{refl, sym, ap, ap₂}
use Rattle.std.proofs.Common.{◌∙◌, zero-add, add-zero, arith}
use mathlib.Core.List.{List, [], ◌∷◌, ◌++◌, append_assoc}
use Prim.Native.Nat.{ℕ, suc, ◌+◌, ◌-◌, ◌≤◌}
use Rattle.std.proofs.Math.Dec.{eqb}
use Rattle.std.proofs.Math.ListN.{length, length-append}
use Rattle.meaning.specs.Tree.{Head, Forest, none, more, count, size}
use Rattle.meaning.specs.File.{Symbol}
use Rattle.meaning.specs.Grammar.{scope_of}
use Rattle.meaning.specs.Scoping.{Store, Change, create_child_scope, change_scope_parent, move_scopes, insert_scope_below}
use Rattle.meaning.specs.Due.{missing}
use Rattle.tables.specs.Loops.{until, stopped}
use Rattle.tables.specs.Table.{cap_one, capped, row_f}
use Rattle.tables.specs.declared.Row.{Row}
use Rattle.representation.specs.Gap.Cells.{table, line, rows_of, length_rows}
use Rattle.representation.proofs.Gap.Rows.{row_at_lem, length_snoc}
use Rattle.scoping.specs.Changes.{in_scopes, change_scope_parent_f}
use Rattle.scoping.specs.declared.Ctx.{Ctx}
use Rattle.representation.specs.Store.Held.{scope_cells, symbol_cells, ctx_of, scopes_held}
use Rattle.representation.proofs.Store.Scopes.{parent_changed, parent_ctx, child_scope_made, child_scope_number}
use Rattle.table_laws.specs.Lists.Plan.{cap_sum}
use Rattle.creation.specs.Scopes.{ScopeMoveF, scope_move_f, move_scope_f, passed, move_scopes_f, insert_scope_below_f}
use Rattle.scoping_laws.specs.Created.Held.{free_scopes}
use Rattle.spec_laws.specs.Bools.{and-false, one_less, some}
use Rattle.spec_laws.specs.Trees.{count_size}

-- ---- what else the store has stays

-- the counters, the symbols, and those as read
abbrev Kept : Store → Store → Type 0
Kept st st' = (ctx_of st' ≡ ctx_of st) × (st'.symbols ≡ st.symbols) × (st'.as_read ≡ st.as_read)

either : (b : Bool) (m n : Change (Unit {0})) (st : Store) → Kept st (m st).1 → Kept st (n st).1 → Kept st ((if b then m else n) st).1
either true m n st p q = p
either false m n st p q = q

parent_kept : (s parent : ℕ) (st : Store) → Kept st (change_scope_parent s parent st).1
unfolding change_scope_parent
parent_kept s parent st = (parent_ctx st s parent, refl, refl)

scopes_kept : (f : Forest) (parent : ℕ) (st : Store) → Kept st (move_scopes f parent st).1
unfolding move_scopes
scopes_kept none parent st = (refl, refl, refl)
scopes_kept (more h k r) parent st =
    let s = scope_of h in
    let p = either (eqb s 0) (move_scopes k parent) (change_scope_parent s parent) st (scopes_kept k parent st) (parent_kept s parent st) in
    let q = scopes_kept r parent _ in
    (q.0 ∙ p.0, q.1 ∙ p.1, q.2 ∙ p.2)

-- a new scope below another
module _ (s : ℕ) (f : Forest) (st : Store) where
  below_kept : Kept (create_child_scope s 0 st).1 (insert_scope_below s f st).1
  unfolding insert_scope_below
  below_kept = scopes_kept f _ _

  pub below_symbols : (z : List ℕ)
      → (let st' = (insert_scope_below s f st).1 in
      symbol_cells st.symbols st.as_read z ≡ symbol_cells st'.symbols st'.as_read z)
  unfolding create_child_scope
  below_symbols z = sym (ap₂ (λ (ys rs : List Symbol). symbol_cells ys rs z) below_kept.1 below_kept.2)

  pub below_missing : missing st ≡ missing (insert_scope_below s f st).1
  unfolding create_child_scope
  below_missing = sym (ap (λ (x : Ctx). eqb x.mode 0 && eqb x.helper.0 0) below_kept.0)

  pub below_number : (insert_scope_below s f st).0 ≡ length (insert_scope_below s f st).1.scopes
  unfolding insert_scope_below
  below_number = child_scope_number st s 0 ∙ sym (ap (λ (x : Ctx). x.scopes) below_kept.0)

-- ---- row by row

module _ (z t : List ℕ) (x : Ctx) (parent : ℕ) where
  abbrev run : ℕ → ScopeMoveF → ScopeMoveF
  run m s = until m passed (move_scope_f t x parent) s

  turn : (m : ℕ) (s : ScopeMoveF) → passed s ≡ false → run (suc m) s ≡ run m (move_scope_f t x parent s)
  unfolding until
  turn m s e = rw e

  -- the next row, with n children: passed over, entered, or changed
  module _ (h : Head) (n : ℕ) (a v : List Row) (e : t ≡ table (a ++ line h n ∷ v) z) (q : suc (length a) ≤ 65535)
      (u : List ℕ) (p m : ℕ) where
    row_is : row_f t (length a) ≡ line h n
    row_is = rw e (row_at_lem z a (line h n) v)

    next_is : capped (length a) 1 ≡ length (a ++ line h n ∷ [])
    next_is = cap_one (length a) q ∙ sym (length_snoc a (line h n))

    pass : (s : ℕ) → s + n ≤ 65535
        → run (suc m) (scope_move_f u (length a) p (suc s)) ≡ run m (scope_move_f u (length (a ++ line h n ∷ [])) p (s + n))
    unfolding move_scope_f
    pass s i =
        turn m (scope_move_f u (length a) p (suc s)) (rw (some s) (and-false (eqb p 0)))
        ∙ rw (some s, row_is, next_is, one_less s, cap_sum s n i)

    enter : eqb (scope_of h) 0 ≡ true → p + n ≤ 65535
        → run (suc m) (scope_move_f u (length a) (suc p) 0) ≡ run m (scope_move_f u (length (a ++ line h n ∷ [])) (p + n) 0)
    unfolding move_scope_f
    enter c i = turn m (scope_move_f u (length a) (suc p) 0) (rw (some p)) ∙ rw (row_is, c, next_is, one_less p, cap_sum p n i)

    change : eqb (scope_of h) 0 ≡ false
        → run (suc m) (scope_move_f u (length a) (suc p) 0)
        ≡ run m (scope_move_f (change_scope_parent_f (in_scopes u x) (scope_of h) parent) (length (a ++ line h n ∷ [])) p n)
    unfolding move_scope_f
    change c = turn m (scope_move_f u (length a) (suc p) 0) (rw (some p)) ∙ rw (row_is, c, next_is, one_less p)

  -- ---- a list is passed over

  skip_list : (f : Forest) (a v : List Row) (u : List ℕ) (p s m : ℕ) → t ≡ table (a ++ (rows_of f ++ v)) z
      → length a + size f + s ≤ 65535
      → run (size f + m) (scope_move_f u (length a) p (count f + s)) ≡ run m (scope_move_f u (length a + size f) p s)
  unfolding rows_of count size
  skip_list none a v u p s m e i = simp (add-zero, zero-add)
  skip_list (more h k r) a v u p s m e i =
      let y = line h (count k) in
      let a₁ = a ++ y ∷ [] in
      let a₂ = a₁ ++ rows_of k in
      let l₁ = length_snoc a y in
      let l₂ : length a₂ ≡ length a + 1 + size k = omega (arith, length-append a₁ (rows_of k), length_rows k) in
      let c₁ = count_size k in
      let c₂ = count_size r in
      ap₂ (λ (i n : ℕ). run i (scope_move_f u (length a) p n)) (omega arith) (omega arith)
      ∙ pass h (count k) a (rows_of k ++ rows_of r ++ v) (e ∙ simp append_assoc) (omega arith) u p (size k + (size r + m)) (count r + s)
      (omega arith)
      ∙ ap (λ (n : ℕ). run (size k + (size r + m)) (scope_move_f u (length a₁) p n)) (omega arith)
      ∙ skip_list k a₁ (rows_of r ++ v) u p (count r + s) (size r + m) (e ∙ simp append_assoc) (omega arith)
      ∙ ap (λ (i : ℕ). run (size r + m) (scope_move_f u i p (count r + s))) (omega arith)
      ∙ skip_list r a₂ v u p s m (e ∙ simp append_assoc) (omega arith)
      ∙ ap (λ (i : ℕ). run m (scope_move_f u i p s)) (omega arith)

-- ---- a list moves

-- a state of the loop, with the scopes of a store
abbrev standing : List ℕ → Store → ℕ → ℕ → ScopeMoveF
standing zs st at p = scope_move_f (scope_cells st.scopes zs) at p 0

-- its scopes get the parent, in a store with these counters
abbrev Moves : List ℕ → List ℕ → List ℕ → Ctx → ℕ → Forest → Type 0
Moves zs z t x parent f =
    (st : Store) (a v : List Row) (p m : ℕ) → ctx_of st ≡ x → t ≡ table (a ++ (rows_of f ++ v)) z → length a + size f + p ≤ 65535
    → run z t x parent (size f + m) (standing zs st (length a) (count f + p))
    ≡ run z t x parent m (standing zs (move_scopes f parent st).1 (length a + size f) p)

module _ (zs z t : List ℕ) (x : Ctx) (parent : ℕ) where
  abbrev first : Bool → Head → Forest → Store → Store
  first b h k st = ((if b then move_scopes k parent else change_scope_parent (scope_of h) parent) st).1

  -- the first record of some with all below it, by whether it has no scope
  first_moves : (b : Bool) (h : Head) (k : Forest) → eqb (scope_of h) 0 ≡ b → Moves zs z t x parent k
      → (st : Store) (a v : List Row) (p m : ℕ) → ctx_of st ≡ x → t ≡ table (a ++ line h (count k) ∷ (rows_of k ++ v)) z
      → length a + suc (size k) + p ≤ 65535
      → run z t x parent (suc (size k + m)) (standing zs st (length a) (suc p))
      ≡ run z t x parent m (standing zs (first b h k st) (length a + suc (size k)) p)
  first_moves true h k c moves st a v p m o e i =
      let y = line h (count k) in
      let l = length_snoc a y in
      let cells = scope_cells st.scopes zs in
      let n = count_size k in
      enter z t x parent h (count k) a (rows_of k ++ v) e (omega arith) cells p (size k + m) c (omega arith)
      ∙ ap (λ (n : ℕ). run z t x parent (size k + m) (standing zs st (length (a ++ y ∷ [])) n)) (omega arith)
      ∙ moves st (a ++ y ∷ []) v p m o (e ∙ simp append_assoc) (omega arith)
      ∙ ap (λ (i : ℕ). run z t x parent m (standing zs (first true h k st) i p)) (omega arith)
  first_moves false h k c moves st a v p m o e i =
      let y = line h (count k) in
      let l = length_snoc a y in
      let cells = scope_cells st.scopes zs in
      let cells' = scope_cells (change_scope_parent (scope_of h) parent st).1.scopes zs in
      change z t x parent h (count k) a (rows_of k ++ v) e (omega arith) cells p (size k + m) c
      ∙ ap₂ (λ (u : List ℕ) (n : ℕ). run z t x parent (size k + m) (scope_move_f u (length (a ++ y ∷ [])) p n))
      (rw (← o) (parent_changed st (scope_of h) zs parent))
      (sym (add-zero (count k)))
      ∙ skip_list z t x parent k (a ++ y ∷ []) v cells' p 0 m (e ∙ simp append_assoc) (omega arith)
      ∙ ap (λ (i : ℕ). run z t x parent m (standing zs (first false h k st) i p)) (omega arith)

  list_moves : (f : Forest) → Moves zs z t x parent f
  unfolding rows_of count size move_scopes
  list_moves none st a v p m o e i = simp (add-zero, zero-add)
  list_moves (more h k r) st a v p m o e i =
      let y = line h (count k) in
      let b = eqb (scope_of h) 0 in
      let st₁ = first b h k st in
      let a₁ = a ++ y ∷ rows_of k in
      let l : length a₁ ≡ length a + suc (size k) = omega (arith, length-append a (y ∷ rows_of k), length_rows k) in
      let n = count_size r in
      let change = change_scope_parent (scope_of h) parent in
      let o₁ = either b (move_scopes k parent) change st (scopes_kept k parent st) (parent_kept (scope_of h) parent st) in
      ap₂ (λ (i n : ℕ). run z t x parent i (standing zs st (length a) n)) (omega arith) (omega arith)
      ∙ first_moves b h k refl (list_moves k) st a (rows_of r ++ v) (count r + p) (size r + m) o (e ∙ simp append_assoc) (omega arith)
      ∙ ap (λ (i : ℕ). run z t x parent (size r + m) (standing zs st₁ i (count r + p))) (sym l)
      ∙ list_moves r st₁ a₁ v p m (o₁.0 ∙ o) (e ∙ simp append_assoc) (omega arith)
      ∙ ap (λ (i : ℕ). run z t x parent m (standing zs (move_scopes r parent st₁).1 i p)) (omega arith)

-- ALL OUTERMOST SCOPES of a list in the table get a parent
module _ (zs z : List ℕ) (f : Forest) (a v : List Row) (t : List ℕ) (e : t ≡ table (a ++ (rows_of f ++ v)) z)
    (q : length a + size f ≤ 65535) where
  pub move_scopes_law : (st : Store) (parent : ℕ)
      → move_scopes_f t (scopes_held st zs) (length a) (count f) parent ≡ scope_cells (move_scopes f parent st).1.scopes zs
  unfolding move_scopes_f
  move_scopes_law st parent =
      let x = ctx_of st in
      let s = standing zs (move_scopes f parent st).1 (length a + size f) 0 in
      let m = 65535 - size f in
      ap (λ (w : ScopeMoveF). w.t)
      (ap₂ (λ (i n : ℕ). run z t x parent i (standing zs st (length a) n)) (omega arith) (sym (add-zero (count f)))
      ∙ list_moves zs z t x parent f st a v 0 m refl e (omega arith)
      ∙ sym (stopped m passed (move_scope_f t x parent) _ s refl refl))

  -- with a new scope as that parent
  pub insert_below_law : (st : Store) (scope : ℕ) → suc (length st.scopes) ≤ 65535
      → insert_scope_below_f t (scopes_held st (free_scopes 1 zs)) scope (length a) (count f) ≡ scopes_held (insert_scope_below scope f st).1 zs
  unfolding insert_scope_below_f insert_scope_below free_scopes
  insert_below_law st scope room =
      let st₁ = (create_child_scope scope 0 st).1 in
      let n = length st₁.scopes in
      rw (
        child_scope_made st 0 room (omega arith) scope 0 0 zs,
        child_scope_number st scope 0,
        move_scopes_law st₁ n,
        (scopes_kept f n st₁).0,
      )
