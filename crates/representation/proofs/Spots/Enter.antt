-- Entering the next record.
-- Assumes nothing.
use Rattle.std.specs.Prelude.{◌≡◌}
use Rattle.std.proofs.Math.Path.{refl, ap}
use Rattle.std.proofs.Common.{sym, ◌∙◌, length-append}
use mathlib.Core.List.{List, [], ◌∷◌, ◌++◌, append_assoc}
use Prim.Native.Nat.{ℕ, suc, ◌+◌, ◌-◌, ◌≤◌}
use Rattle.std.proofs.Math.Nat.{zero-add}
use native.Mathlib.Omega.{arith}
use Rattle.std.proofs.Math.ListN.{length}
use Rattle.meaning.specs.Tree.{Head, Forest, none, count, size}
use Rattle.meaning.specs.Scoping.{Store}
use Rattle.meaning.specs.Walk.{Crumb, crumb, at, settle, store_at}
use Rattle.tables.specs.Table.{cap_one, capped, row_f, set_column_f, move_row_f}
use Rattle.tables.specs.declared.Row.{Row}
use Rattle.path.specs.Path.{on_records, OpenRows, open_rows, stepped_f, with_inner_f, settle_f, count_down_f, open_row_f, enter_f}
use Rattle.path.specs.declared.Walk.{Walk}
use Rattle.representation.specs.Gap.Cells.{table, free, line, rows_of, gapped, length_rows}
use Rattle.representation.proofs.Gap.Rows.{set_left, move_row_gapped, next_gapped}
use Rattle.representation.specs.Store.Held.{ctx_of}
use Rattle.representation.specs.Spots.Spots.{open_line, open_rows_of, after_rows_of, opens_at, visited_at, rest_at, walk_at}
use Rattle.representation.proofs.Spots.Scopes.{same_number, depth_law, outer, under, inner_row, some_open, at_inner, inner_left}
use Rattle.representation.proofs.Spots.Settle.{records_at, records_in, settle_law}
use Rattle.representation.proofs.Spots.Lengths.{
  inner_length,
  after_length,
  visited_at_lem,
  rest_at_lem,
  visited_settled,
  rest_settled,
  store_settled,
  walk_eq,
}

-- one child less to enter
count_down : (path : List Crumb) (n l : ℕ) (v : List Row) (z : List ℕ)
    → count_down_f (table (open_rows_of path n (suc l) ++ v) z) (length (open_rows_of path n (suc l))) ≡ table (open_rows_of path n l ++ v) z
unfolding count_down_f open_rows_of
count_down [] n l v z = refl
count_down (crumb h before after ∷ path) n l v z =
    let inner = open_line h n (length (outer before after path)) (suc l) in
    let one_less : suc l - 1 ≡ l = omega arith in
    rw (some_open h before after path n (suc l), inner_left h before after path n (suc l) v z, one_less)
    (at_inner h before after path n (suc l) v z (λ t i. set_column_f t i 6 l)
    ∙ set_left z (under before after path) inner v l
    ∙ ap (λ (u : List Row). table u z) (sym (inner_row h before after path n l v)))

-- the steps of `enter_f`
enter_form : (t : List ℕ) (w : Walk) (t₁ t₂ : List ℕ) (x : Row) (o : OpenRows)
    → count_down_f t w.inner.0 ≡ t₁
    → row_f t₁ w.gap.0 ≡ x
    → move_row_f t₁ w.gap.0 w.visited.0 (open_row_f x w.inner.0) ≡ t₂
    → settle_f (capped w.visited.0 1) (open_rows t₂ (capped w.visited.0 1)) ≡ o
    → enter_f (on_records t w) ≡ on_records o.t (with_inner_f (stepped_f w) o.at)
unfolding enter_f stepped_f
enter_form t w t₁ t₂ x o e₁ e₂ e₃ e₄ = rw (e₁, e₂, e₃, e₄)

module _ (done : Forest) (h : Head) (k r : Forest) (path : List Crumb) (g : ℕ) (z : List ℕ) where
  -- the rows behind that of the record
  abbrev behind : List Row
  behind = (rows_of k ++ rows_of r) ++ after_rows_of path

  -- the rows once it counts as entered
  abbrev counting : List Row
  counting = under done r path ++ (free g ++ line h (count k) ∷ behind)

  counted : (st : Store)
      → (let s = at done h k r path st in
      count_down_f (table (visited_at s ++ (free g ++ rest_at s)) z) (length (opens_at s)) ≡ table counting z)
  unfolding visited_at rest_at opens_at rows_of
  counted st =
      let n = count done + suc (count r) in
      let v = free g ++ line h (count k) ∷ behind in
      rw (append_assoc (open_rows_of path n (suc (count r))) (rows_of done) v)
      (count_down path n (count r) (rows_of done ++ v) z
      ∙ ap (λ (u : List Row). table u z) (sym (append_assoc (outer done r path) (rows_of done) v)))

  -- and once it is open
  opened : (around : ℕ) → around ≡ length (outer done r path)
      → table (under done r path ++ open_line h (count k) around (count k) ∷ (free g ++ behind)) z
      ≡ (records_in none k (crumb h done r ∷ path) g z).t
  unfolding rows_of count after_rows_of
  opened around e =
      ap (λ (u : List Row). table u z) (rw (e, zero-add, inner_row h done r path (count k) (count k)) (simp append_assoc))

  -- THE NEXT RECORD IS ENTERED AS IT STANDS
  pub enter_law : (st : Store)
      → (let s = at done h k r path st in
      let s' = settle none k (crumb h done r ∷ path) st in
      length (visited_at s) + g + length (rest_at s) ≤ 65535
      → enter_f (on_records (table (visited_at s ++ (free g ++ rest_at s)) z) (walk_at s g))
      ≡ on_records (table (visited_at s' ++ (free g ++ rest_at s')) z) (walk_at s' g))
  unfolding walk_at with_inner_f stepped_f store_at size opens_at gapped
  enter_law st q =
      let s = at done h k r path st in
      let p = crumb h done r ∷ path in
      let s' = settle none k p st in
      let i = length (visited_at s) in
      let around = length (opens_at s) in
      let a = under done r path in
      let x = line h (count k) in
      let x' = open_line h (count k) around (count k) in
      let n = count done + suc (count r) in
      let n' = count none + count k in
      let l₁ = visited_at_lem st done h k r path n (count r) in
      let l₂ = rest_at_lem st done h k r path in
      let l₃ = inner_length h done r path n' (count k) in
      let l₄ = after_length h done r path in
      let l₅ = visited_settled st p none k n' (count k) in
      let l₆ = rest_settled st p none k in
      let l₇ = store_settled st p none k in
      let here : i ≡ length a = l₁ ∙ rw (length-append, length_rows) in
      let next : capped i 1 ≡ length (open_rows_of p n' (count k)) = cap_one i (omega arith) ∙ omega arith in
      enter_form
      _
      (walk_at s g)
      _
      _
      x
      (records_at s' g z)
      (counted st)
      (ap (λ (j : ℕ). row_f (table counting z) (j + g)) here ∙ next_gapped z a g x behind)
      (ap (λ (j : ℕ). move_row_f (table counting z) (j + g) j x') here
      ∙ move_row_gapped z a g x behind x'
      ∙ opened around (same_number path n (suc (count r)) n (count r)))
      (ap (λ (j : ℕ). settle_f (capped i 1) (open_rows (records_in none k p g z).t j)) next
      ∙ settle_law g z p none k st (capped i 1) (omega (arith, depth_law p n' (count k))))
      ∙ ap
      (on_records _)
      (walk_eq
      (omega arith)
      (cap_one (i + g) (omega arith) ∙ omega arith)
      (omega arith)
      refl
      (ap (λ (y : Store). ctx_of y) (sym l₇)))
