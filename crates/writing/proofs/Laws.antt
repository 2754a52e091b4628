-- The turns of the loops.
-- Assumes nothing.
use mathlib.Core.Path.{◌≡◌, sym, ap, ◌∙◌}
use mathlib.Core.List.{List, [], ◌∷◌, ◌++◌}
use Prim.Native.Nat.{ℕ, ◌+◌, ◌*◌, ◌-◌, ◌%◌, ◌≤◌, ◌<◌}
use native.Mathlib.Omega.{arith}
use lib.ListN.{length, take, drop, length-append, length-drop}
use lib.Seq.{sets, take-length}
use Rattle.meaning.specs.Numbers.Tag
use Rattle.meaning.specs.Tree.{Head}
use Rattle.meaning.specs.File.{settings_bytes, scope_bytes, symbol_bytes, numbers_of, field_bytes, two_bytes}
use Rattle.spec_laws.specs.Trees.{sets_++}
use Rattle.meaning.specs.Renumbering.{scope_named}
use Rattle.tables.specs.Loops.{one_less}
use Rattle.tables.specs.Table.{row_f, head_f, new_numbers_at}
use Rattle.tables.specs.declared.Row.{Row}
use Rattle.path.specs.declared.Walk.{Walk}
use Rattle.renumbering.specs.Numbers.{number_in, named_in, renumbered_row}
use Rattle.renumbering.specs.Laws.{named_most}
use Rattle.writing.specs.Writing.{most_bytes, field_with, scope_field, symbol_field, record_field, rows_bytes, list_bytes, record_at, file_bytes}
use Rattle.writing.specs.Stored.{scope_long, symbol_long, list_++, list_long, record_length, record_long, rows_turn, file_put}

-- ---- scopes

module _ (t : List ℕ) (new : ℕ → ℕ) (r : List ℕ) where
  abbrev scopes_from : ℕ → ℕ → List ℕ
  scopes_from k n = list_bytes (scope_field t new) (named_in r k n)

  pub scopes_turn : (q out out' : List ℕ) (at at' k n : ℕ) (row : Row) → q ≡ sets out at (scopes_from k (n - k)) → k < n → row ≡ row_f r k
      → out' ≡ sets out at (list_bytes (scope_field t new) (scope_named (head_f row))) → at' ≡ at + scope_bytes * length (scope_named (head_f row))
      → q ≡ sets out' at' (scopes_from (k + 1) (n - (k + 1)))
  unfolding named_in
  scopes_turn q out out' at at' k n row e l here o a =
      let xs = scope_named (head_f (row_f r k)) in
      let ys = named_in r (k + 1) (n - (k + 1)) in
      let field = scope_field t new in
      let next : at + length (list_bytes field xs) ≡ at' = omega (arith, list_long field scope_bytes (scope_long t new) xs, rw here at a) in
      (rw (one_less n k l) at e) ∙ ap (sets out at) (list_++ field xs ys) ∙ sets_++ (list_bytes field xs) (list_bytes field ys) out at ∙ rw (next, o, here)

  pub scopes_last : (q out : List ℕ) (at k n : ℕ) → q ≡ sets out at (scopes_from k (n - k)) → n ≤ k → out ≡ q
  unfolding named_in list_bytes
  scopes_last q out at k n e l = let d : n - k ≡ 0 = omega arith in rw d at (sym e)

-- the offset behind the row
module _ (r : List ℕ) where
  pub behind_turn : (end at at' k n : ℕ) (row : Row) → end ≡ at + scope_bytes * length (named_in r k (n - k)) → k < n → row ≡ row_f r k
      → at' ≡ at + scope_bytes * length (scope_named (head_f row)) → end ≡ at' + scope_bytes * length (named_in r (k + 1) (n - (k + 1)))
  unfolding named_in
  behind_turn end at at' k n row e l here a =
      let xs = scope_named (head_f (row_f r k)) in
      let ys = named_in r (k + 1) (n - (k + 1)) in
      omega (arith, rw (one_less n k l) at e, length-append xs ys, rw here at a)

  pub behind_last : (end at k n : ℕ) → end ≡ at + scope_bytes * length (named_in r k (n - k)) → n ≤ k → at ≡ end
  unfolding named_in
  behind_last end at k n e l = let d : n - k ≡ 0 = omega arith in omega (arith, rw d at e)

pub behind_most : (h : Head) (at at' k : ℕ) → at ≤ settings_bytes + scope_bytes * k → at' ≡ at + scope_bytes * length (scope_named h)
    → at' ≤ settings_bytes + scope_bytes * (k + 1)
behind_most h at at' k l e = omega (arith, named_most h)

-- ---- symbols

-- four numbers, and the fifth behind them
pub symbol_put : (a b c d v to : ℕ) (out : List ℕ)
    → sets (sets out to (field_with Tag.Symbol a b c d)) (to + 11) (two_bytes (v ∷ [])) ≡ sets out to (field_with Tag.Symbol a b c d ++ two_bytes (v ∷ []))
unfolding field_with numbers_of two_bytes
symbol_put a b c d v to out = sym (sets_++ (field_with Tag.Symbol a b c d) (two_bytes (v ∷ [])) out to)

pub first_symbol_lem : (t : List ℕ) (new : ℕ → ℕ) (out : List ℕ) (first n : ℕ)
    → sets out first (rows_bytes (symbol_field t new) 0 n) ≡ sets out (first + symbol_bytes * 0) (rows_bytes (symbol_field t new) 0 (n - 0))
first_symbol_lem t new out first n =
    let e : first + symbol_bytes * 0 ≡ first = omega arith in
    let d : n - 0 ≡ n = omega arith in
    rw (e, d)

pub symbols_turn : (t : List ℕ) (new : ℕ → ℕ) (r out out' : List ℕ) (first k n : ℕ)
    → r ≡ sets out (first + symbol_bytes * k) (rows_bytes (symbol_field t new) k (n - k)) → k < n
    → out' ≡ sets out (first + symbol_bytes * k) (symbol_field t new k)
    → r ≡ sets out' (first + symbol_bytes * (k + 1)) (rows_bytes (symbol_field t new) (k + 1) (n - (k + 1)))
symbols_turn t new r out out' first k n e h o =
    rows_turn (symbol_field t new) r out out' (first + symbol_bytes * k) (first + symbol_bytes * (k + 1)) k n e h o (omega (arith, symbol_long t new k))

-- ---- records

-- the offset behind a record
pub next_is : (at n : ℕ) (r : Row) → n ≡ field_bytes (r.tag % 32) → at + n ≡ at + length (record_field r)
unfolding field_bytes
next_is at n r e = omega (arith, record_length r)

pub next_whole : (at len : ℕ) (r : Row) → len ≡ 2 * numbers_of (r.tag % 32) → at + 1 + len + 2 ≡ at + length (record_field r)
next_whole at len r e = omega (arith, record_length r)

pub next_most : (at at' first k : ℕ) (r : Row) → at' ≡ at + length (record_field r) → at ≤ first + most_bytes * k → at' ≤ first + most_bytes * (k + 1)
next_most at at' first k r e h = omega (arith, record_long r)

pub records_turn : (t : List ℕ) (new : ℕ → ℕ) (r out out' : List ℕ) (at at' k n : ℕ) (x : Row)
    → r ≡ sets out at (rows_bytes (record_at t new) k (n - k)) → k < n
    → x ≡ renumbered_row new (row_f t k) → out' ≡ sets out at (record_field x) → at' ≡ at + length (record_field x)
    → r ≡ sets out' at' (rows_bytes (record_at t new) (k + 1) (n - (k + 1)))
records_turn t new r out out' at at' k n x e h d o a =
    rows_turn (record_at t new) r out out' at at' k n e h (rw d at o) (rw d at a)

-- ---- the file

-- the numbers behind the rows, lent
numbers_part : (s : List ℕ) (at : ℕ) → at ≡ new_numbers_at s → take (length s - at) (drop at s) ≡ drop (new_numbers_at s) s
numbers_part s at e = rw (← length-drop at s, take-length (drop at s), e)

-- its four parts, one behind another
pub file_stored : (r s y : List ℕ) (w : Walk) (at first : ℕ) (o₀ o₁ o₂ o₃ o₄ : List ℕ)
    → let x = w.ctx in
    let rows = w.visited.0 in
    let new = number_in (take (length s - at) (drop at s)) in
    at ≡ new_numbers_at s → o₁ ≡ sets o₀ 0 (field_with Tag.Settings x.mode x.esm 0 0)
    → o₂ ≡ sets o₁ settings_bytes (list_bytes (scope_field s new) (named_in r 0 rows)) → first ≡ settings_bytes + scope_bytes * length (named_in r 0 rows)
    → o₃ ≡ sets o₂ first (rows_bytes (symbol_field y new) 0 x.symbols)
    → o₄ ≡ sets o₃ (first + symbol_bytes * x.symbols) (rows_bytes (record_at r new) 0 rows) → o₄ ≡ sets o₀ 0 (file_bytes r s y w)
unfolding file_bytes
file_stored r s y w at first o₀ o₁ o₂ o₃ o₄ e e₁ e₂ f e₃ e₄ =
    let new = number_in (drop (new_numbers_at s) s) in
    let rows = w.visited.0 in
    rw (e₄, e₃, e₂, e₁, f, numbers_part s at e)
    (file_put (named_in r 0 rows) w.ctx.symbols rows (scope_field s new) (symbol_field y new) (record_at r new) w.ctx.mode w.ctx.esm o₀ (scope_long s new) (symbol_long y new))
