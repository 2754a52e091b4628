-- ROWS IN OTHER BYTES: settings, scope rows and symbol rows are read as before where all bytes up to the one behind them are the same.
-- Assumes nothing.
use Rattle.meaning.specs.declared.Reason.TheVariants as Reason
use Rattle.meaning.specs.Refusals.{Outcome, refused}
use Rattle.std.specs.Prelude.{Ok, Err, if◌then◌else◌, ◌≡◌, Bool, ◌||◌, length, get_or}
use Rattle.std.proofs.Math.Path.{refl, ap, ap₂}
use Rattle.std.proofs.Common.{sym, ◌∙◌, true≢false, arith}
use Rattle.std.proofs.Math.Bool.{true, false}
use mathlib.Core.List.{List, ◌∷◌}
use Prim.Native.Nat.{ℕ, zero, suc, ◌+◌, ◌*◌, ◌≤◌}
use Rattle.std.proofs.Math.Dec.{eqb}
use Rattle.meaning.specs.Numbers.Tag
use Rattle.meaning.specs.File.{Scope, scope_row, Symbol}
use Rattle.meaning.specs.Grammar.{two, field_of, field_at, scope_right, symbol_right, parent_in}
use Rattle.meaning.specs.Reading.{◌>>=◌, rows_read, judged, scope_at, symbol_at, read_rows, most_rows, most_symbols, read_scopes, read_symbols, scopes_in, symbols_in, wrong_count}
use Rattle.meaning.specs.declared.Place.{Place}
use Rattle.meaning.specs.declared.Place.TheVariants.{ScopeRow, SymbolRow}
use Rattle.meaning.specs.declared.Field.{Field}
use Rattle.meaning.specs.declared.Rows.{Rows}
use Rattle.parsing.specs.Fields.{field_is}
use Rattle.parsing.specs.Accepted.{field_whole}
use Rattle.one_word_laws.proofs.SameBytes.{SameFrom, two_same, field_same, at_same}

-- ---- rows of any kind

-- the offset behind rows, if they are read
abbrev behind_of : Outcome Rows → ℕ
behind_of (Ok q) = q.next
behind_of (Err r) = 0

abbrev is_read : Outcome Rows → Bool
is_read (Ok q) = true
is_read (Err r) = false

-- Each row that ends by `last` is read by the second as by the first, and goes forward; so do the tests whether there is one more.
module _ (again again' : ℕ → ℕ → Bool) (one one' : ℕ → ℕ → Outcome Field) (k' last : ℕ)
    (tests : (k at : ℕ) → at ≤ last → again k at ≡ again' k at)
    (rows : (k at : ℕ) (x : Field) → one k at ≡ Ok x → x.next ≤ last → one' k at ≡ Ok x)
    (forward : (k at : ℕ) (x : Field) → one k at ≡ Ok x → at ≤ x.next) where
  abbrev Again : ℕ → ℕ → ℕ → Type 0
  Again n k at = (at ≤ last) × (read_rows again' one' n k at ≡ Ok (rows_read k' last))

  row_again : (n k at : ℕ) (d : Outcome Field) → one k at ≡ d → again k at ≡ true → (d >>= (λ x. read_rows again one n (k + 1) x.next)) ≡ Ok (rows_read k' last)
      → ((x : Field) → read_rows again one n (k + 1) x.next ≡ Ok (rows_read k' last) → Again n (k + 1) x.next) → Again (suc n) k at
  unfolding read_rows
  row_again n k at (Ok x) is more e inner =
      let (low, rest) = inner x e in
      let here : at ≤ last = omega (arith, forward k at x is) in
      (here, rw (← tests k at here, more, rows k at x is low) rest)
  row_again n k at (Err r) is more e inner = absurd (true≢false (sym (ap is_read e)))

  step_again : (n k at : ℕ) (b : Bool) → again k at ≡ b → (if b then one k at >>= (λ x. read_rows again one n (k + 1) x.next) else Ok (rows_read k at)) ≡ Ok (rows_read k' last)
      → ((x : Field) → read_rows again one n (k + 1) x.next ≡ Ok (rows_read k' last) → Again n (k + 1) x.next) → Again (suc n) k at
  unfolding read_rows
  step_again n k at true is e inner = row_again n k at (one k at) refl is e inner
  step_again n k at false is e inner =
      let here : at ≤ last = omega (arith, ap behind_of e) in
      (here, rw (← tests k at here, is) e)

  rows_again : (n k at : ℕ) → read_rows again one n k at ≡ Ok (rows_read k' last) → Again n k at
  unfolding read_rows
  rows_again zero k at e = (omega (arith, ap behind_of e), e)
  rows_again (suc n) k at e = step_again n k at (again k at) refl e (λ x. rows_again n (k + 1) x.next)

-- ---- the fields of rows

-- a field that passes its test is read whole
whole_inside : (test : Field → Bool) (at : ℕ) (d : Outcome Field) (x : Field) → judged test at d ≡ Ok x → (d ≡ Ok x) × (test x ≡ true)
whole_inside test at (Ok z) x e = go (test z) refl e
  where
    go : (b : Bool) → test z ≡ b → ◌≡◌ {A = Outcome Field} (if b then Ok z else refused Reason.WrongNumber at) (Ok x) → (◌≡◌ {A = Outcome Field} (Ok z) (Ok x)) × (test x ≡ true)
    go true is e = let same : z ≡ x = cc in (e, rw (← same) is)
    go false is e = (cc, cc)
whole_inside test at (Err r) x e = (cc, cc)

module _ (f g : List ℕ) (long : length f ≡ length g) (last : ℕ) (same : SameFrom f g 0 (last + 1)) where
  same_on : (at : ℕ) → SameFrom f g at (last + 1)
  same_on at j l u = same j (omega arith) u

  field_again : (p : Place) (at : ℕ) (x : Field) → field_at f p at ≡ Ok x → x.next ≤ last → field_at g p at ≡ Ok x
  field_again p at x e u =
      let (is, y) = field_is f p at x e in
      let ends : (field_of f at).next ≤ last + 1 = omega (arith, ap (λ (x : Field). x.next) is) in
      field_whole (at_same f g p at (last + 1) long (same_on at) ends y)
      ∙ ap Ok (sym (field_same f g at (last + 1) (same_on at) ends) ∙ sym is)

  judged_again : (test : Field → Bool) (p : Place) (at : ℕ) (x : Field) → judged test at (field_at f p at) ≡ Ok x → x.next ≤ last
      → judged test at (field_at g p at) ≡ Ok x
  judged_again test p at x e u =
      let (whole, right) = whole_inside test at (field_at f p at) x e in
      rw (field_again p at x whole u, right)

  judged_forward : (test : Field → Bool) (p : Place) (at : ℕ) (x : Field) → judged test at (field_at f p at) ≡ Ok x → at ≤ x.next
  judged_forward test p at x e =
      let (is, y) = field_is f p at x (whole_inside test at (field_at f p at) x e).0 in
      omega (arith, ap (λ (x : Field). x.next) is, y.bytes)

  -- ---- scope rows and symbol rows

  tag_again : (t at : ℕ) → at ≤ last → eqb (get_or f at 0) t ≡ eqb (get_or g at 0) t
  tag_again t at u = ap (λ (x : ℕ). eqb x t) (same at (omega arith) (omega arith))

  pub scopes_again : (from k : ℕ) → read_scopes f from ≡ Ok (rows_read k last) → read_scopes g from ≡ Ok (rows_read k last)
  unfolding read_scopes scope_at
  scopes_again from k e =
      (rows_again (λ k at. eqb k 0 || eqb (get_or f at 0) Tag.Scope) (λ k at. eqb k 0 || eqb (get_or g at 0) Tag.Scope)
      (λ k at. judged (scope_right k) at (field_at f ScopeRow at)) (λ k at. judged (scope_right k) at (field_at g ScopeRow at))
      k last
      (λ k at u. ap (λ (b : Bool). eqb k 0 || b) (tag_again Tag.Scope at u))
      (λ k at x. judged_again (scope_right k) ScopeRow at x)
      (λ k at x. judged_forward (scope_right k) ScopeRow at x)
      most_rows 0 from e).1

  pub symbols_again : (scopes from k : ℕ) → read_symbols f scopes from ≡ Ok (rows_read k last) → read_symbols g scopes from ≡ Ok (rows_read k last)
  unfolding read_symbols symbol_at
  symbols_again scopes from k e =
      (rows_again (λ k at. eqb (get_or f at 0) Tag.Symbol) (λ k at. eqb (get_or g at 0) Tag.Symbol)
      (λ k at. judged (symbol_right scopes) at (field_at f SymbolRow at)) (λ k at. judged (symbol_right scopes) at (field_at g SymbolRow at))
      k last
      (λ k at u. tag_again Tag.Symbol at u)
      (λ k at x. judged_again (symbol_right scopes) SymbolRow at x)
      (λ k at x. judged_forward (symbol_right scopes) SymbolRow at x)
      most_symbols 0 from e).1

  -- ---- what they say

  two_on : (j : ℕ) → j + 1 ≤ last → two f j ≡ two g j
  two_on j u = two_same f g 0 (last + 1) same j (omega arith) (omega arith)

  pub parent_again : (s : ℕ) → 7 * s + 4 ≤ last → parent_in f s ≡ parent_in g s
  unfolding parent_in
  parent_again s u = two_on (7 * s + 3) (omega arith)

  pub scope_rows_again : (n s : ℕ) → 7 * (s + n) ≤ last → scopes_in f n s ≡ scopes_in g n s
  unfolding scopes_in
  scope_rows_again zero s u = refl
  scope_rows_again (suc n) s u =
      ap₂ ◌∷◌ (ap₂ scope_row (parent_again s (omega arith)) (two_on (7 * s + 5) (omega arith))) (scope_rows_again n (suc s) (omega arith))

  pub symbol_rows_again : (n at : ℕ) → at + 13 * n ≤ last → symbols_in f n at ≡ symbols_in g n at
  unfolding symbols_in
  symbol_rows_again zero at u = refl
  symbol_rows_again (suc n) at u =
      rw (
        two_on (at + 3) (omega arith),
        two_on (at + 5) (omega arith),
        two_on (at + 7) (omega arith),
        two_on (at + 9) (omega arith),
        symbol_rows_again n (at + 13) (omega arith),
      )

  pub counts_again : (count count' : ℕ → ℕ) → ((y : ℕ) → count y ≡ count' y) → (n y at : ℕ) → at + 13 * n ≤ last
      → wrong_count f count n y at ≡ wrong_count g count' n y at
  unfolding wrong_count
  counts_again count count' e zero y at u = refl
  counts_again count count' e (suc n) y at u =
      rw (two_on (at + 11) (omega arith), e y, counts_again count count' e n (suc y) (at + 13) (omega arith))
