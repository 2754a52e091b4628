-- Rows stored one after the other in a cleared table.
-- Assumes nothing.
use Rattle.std.specs.Prelude.{◌≡◌, length, set, replicate}
use Rattle.std.proofs.Math.Path.{refl, ap}
use Rattle.std.proofs.Common.{sym, ◌∙◌}
use mathlib.Core.List.{List, [], ◌∷◌, ◌++◌, append_assoc}
use Prim.Native.Nat.{ℕ, zero, suc, ◌+◌, ◌*◌, ◌-◌, ◌≤◌}
use Rattle.std.proofs.Math.Numerals.{add-one}
use native.Mathlib.Omega.{arith}
use Rattle.std.proofs.Math.ListN.{length-append}
use Rattle.std.proofs.lemmas.List.{replicate-append-replicate}
use Rattle.std.proofs.Math.Seq.{set_at}
use Rattle.tables.specs.Columns.ScopeTable
use Rattle.tables.specs.Columns.SymbolTable
use Rattle.meaning.specs.File.{scope_bytes, symbol_bytes}
use Rattle.meaning.specs.Grammar.{two, parent_in}
use Rattle.meaning.specs.Reading.{scopes_in, symbols_in}
use Rattle.tables.specs.Loops.{turns}
use Rattle.representation.specs.Store.Held.{scope_cells, symbol_cells}
use Rattle.start.specs.Flat.{cleared, storing, scope_into_f, next_scope, scopes_f, symbol_into_f, next_symbol, symbols_f}

-- ---- cleared rows

-- n rows of w numbers, and what is behind them
unfoldable pub blank : ℕ → ℕ → List ℕ → List ℕ
blank w zero z = z
blank w (suc n) z = replicate w 0 ++ blank w n z

blank_is : (w n z : ℕ) → blank w n (replicate z 0) ≡ replicate (n * w + z) 0
unfolding blank
blank_is w zero z = let d : 0 * w + z ≡ z = omega arith in rw d
blank_is w (suc n) z =
    let d : suc n * w + z ≡ w + (n * w + z) = omega arith in
    rw (d, blank_is w n z) (replicate-append-replicate {A = ℕ} w (n * w + z) 0)

pub cleared_is : (w n : ℕ) (t : List ℕ) → n * w ≤ length t → cleared t ≡ blank w n (replicate (length t - n * w) 0)
cleared_is w n t h = let d : n * w + (length t - n * w) ≡ length t = omega arith in sym (rw d at (blank_is w n (length t - n * w)))

-- ---- behind some numbers

set_past : (a t : List ℕ) (n i v : ℕ) → length a ≡ n → set (a ++ t) (n + i) v ≡ a ++ set t i v
set_past [] t n i v e = let d : n + i ≡ i = omega arith in rw d
set_past (x ∷ a) t n i v e =
    let d : n + i ≡ suc (length a + i) = omega arith in
    rw d (ap (λ (l : List ℕ). x ∷ l) (set_past a t (length a) i v refl))

-- ---- scope rows

module _ (f : List ℕ) where
  scope_into : (a z : List ℕ) (k : ℕ) → length a ≡ k * ScopeTable.Numbers
      → scope_into_f f (a ++ 0 ∷ 0 ∷ z) k ≡ a ++ two f (scope_bytes * (k + 1) + 3) ∷ two f (scope_bytes * (k + 1) + 5) ∷ z
  unfolding scope_into_f
  scope_into a z k e =
      let v = two f (scope_bytes * (k + 1) + 3) in
      rw (set_at a 0 (0 ∷ z) v (k * ScopeTable.Numbers) e) (set_past a (v ∷ 0 ∷ z) (k * ScopeTable.Numbers) 1 (two f (scope_bytes * (k + 1) + 5)) e)

  scopes_from_lem : (n k : ℕ) (a z : List ℕ) → length a ≡ k * ScopeTable.Numbers
      → (turns n (next_scope f) (storing (a ++ blank 2 n z) k)).t ≡ a ++ scope_cells (scopes_in f n (k + 1)) z
  unfolding turns blank next_scope scopes_in scope_cells parent_in
  scopes_from_lem zero k a z e = refl
  scopes_from_lem (suc n) k a z e =
      let v = two f (scope_bytes * (k + 1) + 3) in
      let w = two f (scope_bytes * (k + 1) + 5) in
      let i = scopes_from_lem n (k + 1) (a ++ v ∷ w ∷ []) z (omega (arith, length-append a (v ∷ w ∷ []))) in
      ap (λ (t : List ℕ). (turns n (next_scope f) (storing t (k + 1))).t) (scope_into a (blank 2 n z) k e)
      ∙ (rw (append_assoc a (v ∷ w ∷ []) (blank 2 n z), append_assoc, add-one (k + 1)) at i)

  pub scopes_are : (n : ℕ) (t : List ℕ) → n * 2 ≤ length t
      → scopes_f f n (cleared t) ≡ scope_cells (scopes_in f n 1) (replicate (length t - 2 * n) 0)
  unfolding scopes_f
  scopes_are n t h =
      let d : 2 * n ≡ n * 2 = omega arith in
      rw (d, cleared_is 2 n t h) (scopes_from_lem n 0 [] (replicate (length t - n * 2) 0) refl)

-- ---- symbol rows

module _ (f : List ℕ) (first : ℕ) where
  symbol_into : (a z : List ℕ) (k : ℕ) → length a ≡ k * SymbolTable.Numbers
      → symbol_into_f f first (a ++ 0 ∷ 0 ∷ 0 ∷ 0 ∷ 0 ∷ z) k
      ≡ a ++ two f (first + symbol_bytes * k + 3) ∷ two f (first + symbol_bytes * k + 5) ∷ two f (first + symbol_bytes * k + 7) ∷ two f (first + symbol_bytes * k + 9)
      ∷ two f (first + symbol_bytes * k + 7) ∷ z
  unfolding symbol_into_f
  symbol_into a z k e =
      let at = first + symbol_bytes * k in
      let v = two f (at + 3) in
      let w = two f (at + 5) in
      let x = two f (at + 7) in
      let y = two f (at + 9) in
      rw (
        set_at a 0 (0 ∷ 0 ∷ 0 ∷ 0 ∷ z) v (k * SymbolTable.Numbers) e,
        set_past a (v ∷ 0 ∷ 0 ∷ 0 ∷ 0 ∷ z) (k * SymbolTable.Numbers) 1 w e,
        set_past a (v ∷ w ∷ 0 ∷ 0 ∷ 0 ∷ z) (k * SymbolTable.Numbers) 2 x e,
        set_past a (v ∷ w ∷ x ∷ 0 ∷ 0 ∷ z) (k * SymbolTable.Numbers) 3 y e,
      ) (set_past a (v ∷ w ∷ x ∷ y ∷ 0 ∷ z) (k * SymbolTable.Numbers) 4 x e)

  symbols_from : (n k : ℕ) (a z : List ℕ) → length a ≡ k * SymbolTable.Numbers
      → (turns n (next_symbol f first) (storing (a ++ blank 5 n z) k)).t
      ≡ a ++ symbol_cells (symbols_in f n (first + symbol_bytes * k)) (symbols_in f n (first + symbol_bytes * k)) z
  unfolding turns blank next_symbol symbols_in symbol_cells
  symbols_from zero k a z e = refl
  symbols_from (suc n) k a z e =
      let at = first + symbol_bytes * k in
      let row = two f (at + 3) ∷ two f (at + 5) ∷ two f (at + 7) ∷ two f (at + 9) ∷ two f (at + 7) ∷ [] in
      let d : first + symbol_bytes * (k + 1) ≡ at + symbol_bytes = omega arith in
      let i = symbols_from n (k + 1) (a ++ row) z (omega (arith, length-append a row)) in
      ap (λ (t : List ℕ). (turns n (next_symbol f first) (storing t (k + 1))).t) (symbol_into a (blank 5 n z) k e)
      ∙ (rw (append_assoc a row (blank 5 n z), append_assoc, d) at i)

  pub symbols_are : (n : ℕ) (t : List ℕ) → n * SymbolTable.Numbers ≤ length t
      → symbols_f f first n (cleared t) ≡ symbol_cells (symbols_in f n first) (symbols_in f n first) (replicate (length t - SymbolTable.Numbers * n) 0)
  unfolding symbols_f
  symbols_are n t h =
      let d : SymbolTable.Numbers * n ≡ n * SymbolTable.Numbers = omega arith in
      let e : first + symbol_bytes * 0 ≡ first = omega arith in
      rw (d, cleared_is 5 n t h) (rw e at (symbols_from n 0 [] (replicate (length t - n * SymbolTable.Numbers) 0) refl))
