-- The symbol rows of a file, one by one. Assumes nothing.
use Rattle.std.specs.Prelude.{if◌then◌else◌}
use Rattle.std.specs.Bool.{MatchBool}
use Rattle.std.specs.List.{range_with_len, AllWithin, HoldsAt}
use Rattle.std.proofs.lemmas.List.FromFn.{length-range_with_len, get_or-range_with_len}
use mathlib.Core.Path.{◌≡◌, refl, sym, ◌∙◌}
use mathlib.Core.Bool.{Bool, true, false, not}
use mathlib.Core.List.{List, [], ◌∷◌}
use Prim.Native.Nat.compare
use Prim.Native.Nat.{ℕ, zero, suc, ◌+◌, ◌*◌, ◌-◌, ◌≤◌, ◌<◌}
use native.Mathlib.Numerals.{add-one}
use native.Mathlib.Omega.{arith}
use lib.ListN.{length, get_or}
use lib.Dec.{eqb, leb}
use borrow.Author.Tests.{ne_eqb, le-leb, lt-leb}
use Rattle.meaning.specs.File.{symbol_bytes, Symbol}
use Rattle.meaning.specs.Grammar.{is_row}
use Rattle.meaning.specs.Reading.{symbols_in}
use Rattle.meaning.specs.Scoping.{no_symbol, row_at, binds, last_binding, get_binding}
use Rattle.figures.specs.Tally.{symbol_in_row}

-- once a row is found, one stays found
found_or : (b : Bool) (i found : ℕ) → (found ≡ 0 → ⊥) → (if b then suc i else found) ≡ 0 → ⊥
found_or true i found h = λ e. omega (arith, e)
found_or false i found h = h

stays : (ys : List Symbol) (scope name i found : ℕ) → (found ≡ 0 → ⊥) → last_binding ys scope name (suc i) found ≡ 0 → ⊥
unfolding last_binding
stays [] scope name i found h = h
stays (y ∷ ys) scope name i found h = stays ys scope name (suc i) _ (found_or (binds y scope name) i found h)

module _ (f : List ℕ) (at n scope name : ℕ) where
  -- the last of n rows that binds a name, where `found` is the last one before row i
  abbrev pub binding_from : ℕ → ℕ → ℕ
  binding_from i found = last_binding (symbols_in f (n - i) (at + symbol_bytes * i)) scope name (suc i) found

  pub binding_first : get_binding (symbols_in f n at) scope name ≡ binding_from 0 0
  binding_first =
      let s : n - 0 ≡ n = omega arith in
      let e : at + symbol_bytes * 0 ≡ at = omega arith in
      rw (s, e)

  binding_turn : (i found more : ℕ)
      → i < n → more ≡ (if binds (symbol_in_row f at i) scope name then i + 1 else found) → binding_from i found ≡ binding_from (i + 1) more
  unfolding symbols_in last_binding
  binding_turn i found more h e =
      let s : n - i ≡ suc (n - (i + 1)) = omega arith in
      let t : at + symbol_bytes * i + symbol_bytes ≡ at + symbol_bytes * (i + 1) = omega arith in
      rw (s, t, e, add-one)

  pub binding_last : (i found : ℕ) → n ≤ i → binding_from i found ≡ found
  unfolding symbols_in last_binding
  binding_last i found h = let s : n - i ≡ 0 = omega arith in rw s

  binding_found : (i found : ℕ) → (found ≡ 0 → ⊥) → binding_from i found ≡ 0 → ⊥
  binding_found i found h = stays (symbols_in f (n - i) (at + symbol_bytes * i)) scope name i found h

  abbrev pub binds_at : ℕ → Bool
  binds_at i = binds (symbol_in_row f at i) scope name

  binding_here : (i found : ℕ) → i < n → binds_at i ≡ true → binding_from i found ≡ 0 → ⊥
  binding_here i found h b e =
      let here : i + 1 ≡ (if binds_at i then i + 1 else found) = rw b refl in
      binding_found (i + 1) (i + 1) (λ q. omega (arith, q)) (sym (binding_turn i found (i + 1) h here) ∙ e)

  -- a row that binds the name is found, so many rows on
  binding_on : (d i k found : ℕ) → i + d ≡ k → k < n → binds_at k ≡ true → binding_from i found ≡ 0 → ⊥
  binding_on zero i k found s h b e =
      let j : k ≡ i = omega arith in
      binding_here i found (omega arith) (rw j at b) e
  binding_on (suc d) i k found s h b e =
      binding_on d (i + 1) k _ (omega arith) h b (sym (binding_turn i found (if binds_at i then i + 1 else found) (omega arith) refl) ∙ e)

  -- where no row binds it, none is found
  binding_none : (d i : ℕ) → i + d ≡ n → ((k : ℕ) → k < n → binds_at k ≡ false) → binding_from i 0 ≡ 0
  binding_none zero i s away = binding_last i 0 (omega arith)
  binding_none (suc d) i s away =
      let l : i < n = omega arith in
      let here : 0 ≡ (if binds_at i then i + 1 else 0) = rw (away i l) refl in
      binding_turn i 0 0 l here ∙ binding_none d (i + 1) (omega arith) away

  pub any_bound : (r : Bool) → MatchBool r
      ((k : ℕ) × (k < length (range_with_len 0 n)) × HoldsAt (λ i. binds_at i ≡ true) (range_with_len 0 n) k)
      (AllWithin (λ i. binds_at i ≡ false) (range_with_len 0 n) 0 (length (range_with_len 0 n))) → r ≡ not (eqb (get_binding (symbols_in f n at) scope name) 0)
  any_bound true (k, l, h) =
      let m : k < n = omega (arith, l, length-range_with_len 0 n) in
      let e : get_or (range_with_len 0 n) k 0 ≡ k = get_or-range_with_len 0 n k 0 m ∙ omega arith in
      let b : binds_at k ≡ true = rw e at (h 0) in
      rw (binding_first, ne_eqb (binding_from 0 0) 0 (binding_on k 0 k 0 (omega arith) m b))
  any_bound false h =
      let away : (k : ℕ) → k < n → binds_at k ≡ false = λ k m.
      let e : get_or (range_with_len 0 n) k 0 ≡ k = get_or-range_with_len 0 n k 0 m ∙ omega arith in
      rw e at (h k 0 (omega arith) (omega (arith, m, length-range_with_len 0 n))) in
      rw (binding_first, binding_none n 0 (omega arith) away)

-- a number of row y, or of no symbol where there is no such row
module _ (f : List ℕ) (g : Symbol → ℕ) where
  row_from : (n at i : ℕ) → g (get_or (symbols_in f n at) i no_symbol) ≡ (if leb (suc i) n then g (symbol_in_row f at i) else g no_symbol)
  unfolding symbols_in
  row_from zero at i = rw (lt-leb (suc i) 0 (omega arith))
  row_from (suc n) at zero = let e : at + symbol_bytes * 0 ≡ at = omega arith in rw (le-leb 1 (suc n) (omega arith), e)
  row_from (suc n) at (suc i) =
      let e : at + symbol_bytes * suc i ≡ at + symbol_bytes + symbol_bytes * i = omega arith in
      rw (compare.suc-suc (suc i) n, e) (row_from n (at + symbol_bytes) i)

  pub row_number : (n at y : ℕ) → g (row_at no_symbol (symbols_in f n at) y) ≡ (if is_row n y then g (symbol_in_row f at (y - 1)) else g no_symbol)
  row_number n at zero = refl
  row_number n at (suc i) =
      let e : suc i - 1 ≡ i = omega arith in
      rw (le-leb 1 (suc i) (omega arith), e) (row_from n at i)
