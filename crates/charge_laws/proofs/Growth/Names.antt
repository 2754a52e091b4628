-- Changes of the store keep the names of its symbol rows, the helper's among them.
-- Assumes nothing.
use Rattle.std.specs.Prelude.{◌≡◌, refl, false, List, [], ◌∷◌, ◌++◌, ℕ, zero, suc, ◌≤◌, ◌<◌, length, get_or, set, eqb}
use Rattle.std.proofs.Common.{ap, ◌∙◌, arith}
use Rattle.meaning.specs.Numbers.KnownName
use Rattle.meaning.specs.File.{Symbol}
use Rattle.meaning.specs.Scoping.{Store, no_symbol, row_at, set_row, symbol_in}

abbrev pub SameName : Symbol → Symbol → Type 0
SameName x y = (x.name ≡ y.name) × (x.made ≡ y.made)

-- each row has the name that it had
abbrev pub NamesKept : List Symbol → List Symbol → Type 0
NamesKept xs ys = (i : ℕ) → i ≤ length xs → SameName (row_at no_symbol ys i) (row_at no_symbol xs i)

pub same_names : (xs : List Symbol) → NamesKept xs xs
same_names xs i l = (refl, refl)

-- ---- a new row

get_d_front : (xs : List Symbol) (y : Symbol) (i : ℕ) → i < length xs → get_or (xs ++ y ∷ []) i no_symbol ≡ get_or xs i no_symbol
get_d_front [] y i l = absurd (omega arith)
get_d_front (x ∷ xs) y zero l = refl
get_d_front (x ∷ xs) y (suc i) l = get_d_front xs y i (omega arith)

pub get_d_last : (xs : List Symbol) (y : Symbol) → get_or (xs ++ y ∷ []) (length xs) no_symbol ≡ y
get_d_last [] y = refl
get_d_last (x ∷ xs) y = get_d_last xs y

pub new_names : (xs : List Symbol) (y : Symbol) → NamesKept xs (xs ++ y ∷ [])
new_names xs y zero l = (refl, refl)
new_names xs y (suc i) l =
    let e = get_d_front xs y i (omega arith) in
    (ap (λ (x : Symbol). x.name) e, ap (λ (x : Symbol). x.made) e)

-- ---- a row that changes, but for its name

module _ (g : Symbol → Symbol) (same : (y : Symbol) → SameName (g y) y) where
  set_names : (xs : List Symbol) (j i : ℕ) → SameName (get_or (set xs j (g (get_or xs j no_symbol))) i no_symbol) (get_or xs i no_symbol)
  set_names [] j i = (refl, refl)
  set_names (x ∷ xs) zero zero = same x
  set_names (x ∷ xs) zero (suc i) = (refl, refl)
  set_names (x ∷ xs) (suc j) zero = (refl, refl)
  set_names (x ∷ xs) (suc j) (suc i) = set_names xs j i

  pub row_names : (xs : List Symbol) (y : ℕ) → NamesKept xs (set_row xs y (g (row_at no_symbol xs y)))
  row_names xs zero i l = (refl, refl)
  row_names xs (suc j) zero l = (refl, refl)
  row_names xs (suc j) (suc i) l = set_names xs j i

-- ---- the helper's row

-- Once the helper's symbol is made, it is a row on `using_ctx` with a made name.
abbrev pub HelperRow : Store → Type 0
HelperRow st =
    eqb st.helper 0 ≡ false
    → (st.helper ≤ length st.symbols) × ((symbol_in st st.helper).name ≡ KnownName.UsingCtx) × ((symbol_in st st.helper).made ≡ 1)

pub row_kept : (st st' : Store) → st'.helper ≡ st.helper → length st.symbols ≤ length st'.symbols → NamesKept st.symbols st'.symbols
    → HelperRow st → HelperRow st'
row_kept st st' h l n r e =
    let q = r (rw h at e) in
    rw h (omega (arith, q.0), (n st.helper q.0).0 ∙ q.1, (n st.helper q.0).1 ∙ q.2)
