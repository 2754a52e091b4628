-- Figures are equal if each of them is; charges one after another add up.
-- Assumes nothing.
use Rattle.std.specs.Prelude.{◌≡◌, List, [], ◌∷◌, ◌++◌}
use Rattle.std.proofs.Common.{arith}
use Rattle.meaning.specs.Charges.{Line, Figures, ◌⊕◌, total}

abbrev pub Same : Figures → Figures → Type 0
Same x y =
    (x.records ≡ y.records) × (x.scopes ≡ y.scopes) × (x.symbols ≡ y.symbols)
    × (x.contexts ≡ y.contexts) × (x.bytes ≡ y.bytes)

pub figures_same : (x y : Figures) → Same x y → x ≡ y
figures_same x y e = λ i. record { records = e.0 i; scopes = e.1 i; symbols = e.2 i; contexts = e.3 i; bytes = e.4 i }

pub total_++ : (xs zs : List Line) → Same (total (xs ++ zs)) (total xs ⊕ total zs)
unfolding total
total_++ [] zs = omega arith
total_++ (x ∷ xs) zs = omega (arith, total_++ xs zs)
