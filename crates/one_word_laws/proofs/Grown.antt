-- HOW CHARGES GROW with a changed word, without the helper and the import line: a context at most, and the calls of its initializers.
-- Assumes nothing.
use Rattle.std.specs.Prelude.{if◌then◌else◌, ◌≡◌, refl, Bool, true, false, List, [], ◌∷◌, ◌++◌, ℕ, ◌+◌, ◌*◌, ◌≤◌}
use Rattle.std.proofs.Common.{arith}
use Rattle.meaning.specs.Charges.{
  ContextKind,
  of_block,
  of_body,
  of_static_block,
  of_try_part,
  of_for,
  of_switch,
  Line,
  context,
  wrapped,
  Figures,
  ◌⊕◌,
  call_bytes,
  context_charge,
  line_charge,
  total,
}
use Rattle.spec_laws.specs.Figures.{total_++}
use Rattle.one_word_laws.specs.Changed.{most_records, most_scopes}

-- of a context, without the helper
abbrev context_symbols : ℕ
context_symbols = 2

abbrev most_context_bytes : ℕ
most_context_bytes = 144

-- x grows to y by n initializers, and at most by a context's records and scopes, and by so many symbols and bytes
abbrev pub GrownBy : ℕ → ℕ → ℕ → Figures → Figures → Type 0
GrownBy symbols bytes n x y =
    (x.records + n ≤ y.records) × (y.records ≤ x.records + n + most_records)
    × (x.scopes ≤ y.scopes) × (y.scopes ≤ x.scopes + most_scopes)
    × (x.symbols ≤ y.symbols) × (y.symbols ≤ x.symbols + symbols)
    × (x.contexts ≤ y.contexts) × (y.contexts ≤ x.contexts + 1)
    × (x.bytes + call_bytes * n ≤ y.bytes) × (y.bytes ≤ x.bytes + call_bytes * n + bytes)

abbrev pub Grown : ℕ → Figures → Figures → Type 0
Grown n x y = GrownBy context_symbols most_context_bytes n x y

-- every context is charged so
context_most : (k : ContextKind)
    → let x = context_charge k in
    (x.records ≤ most_records) × (x.scopes ≤ most_scopes) × (x.symbols ≤ context_symbols) × (x.contexts ≤ 1) × (x.bytes ≤ most_context_bytes)
unfolding context_charge
context_most of_block = omega arith
context_most of_body = omega arith
context_most of_static_block = omega arith
context_most of_try_part = omega arith
context_most of_for = omega arith
context_most of_switch = omega arith

-- a context with so many initializers, if there is a using
abbrev pub context_if : ContextKind → Bool → ℕ → List Line
context_if kind b n = if b then context kind ∷ wrapped n ∷ [] else []

-- A list gets a using with n initializers: the first one brings the context, others only their calls.
pub context_grown : (kind : ContextKind) (b : Bool) (w n : ℕ) → (b ≡ false → w ≡ 0)
    → Grown n (total (context_if kind b w)) (total (context_if kind true (n + w)))
unfolding total line_charge
context_grown kind true w n e = omega arith
context_grown kind false w n e = omega (arith, e refl, context_most kind)

-- The body Block of a ForOf that takes its using has a context already, charged at the ForOf if its own list has no using: so a first using of its
-- own brings only its calls.
pub body_grown : (b : Bool) (w n : ℕ) → (b ≡ false → w ≡ 0)
    → Grown n (total (if b then [] else (context of_block ∷ [])) ⊕ total (context_if of_block b w)) (total [] ⊕ total (context_if of_block true (n + w)))
unfolding total line_charge
body_grown true w n e = omega arith
body_grown false w n e = omega (arith, e refl)

-- ---- lines that both have

module _ (n : ℕ) where
  -- before all others
  pub same_first : (x y : Figures) {ks ls : List Line} → ks ≡ ls → Grown n x y → Grown n (total ks ⊕ x) (total ls ⊕ y)
  same_first x y e g = rw e (omega (arith, g))

  -- first in a list, with others charged beside the list
  pub same_before : (x y : Figures) (both ks ls : List Line) → Grown n (x ⊕ total ks) (y ⊕ total ls)
      → Grown n (x ⊕ total (both ++ ks)) (y ⊕ total (both ++ ls))
  same_before x y both ks ls g = omega (arith, g, total_++ both ks, total_++ both ls)

  -- last in a list
  pub same_behind : (x y : Figures) (ks ls both : List Line) → Grown n (x ⊕ total ks) (y ⊕ total ls)
      → Grown n (x ⊕ total (ks ++ both)) (y ⊕ total (ls ++ both))
  same_behind x y ks ls both g = omega (arith, g, total_++ ks both, total_++ ls both)
