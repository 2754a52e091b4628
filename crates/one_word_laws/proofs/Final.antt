-- THE FINAL FIGURES of two accepted files that differ in one word.
-- Assumes nothing.
use Rattle.std.specs.Prelude.{Ok, if◌then◌else◌, ◌≡◌, refl, Bool, true, false, not, ◌&&◌, List, [], ◌∷◌, ℕ, zero, suc, ◌+◌, ◌*◌, ◌≤◌, eqb, ltb}
use Rattle.std.proofs.Common.{ap₂, subst, arith, ltb-true}
use Rattle.meaning.specs.Numbers.Tag
use Rattle.meaning.specs.Numbers.Mode
use Rattle.meaning.specs.Tree.{Forest, none, more, count, size}
use Rattle.meaning.specs.File.{File}
use Rattle.meaning.specs.Reading.{read_file}
use Rattle.meaning.specs.Charges.{
  Line,
  helper,
  import_line,
  Figures,
  ◌⊕◌,
  import_bytes,
  line_charge,
  total,
  initializers,
  tree_lines,
  figures_in,
  helper_lines,
  walk_figures,
  import_lines,
  final_figures,
}
use Rattle.spec_laws.specs.Tags.{clash}
use Rattle.spec_laws.specs.Bools.{some}
use Rattle.spec_laws.specs.Trees.{count_size}
use Rattle.charge_laws.proofs.Fit.Accepted.{accepted_fit}
use Rattle.charge_laws.proofs.Fit.Final.{AtMost}
use Rattle.one_word_laws.specs.Changed.{OneWord, most_symbols, most_bytes, most_import, in_runtime_module, Growth}
use Rattle.one_word_laws.proofs.Alike.{tree_size}
use Rattle.one_word_laws.proofs.Grown.{GrownBy, Grown}
use Rattle.one_word_laws.proofs.Trees.{lines_grown}

-- ---- a line that comes with the first context

-- from the one to the other by one such line at most
abbrev ByOne : Line → List Line → List Line → Type 0
ByOne l ks ls = AtMost (total ks) (total ls) × AtMost (total ls) (total ks ⊕ line_charge l)

line_if : (l : Line) (b b' : Bool) → (b ≡ true → b' ≡ true) → ByOne l (if b then l ∷ [] else []) (if b' then l ∷ [] else [])
unfolding total
line_if l true true up = omega arith
line_if l true false up = absurd (clash refl (up refl))
line_if l false true up = omega arith
line_if l false false up = omega arith

-- contexts are not lost
still_some : (m : Bool) (c c' : ℕ) → c ≤ c' → (m && not (eqb c 0)) ≡ true → (m && not (eqb c' 0)) ≡ true
still_some true zero c' l e = absurd (clash refl e)
still_some true (suc c) zero l e = absurd (omega arith)
still_some true (suc c) (suc c') l e = rw (some c')
still_some false c c' l e = e

helper_grown : (mode : ℕ) (x y : Figures) → x.contexts ≤ y.contexts → ByOne helper (helper_lines mode x) (helper_lines mode y)
unfolding helper_lines
helper_grown mode x y l = line_if helper _ _ (still_some (eqb mode Mode.Runtime) x.contexts y.contexts l)

-- the import line in a runtime module, and nothing elsewhere
abbrev ByImport : ℕ → ℕ → Figures → Figures → Type 0
ByImport records bytes x y =
    AtMost x y × (y.records ≤ x.records + records) × (y.scopes ≡ x.scopes) × (y.symbols ≡ x.symbols) × (y.contexts ≡ x.contexts)
    × (y.bytes ≤ x.bytes + bytes)

import_grown : (f : File) (x y : Figures) → x.contexts ≤ y.contexts
    → ByImport (in_runtime_module f most_import) (in_runtime_module f import_bytes)
    (total (import_lines f.mode f.is_module x)) (total (import_lines f.mode f.is_module y))
unfolding import_lines total line_charge
import_grown f x y l = go (eqb f.mode Mode.Runtime) (eqb f.is_module 1)
  where
    go : (a b : Bool)
        → ByImport (if a && b then most_import else 0) (if a && b then import_bytes else 0)
        (total (if a && b && not (eqb x.contexts 0) then import_line ∷ [] else []))
        (total (if a && b && not (eqb y.contexts 0) then import_line ∷ [] else []))
    go true true = omega (arith, line_if import_line _ _ (still_some true x.contexts y.contexts l))
    go true false = omega arith
    go false b = omega arith

-- ---- how many initializers there may be

-- each stands in a Declarator
few_initializers : (f : Forest) → 2 * initializers f ≤ size f
unfolding initializers size
few_initializers none = omega arith
few_initializers (more h k r) = go (eqb h.tag Tag.Declarator) (ltb h.b (count k)) refl (few_initializers r)
  where
    go : (b c : Bool) → ltb h.b (count k) ≡ c → 2 * initializers r ≤ size r
        → 2 * ((if b && c then 1 else 0) + initializers r) ≤ suc (size k + size r)
    go true true e i = omega (arith, ltb-true h.b (count k) e, count_size k)
    go true false e i = omega arith
    go false c e i = omega arith

-- ---- two files

module _ (d : Forest) (f f' : File) (c : OneWord d f f') where
  -- the word takes no room in the file
  read_same : figures_in f ≡ figures_in f'
  unfolding figures_in
  read_same = let same = tree_size c.tree in rw (c.scopes, c.symbols, same.0, same.1)

  -- at most half as many as the file has records
  pub half_initializers : 2 * initializers d ≤ (final_figures f).records
  unfolding final_figures walk_figures figures_in
  half_initializers = omega (arith, tree_size c.tree, few_initializers d)

  abbrev due : File → Figures
  due g = total (tree_lines g.symbols 0 g.tree)

  module _ (b' : List ℕ) (read' : read_file b' ≡ Ok f') where
    due_grown : Grown (initializers d) (due f) (due f')
    due_grown = rw (← c.symbols) (lines_grown d f.symbols 0 c.tree (accepted_fit b' f' read'))

    helped : ByOne helper (helper_lines f.mode (due f)) (helper_lines f.mode (due f'))
    helped = helper_grown f.mode (due f) (due f') due_grown.6

    -- without the import line, but with the helper's symbol
    walk_grown : GrownBy most_symbols most_bytes (initializers d) (walk_figures f) (walk_figures f')
    unfolding walk_figures line_charge
    walk_grown = rw (← read_same, ← c.mode) (omega (arith, due_grown, helped))

    abbrev imports : File → Figures
    imports g = total (import_lines g.mode g.is_module (walk_figures g))

    imported : ByImport (in_runtime_module f most_import) (in_runtime_module f import_bytes) (imports f) (imports f')
    imported =
        let same = ap₂ (λ (m i : ℕ). total (import_lines m i (walk_figures f'))) c.mode c.is_module in
        subst (ByImport (in_runtime_module f most_import) (in_runtime_module f import_bytes) (imports f)) same
        (import_grown f (walk_figures f) (walk_figures f') walk_grown.6)

    -- THE FIGURES GROW by so little.
    pub final_grown : Growth f d (final_figures f) (final_figures f')
    unfolding final_figures
    final_grown =
        record {
          records_least = omega (arith, walk_grown, imported);
          records_most = omega (arith, walk_grown, imported);
          scopes_least = omega (arith, walk_grown, imported);
          scopes_most = omega (arith, walk_grown, imported);
          symbols_least = omega (arith, walk_grown, imported);
          symbols_most = omega (arith, walk_grown, imported);
          contexts_least = omega (arith, walk_grown, imported);
          contexts_most = omega (arith, walk_grown, imported);
          bytes_least = omega (arith, walk_grown, imported);
          bytes_most = omega (arith, walk_grown, imported);
        }
