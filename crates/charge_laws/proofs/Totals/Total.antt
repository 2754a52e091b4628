-- 01's final figures, found by lines over the source's records, are the tally's.
-- Assumes nothing.
use Rattle.std.specs.Prelude.{if◌then◌else◌, ◌≡◌, refl, Bool, true, false, not, ◌&&◌, List, [], ◌∷◌, ℕ, ◌+◌, ◌*◌, length, eqb}
use Rattle.std.proofs.Common.{ap, ◌∙◌, arith}
use Rattle.meaning.specs.Numbers.Mode
use Rattle.meaning.specs.Tree.{Forest, size}
use Rattle.meaning.specs.File.{settings_bytes, scope_bytes, symbol_bytes, Symbol, File}
use Rattle.meaning.specs.Charges.{
  Line,
  helper,
  Figures,
  figures,
  ◌⊕◌,
  line_charge,
  total,
  tree_lines,
  record_bytes,
  figures_in,
  helper_lines,
  walk_figures,
  import_lines,
  final_figures,
}
use Rattle.figures.specs.declared.tally.Tally.{Tally}
use Rattle.figures.specs.declared.tally.Role.TheVariants.{Plain}
use Rattle.figures.specs.Tally.{role_index, tally_of, tally_figures}
use Rattle.charge_laws.proofs.Totals.Roles.{Regular}
use Rattle.spec_laws.specs.Figures.{Same, figures_same}
use Rattle.charge_laws.proofs.Totals.Sums.{tally_figures_lem}
use Rattle.charge_laws.proofs.Totals.Statements.{no_bodies, statements_are}
use Rattle.charge_laws.proofs.Totals.Items.{plain, items_are}

-- a tree's figures are those of its records and their lines
tree_figures : (as_read : List Symbol) (f : Forest) → Regular f
    → Same (tally_figures (tally_of as_read (λ _. Plain) 0 f)) (figures (size f) 0 0 0 (record_bytes f) ⊕ total (tree_lines as_read 0 f))
unfolding role_index total
tree_figures as_read f s =
    let t : Tally = tally_of as_read (λ _. Plain) 0 f in
    omega (
      arith,
      tally_figures_lem t,
      rw (no_bodies as_read f (λ _. Plain) 0 (λ j l. refl)) at (statements_are as_read f (λ _. Plain) 0 0 s (λ j. refl)),
      items_are as_read f (λ _. Plain) 0 s (λ j. plain),
    )

helper_same : (mode : ℕ) (x y : Figures) → x.contexts ≡ y.contexts → helper_lines mode x ≡ helper_lines mode y
unfolding helper_lines
helper_same mode x y e = rw e

pub helper_contexts : (b : Bool) → (total (if b then helper ∷ [] else [])).contexts ≡ 0
unfolding total line_charge
helper_contexts true = refl
helper_contexts false = refl

import_same : (mode is_module : ℕ) (x y : Figures) → x.contexts ≡ y.contexts → import_lines mode is_module x ≡ import_lines mode is_module y
unfolding import_lines
import_same mode is_module x y e = rw e

-- the figures at the end of the walk of a file whose tree has these, the helper among them; and with the import line
abbrev pub walk_from : File → Figures → Figures
walk_from f g =
    figures
    g.records
    (length f.scopes + g.scopes)
    (length f.symbols + g.symbols)
    g.contexts
    (settings_bytes + (scope_bytes * length f.scopes + (symbol_bytes * length f.symbols + g.bytes)))
    ⊕ total (helper_lines f.mode g)

abbrev pub figures_from : File → Figures → Figures
figures_from f g = walk_from f g ⊕ total (import_lines f.mode f.is_module g)

walk_are : (f : File) → Regular f.tree → walk_figures f ≡ walk_from f (tally_figures (tally_of f.symbols (λ _. Plain) 0 f.tree))
unfolding walk_figures figures_in
walk_are f s =
    let due : Figures = total (tree_lines f.symbols 0 f.tree) in
    let g : Figures = tally_figures (tally_of f.symbols (λ _. Plain) 0 f.tree) in
    let e = tree_figures f.symbols f.tree s in
    figures_same (walk_figures f) (walk_from f g) (rw (helper_same f.mode due g (omega arith)) (omega arith))

walk_contexts : (f : File) (g : Figures) → (walk_from f g).contexts ≡ g.contexts
unfolding helper_lines
walk_contexts f g = omega (arith, helper_contexts (eqb f.mode Mode.Runtime && not (eqb g.contexts 0)))

-- THE FIGURES. 01's final figures are the tally's.
pub figures_are : (f : File) → Regular f.tree
    → final_figures f ≡ figures_from f (tally_figures (tally_of f.symbols (λ _. Plain) 0 f.tree))
unfolding final_figures
figures_are f s =
    let g : Figures = tally_figures (tally_of f.symbols (λ _. Plain) 0 f.tree) in
    ap (λ (x : Figures). x ⊕ total (import_lines f.mode f.is_module x)) (walk_are f s)
    ∙ ap (λ (ls : List Line). walk_from f g ⊕ total ls) (import_same f.mode f.is_module (walk_from f g) g (walk_contexts f g))
