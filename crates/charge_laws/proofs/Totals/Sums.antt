-- Figures and their sums: a tally's, and those of lines.
-- Assumes nothing.
use Rattle.std.specs.Prelude.{if◌then◌else◌, ◌≡◌, false, ◌&&◌, List, [], ◌++◌, ℕ, ◌+◌, ◌*◌, eqb}
use Rattle.std.proofs.Common.{arith}
use Rattle.meaning.specs.Numbers.Tag
use Rattle.meaning.specs.Tree.{Forest, none, more}
use Rattle.meaning.specs.Statements.{any_using}
use Rattle.meaning.specs.Charges.{Line, Figures, figures, ◌⊕◌, total, item_lines}
use Rattle.figures.specs.declared.tally.Tally.{Tally}
use Rattle.figures.specs.Tally.{tally_figures}
use Rattle.spec_laws.specs.Figures.{Same, total_++}

pub total_three : (xs ys zs : List Line) → Same (total (xs ++ (ys ++ zs))) (total xs ⊕ total ys ⊕ total zs)
total_three xs ys zs = omega (arith, total_++ xs (ys ++ zs), total_++ ys zs)

-- ---- a tally's figures

-- contexts of Block statements, and others; wrapped initializers; lowered Programs
abbrev pub context_figures : ℕ → ℕ → ℕ → ℕ → Figures
context_figures x y w p =
    figures (11 * x + 12 * y + w + p) (3 * x + 4 * y + p) (2 * x + 2 * y) (x + y) (130 * x + 144 * y + 9 * w + 14 * p)

-- ForOfs whose using goes into the body, and those whose body is wrapped
abbrev pub for_of_figures : ℕ → ℕ → Figures
for_of_figures x y = figures (4 * x + 5 * y) y (x + y) 0 (39 * x + 53 * y)

-- Program's items: classes, exports, exported declarations and their names
abbrev pub item_figures : ℕ → ℕ → ℕ → ℕ → Figures
item_figures c e d n = figures (3 * c + 4 * e + n) 0 (c + e) 0 (34 * c + 45 * e + 4 * d + 7 * n)

-- all but those items
abbrev pub statement_figures : Tally → Figures
statement_figures t =
    figures t.records 0 0 0 t.bytes
    ⊕ (context_figures t.blocks t.parts t.wrapped t.programs ⊕ for_of_figures t.for_ofs t.for_of_blocks)

abbrev pub items_of : Tally → Figures
items_of t = item_figures t.classes t.exports t.declarations t.names

pub tally_figures_lem : (t : Tally) → Same (tally_figures t) (statement_figures t ⊕ items_of t)
unfolding tally_figures
tally_figures_lem t = omega arith

-- ---- the lines of Program's items

-- of one record: those of a Program with a using
unfoldable pub program_own : ℕ → Forest → List Line
program_own t k = if eqb t Tag.Program && any_using k then item_lines k else []

pub no_program : (t : ℕ) (k : Forest) → eqb t Tag.Program ≡ false → Same (total (program_own t k)) (figures 0 0 0 0 0)
unfolding program_own total
no_program t k e = rw e (omega arith)

unfoldable pub program_lines : Forest → List Line
program_lines none = []
program_lines (more h k r) = program_own h.tag k ++ (program_lines k ++ program_lines r)
