-- The numbers of refusals: 1 to 7 while reading, 8 for the mode, 9 for the rows lent, 10 for the output.
-- Assumes nothing.
use Rattle.meaning.specs.declared.Reason.TheVariants as Reason
use Rattle.meaning.specs.declared.Reason.{Reason}
use Rattle.meaning.specs.Refusals.{Outcome, refused, number_of}
use Rattle.std.specs.Prelude.{Ok, Err, ◌≡◌, not, ◌&&◌, List, ℕ, ◌≤◌, eqb, leb}
use Rattle.std.proofs.Common.{arith}
use Rattle.meaning.specs.Reading.{ensure, read_file}
use Rattle.meaning.specs.Charges.{Figures, final_figures}
use Rattle.meaning.specs.Lowering.{Lent, check_mode, check_rows, check_output, check_file, figures_of, admit, admit_output, lower}
use Rattle.parsing.specs.Outcomes.{Told}
use Rattle.parsing.specs.Files.{file_told, file_refused}
use Rattle.claims.specs.Refusals.Outcomes.{Numbered, bound, ensured, widened, numbers}

-- READING refuses with 1 to 7.
pub read_numbers : (b : List ℕ) (c : Reason) (p : ℕ) → read_file b ≡ refused c p → (1 ≤ number_of c) × (number_of c ≤ 7)
read_numbers b c p e = file_refused b c p e

told_numbered : {A : Type 0} (P : A → Type 0) (o : Outcome A) → Told P o → Numbered 7 o
told_numbered P (Ok a) h = tt
told_numbered P (Err r) h = h

read_numbered : (b : List ℕ) → Numbered 7 (read_file b)
read_numbered b = told_numbered _ (read_file b) (file_told b)

-- ---- the mode, the rows lent, the output

check_numbered : (b : List ℕ) → Numbered 8 (check_file b)
unfolding check_file check_mode
check_numbered b =
    bound 8 (read_file b) _ (widened 7 (read_file b) (read_numbered b))
    (λ f. bound 8 (check_mode f) _ (ensured 8 (not (eqb f.mode 2 && leb 1 (final_figures f).contexts)) Reason.InlineContext 0 (omega arith)) (λ _. tt))

-- CHECKING with the mode, 1 to 8;
pub check_numbers : (b : List ℕ) (c : Reason) (p : ℕ) → check_file b ≡ refused c p → (1 ≤ number_of c) × (number_of c ≤ 8)
check_numbers b = numbers 8 (check_file b) (check_numbered b)

-- so FIGURES ALONE.
pub figures_numbers_lem : (b : List ℕ) (c : Reason) (p : ℕ) → figures_of b ≡ refused c p → (1 ≤ number_of c) × (number_of c ≤ 8)
unfolding figures_of
figures_numbers_lem b = numbers 8 (figures_of b) (bound 8 (check_file b) _ (check_numbered b) (λ f. tt))

lent_numbered : (lent : Lent) (g : Figures) → Numbered 9 (check_rows lent g)
unfolding check_rows
lent_numbered lent g =
    let r = leb g.records lent.records in
    let s = leb g.scopes lent.scopes in
    bound 9 (ensure r Reason.FewRows 0) _ (ensured 9 r Reason.FewRows 0 (omega arith))
    (λ _. bound 9 (ensure s Reason.FewRows 1) _ (ensured 9 s Reason.FewRows 1 (omega arith))
    (λ _. ensured 9 (leb g.symbols lent.symbols) Reason.FewRows 2 (omega arith)))

admit_numbered : (b : List ℕ) (lent : Lent) → Numbered 9 (admit b lent)
unfolding admit
admit_numbered b lent =
    bound 9 (check_file b) _ (widened 8 (check_file b) (check_numbered b))
    (λ f. bound 9 (check_rows lent (final_figures f)) _ (lent_numbered lent (final_figures f)) (λ _. tt))

-- WITH ROWS LENT, 1 to 9.
pub admit_numbers : (b : List ℕ) (lent : Lent) (c : Reason) (p : ℕ) → admit b lent ≡ refused c p → (1 ≤ number_of c) × (number_of c ≤ 9)
admit_numbers b lent = numbers 9 (admit b lent) (admit_numbered b lent)

output_numbered : (b : List ℕ) (lent : Lent) (out : ℕ) → Numbered 10 (admit_output b lent out)
unfolding admit_output check_output
output_numbered b lent out =
    bound 10 (admit b lent) _ (widened 9 (admit b lent) (admit_numbered b lent))
    (λ f.
    bound 10 (check_output out (final_figures f)) _ (ensured 10 (leb (final_figures f).bytes out) Reason.ShortOutput out (omega arith)) (λ _. tt))

lower_numbered : (b : List ℕ) (lent : Lent) (out : ℕ) → Numbered 10 (lower b lent out)
unfolding lower
lower_numbered b lent out = bound 10 (admit_output b lent out) _ (output_numbered b lent out) (λ f. tt)

-- LOWERING, with 1 to 10.
pub lower_numbers : (b : List ℕ) (lent : Lent) (out : ℕ) (c : Reason) (p : ℕ) → lower b lent out ≡ refused c p → (1 ≤ number_of c) × (number_of c ≤ 10)
lower_numbers b lent out = numbers 10 (lower b lent out) (lower_numbered b lent out)
