-- Refusal 9: a final figure is above the rows lent, the first that is short. Refusal 10: an admitted file is longer than the output.
-- Assumes nothing.
use Rattle.meaning.specs.Refusals.{refused}
use Rattle.meaning.specs.declared.Reason.TheVariants as Reason
use Rattle.std.specs.Prelude.{Ok, ◌≡◌, not, List, ◌⊎◌, ℕ, leb}
use Rattle.std.proofs.Common.{⊎_elim, arith}
use Rattle.meaning.specs.File.{File}
use Rattle.meaning.specs.Charges.{final_figures}
use Rattle.meaning.specs.Lowering.{Lent, check_rows, check_output, check_file, admit, admit_output, lower}
use Rattle.claims.specs.Refusals.Outcomes.{refused_by, first_refused}
use Rattle.claims.specs.Refusals.Numbers.{check_numbers}
use Rattle.claims.specs.Refusals.Small.{Short, first_short, rows_refused, refused_rows, never_nine, first_written}

-- ---- REFUSAL 9

-- A checked file with a final figure above the rows lent is not admitted, for the first that is short.
pub small_not_admitted : (b : List ℕ) (lent : Lent) (f : File) → check_file b ≡ Ok f → Short lent (final_figures f)
    → admit b lent ≡ refused Reason.FewRows (first_short lent (final_figures f))
unfolding admit
small_not_admitted b lent f e h = rw (e, rows_refused lent (final_figures f) h)

-- No other file is refused so.
pub not_admitted_small : (b : List ℕ) (lent : Lent) (p : ℕ) → admit b lent ≡ refused Reason.FewRows p
    → (f : File) × (check_file b ≡ Ok f) × Short lent (final_figures f) × (p ≡ first_short lent (final_figures f))
unfolding admit
not_admitted_small b lent p e =
    ⊎_elim
    (λ d. absurd (omega (arith, check_numbers b Reason.FewRows p d)))
    (λ (f, d, k).
    let r = refused_rows lent (final_figures f) Reason.FewRows p (first_refused (check_rows lent (final_figures f)) f Reason.FewRows p k) in
    (f, d, r.0, r.1))
    (refused_by (check_file b) _ Reason.FewRows p e)

-- The same of lowering, since a short output is refused with 10.
pub small_refused : (b : List ℕ) (lent : Lent) (out : ℕ) (f : File) → check_file b ≡ Ok f → Short lent (final_figures f)
    → lower b lent out ≡ refused Reason.FewRows (first_short lent (final_figures f))
unfolding lower admit_output
small_refused b lent out f e h = rw (small_not_admitted b lent f e h)

pub refused_small : (b : List ℕ) (lent : Lent) (out p : ℕ) → lower b lent out ≡ refused Reason.FewRows p
    → (f : File) × (check_file b ≡ Ok f) × Short lent (final_figures f) × (p ≡ first_short lent (final_figures f))
unfolding lower admit_output check_output
refused_small b lent out p e =
    ⊎_elim (not_admitted_small b lent p)
    (λ (f, d, k). absurd (never_nine (leb (final_figures f).bytes out) out p (first_refused (check_output out (final_figures f)) _ Reason.FewRows p k)))
    (refused_by (admit b lent) _ Reason.FewRows p (first_written (admit_output b lent out) Reason.FewRows p e))
