-- Lowering twice (02, request 14): what lowering writes, where it can be read, comes out of a second lowering unchanged.
-- Assumes nothing.
use Rattle.meaning.specs.Refusals.{Outcome, refused}
use Rattle.meaning.specs.declared.Reason.TheVariants as Reason
use Rattle.std.specs.Prelude.{Ok, ◌≡◌, ℕ, ◌≤◌, ◌<◌, eqb, length}
use Rattle.std.proofs.Common.{sym, subst, ◌∙◌, ⊎_elim, arith}
use Rattle.std.proofs.Math.Path.{ap, ap₂}
use mathlib.Core.List.{List}
use Rattle.meaning.specs.Numbers.Mode
use Rattle.meaning.specs.File.{File, written}
use Rattle.meaning.specs.Reading.{◌>>◌, read_file}
use Rattle.meaning.specs.Charges.{Figures, final_figures}
use Rattle.meaning.specs.Lowering.{Lent, check_mode, check_file, admit, lowered_file, Written, lower}
use Rattle.spec_laws.specs.Bools.{and-false}
use Rattle.spec_laws.specs.Trees.{Bytes}
use Rattle.figures.specs.Figures.{shown_figures}
use Rattle.start.specs.Start.{lent_in}
use Rattle.start.specs.Filled.{admitted}
use Rattle.lowering.specs.Lower.{finished, zeros_for, written_over, lower_of, lower_f}
use Rattle.renumbering_laws.specs.Final.{lowered_length}
use Rattle.idempotence_laws.specs.Fields.{field_figures}
use Rattle.idempotence_laws.proofs.Again.{again_written, again_figures}
use Rattle.claims.specs.Calls.{file_shows}
use Rattle.claims.proofs.Refusals.Small.{small_refused}
use Rattle.claims.specs.Refusals.Small.{Enough, Short, first_short, enough_admitted, short_output_lem, enough_output, lower_total}
use Rattle.claims.specs.Twice.{Wrote, ToItself, LowersTwice, wrote_file, never_wrote, wrote_lowered, Suffices}

-- ---- the second lowering

-- 8 is not tried where no context is made
mode_passes : (g : File) → (final_figures g).contexts ≡ 0 → (check_mode g >> Ok g) ≡ Ok g
unfolding check_mode
mode_passes g e = rw (e, and-false (eqb g.mode Mode.Inline))

module _ (b : List ℕ) (f : File) (bytes : Bytes b) (read : read_file b ≡ Ok f)
    (g : File) (again : read_file (written (lowered_file f)) ≡ Ok g) where
  abbrev file : List ℕ
  file = written (lowered_file f)

  own : final_figures g ≡ field_figures file
  own = again_figures b f bytes read g again

  checked : check_file file ≡ Ok g
  unfolding check_file field_figures
  checked = rw again (mode_passes g (ap (λ (x : Figures). x.contexts) own))

  -- by 01's lowering, with rows and output enough, with too few rows, and with too short an output
  itself_enough : (lent : Lent) (out : ℕ) → Enough lent (field_figures file) → length file ≤ out
      → lower file lent out ≡ Ok (record { file = file; figures = field_figures file })
  unfolding field_figures
  itself_enough lent out rows long =
      enough_output file lent out g (enough_admitted file lent g checked (rw own rows)) (rw own long)
      ∙ ap₂ (λ (b : List ℕ) (x : Figures). Ok (record { file = b; figures = x })) (again_written b f bytes read g again) own

  itself_few : (lent : Lent) (out : ℕ) → Short lent (field_figures file) → lower file lent out ≡ refused Reason.FewRows (first_short lent (field_figures file))
  itself_few lent out short =
      small_refused file lent out g checked (rw own short) ∙ ap (λ (x : Figures). refused Reason.FewRows (first_short lent x)) own

  itself_short : (lent : Lent) (out : ℕ) → Enough lent (field_figures file) → out < length file → lower file lent out ≡ refused Reason.ShortOutput out
  unfolding field_figures
  itself_short lent out rows short = short_output_lem file lent out g (enough_admitted file lent g checked (rw own rows)) (rw own short)

  itself : ToItself lower_f file
  unfolding lower_f
  itself =
      record {
        same = λ r s y o rows long. ap (λ (a : Outcome Written). lower_of a r s y o) (itself_enough (lent_in r s y) (length o) rows long);
        few_rows = λ r s y o short. ap (λ (a : Outcome Written). lower_of a r s y o) (itself_few (lent_in r s y) (length o) short);
        short_output = λ r s y o rows short. ap (λ (a : Outcome Written). lower_of a r s y o) (itself_short (lent_in r s y) (length o) rows short);
      }

-- LOWERING TWICE.
pub lowering_twice : LowersTwice lower_f
lowering_twice b r s y o file g bytes wrote again =
    let (f, read, is) = wrote_lowered b r s y o file bytes wrote in
    subst (ToItself lower_f) (sym is) (itself b f bytes read g (subst (λ (x : List ℕ). read_file x ≡ Ok g) is again))

first_suffices : (b r s y o : List ℕ) (f : File) → Bytes b → admit b (lent_in r s y) ≡ Ok f → (final_figures f).bytes ≤ length o
    → Suffices r s y o (written (lowered_file f))
unfolding field_figures
first_suffices b r s y o f bytes e long =
    let shown = file_shows b r s y f e bytes in
    let lent = admitted b r s y f e in
    ((omega (arith, shown, lent), omega (arith, shown, lent), omega (arith, shown, lent)), omega (arith, lowered_length b f (admitted b r s y f e).0 bytes))

wrote_suffices : (b r s y o file : List ℕ) → Bytes b → Wrote lower_f b r s y o file → Suffices r s y o file
wrote_suffices b r s y o file bytes wrote =
    ⊎_elim
    (λ (f, e, long, w). subst (Suffices r s y o) (sym (wrote_file b r s y o file f bytes e w wrote)) (first_suffices b r s y o f bytes e long))
    (λ (c, p, e). absurd (never_wrote b r s y o file c p e wrote))
    (lower_total b (lent_in r s y) (length o))

-- As much memory as the first call had is enough.
pub lowering_again : (b r s y o file : List ℕ) (g : File) → Bytes b → Wrote lower_f b r s y o file → read_file file ≡ Ok g
    → (r' s' y' o' : List ℕ) → length r ≤ length r' → length s ≤ length s' → length y ≤ length y' → length o ≤ length o'
    → lower_f file r' s' y' o'
    ≡ finished (Ok (shown_figures (field_figures file))) (zeros_for r') (zeros_for s') (zeros_for y') (written_over file o')
unfolding lent_in
lowering_again b r s y o file g bytes wrote again r' s' y' o' lr ls ly lo =
    let enough = wrote_suffices b r s y o file bytes wrote in
    (lowering_twice b r s y o file g bytes wrote again).same r' s' y' o'
    (omega (arith, enough.0), omega (arith, enough.0), omega (arith, enough.0))
    (omega (arith, enough.1))
