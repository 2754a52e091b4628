-- What the public calls answer, from what the whole file comes to.
-- Assumes nothing.
use Rattle.meaning.specs.declared.Reason.{Reason}
use Rattle.meaning.specs.Refusals.{Outcome, refused}
use Rattle.std.specs.Prelude.{Ok, Err, if◌then◌else◌}
use mathlib.Core.Path.{◌≡◌, refl, sym, ap, ap₂, ◌∙◌}
use mathlib.Core.Bool.{Bool, true, false, not, ◌&&◌}
use mathlib.Core.List.{List}
use Prim.Native.Nat.{ℕ, ◌+◌, ◌*◌}
use native.Mathlib.Omega.{arith}
use lib.Dec.{eqb, leb}
use lib.ListN.{length}
use Rattle.meaning.specs.File.{File}
use Rattle.meaning.specs.Reading.{◌>>=◌, ◌>>◌, ensure, read_file}
use Rattle.meaning.specs.Charges.{Figures, figures, ◌⊕◌, line_charge, total, helper_lines, import_lines, final_figures}
use Rattle.meaning.specs.Lowering.{check_mode, check_file, figures_of}
use Rattle.figures.specs.Tally.{cap, tally_figures}
use Rattle.figures.specs.declared.tally.Tally.{Tally}
use Rattle.figures.specs.Figures.{helper_f, import_f, final_f, figured_f, shown_figures, figured_of}
use Rattle.figures.specs.declared.FinalFigures.{FinalFigures}
use Rattle.charge_laws.proofs.Totals.Total.{figures_from}
use Rattle.charge_laws.proofs.Totals.Accepted.{accepted_records, accepted_figures}
use Rattle.checking.specs.declared.Layout.{Layout}
use Rattle.checking.specs.declared.Whole.{Whole}
use Rattle.checking.specs.declared.Surveyed.{Surveyed}
use Rattle.checking.specs.Flat.{with_records, file_f, checked_of}
use Rattle.checking.specs.Survey.{layout_of, fine, surveyed_of, with_figures}
use Rattle.checking.proofs.Files.{tally_in, whole_of, whole_is}

-- ---- a check

abbrev pub checked_by : Outcome Whole → Outcome (Unit {0})
checked_by (Ok q) = Ok tt
checked_by (Err r) = Err r

checked_whole : (o : Outcome File) → checked_by (whole_of o) ≡ checked_of o
checked_whole (Ok f) = refl
checked_whole (Err r) = refl

pub checked_is : (f : List ℕ) (w : Outcome Whole) → w ≡ file_f f → checked_by w ≡ checked_of (read_file f)
checked_is f w e = ap checked_by (e ∙ sym (whole_is f)) ∙ checked_whole (read_file f)

-- ---- the figures

abbrev pub surveyed_by : Outcome Whole → Outcome Surveyed
surveyed_by (Ok q) = with_figures q.layout (figured_f q.layout.mode q.layout.esm q.layout.scopes q.layout.symbols q.tally)
surveyed_by (Err r) = Err r

figures_eq : (x y : FinalFigures)
    → (x.records ≡ y.records) × (x.scopes ≡ y.scopes) × (x.symbols ≡ y.symbols) × (x.contexts ≡ y.contexts) × (x.bytes ≡ y.bytes)
    → x ≡ y
figures_eq x y e = λ i. record { records = e.0 i; scopes = e.1 i; symbols = e.2 i; contexts = e.3 i; bytes = e.4 i }

-- the import is asked for where the helper is, in a module
in_module : (m i c : Bool) → (m && i && c) ≡ (i && (m && c))
in_module true true c = refl
in_module true false c = refl
in_module false true c = refl
in_module false false c = refl

-- the helper's line and its import's, by the tests that ask for them
lines_are : (mode is_module scopes symbols : ℕ) (g : Figures) (b c : Bool) → eqb mode 0 && not (eqb g.contexts 0) ≡ b → eqb is_module 1 ≡ c
    → ◌≡◌ {A = FinalFigures}
    (record {
      records = g.records + 2 * (if c then (if b then 1 else 0) else 0);
      scopes = scopes + g.scopes;
      symbols = symbols + g.symbols + (if b then 1 else 0);
      contexts = g.contexts;
      bytes = 7 + 7 * scopes + 13 * symbols + g.bytes + 13 * (if b then 1 else 0) + 16 * (if c then (if b then 1 else 0) else 0);
    })
    (shown_figures
    (figures g.records (scopes + g.scopes) (symbols + g.symbols) g.contexts (7 + (7 * scopes + (13 * symbols + g.bytes)))
    ⊕ total (helper_lines mode g)
    ⊕ total (import_lines mode is_module g)))
unfolding helper_lines import_lines total line_charge
lines_are mode is_module scopes symbols g true true e d = rw (in_module (eqb mode 0) (eqb is_module 1) _, e, d) (figures_eq _ _ (omega arith))
lines_are mode is_module scopes symbols g true false e d = rw (in_module (eqb mode 0) (eqb is_module 1) _, e, d) (figures_eq _ _ (omega arith))
lines_are mode is_module scopes symbols g false true e d = rw (in_module (eqb mode 0) (eqb is_module 1) _, e, d) (figures_eq _ _ (omega arith))
lines_are mode is_module scopes symbols g false false e d = rw (in_module (eqb mode 0) (eqb is_module 1) _, e, d) (figures_eq _ _ (omega arith))

final_is : (f : File) (t : Tally) → final_figures f ≡ figures_from f (tally_figures t)
    → final_f f.mode f.is_module (length f.scopes) (length f.symbols) t ≡ shown_figures (final_figures f)
unfolding final_f helper_f import_f
final_is f t e =
    lines_are f.mode f.is_module (length f.scopes) (length f.symbols) (tally_figures t) (eqb f.mode 0 && not (eqb (tally_figures t).contexts 0)) (eqb f.is_module 1) refl refl
    ∙ ap shown_figures (sym e)

contexts_are : (f : File) (t : Tally) → final_figures f ≡ figures_from f (tally_figures t) → (tally_figures t).contexts ≡ (final_figures f).contexts
unfolding final_f
contexts_are f t e = ap (λ (g : FinalFigures). g.contexts) (final_is f t e)

-- 8, or the layout and the figures
by_mode : (b : Bool) (f : File) (x : FinalFigures) (l : Layout) → x ≡ shown_figures (final_figures f) → l ≡ layout_of f
    → with_figures l (if b then refused Reason.InlineContext 0 else Ok x) ≡ surveyed_of (ensure (not b) Reason.InlineContext 0 >> Ok f)
by_mode true f x l e d = refl
by_mode false f x l e d = ap₂ fine d e

accepted_is : (b : List ℕ) (f : File) → read_file b ≡ Ok f → surveyed_by (whole_of (Ok f)) ≡ surveyed_of (check_file b)
unfolding figured_f check_file check_mode
accepted_is b f e =
    let t = cap (tally_in f) in
    let g = accepted_figures b f e in
    let l = with_records (layout_of f) t.records in
    ap (λ (c : ℕ).
    with_figures l
    (if eqb f.mode 2 && leb 1 c then refused Reason.InlineContext 0 else Ok (final_f f.mode f.is_module (length f.scopes) (length f.symbols) t)))
    (contexts_are f t g)
    ∙ by_mode (eqb f.mode 2 && leb 1 (final_figures f).contexts) f _ l (final_is f t g)
    (ap (λ (n : ℕ). record {
      mode = f.mode;
      esm = f.is_module;
      scopes = length f.scopes;
      symbols = length f.symbols;
      records = n;
      first = (layout_of f).first;
      tree = (layout_of f).tree;
    }) (accepted_records b f e))
    ∙ ap (λ (o : Outcome File). surveyed_of (o >>= (λ f. check_mode f >> Ok f))) (sym e)

refused_is : (b : List ℕ) (c : Reason) (p : ℕ) → read_file b ≡ refused c p → refused c p ≡ surveyed_of (check_file b)
unfolding check_file
refused_is b c p e = rw e

by_reading : (b : List ℕ) (o : Outcome File) → read_file b ≡ o → surveyed_by (whole_of o) ≡ surveyed_of (check_file b)
by_reading b (Ok f) e = accepted_is b f e
by_reading b (Err r) e = refused_is b r.reason r.place e

pub surveyed_is : (b : List ℕ) (w : Outcome Whole) → w ≡ file_f b → surveyed_by w ≡ surveyed_of (check_file b)
surveyed_is b w e = ap surveyed_by (e ∙ sym (whole_is b)) ∙ by_reading b (read_file b) refl

-- ---- the figures alone

abbrev pub figures_in : Outcome Surveyed → Outcome FinalFigures
figures_in (Ok q) = Ok q.figures
figures_in (Err r) = Err r

figures_alone : (o : Outcome File) → figures_in (surveyed_of o) ≡ figured_of (o >>= (λ f. Ok (final_figures f)))
figures_alone (Ok f) = refl
figures_alone (Err r) = refl

pub figured_is : (b : List ℕ) (s : Outcome Surveyed) → s ≡ surveyed_of (check_file b) → figures_in s ≡ figured_of (figures_of b)
unfolding figures_of
figured_is b s e = ap figures_in e ∙ figures_alone (check_file b)
