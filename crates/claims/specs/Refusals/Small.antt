-- Refusal 9: a final figure is above the rows lent, the first that is short. Refusal 10: an admitted file is longer than the output.
-- Assumes nothing.
use Rattle.meaning.specs.declared.Reason.{Reason}
use Rattle.meaning.specs.Refusals.{Outcome, refused, number_of}
use Rattle.meaning.specs.declared.Reason.TheVariants as Reason
use Rattle.std.specs.Prelude.{Ok, Err, if◌then◌else◌, ◌≡◌, refl, Bool, true, false, not, List, ◌⊎◌, ℕ, ◌≤◌, ◌<◌, leb, ltb}
use Rattle.spec_laws.specs.Refused.{same_refused}
use Rattle.std.proofs.Common.{sym, ap, ◌∙◌, inl, inr, ⊎_elim, arith, ltb-true, ltb-false, lt-ltb, leb-true, leb-false, le-leb}
use Rattle.std.proofs.Math.Logic.{⊎_map}
use Rattle.std.proofs.lemmas.Bool.{lt-leb}
use Rattle.meaning.specs.File.{File, written}
use Rattle.meaning.specs.Reading.{◌>>=◌, ◌>>◌, ensure}
use Rattle.meaning.specs.Charges.{Figures, final_figures}
use Rattle.meaning.specs.Lowering.{Lent, check_rows, check_output, check_file, admit, admit_output, lowered_file, Written, lower}
use Rattle.claims.specs.Refusals.Outcomes.{one_of_two, taken_refused}

-- a final figure is above the rows lent
abbrev pub Short : Lent → Figures → Type 0
Short lent g = (lent.records < g.records) ⊎ ((lent.scopes < g.scopes) ⊎ (lent.symbols < g.symbols))

-- none is
abbrev pub Enough : Lent → Figures → Type 0
Enough lent g = (g.records ≤ lent.records) × (g.scopes ≤ lent.scopes) × (g.symbols ≤ lent.symbols)

-- the first that is short: 0 records, 1 scopes, 2 symbols
unfoldable pub first_short : Lent → Figures → ℕ
first_short lent g = if ltb lent.records g.records then 0 else if ltb lent.scopes g.scopes then 1 else 2

-- ---- the rows lent

-- enough is not short
leb_not : (x y : ℕ) → leb x y ≡ not (ltb y x)
leb_not x y = go (ltb y x) refl
  where
    go : (b : Bool) → ltb y x ≡ b → leb x y ≡ not b
    go true e = lt-leb x y (ltb-true y x e)
    go false e = le-leb x y (ltb-false y x e)

-- three tests in order, by what is short
abbrev pub three : Bool → Bool → Bool → Outcome (Unit {0})
three r s y = ensure (not r) Reason.FewRows 0 >> (ensure (not s) Reason.FewRows 1 >> ensure (not y) Reason.FewRows 2)

rows_three : (lent : Lent) (g : Figures)
    → check_rows lent g ≡ three (ltb lent.records g.records) (ltb lent.scopes g.scopes) (ltb lent.symbols g.symbols)
unfolding check_rows
rows_three lent g =
    rw (
      leb_not g.records lent.records,
      leb_not g.scopes lent.scopes,
      leb_not g.symbols lent.symbols,
    )

-- something is short
abbrev pub Any : Bool → Bool → Bool → Type 0
Any r s y = (r ≡ true) ⊎ ((s ≡ true) ⊎ (y ≡ true))

-- the first that is short is refused, and nothing else
three_refused : (r s y : Bool) → Any r s y → three r s y ≡ refused Reason.FewRows (if r then 0 else if s then 1 else 2)
three_refused true s y h = refl
three_refused false true y h = refl
three_refused false false y (inl e) = cc
three_refused false false y (inr (inl e)) = cc
three_refused false false y (inr (inr e)) = rw e

refused_three : (r s y : Bool) (c : Reason) (p : ℕ) → three r s y ≡ refused c p → Any r s y × (p ≡ (if r then 0 else if s then 1 else 2))
refused_three true s y c p e = (inl refl, sym (same_refused e).1)
refused_three false true y c p e = (inr (inl refl), sym (same_refused e).1)
refused_three false false true c p e = (inr (inr refl), sym (same_refused e).1)
refused_three false false false c p e = absurd (taken_refused tt c p e)

-- short rows are refused with 9 and the first short
pub rows_refused : (lent : Lent) (g : Figures) → Short lent g → check_rows lent g ≡ refused Reason.FewRows (first_short lent g)
unfolding first_short
rows_refused lent g h =
    rows_three lent g ∙ three_refused _ _ _ (⊎_map (lt-ltb _ _) (⊎_map (lt-ltb _ _) (lt-ltb _ _)) h)

-- and no others
pub refused_rows : (lent : Lent) (g : Figures) (c : Reason) (p : ℕ) → check_rows lent g ≡ refused c p → Short lent g × (p ≡ first_short lent g)
unfolding first_short
refused_rows lent g c p e =
    let k = refused_three _ _ _ c p (sym (rows_three lent g) ∙ e) in
    (⊎_map (ltb-true _ _) (⊎_map (ltb-true _ _) (ltb-true _ _)) k.0, k.1)

-- With enough it is admitted.
pub enough_admitted : (b : List ℕ) (lent : Lent) (f : File) → check_file b ≡ Ok f → Enough lent (final_figures f) → admit b lent ≡ Ok f
unfolding admit check_rows
enough_admitted b lent f e h = rw (e, le-leb _ _ h.0, le-leb _ _ h.1, le-leb _ _ h.2)

-- a short output is refused with another number
pub never_nine : (b : Bool) (out p : ℕ) → ensure b Reason.ShortOutput out ≡ refused Reason.FewRows p → ⊥
never_nine true out p e = taken_refused tt Reason.FewRows p e
never_nine false out p e = let z : ◌≡◌ {A = ℕ} 10 9 = ap number_of (same_refused e).0 in omega arith

-- a file that is admitted is written
pub first_written : (a : Outcome File) (c : Reason) (p : ℕ)
    → ◌>>=◌ {B = Written} a (λ f. Ok (record { file = written (lowered_file f); figures = final_figures f })) ≡ refused c p
    → a ≡ refused c p
first_written (Ok f) c p e = absurd (taken_refused _ c p e)
first_written (Err r) c p e = cc

-- ---- REFUSAL 10

-- An admitted file longer than the output is refused with 10.
pub short_output_lem : (b : List ℕ) (lent : Lent) (out : ℕ) (f : File) → admit b lent ≡ Ok f → out < (final_figures f).bytes
    → lower b lent out ≡ refused Reason.ShortOutput out
unfolding lower admit_output check_output
short_output_lem b lent out f e h = rw (e, lt-leb (final_figures f).bytes out h)

-- Any other is written.
pub enough_output : (b : List ℕ) (lent : Lent) (out : ℕ) (f : File) → admit b lent ≡ Ok f → (final_figures f).bytes ≤ out
    → lower b lent out ≡ Ok (record { file = written (lowered_file f); figures = final_figures f })
unfolding lower admit_output check_output
enough_output b lent out f e h = rw (e, le-leb (final_figures f).bytes out h)

-- ---- EVERY FILE is lowered or refused

not_admitted : (b : List ℕ) (lent : Lent) (out : ℕ) (c : Reason) (p : ℕ) → admit b lent ≡ refused c p → lower b lent out ≡ refused c p
unfolding lower admit_output
not_admitted b lent out c p e = rw e

-- it is admitted, and the output is long enough
abbrev pub Lowers : List ℕ → Lent → ℕ → Type 0
Lowers b lent out =
    (f : File) × (admit b lent ≡ Ok f) × ((final_figures f).bytes ≤ out)
    × (lower b lent out ≡ Ok (record { file = written (lowered_file f); figures = final_figures f }))

abbrev pub Refuses : List ℕ → Lent → ℕ → Type 0
Refuses b lent out = (c : Reason) × (p : ℕ) × (lower b lent out ≡ refused c p)

by_length : (b : List ℕ) (lent : Lent) (out : ℕ) (f : File) (c : Bool) → leb (final_figures f).bytes out ≡ c → admit b lent ≡ Ok f
    → Lowers b lent out ⊎ Refuses b lent out
by_length b lent out f true l e = let long = leb-true _ _ l in inl (f, e, long, enough_output b lent out f e long)
by_length b lent out f false l e = inr (Reason.ShortOutput, out, short_output_lem b lent out f e (leb-false (final_figures f).bytes out l))

pub lower_total : (b : List ℕ) (lent : Lent) (out : ℕ)
    → Lowers b lent out ⊎ Refuses b lent out
lower_total b lent out =
    ⊎_elim (λ (f, e). by_length b lent out f _ refl e) (λ (c, p, e). inr (c, p, not_admitted b lent out c p e)) (one_of_two (admit b lent))
