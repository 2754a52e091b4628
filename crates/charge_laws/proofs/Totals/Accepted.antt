-- The tree of an accepted file is regular, and not too large for the tally's counters.
-- Assumes nothing.
use Rattle.std.specs.Prelude.{Ok, ◌≡◌, refl, true, false, List, [], ◌∷◌, ℕ, ◌≤◌, min, eqb}
use Rattle.std.proofs.Common.{◌∙◌, arith, eqb-true}
use Rattle.std.proofs.Math.Bool.{or-true}
use Rattle.meaning.specs.Numbers.Tag
use Rattle.meaning.specs.Tree.{one_of, Head, Forest, size}
use Rattle.meaning.specs.File.{File, numbers_of, has_children, own_numbers}
use Rattle.meaning.specs.Grammar.{field_of, right, children_of}
use Rattle.meaning.specs.Reading.{read_file}
use Rattle.meaning.specs.declared.Place.{Place}
use Rattle.meaning.specs.declared.Field.{Field}
use Rattle.meaning.specs.Charges.{final_figures}
use Rattle.figures.specs.declared.tally.Role.TheVariants.{Plain}
use Rattle.figures.specs.Tally.{cap, tally_of, tally_figures}
use Rattle.spec_laws.specs.Tags.{Seen, other, here, there, seen, clash}
use Rattle.parsing.specs.Places.{Bars, bars_tag, below_bars_1, below_bars_5}
use Rattle.parsing.specs.Parsed.{RecordAt, same_tag, Parsed, parsed_none, parsed_more}
use Rattle.parsing.specs.Counts.{parsed_bytes, size_bytes}
use Rattle.parsing.specs.Files.{file_parsed}
use Rattle.charge_laws.proofs.Growth.Items.{Exports}
use Rattle.charge_laws.proofs.Totals.Total.{figures_from, figures_are}
use Rattle.charge_laws.proofs.Totals.Bound.{tally_records, tally_cap}
use Rattle.charge_laws.proofs.Totals.Roles.{Lacks, LacksBelow, Regular}

-- ---- children

-- Labels and exports have one child
one_child_of : {t : ℕ} (p : Place) (syms a b c d next : ℕ) → Seen (Tag.Label ∷ Tag.DefaultExport ∷ Tag.ExportedDeclaration ∷ []) t → one_of (Tag.Label ∷ Tag.DefaultExport ∷ Tag.ExportedDeclaration ∷ []) t ≡ true
    → let x : Field = record { tag = t; a = a; b = b; c = c; d = d; next = next } in
    right p syms x ≡ true → children_of x ≡ 1
unfolding right children_of own_numbers has_children numbers_of
one_child_of p syms a b c d next here s e = eqb-true b 1 e
one_child_of p syms a b c d next (there e₄ here) s e = eqb-true a 1 e
one_child_of p syms a b c d next (there e₄ (there e₁₈ here)) s e = eqb-true a 1 e
one_child_of p syms a b c d next (there e₄ (there e₁₈ (there e₁₉ other))) s e = absurd (clash (rw (e₄, e₁₈, e₁₉)) s)

pub one_child : (p : Place) (syms : ℕ) (x : Field) → one_of (Tag.Label ∷ Tag.DefaultExport ∷ Tag.ExportedDeclaration ∷ []) x.tag ≡ true → right p syms x ≡ true → children_of x ≡ 1
one_child p syms x = one_child_of p syms x.a x.b x.c x.d x.next (seen (Tag.Label ∷ Tag.DefaultExport ∷ Tag.ExportedDeclaration ∷ []) x.tag)

-- ---- what is read

module _ {f : List ℕ} {syms : ℕ} where
  barred : {p : Place} {cur at : ℕ} {m : List ℕ} {h : Head} {k : Forest} (n : ℕ) → Bars n p → RecordAt f syms p cur at m h k
      → eqb h.tag n ≡ false
  barred {p} {at = at} n bars y = let t = (field_of f at).tag in rw (same_tag y) (bars_tag (eqb t n) p t n refl y.field.taken bars)

  lacks : {place : ℕ → Place} {i cur at next : ℕ} {m o : List ℕ} {t : Forest} (n : ℕ) → ((j : ℕ) → Bars n (place j))
      → Parsed f syms place i cur at m t next o → Lacks n t
  lacks n bars parsed_none = tt
  lacks {i = i} n bars (parsed_more y k r) = (barred n (bars i) y, lacks n bars r)

  lacks_program : {place : ℕ → Place} {i cur at next : ℕ} {m o : List ℕ} {t : Forest} → ((j : ℕ) → Bars Tag.Program (place j))
      → Parsed f syms place i cur at m t next o → LacksBelow Tag.Program t
  lacks_program bars parsed_none = tt
  lacks_program {i = i} bars (parsed_more y k r) =
      (barred 1 (bars i) y, lacks_program (below_bars_1 _ _) k, lacks_program bars r)

  exports : {place : ℕ → Place} {i cur at next : ℕ} {m o : List ℕ} {t : Forest} → Parsed f syms place i cur at m t next o → Exports t
  exports parsed_none = tt
  exports {place} {i} {at = at} (parsed_more {h = h} y k r) = (
    λ e. y.children ∙ one_child (place i) syms (field_of f at) (rw (← same_tag y, e) (or-true (eqb h.tag Tag.Label))) y.numbers,
    exports r,
  )

  regular : {place : ℕ → Place} {i cur at next : ℕ} {m o : List ℕ} {t : Forest} → Parsed f syms place i cur at m t next o → Regular t
  regular parsed_none = tt
  regular (parsed_more {h = h} y k r) = (
    λ e. lacks 5 (below_bars_5 _ _ (eqb-true _ 5 (rw (same_tag y) at e))) k,
    λ e. (lacks_program (below_bars_1 _ _) k, exports k),
    regular k,
    regular r,
  )

-- ---- the file

pub record Accepted (g : File) : Type 0 where
  pub regular : Regular g.tree
  pub small : size g.tree ≤ 65535

pub accepted_is : (f : List ℕ) (g : File) → read_file f ≡ Ok g → Accepted g
accepted_is f g e =
    let q = file_parsed f g e in
    record { regular = regular q.tree; small = omega (arith, q.small, parsed_bytes q.tree, size_bytes g.tree) }

-- its records are counted, and its final figures are those of its tally, which no cap has changed
pub accepted_records : (f : List ℕ) (g : File) → read_file f ≡ Ok g
    → (min (cap (tally_of g.symbols (λ _. Plain) 0 g.tree)).records 65535 ≡ size g.tree)
accepted_records f g e =
    omega (arith, (accepted_is f g e).small, tally_records g.symbols g.tree (λ _. Plain) 0)

pub accepted_figures : (f : List ℕ) (g : File) → read_file f ≡ Ok g
    → final_figures g ≡ figures_from g (tally_figures (cap (tally_of g.symbols (λ _. Plain) 0 g.tree)))
accepted_figures f g e =
    let a = accepted_is f g e in
    rw (tally_cap g.symbols g.tree (λ _. Plain) 0 a.small) (figures_are g a.regular)
