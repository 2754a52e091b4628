-- The figures after all visits are the final figures, and no figure is above its final one on the way.
-- Assumes nothing.
use Rattle.std.specs.Prelude.{Ok, if◌then◌else◌, ◌≡◌, Bool, ◌||◌, ◌&&◌, ℕ, zero, suc, ◌+◌, ◌≤◌, ◌<◌, length, take, eqb}
use Rattle.std.proofs.Math.Path.{refl}
use Rattle.std.proofs.Common.{sym, ap, ◌∙◌, take_all}
use Rattle.std.proofs.Math.Bool.{true, false, not}
use mathlib.Core.List.{List, [], ◌∷◌}
use native.Mathlib.Omega.{arith}
use borrow.Author.Tests.{ne_eqb, leb-true}
use Rattle.meaning.specs.File.{File}
use Rattle.meaning.specs.Reading.{read_file}
use Rattle.meaning.specs.Walk.{is_over, start, visits}
use Rattle.meaning.specs.Charges.{
  ContextKind,
  of_block,
  of_body,
  of_static_block,
  of_try_part,
  of_for,
  of_switch,
  Line,
  context,
  wrapped,
  for_of,
  for_of_block,
  program_block,
  top_level_class,
  exported_class,
  default_export,
  exported_names,
  helper,
  import_line,
  Figures,
  figures,
  ◌⊕◌,
  context_charge,
  line_charge,
  total,
  tree_lines,
  figures_in,
  figures_at,
  helper_lines,
  walk_figures,
  final_figures,
}
use Rattle.meaning.specs.Due.{is_context, any_context}
use Rattle.charge_laws.specs.VisitCharges.{standing, visits_in, add_helper, visit_charges}
use Rattle.spec_laws.specs.Figures.{Same, figures_same}
use Rattle.charge_laws.specs.Counts.Figures.{joined}
use Rattle.charge_laws.proofs.Fit.Accepted.{accepted_after}
use Rattle.charge_laws.proofs.Fit.Ends.{walk_ends}
use Rattle.charge_laws.proofs.Fit.Modes.{Linear, cost, costs, cost_++}
use Rattle.charge_laws.proofs.Fit.Sums.{sums}
use Rattle.charge_laws.proofs.Fit.Orderly.{accepted_orderly}

-- ---- the figures of lines, one by one

abbrev in_records : Line → ℕ
in_records l = (line_charge l).records

abbrev in_scopes : Line → ℕ
in_scopes l = (line_charge l).scopes

abbrev in_symbols : Line → ℕ
in_symbols l = (line_charge l).symbols

abbrev in_contexts : Line → ℕ
in_contexts l = (line_charge l).contexts

abbrev in_bytes : Line → ℕ
in_bytes l = (line_charge l).bytes

abbrev each : List (List Line) → Figures
each xs = figures (costs in_records xs) (costs in_scopes xs) (costs in_symbols xs) (costs in_contexts xs) (costs in_bytes xs)

lines_each : (ls : List Line)
    → Same (total ls) (figures (cost in_records ls) (cost in_scopes ls) (cost in_symbols ls) (cost in_contexts ls) (cost in_bytes ls))
unfolding total cost
lines_each [] = omega arith
lines_each (l ∷ ls) = omega (arith, lines_each ls)

joined_costs : (w : Line → ℕ) (xs : List (List Line)) → cost w (joined xs) ≡ costs w xs
unfolding joined cost costs
joined_costs w [] = refl
joined_costs w (x ∷ xs) = omega (arith, cost_++ w x (joined xs), joined_costs w xs)

total_each : (xs : List (List Line)) → Same (total (joined xs)) (each xs)
total_each xs =
    omega (
      arith,
      lines_each (joined xs),
      joined_costs in_records xs,
      joined_costs in_scopes xs,
      joined_costs in_symbols xs,
      joined_costs in_contexts xs,
      joined_costs in_bytes xs,
    )

-- ---- the helper's line

-- a test and a count agree
abbrev pub Agree : Bool → ℕ → Type 0
Agree true n = 0 < n
Agree false n = n ≡ 0

agree_or : (a b : Bool) (m n : ℕ) → Agree a m → Agree b n → Agree (a || b) (m + n)
agree_or true b m n p q = omega arith
agree_or false true m n p q = omega arith
agree_or false false m n p q = omega arith

kind_agrees : (k : ContextKind) → 0 < (context_charge k).contexts
unfolding context_charge
kind_agrees of_block = omega arith
kind_agrees of_body = omega arith
kind_agrees of_static_block = omega arith
kind_agrees of_try_part = omega arith
kind_agrees of_for = omega arith
kind_agrees of_switch = omega arith

line_agrees : (l : Line) → Agree (is_context l) (in_contexts l)
unfolding is_context line_charge
line_agrees (context k) = kind_agrees k
line_agrees (wrapped n) = refl
line_agrees for_of = refl
line_agrees for_of_block = refl
line_agrees program_block = refl
line_agrees top_level_class = refl
line_agrees exported_class = refl
line_agrees default_export = refl
line_agrees (exported_names n) = refl
line_agrees helper = refl
line_agrees import_line = refl

lines_agree : (ls : List Line) → Agree (any_context ls) (cost in_contexts ls)
unfolding any_context cost
lines_agree [] = refl
lines_agree (l ∷ ls) = agree_or (is_context l) (any_context ls) (in_contexts l) (cost in_contexts ls) (line_agrees l) (lines_agree ls)

pub contexts_agree : (ls : List Line) → Agree (any_context ls) (total ls).contexts
contexts_agree ls = rw (lines_each ls).3 (lines_agree ls)

-- with so many contexts, if it is missing
abbrev helper_if : Bool → ℕ → List Line
helper_if missing n = if missing && not (eqb n 0) then helper ∷ [] else []

module _ (w : Line → ℕ) where
  Added : Bool → List (List Line) → Type 0
  Added m xs = costs w (add_helper m xs) ≡ costs w xs + cost w (helper_if m (costs in_contexts xs))

  one_added : (m c : Bool) (x : List Line) (xs : List (List Line)) → any_context x ≡ c → Agree c (cost in_contexts x) → Added (m && not c) xs
      → Added m (x ∷ xs)
  unfolding Added add_helper costs cost
  one_added true true x xs e a i =
      let n = ne_eqb (cost in_contexts x + costs in_contexts xs) 0 (λ z. omega arith) in
      rw (e, n) (omega arith)
  one_added true false x xs e a i =
      let n : cost in_contexts x + costs in_contexts xs ≡ costs in_contexts xs = omega arith in
      rw (e, n) (omega arith)
  one_added false c x xs e a i = omega arith

  helper_added : (m : Bool) (xs : List (List Line)) → Added m xs
  unfolding Added add_helper costs cost
  helper_added true [] = omega arith
  helper_added false [] = omega arith
  helper_added m (x ∷ xs) = one_added m (any_context x) x xs refl (lines_agree x) (helper_added (m && not (any_context x)) xs)

-- ---- all visits

linear : (n : ℕ) → Same (line_charge (wrapped (1 + n))) (line_charge (wrapped 1) ⊕ line_charge (wrapped n))
unfolding line_charge
linear n = omega arith

module _ (b : List ℕ) (f : File) (e : read_file b ≡ Ok f) where
  -- in one figure
  abbrev Equal : (Line → ℕ) → Type 0
  Equal w =
      let ls = tree_lines f.symbols 0 f.tree in
      costs w (visit_charges f) ≡ cost w ls + cost w (helper_if (eqb f.mode 0) (total ls).contexts)

  source_cost : (w : Line → ℕ) → Linear w
      → costs w (visits_in f.symbols f.tree standing) ≡ cost w (tree_lines f.symbols 0 f.tree)
  source_cost w l = let o = accepted_orderly b f e in (sums w l f.symbols f.tree o.0).0 o.1

  equal : (w : Line → ℕ) → Linear w → Equal w
  unfolding Added visit_charges
  equal w l =
      rw ((lines_each (tree_lines f.symbols 0 f.tree)).3, ← source_cost w l, ← source_cost in_contexts (λ n. (linear n).3))
      (helper_added w (eqb f.mode 0) (visits_in f.symbols f.tree standing))

  -- The charges of all visits and the figures read are the figures at the end of the walk.
  pub charges_final : figures_in f ⊕ total (joined (visit_charges f)) ≡ walk_figures f
  unfolding walk_figures helper_lines
  charges_final =
      let ls = tree_lines f.symbols 0 f.tree in
      figures_same _ _
      (omega (
        arith,
        total_each (visit_charges f),
        lines_each ls,
        lines_each (helper_if (eqb f.mode 0) (total ls).contexts),
        equal in_records (λ n. (linear n).0),
        equal in_scopes (λ n. (linear n).1),
        equal in_symbols (λ n. (linear n).2),
        equal in_contexts (λ n. (linear n).3),
        equal in_bytes (λ n. (linear n).4),
      ))

-- ---- the walk

-- Once the walk of an accepted file is over, it has these figures.
pub accepted_final : (b : List ℕ) (f : File) (k : ℕ) → read_file b ≡ Ok f → is_over (visits k (start f)) ≡ true
    → figures_at (visits k (start f)) ≡ walk_figures f
accepted_final b f k e o =
    let all = take_all k (visit_charges f) (leb-true (length (visit_charges f)) k (sym (walk_ends b f k e) ∙ o)) in
    accepted_after b f k e
    ∙ ap (λ (xs : List (List Line)). figures_in f ⊕ total (joined xs)) all
    ∙ charges_final b f e

-- each figure is at most the other's
abbrev pub AtMost : Figures → Figures → Type 0
AtMost x y =
    (x.records ≤ y.records) × (x.scopes ≤ y.scopes) × (x.symbols ≤ y.symbols) × (x.contexts ≤ y.contexts) × (x.bytes ≤ y.bytes)

first_most : (w : Line → ℕ) (k : ℕ) (xs : List (List Line)) → costs w (take k xs) ≤ costs w xs
unfolding costs
first_most w zero xs = omega arith
first_most w (suc k) [] = omega arith
first_most w (suc k) (x ∷ xs) = omega (arith, first_most w k xs)

-- After any number of visits no figure of an accepted file is above its final one.
pub never_above : (b : List ℕ) (f : File) (k : ℕ) → read_file b ≡ Ok f → AtMost (figures_at (visits k (start f))) (final_figures f)
unfolding final_figures
never_above b f k e =
    let xs = visit_charges f in
    rw (accepted_after b f k e, ← charges_final b f e)
    (omega (
      arith,
      total_each xs,
      total_each (take k xs),
      first_most in_records k xs,
      first_most in_scopes k xs,
      first_most in_symbols k xs,
      first_most in_contexts k xs,
      first_most in_bytes k xs,
    ))
