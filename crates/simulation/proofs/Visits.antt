-- After any number of visits the tables hold what 01 has after so many.
-- Assumes nothing.
use Rattle.std.specs.Prelude.{Ok, ◌≡◌, length, take}
use Rattle.std.proofs.Math.Path.{refl, ap}
use Rattle.std.proofs.Common.{sym, ◌∙◌}
use mathlib.Core.List.{List, [], ◌∷◌}
use Prim.Native.Nat.{ℕ, zero, suc, ◌+◌, ◌-◌, ◌≤◌}
use native.Mathlib.Omega.{arith}
use Rattle.meaning.specs.Tree.{none, size}
use Rattle.meaning.specs.File.{Symbol, File}
use Rattle.meaning.specs.Reading.{read_file}
use Rattle.meaning.specs.Walk.{Spot, visit, visits, store_of, start, tree_at, store_at}
use Rattle.meaning.specs.Charges.{
  ContextKind,
  of_block,
  of_body,
  of_static_block,
  of_try_part,
  of_for,
  of_switch,
  Line,
  context,
  wrapped,
  for_of,
  for_of_block,
  program_block,
  top_level_class,
  exported_class,
  default_export,
  exported_names,
  helper,
  import_line,
  Figures,
  context_charge,
  line_charge,
  total,
  figures_in,
  figures_at,
  final_figures,
}
use Rattle.charge_laws.specs.VisitCharges.{visit_charges}
use Rattle.charge_laws.proofs.Totals.Fits.{accepted_fits}
use Rattle.charge_laws.specs.Counts.Figures.{joined}
use Rattle.charge_laws.proofs.Counts.Figures.{whole_at}
use Rattle.charge_laws.proofs.Counts.Pending.{Pending, spot_fits}
use Rattle.charge_laws.proofs.Fit.Accepted.{accepted_fit, accepted_after}
use Rattle.charge_laws.proofs.Fit.Final.{never_above}
use Rattle.tables.specs.Loops.{turns}
use Rattle.representation.proofs.Gap.Rows.{turns_last}
use Rattle.representation.specs.Store.Held.{Agrees}
use Rattle.representation.proofs.Store.Agreed.{Agreed}
use Rattle.path.specs.Path.{Tables}
use Rattle.representation.specs.Spots.Spots.{Rest, held}
use Rattle.representation.proofs.Spots.Lengths.{store_settled}
use Rattle.scoping_laws.specs.Created.Held.{Room}
use Rattle.simulation.proofs.Rewritten.Replaced.{with_free}
use Rattle.simulation.proofs.Tried.Passing.{new_scopes, new_symbols, scopes_more}
use Rattle.walk.specs.Visit.{visit_f}
use Rattle.simulation.proofs.Rewrite.{new_records}
use Rattle.simulation.proofs.Visit.{visit_grows, visit_kept, visit_law}
use Rattle.spec_laws.specs.Trees.{visits_last}
use Rattle.scoping_laws.proofs.Itemized.Program.{free_more as symbols_more}

-- ---- tables of so many rows

-- The tables of a spot have x's records, scopes and symbols as rows, those that it does not need being free; z is behind them.
abbrev pub held_in : Figures → Rest → Spot → Tables
held_in x z s =
    held s (x.records - size (tree_at s))
    (with_free (x.scopes - length (store_at s).scopes) (x.symbols - length (store_at s).symbols) z)

-- ONE VISIT, in tables that have the rows for what it leaves
visit_in : (x : Figures) (z : Rest) (s : Spot) → Pending s → Agreed (store_at s) → Room (store_at (visit s)) → x.records ≤ 65535
    → (size (tree_at (visit s)) ≤ x.records) × (length (store_at (visit s)).scopes ≤ x.scopes)
    × (length (store_at (visit s)).symbols ≤ x.symbols)
    → visit_f (held_in x z s) ≡ held_in x z (visit s)
visit_in x z s p a room small most =
    let st = store_at s in
    let st' = store_at (visit s) in
    let l = visit_grows s p in
    let g = x.records - size (tree_at (visit s)) in
    let m = x.scopes - length st'.scopes in
    let y = x.symbols - length st'.symbols in
    let e₁ : x.records - size (tree_at s) ≡ new_records (tree_at s) (tree_at (visit s)) + g = omega (arith, l) in
    let e₂ : x.scopes - length st.scopes ≡ new_scopes st st' + m = omega (arith, l) in
    let e₃ : x.symbols - length st.symbols ≡ new_symbols st st' + y = omega (arith, l) in
    rw (e₁, e₂, e₃, scopes_more (new_scopes st st') m z.scopes, symbols_more (new_symbols st st') y z.symbols)
    (visit_law s g (with_free m y z) p a room (omega arith))

-- ---- a spot's figures

pub at_spot : (s : Spot)
    → ((figures_at s).records ≡ size (tree_at s)) × ((figures_at s).scopes ≡ length (store_at s).scopes)
    × ((figures_at s).symbols ≡ length (store_at s).symbols) × ((figures_at s).contexts ≡ (store_at s).contexts)
at_spot s = omega (arith, whole_at s)

-- a context makes a symbol
kind_most : (k : ContextKind) → (context_charge k).contexts ≤ (context_charge k).symbols
unfolding context_charge
kind_most of_block = omega arith
kind_most of_body = omega arith
kind_most of_static_block = omega arith
kind_most of_try_part = omega arith
kind_most of_for = omega arith
kind_most of_switch = omega arith

line_most : (l : Line) → (line_charge l).contexts ≤ (line_charge l).symbols
unfolding line_charge
line_most (context k) = kind_most k
line_most (wrapped n) = omega arith
line_most for_of = omega arith
line_most for_of_block = omega arith
line_most program_block = omega arith
line_most top_level_class = omega arith
line_most exported_class = omega arith
line_most default_export = omega arith
line_most (exported_names n) = omega arith
line_most helper = omega arith
line_most import_line = omega arith

contexts_most_lem : (ls : List Line) → (total ls).contexts ≤ (total ls).symbols
unfolding total
contexts_most_lem [] = omega arith
contexts_most_lem (l ∷ ls) = omega (arith, line_most l, contexts_most_lem ls)

-- ---- a file

same_rows : (ys : List Symbol) → Agrees ys ys
same_rows [] = tt
same_rows (y ∷ ys) = (refl, refl, same_rows ys)

module _ (b : List ℕ) (f : File) (e : read_file b ≡ Ok f) where
  abbrev spot : ℕ → Spot
  spot k = visits k (start f)

  -- at each spot the store has 16 bits
  room_at : (k : ℕ) → Room (store_at (spot k))
  unfolding figures_in
  room_at k =
      omega (
        arith,
        at_spot (spot k),
        never_above b f k e,
        accepted_fits b f e,
        contexts_most_lem (joined (take k (visit_charges f))),
        ap (λ (x : Figures). x.contexts) (accepted_after b f k e),
        ap (λ (x : Figures). x.symbols) (accepted_after b f k e),
      )

  agreed_at : (k : ℕ) → Agreed (store_at (spot k))
  unfolding visits start store_of
  agreed_at zero = rw (store_settled (store_of f) [] none f.tree) (same_rows f.symbols)
  agreed_at (suc k) = rw (visits_last k (start f)) (visit_kept (spot k) (spot_fits k f (accepted_fit b f e)) (agreed_at k))

  -- each visit, on tables with as many rows as the lowered tree, scopes and symbols take
  pub visit_holds : (k : ℕ) (z : Rest) → visit_f (held_in (final_figures f) z (spot k)) ≡ held_in (final_figures f) z (spot (suc k))
  visit_holds k z =
      let next = visits_last k (start f) in
      visit_in (final_figures f) z (spot k) (spot_fits k f (accepted_fit b f e)) (agreed_at k) (rw (← next) (room_at (suc k)))
      (accepted_fits b f e).0
      (rw (← next) (omega (arith, at_spot (spot (suc k)), never_above b f (suc k) e)))
      ∙ ap (held_in (final_figures f) z) (sym next)

  -- THE VISITS ON TABLES ARE 01'S. An accepted file's tables, with as many rows as its lowered tree, scopes and symbols take, hold after
  -- any number of visits the tree, the scopes, the symbols and the place of 01's walk after so many.
  pub visits_hold_tables : (k : ℕ) (z : Rest)
      → turns k visit_f (held_in (final_figures f) z (start f)) ≡ held_in (final_figures f) z (visits k (start f))
  unfolding turns visits
  visits_hold_tables zero z = refl
  visits_hold_tables (suc k) z = turns_last k visit_f _ ∙ ap visit_f (visits_hold_tables k z) ∙ visit_holds k z
