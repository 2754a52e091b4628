-- A file whose scopes are numbered in tree order.
-- Assumes nothing.
use Rattle.std.specs.Prelude.{◌≡◌, refl, true, ◌&&◌, List, [], ◌∷◌, ◌++◌, map, ℕ, suc, ◌+◌, ◌≤◌, length}
use Rattle.std.proofs.Common.{sym, ap₂, ◌∙◌, append_assoc, length-append, le-leb}
use Rattle.std.proofs.Math.Path.{ap}
use native.Mathlib.Omega.{arith}
use Rattle.std.proofs.Math.ListN.{length-map}
use Rattle.std.proofs.Math.Seq.{get_or-append_seam}
use Rattle.meaning.specs.File.{Scope, scope_row, Symbol, File}
use Rattle.meaning.specs.Grammar.{is_row}
use Rattle.meaning.specs.Scoping.{row_at, no_scope}
use Rattle.meaning.specs.Agreement.{ScopesAgree}
use Rattle.meaning.specs.Renumbering.{named_scopes, new_number, renumbered_scope, renumbered_symbol, renumbered}
use Rattle.meaning.specs.Charges.{figures, figures_in}
use Rattle.bound_laws.specs.Numbers.{All, ScopeWithin, SymbolWithin, all_row}
use Rattle.readback_laws.proofs.InBytes.{Small}
use Rattle.renumbering_laws.specs.Order.{up_from, places_up, up_keeps}
use Rattle.renumbering_laws.specs.Trees.{
  all_same,
  renumbered_size,
  renumbered_bytes,
  renumbered_mentions,
  renumbered_within,
  renumbered_named,
  renumbered_same,
}
use Rattle.renumbering_laws.specs.Named.{named_once, named_length, no_zero, new_most, all_new, named_few, parents_few}

-- ---- rows of a list

all_map : {X Y : Type 0} (P : X → Type 0) (Q : Y → Type 0) (g : X → Y) (xs : List X) → ((x : X) → P x → Q (g x)) → All P xs → All Q (map g xs)
all_map P Q g [] q p = tt
all_map P Q g (x ∷ xs) q p = (q x p.0, all_map P Q g xs q p.1)

every : {X : Type 0} (P : X → Type 0) (xs : List X) → ((x : X) → P x) → All P xs
every P [] p = tt
every P (x ∷ xs) p = (p x, every P xs p)

-- ---- figures, bytes and order

module _ (g : File) (agree : ScopesAgree g.scopes g.tree) where
  abbrev new : ℕ → ℕ
  new = new_number (named_scopes g.tree)

  pub renumbered_scopes : length (renumbered g).scopes ≡ length g.scopes
  unfolding renumbered
  renumbered_scopes =
      length-map (named_scopes g.tree) (renumbered_scope new g.scopes) ∙ named_length g.scopes g.tree agree

  -- THE FIGURES STAY.
  pub renumbered_figures : figures_in (renumbered g) ≡ figures_in g
  unfolding figures_in renumbered
  renumbered_figures =
      let ss = renumbered_scopes in
      let ys = length-map g.symbols (renumbered_symbol new) in
      rw (renumbered_size new g.tree, renumbered_bytes new g.tree, ss, ys)

  -- no number is above 65,535
  pub renumbered_small : length g.scopes ≤ 65535 → Small g → Small (renumbered g)
  unfolding renumbered renumbered_scope renumbered_symbol
  renumbered_small few q =
      let fits : (s : ℕ) → new s ≤ 65535 = λ s. omega (arith, new_most g.scopes g.tree agree s) in
      let flags : (s : ℕ) → ScopeWithin 65535 (row_at no_scope g.scopes s) =
      λ s. all_row (ScopeWithin 65535) no_scope g.scopes s (omega arith, omega arith) q.scope_rows in
      record {
        settings = q.settings;
        scope_rows =
            all_map (λ (s : ℕ). Unit {0}) (ScopeWithin 65535) (renumbered_scope new g.scopes) (named_scopes g.tree)
            (λ s _. (fits (row_at no_scope g.scopes s).parent, (flags s).1)) (every (λ (s : ℕ). Unit {0}) (named_scopes g.tree) (λ s. tt));
        symbol_rows =
            all_map (SymbolWithin 65535) (SymbolWithin 65535) (renumbered_symbol new) g.symbols
            (λ y p. (p.0, p.1, fits y.scope, p.3)) q.symbol_rows;
        counts = λ y l. rw (renumbered_mentions new y g.tree) (q.counts y l);
        heads = renumbered_within new 65535 fits g.tree q.heads;
        records = rw (renumbered_size new g.tree) q.records;
      }

  -- IN TREE ORDER: the tree names 1, 2, 3 and so on, as many as there are rows.
  pub in_order : named_scopes (renumbered g).tree ≡ up_from 1 (length g.scopes)
  unfolding renumbered
  in_order =
      renumbered_named new (no_zero g.scopes g.tree agree) g.tree (all_new g.scopes g.tree agree)
      ∙ places_up 1 (named_scopes g.tree) (named_once g.scopes g.tree agree)
      ∙ ap (up_from 1) (named_length g.scopes g.tree agree)

-- ---- a file in tree order is left as it is

scope_same : (new : ℕ → ℕ) (ss : List Scope) (s : ℕ) → new (row_at no_scope ss s).parent ≡ (row_at no_scope ss s).parent
    → renumbered_scope new ss s ≡ row_at no_scope ss s
unfolding renumbered_scope
scope_same new ss s e = ap (λ (p : ℕ). scope_row p (row_at no_scope ss s).flags) e

-- the rows behind some others, in their order
scopes_same : (new : ℕ → ℕ) (before after : List Scope)
    → ((s : ℕ) → is_row (length (before ++ after)) s ≡ true → new (row_at no_scope (before ++ after) s).parent ≡ (row_at no_scope (before ++ after) s).parent)
    → map (renumbered_scope new (before ++ after)) (up_from (suc (length before)) (length after)) ≡ after
unfolding up_from
scopes_same new before [] keeps = refl
scopes_same new before (s ∷ after) keeps =
    let all = before ++ s ∷ after in
    let long = length-append before (s ∷ after) in
    let row : is_row (length all) (suc (length before)) ≡ true = ap₂ ◌&&◌ (le-leb 1 (suc (length before)) (omega arith)) (le-leb _ (length all) (omega (arith, long))) in
    let next : before ++ s ∷ after ≡ (before ++ s ∷ []) ++ after = sym (append_assoc before (s ∷ []) after) in
    let count : length (before ++ s ∷ []) ≡ suc (length before) = omega (arith, length-append before (s ∷ [])) in
    let rest = scopes_same new (before ++ s ∷ []) after (rw next at keeps) in
    ap₂ ◌∷◌ (scope_same new all (suc (length before)) (keeps (suc (length before)) row) ∙ get_or-append_seam before s after no_scope)
    (rw (← next, count) at rest)

symbols_same : (new : ℕ → ℕ) (ys : List Symbol) → All (λ y. new y.scope ≡ y.scope) ys → map (renumbered_symbol new) ys ≡ ys
unfolding renumbered_symbol
symbols_same new [] p = refl
symbols_same new (y ∷ ys) p = ap₂ ◌∷◌ (rw p.0) (symbols_same new ys p.1)

-- A FILE WHOSE TREE NAMES 1, 2, 3 AND SO ON.
pub already_ordered : (g : File) → ScopesAgree g.scopes g.tree → named_scopes g.tree ≡ up_from 1 (length g.scopes)
    → All (λ y. y.scope ≤ length g.scopes) g.symbols → renumbered g ≡ g
unfolding renumbered
already_ordered g agree ordered few =
    let n = length g.scopes in
    let new = new_number (named_scopes g.tree) in
    let keeps : (s : ℕ) → s ≤ n → new s ≡ s = λ s l. ap (λ (order : List ℕ). new_number order s) ordered ∙ up_keeps n s l in
    let ss : map (renumbered_scope new g.scopes) (named_scopes g.tree) ≡ g.scopes =
    ap (map (renumbered_scope new g.scopes)) ordered
    ∙ scopes_same new [] g.scopes (λ s e. keeps _ (parents_few g.scopes g.tree agree s e)) in
    let ys = symbols_same new g.symbols (all_same (λ (y : Symbol). y.scope ≤ n) (λ y. new y.scope ≡ y.scope) g.symbols (λ y l. keeps y.scope l) few) in
    let tree =
    renumbered_same new (no_zero g.scopes g.tree agree) g.tree
    (all_same (λ (s : ℕ). s ≤ n) (λ s. new s ≡ s) (named_scopes g.tree) keeps (named_few g.scopes g.tree agree)) in
    λ i. record { mode = g.mode; is_module = g.is_module; scopes = ss i; symbols = ys i; tree = tree i }
