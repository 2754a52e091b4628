-- The import line (02, request 1): when it stands, what it is, that it stands once; and the lines of its form that were read.
-- Assumes nothing.
use Rattle.std.specs.Prelude.{Ok, if◌then◌else◌, ◌≡◌, Bool, ◌||◌, ◌&&◌, List, ℕ, zero, suc, ◌*◌, ◌≤◌, leb, length}
use Rattle.std.proofs.Math.Path.{refl, sym, ap, subst}
use Rattle.std.proofs.Common.{ap₂, ◌∙◌, arith, ne_eqb}
use Rattle.std.proofs.Math.Bool.{true, false, not}
use Rattle.std.proofs.Math.Dec.{eqb}
use Rattle.std.proofs.lemmas.Bool.{eqb-false, lt-leb}
use Rattle.meaning.specs.Numbers.Tag
use Rattle.meaning.specs.Numbers.LineForm
use Rattle.meaning.specs.Numbers.KnownName
use Rattle.meaning.specs.Numbers.Mode
use Rattle.meaning.specs.Tree.{Head, hd, Forest, none, more, one, count, ◌&◌}
use Rattle.meaning.specs.File.{File, numbers_of, has_children, own_numbers, written}
use Rattle.meaning.specs.Scoping.{Store, symbol_in, create_symbol}
use Rattle.meaning.specs.Grammar.{module_line_right, right, children_of, place_of, head_of, scope_of}
use Rattle.meaning.specs.declared.Place.{Place}
use Rattle.meaning.specs.declared.Place.TheVariants.{Program}
use Rattle.meaning.specs.declared.Field.{Field}
use Rattle.meaning.specs.Reading.{read_file}
use Rattle.meaning.specs.HelperLoader.{is_first}
use Rattle.meaning.specs.Statements.{make_context}
use Rattle.meaning.specs.Program.{
  transform_class_decl,
  Split,
  top_level_class,
  top_level_declaration,
  exported_declaration,
  exported_class,
  default_class,
  default_value,
  ItemAct,
  item_as,
  program_item,
  program_items,
}
use Rattle.meaning.specs.Walk.{Spot, at, leaving, over, is_over, visits, start, tree_at, store_at, file_at}
use Rattle.meaning.specs.ImportLine.{import_due, with_import, completed, visit_calls}
use Rattle.meaning.specs.Charges.{Figures, final_figures}
use Rattle.meaning.specs.Lowering.{admit, final_spot, lowered_file}
use Rattle.meaning.specs.Renumbering.{scope_named, named_scopes, place_from, new_number, with_scope, renumbered_tree, renumbered}
use Rattle.spec_laws.specs.Tags.{clash, and_right}
use Rattle.spec_laws.specs.Trees.{Bytes, visits_last}
use Rattle.spec_laws.specs.Calls.{completed_store, not_yet, completed_none, calls_are}
use Rattle.charge_laws.proofs.Counts.Left.{over_stays_lem}
use Rattle.charge_laws.proofs.Growth.Items.{
  Anything,
  ChosenItem,
  as_kept,
  as_moved,
  as_class,
  as_declaration,
  as_exported_declaration,
  as_exported_class,
  as_default_class,
  as_default_value,
  chosen_item,
}
use Rattle.charge_laws.proofs.Fit.Import.{accepted_helper, due_if, calls_final}
use Rattle.charge_laws.proofs.Fit.Placed.{ReadAs, same_tag, Placed, accepted_placed}
use Rattle.charge_laws.proofs.Fit.Root.{accepted_program}
use Rattle.simulation.proofs.Visits.{at_spot}
use Rattle.start.specs.Start.{lent_in}
use Rattle.start.specs.Filled.{admitted}
use Rattle.bound_laws.specs.Last.{last_spot_lem, last_over, final_is}
use Rattle.readback_laws.specs.Decoded.{tree_in}
use Rattle.readback_laws.proofs.Mapped.{mapped}
use Rattle.readback_laws.proofs.Back.{plain_head, plain, tree_back}
use Rattle.renumbering_laws.specs.Final.{lowered_tagged, lowered_childless}
use Rattle.scoping.specs.Changes.{SymbolRows, in_symbols}
use Rattle.representation.specs.Store.Held.{ctx_of}
use Rattle.helper_loader.specs.declared.Loaded.{Loaded}
use Rattle.helper_loader.specs.Load.{loading, loaded_f, helper_load_f}

-- ---- the line

-- a module in runtime mode with a context
abbrev pub imports : File → Bool
imports f = eqb f.mode Mode.Runtime && eqb f.is_module 1 && not (eqb (final_figures f).contexts 0)

-- the symbol y is the helper's: it is a row on `using_ctx` with a made name
abbrev pub IsHelper : Store → ℕ → Type 0
IsHelper st y =
    (y ≡ st.helper) × (1 ≤ y) × (y ≤ length st.symbols) × ((symbol_in st y).name ≡ KnownName.UsingCtx) × ((symbol_in st y).made ≡ 1)

-- What is said of calls for visits, by where k of them lead.
pub record ImportLine (calls : ℕ → File → Spot) (f : File) (k : ℕ) : Type 0 where
  -- as long as a visit is left, k calls lead where k visits lead
  pub before : is_over (visits k (start f)) ≡ false → calls k f ≡ visits k (start f)
  -- without such a module they do so to the end
  pub elsewhere : imports f ≡ false → calls k f ≡ visits k (start f)
  -- in one, from the call of the last visit on, Program has one child more, before the others: a Module line of form 4 and token 0 with one
  -- Specifier, which names the helper's symbol and the name 3
  pub first : imports f ≡ true → is_over (visits k (start f)) ≡ true
      → (items : Forest) × (y : ℕ) × (tree_at (visits k (start f)) ≡ one (hd Tag.Program 1 0 0) items)
      × (tree_at (calls k f) ≡ one (hd Tag.Program 1 0 0) (more (hd Tag.ModuleLine 4 0 0) (one (hd Tag.Specifier y 3 0) none) items))
      × IsHelper (store_at (calls k f)) y
  -- the rows are those that the visits leave
  pub rows : store_at (calls k f) ≡ store_at (visits k (start f))
  -- and once the last visit is made a call changes nothing, so the line is put once
  pub once : is_over (visits k (start f)) ≡ true → calls (suc k) f ≡ calls k f

-- where k calls lead
abbrev pub calls : ℕ → File → Spot
calls k f = visit_calls k (start f)

completed_tree : (s : Spot) → is_over s ≡ true → import_due (store_at s) ≡ true → tree_at (completed s) ≡ with_import (store_at s).helper (tree_at s)
unfolding completed is_over tree_at store_at
completed_tree (over tree st) o e = rw e
completed_tree (at d h k r p st) o e = absurd (clash refl o)
completed_tree (leaving k h d r p st) o e = absurd (clash refl o)

module _ (b : List ℕ) (f : File) (k : ℕ) (e : read_file b ≡ Ok f) where
  abbrev spot : Spot
  spot = visits k (start f)

  stands : visit_calls k (start f) ≡ completed spot
  stands = calls_are k f

  -- at the end the walk has made all contexts
  ended_contexts : is_over spot ≡ true → (store_at spot).contexts ≡ (final_figures f).contexts
  ended_contexts o =
      omega (
        arith,
        at_spot (completed spot),
        ap (λ (st : Store). st.contexts) (completed_store spot),
        ap (λ (x : Figures). x.contexts) (calls_final b f e k o),
      )

  ended_due : is_over spot ≡ true → import_due (store_at spot) ≡ imports f
  ended_due o = rw (← ended_contexts o) (due_if (accepted_helper b f k e))

  the_elsewhere : imports f ≡ false → visit_calls k (start f) ≡ spot
  the_elsewhere n = stands ∙ go (is_over spot) refl
    where
      go : (o : Bool) → is_over spot ≡ o → completed spot ≡ spot
      go true o = completed_none spot (ended_due o ∙ n)
      go false o = not_yet spot o

  -- the helper is made
  loaded : import_due (store_at spot) ≡ true → eqb (store_at spot).helper 0 ≡ false
  unfolding import_due
  loaded d =
      let st = store_at spot in
      not_none (eqb st.helper 0) (and_right (eqb st.mode Mode.Runtime && eqb st.is_module 1) _ d)
    where
      not_none : (b : Bool) → not b ≡ true → b ≡ false
      not_none true e = absurd (clash refl e)
      not_none false e = refl

  is_helper : import_due (store_at spot) ≡ true → IsHelper (store_at spot) (store_at spot).helper
  is_helper d =
      let row = (accepted_helper b f k e).row (loaded d) in
      (refl, some (store_at spot).helper (loaded d), row.0, row.1, row.2)
    where
      some : (y : ℕ) → eqb y 0 ≡ false → 1 ≤ y
      some y n = omega (arith, eqb-false y 0 n)

  the_first : imports f ≡ true → is_over spot ≡ true
      → (items : Forest) × (y : ℕ) × (tree_at spot ≡ one (hd Tag.Program 1 0 0) items)
      × (tree_at (visit_calls k (start f)) ≡ one (hd Tag.Program 1 0 0) (more (hd Tag.ModuleLine 4 0 0) (one (hd Tag.Specifier y 3 0) none) items))
      × IsHelper (store_at (visit_calls k (start f))) y
  unfolding with_import ◌&◌
  the_first i o =
      let p = accepted_program b f k e in
      let due = ended_due o ∙ i in
      let y = (store_at spot).helper in (
        p.0,
        y,
        p.1,
        ap tree_at stands ∙ completed_tree spot o due ∙ ap (with_import y) p.1,
        rw (stands, completed_store spot) (is_helper due),
      )

  the_once : is_over spot ≡ true → visit_calls (suc k) (start f) ≡ visit_calls k (start f)
  unfolding visits
  the_once o = calls_are (suc k) f ∙ ap completed (visits_last k (start f) ∙ over_stays_lem 1 spot o) ∙ sym stands

  -- THE IMPORT LINE of an accepted file.
  pub import_stands : ImportLine calls f k
  import_stands =
      record {
        before = λ o. stands ∙ not_yet spot o;
        elsewhere = the_elsewhere;
        first = the_first;
        rows = ap store_at stands ∙ completed_store spot;
        once = the_once;
      }

-- ---- in the written bytes

module _ (bytes r s y : List ℕ) (f : File) (b : Bytes bytes) (e : admit bytes (lent_in r s y) ≡ Ok f) where
  abbrev n : ℕ
  n = 2 * (final_figures f).records

  read : read_file bytes ≡ Ok f
  read = (admitted bytes r s y f e).0

  ended : is_over (visits n (start f)) ≡ true
  ended = ap is_over (sym (last_spot_lem f)) ∙ last_over bytes f read

  final : visit_calls n (start f) ≡ final_spot f
  final = final_is bytes f n read ended

  -- Program's scope is named first
  first_stays : (items : Forest) → new_number (named_scopes (one (hd Tag.Program 1 0 0) items)) 1 ≡ 1
  unfolding named_scopes scope_named scope_of place_from
  first_stays items = refl

  line_numbered : (new : ℕ → ℕ) (y : ℕ) (items : Forest) → new 1 ≡ 1
      → plain (renumbered_tree new (one (hd Tag.Program 1 0 0) (more (hd Tag.ModuleLine 4 0 0) (one (hd Tag.Specifier y 3 0) none) items)))
      ≡ one (hd Tag.Program 1 0 0) (more (hd Tag.ModuleLine 4 0 0) (one (hd Tag.Specifier y 3 0) none) (plain (renumbered_tree new items)))
  unfolding renumbered_tree with_scope scope_of mapped plain_head own_numbers has_children numbers_of
  line_numbered new y items first =
      ap (λ (s : ℕ). one (hd Tag.Program s 0 0) (more (hd Tag.ModuleLine 4 0 0) (one (hd Tag.Specifier y 3 0) none) (plain (renumbered_tree new items)))) first

  -- THE WRITTEN FILE BEGINS ITS PROGRAM WITH THE LINE.
  pub import_in_bytes : imports f ≡ true
      → (items : Forest) × (y : ℕ)
      × (tree_in (written (lowered_file f)) ≡ one (hd Tag.Program 1 0 0) (more (hd Tag.ModuleLine 4 0 0) (one (hd Tag.Specifier y 3 0) none) items))
      × IsHelper (store_at (final_spot f)) y
  unfolding lowered_file renumbered file_at
  import_in_bytes i =
      let p = the_first bytes f n read i ended in
      let tree : tree_at (final_spot f) ≡ one (hd Tag.Program 1 0 0) (more (hd Tag.ModuleLine 4 0 0) (one (hd Tag.Specifier p.1 3 0) none) p.0) =
      ap tree_at (sym final) ∙ p.3 in (
        plain (renumbered_tree (new_number (named_scopes (tree_at (final_spot f)))) p.0),
        p.1,
        tree_back (lowered_file f) (lowered_tagged bytes f read b) (lowered_childless bytes f read)
            ∙ ap (λ (t : Forest). plain (renumbered_tree (new_number (named_scopes (tree_at (final_spot f)))) t)) tree
            ∙ line_numbered (new_number (named_scopes (tree_at (final_spot f)))) p.1 p.0
            (ap (λ (t : Forest). new_number (named_scopes t) 1) tree ∙ first_stays _),
        subst (λ (s : Spot). IsHelper (store_at s) p.1) final p.4,
      )

-- ---- lines of form 4 that were read

-- a Module line has one of the forms up to 3, or form 4 and one child; so has each of a tree
abbrev pub LineRead : Head → Forest → Type 0
LineRead h k = h.tag ≡ Tag.ModuleLine → (leb h.a 3 || (eqb h.a 4 && eqb (count k) 1)) ≡ true

abbrev pub LinesRead : Forest → Type 0
LinesRead none = Unit {0}
LinesRead (more h k r) = LineRead h k × LinesRead k × LinesRead r

line_read : (syms : ℕ) (p : Place) (x : Field) (h : Head) (k : Forest) → ReadAs syms p x h k → LineRead h k
unfolding right module_line_right head_of children_of own_numbers has_children numbers_of
line_read syms p x h k q e =
    let t : x.tag ≡ Tag.ModuleLine = sym (same_tag q) ∙ e in
    let form : h.a ≡ x.a = ap (λ (v : Head). v.a) q.head ∙ rw t in
    let children : count k ≡ x.c = q.children ∙ rw t in
    rw (form, children) (rw t at q.numbers)

placed_lines : (syms : ℕ) (f : Forest) (place : ℕ → Place) (i : ℕ) → Placed syms place i f → LinesRead f
placed_lines syms none place i q = tt
placed_lines syms (more h k r) place i q = (
  line_read syms (place i) q.0 h k q.1,
  placed_lines syms k (place_of (place i) q.0) 0 q.2,
  placed_lines syms r place (suc i) q.3,
)

-- EVERY LINE OF AN ACCEPTED FILE is such a line.
pub accepted_lines : (b : List ℕ) (f : File) → read_file b ≡ Ok f → LinesRead f.tree
accepted_lines b f e = let q = accepted_placed b f e in placed_lines q.0 f.tree (λ _. Program) 0 q.1

-- those that stand directly in a list
unfoldable pub imports_in : Forest → Forest
imports_in none = none
imports_in (more h k r) = if eqb h.tag Tag.ModuleLine && eqb h.a LineForm.ImportHelper then more h k (imports_in r) else imports_in r

imports_if : (b : Bool) (h : Head) (k r g : Forest) → imports_in (r & g) ≡ imports_in r & imports_in g
    → (if b then more h k (imports_in (r & g)) else imports_in (r & g)) ≡ (if b then more h k (imports_in r) else imports_in r) & imports_in g
unfolding ◌&◌
imports_if true h k r g e = ap (more h k) e
imports_if false h k r g e = e

imports_& : (f g : Forest) → imports_in (f & g) ≡ imports_in f & imports_in g
unfolding imports_in ◌&◌
imports_& none g = refl
imports_& (more h k r) g = imports_if (eqb h.tag Tag.ModuleLine && eqb h.a LineForm.ImportHelper) h k r g (imports_& r g)

-- what stays of an item, and what goes into Program's Block
abbrev KeepsImports : Forest → Split → Type 0
KeepsImports f s = (imports_in s.kept ≡ imports_in f) × (imports_in s.moved ≡ none)

item_imports : {x : ItemAct} {h : Head} {k : Forest} (st : Store) → ChosenItem Anything x h k → KeepsImports (one h k) (item_as x h k st).0
unfolding item_as top_level_class top_level_declaration exported_declaration exported_class default_class default_value transform_class_decl imports_in
item_imports st (as_kept s) = (refl, refl)
item_imports st (as_moved e₁₃ e₁₇ e₁₈ e₁₉ e₁₅ e₅) = (rw e₁₇, rw e₁₇)
item_imports st as_class = (refl, refl)
item_imports st as_declaration = (refl, refl)
item_imports st (as_exported_declaration q) = (refl, refl)
item_imports st (as_exported_class q) = (refl, refl)
item_imports st (as_default_class e q) = (refl, refl)
item_imports st (as_default_value e d q) = (refl, refl)

none_& : {f g : Forest} → f ≡ none → g ≡ none → f & g ≡ none
unfolding ◌&◌
none_& e d = rw (e, d)

beside : (h : Head) (k r : Forest) → imports_in (one h k) & imports_in r ≡ imports_in (more h k r)
unfolding ◌&◌
beside h k r = sym (imports_& (one h k) r)

-- THEY STAY: of the items of a lowered Program, those of form 4 are among what stays, as they are and in their order, and none is moved.
pub items_imports : (items : Forest) (st : Store) → KeepsImports items (program_items items st).0
unfolding program_items program_item imports_in
items_imports none st = (refl, refl)
items_imports (more h k r) st =
    let item = program_item h k st in
    let rest = program_items r item.1 in
    let i = item_imports st (chosen_item h k) in
    let j = items_imports r item.1 in (
      imports_& item.0.kept rest.0.kept ∙ ap₂ ◌&◌ i.0 j.0 ∙ beside h k r,
      imports_& item.0.moved rest.0.moved ∙ none_& i.1 j.1,
    )

-- ---- the first load

either_first : (b : Bool) (t u : List ℕ) (x y : Loaded) → x.first ≡ y.first → (if b then loading t x else loading u y).loaded.first ≡ y.first
either_first true t u x y e = e
either_first false t u x y e = refl

-- what is told of a load
load_first : (scopes : List ℕ) (q : SymbolRows) (cur : ℕ) → (helper_load_f scopes q cur).loaded.first ≡ leb q.ctx.contexts 1
unfolding helper_load_f
load_first scopes q cur = either_first (eqb q.ctx.mode Mode.Runtime) _ _ (loaded_f _ _ _ _) (loaded_f _ _ _ _) refl

first_context : (scope : ℕ) (st : Store) → is_first (make_context scope st).1 ≡ eqb st.contexts 0
unfolding is_first make_context create_symbol
first_context scope st = only st.contexts
  where
    only : (n : ℕ) → leb (suc n) 1 ≡ eqb n 0
    only zero = refl
    only (suc n) = lt-leb (suc (suc n)) 1 (omega arith) ∙ sym (ne_eqb (suc n) 0 (λ e. omega arith))

-- THE LOAD of a context is told to be the first just if no context was made before it, on tables with the counters of the store.
pub load_told : (scopes t : List ℕ) (scope cur : ℕ) (st : Store)
    → (helper_load_f scopes (in_symbols t (ctx_of (make_context scope st).1)) cur).loaded.first ≡ eqb st.contexts 0
unfolding is_first
load_told scopes t scope cur st = load_first scopes (in_symbols t (ctx_of (make_context scope st).1)) cur ∙ first_context scope st
