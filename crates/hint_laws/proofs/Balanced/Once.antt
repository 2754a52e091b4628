-- A Program is lowered at the first visit only, so its items are those read: no charge for another is left behind that visit.
-- Assumes nothing.
use Rattle.std.specs.Prelude.{Ok, if◌then◌else◌, ◌≡◌, refl, Bool, true, false, List, [], ◌∷◌, ◌++◌, ℕ, zero, suc, length, eqb}
use Rattle.std.proofs.Common.{ap, ◌∙◌, arith, eqb-true, eq-eqb}
use Rattle.meaning.specs.Numbers.Tag
use Rattle.meaning.specs.Tree.{one_of, Head, Forest, none, more, count, ◌&◌}
use Rattle.meaning.specs.File.{File, Symbol}
use Rattle.meaning.specs.Grammar.{tags_of, allowed}
use Rattle.meaning.specs.declared.Place.TheVariants.{Program}
use Rattle.meaning.specs.Scoping.{Store}
use Rattle.meaning.specs.Reading.{read_file}
use Rattle.meaning.specs.Statements.{any_using}
use Rattle.meaning.specs.Contexts.{any_case_using}
use Rattle.meaning.specs.Program.{ItemAct, stay, move, lower_class, lower_declaration, export_declaration, export_class, export_default_class, export_default_value, item_act}
use Rattle.meaning.specs.ForOf.{ForOfAct, as_is, insert, wrap, for_of_act}
use Rattle.meaning.specs.Walk.{program, act_if, act_of, Spot, at, leaving, over, is_over, settle, visit, visits, store_of, start}
use Rattle.meaning.specs.Charges.{
  ContextKind,
  of_block,
  of_body,
  of_static_block,
  of_try_part,
  of_for,
  of_switch,
  Line,
  context,
  wrapped,
  for_of,
  for_of_block,
  program_block,
  top_level_class,
  exported_class,
  default_export,
  exported_names,
  helper,
  import_line,
  case_wraps,
  wraps,
  context_lines,
  act_lines,
  item_lines,
  body_lines,
  for_of_lines,
  own_lines,
  tree_lines,
}
use Rattle.meaning.specs.Due.{enter_lines, rewrite_lines}
use Rattle.parsing.specs.Files.{file_parsed}
use Rattle.spec_laws.specs.Bools.{or-false}
use Rattle.charge_laws.specs.VisitCharges.{standing, visits_in}
use Rattle.charge_laws.proofs.Totals.Roles.{LacksBelow, Regular}
use Rattle.charge_laws.proofs.Totals.Accepted.{accepted_is}
use Rattle.charge_laws.proofs.Counts.Left.{rest, left, visit_left}
use Rattle.charge_laws.proofs.Counts.Pending.{Pending, ready, pending_visit, pending_start, spot_fits}
use Rattle.charge_laws.proofs.Fit.Placed.{Placed, same_tag, accepted_placed}
use Rattle.charge_laws.proofs.Fit.Orderly.{accepted_orderly}
use Rattle.charge_laws.proofs.Fit.Accepted.{accepted_fit}
use Rattle.charge_laws.proofs.Fit.Modes.{cost, costs, cost_++, costs_++}
use Rattle.charge_laws.proofs.Fit.Sums.{sums}
use Rattle.hint_laws.proofs.Requested.Asked.{OldCalls, accepted_old}
use Rattle.hint_laws.proofs.Balanced.Entered.{Source}

-- ---- the Programs that are charged

unfoldable programs : Line → ℕ
programs (context k) = 0
programs (wrapped n) = 0
programs for_of = 0
programs for_of_block = 0
programs program_block = 1
programs top_level_class = 0
programs exported_class = 0
programs default_export = 0
programs (exported_names n) = 0
programs helper = 0
programs import_line = 0

abbrev Free : List Line → Type 0
Free ls = cost programs ls ≡ 0

-- by tests
if_free : (b : Bool) (xs ys : List Line) → Free xs → Free ys → Free (if b then xs else ys)
if_free true xs ys p q = p
if_free false xs ys p q = q

context_free_lem : (kind : ContextKind) (k : Forest) → Free (context_lines kind k)
unfolding context_lines cost programs
context_free_lem kind k = if_free (any_using k) (context kind ∷ wrapped (wraps k) ∷ []) [] refl refl

item_free : (a : ItemAct) → Free (act_lines a)
unfolding act_lines cost programs
item_free stay = refl
item_free move = refl
item_free lower_class = refl
item_free lower_declaration = refl
item_free (export_declaration k) = refl
item_free (export_class h k) = refl
item_free (export_default_class h k) = refl
item_free (export_default_value h k) = refl

items_free : (f : Forest) → Free (item_lines f)
unfolding item_lines cost
items_free none = refl
items_free (more h k r) = omega (arith, cost_++ programs (act_lines (item_act h k)) (item_lines r), item_free (item_act h k), items_free r)

body_free : (k : Forest) → Free (body_lines k)
unfolding body_lines cost programs
body_free none = refl
body_free (more h₁ k₁ none) = refl
body_free (more h₁ k₁ (more h₂ k₂ none)) = refl
body_free (more h₁ k₁ (more h₂ k₂ (more h₃ k₃ r))) = if_free (any_using k₃) [] (context of_block ∷ []) refl refl

for_of_free : (x : ForOfAct) (k : Forest) → Free (for_of_lines x k)
unfolding for_of_lines cost programs
for_of_free as_is k = refl
for_of_free insert k = omega (arith, body_free k)
for_of_free wrap k = refl

-- a record that is no Program
own_free : (ys : List Symbol) (up : ℕ) (h : Head) (k : Forest) → eqb h.tag Tag.Program ≡ false → Free (own_lines ys up h k)
unfolding own_lines cost programs
own_free ys up h k e =
    let t = h.tag in
    rw e
    (if_free (eqb t Tag.Block) _ _ (context_free_lem (if one_of (Tag.Try ∷ Tag.Catch ∷ []) up then of_try_part else of_block) k)
    (if_free (eqb t Tag.For) _ _ (context_free_lem of_for k)
    (if_free (eqb t Tag.ForOf) _ _ (for_of_free (for_of_act ys k) k)
    (if_free (eqb t Tag.Switch) _ _ (if_free (any_case_using k) (context of_switch ∷ wrapped (case_wraps k) ∷ []) [] refl refl)
    (if_free (eqb t Tag.Body) _ _ (context_free_lem of_body k)
    (if_free (eqb t Tag.StaticBlock) _ _ (context_free_lem of_static_block k) refl))))))

tree_free : (f : Forest) (ys : List Symbol) (up : ℕ) → LacksBelow Tag.Program f → Free (tree_lines ys up f)
unfolding tree_lines cost
tree_free none ys up l = refl
tree_free (more h k r) ys up l =
    omega (
      arith,
      cost_++ programs (own_lines ys up h k) (tree_lines ys h.tag k ++ tree_lines ys up r),
      cost_++ programs (tree_lines ys h.tag k) (tree_lines ys up r),
      own_free ys up h k l.0,
      tree_free k ys h.tag l.1,
      tree_free r ys up l.2,
    )

-- ---- the first visit

-- is charged for its Program
program_if : (u : Bool) (h : Head) (k : Forest)
    → cost programs (if u then program_block ∷ (context_lines of_block k ++ item_lines k) else []) ≡ cost programs (enter_lines (act_if u program) h k)
unfolding enter_lines cost programs
program_if true h k = omega (arith, cost_++ programs (context_lines of_block k) (item_lines k), context_free_lem of_block k)
program_if false h k = refl

program_charged : (ys : List Symbol) (h : Head) (k : Forest) → h.tag ≡ Tag.Program
    → cost programs (own_lines ys 0 h k) ≡ cost programs (enter_lines (act_of ys h k) h k)
unfolding own_lines act_of
program_charged ys h k e = rw e (program_if (any_using k) _ k)

-- a tree that is one Program without others below it
abbrev OneProgram : Forest → Type 0
OneProgram none = Unit {0}
OneProgram (more h k r) = (h.tag ≡ Tag.Program) × LacksBelow Tag.Program k × (r ≡ none)

-- so none is left behind the first visit
none_behind : (tree : Forest) (st : Store) → OneProgram tree
    → costs programs (visits_in st.as_read tree standing) ≡ cost programs (tree_lines st.as_read 0 tree)
    → Pending (settle none tree [] st) → costs programs (left (visit (settle none tree [] st))) ≡ 0
unfolding settle left visit is_over rewrite_lines tree_lines rest costs cost ◌&◌
none_behind none st p c q = refl
none_behind (more h k r) st p c q =
    let ys = st.as_read in
    let s = at none h k r [] st in
    let none_after : tree_lines ys 0 r ≡ [] = ap (tree_lines ys 0) p.2 in
    omega (
      arith,
      ap (costs programs) (visit_left s (ready s q) refl),
      costs_++ programs (visits_in ys (more h k r) standing) [],
      cost_++ programs (own_lines ys 0 h k) (tree_lines ys h.tag k ++ tree_lines ys 0 r),
      cost_++ programs (tree_lines ys h.tag k) (tree_lines ys 0 r),
      ap (cost programs) none_after,
      tree_free k ys h.tag p.1,
      program_charged ys h k p.0,
    )

-- nor behind any other
none_later : (s : Spot) → Pending s → costs programs (left s) ≡ 0 → costs programs (left (visit s)) ≡ 0
unfolding visit is_over costs
none_later (over tree st) q c = c
none_later (at d h k r p st) q c = let s = at d h k r p st in omega (arith, ap (costs programs) (visit_left s (ready s q) refl))
none_later (leaving k h d r p st) q c = let s = leaving k h d r p st in omega (arith, ap (costs programs) (visit_left s (ready s q) refl))

none_left : (k : ℕ) (s : Spot) → Pending s → costs programs (left s) ≡ 0 → costs programs (left (visits k s)) ≡ 0
unfolding visits
none_left zero s q c = c
none_left (suc k) s q c = none_left k (visit s) (pending_visit s q) (none_later s q c)

-- ---- the items of a Program that is lowered

-- at a spot
abbrev pub SourceAt : ℕ → Spot → Type 0
SourceAt read (over tree st) = Unit {0}
SourceAt read (at d h k r p st) = Source read h k
SourceAt read (leaving k h d r p st) = Unit {0}

-- at the first spot
first_source : (read : ℕ) (tree : Forest) (st : Store) → OldCalls read tree → SourceAt read (settle none tree [] st)
unfolding settle
first_source read none st o = tt
first_source read (more h k r) st o = λ _ _. o.1

-- where no charge for a Program is left there is none to lower
lowered : (ys : List Symbol) (h : Head) (k : Forest) → h.tag ≡ Tag.Program → any_using k ≡ true → cost programs (enter_lines (act_of ys h k) h k) ≡ 1
unfolding act_of enter_lines cost programs
lowered ys h k e u = rw (e, u) (omega (arith, items_free k))

later_source : (read : ℕ) (s : Spot) → Pending s → costs programs (left s) ≡ 0 → SourceAt read s
unfolding is_over rewrite_lines costs
later_source read (over tree st) q c = tt
later_source read (at d h k r p st) q c =
    λ e u.
    let s = at d h k r p st in
    absurd (omega (arith, ap (costs programs) (visit_left s (ready s q) refl), lowered st.as_read h k e u))
later_source read (leaving k h d r p st) q c = tt

-- ---- an accepted file

one_program : (syms : ℕ) (tree : Forest) → Placed syms (λ _. Program) 0 tree → count tree ≡ 1 → Regular tree → OneProgram tree
unfolding allowed tags_of count
one_program syms none p n l = tt
one_program syms (more h k (more h₁ k₁ r₁)) p n l = absurd (omega arith)
one_program syms (more h k none) p n l =
    let t = p.0.tag in
    let e : h.tag ≡ Tag.Program = same_tag p.1 ∙ eqb-true t Tag.Program (or-false (eqb t Tag.Program) p.1.taken) in
    (e, (l.1 (eq-eqb h.tag Tag.Program e)).0, refl)

-- AT EVERY SPOT of the walk of an accepted file, the items of a Program that is lowered call nothing through a context that lowering made.
pub visits_source : (b : List ℕ) (f : File) (k : ℕ) → read_file b ≡ Ok f → SourceAt (length f.symbols) (visits k (start f))
unfolding visits start store_of programs
visits_source b f zero e = first_source (length f.symbols) f.tree (store_of f) (accepted_old b f e)
visits_source b f (suc k) e =
    let o = accepted_orderly b f e in
    let p = accepted_placed b f e in
    let q = pending_start f (accepted_fit b f e) in
    later_source (length f.symbols) (visits (suc k) (start f)) (spot_fits (suc k) f (accepted_fit b f e))
    (none_left k (visit (start f)) (pending_visit (start f) q)
    (none_behind f.tree (store_of f) (one_program p.0 f.tree p.1 (file_parsed b f e).one_program (accepted_is b f e).regular) ((sums programs (λ n. refl) f.symbols f.tree o.0).0 o.1) q))
