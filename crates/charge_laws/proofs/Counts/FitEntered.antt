-- The children of a record that is entered are fit, as it was.
-- Assumes nothing.
use Rattle.std.specs.Prelude.{if◌then◌else◌, ◌≡◌, Bool, true, false, ◌&&◌, List, [], ◌∷◌, ℕ, eqb}
use Rattle.std.proofs.Math.Path.{refl}
use Rattle.std.proofs.Common.{sym, subst, eqb-true, eq-eqb}
use Rattle.meaning.specs.Numbers.Tag
use Rattle.meaning.specs.Numbers.Form
use Rattle.meaning.specs.Tree.{Head, hd, Forest, none, more, one, Node, node, single, ◌&◌}
use Rattle.meaning.specs.Scoping.{
  Store,
  Change,
  return,
  symbol_in,
  create_child_scope,
  create_symbol,
  insert_scope_below,
  insert_scope_between,
  change_scope_parent,
  move_bindings,
  block_scoped_in,
}
use Rattle.meaning.specs.Shapes.{declaration, read}
use Rattle.meaning.specs.HelperLoader.{helper_load}
use Rattle.meaning.specs.Statements.{any_using, any_await_using, take_up, make_context, transform_statements, create_try_stmt}
use Rattle.meaning.specs.Contexts.{
  transform_block_statement,
  enter_function_body,
  transform_try_block,
  move_catch_names,
  transform_try_parts,
  enter_try_statement,
  for_list,
  take_up_for,
  transform_for_statement,
  any_case_using,
  any_case_await_using,
  take_up_cases,
  transform_switch_statement,
}
use Rattle.meaning.specs.ForOf.{binds_identifier, bound_symbol, rebind, insert_using, wrap_body, enter_for_of_statement}
use Rattle.meaning.specs.Program.{
  transform_class_decl,
  Split,
  bound_names,
  specifiers,
  top_level_class,
  top_level_declaration,
  exported_declaration,
  exported_class,
  default_class,
  as_expression,
  default_value,
  ItemAct,
  item_as,
  program_item,
  program_items,
  enter_program,
}
use Rattle.meaning.specs.Walk.{Act, enter_as, enter}
use Rattle.spec_laws.specs.Trees.{transform_handler}
use Rattle.spec_laws.specs.Tags.{Seen, other, here, there, seen, clash, and_left}
use Rattle.charge_laws.proofs.Totals.Roles.{Lacks}
use Rattle.charge_laws.proofs.Growth.Trees.{using_tag}
use Rattle.charge_laws.proofs.Growth.ForOf.{Named}
use Rattle.charge_laws.specs.Growth.Chosen.{Binds, Chosen, kept, as_program, as_block, as_body, as_try, as_for, as_switch, as_insert, as_wrap}
use Rattle.charge_laws.proofs.Growth.Chosen.{chosen}
use Rattle.charge_laws.proofs.Growth.Items.{Anything, anything, ChosenItem, as_kept, as_moved, as_class, as_declaration, as_exported_declaration, as_exported_class, as_default_class, as_default_value, chosen_item}
use Rattle.charge_laws.proofs.Counts.Enter.{Fit}
use Rattle.charge_laws.proofs.Counts.Fits.{FitsIn, Fits, FitsBelow, below, above, entered_cases, easy, catch_fit, fits_&, list_fits, cases_fit, loop_fits, declared_fits, try_fits}

-- ---- contexts

block_fits : (cur hoist : ℕ) (h : Head) (k : Forest) (st : Store) → Fits k → Fits (transform_block_statement cur hoist h k st).0.children
unfolding transform_block_statement transform_statements
block_fits cur hoist h k st p =
    let c = make_context hoist st in
    let l = helper_load cur c.1 in
    try_fits h.a (take_up c.0 k) c.0 cur c.0 cur (any_await_using k) c.1 l.1 (list_fits k c.0 p)

body_fits : (cur hoist : ℕ) (k : Forest) (st : Store) → Fits k → Fits (enter_function_body cur hoist k st).0.children
unfolding enter_function_body transform_statements create_try_stmt
body_fits cur hoist k st p =
    let c = make_context hoist st in
    let l = helper_load cur c.1 in
    let s = insert_scope_below cur k l.1 in
    let m = move_bindings (block_scoped_in s.1.symbols cur s.1.symbols 1) s.0 s.1 in (
      easy refl,
      try_fits s.0 (take_up c.0 k) c.0 cur c.0 cur (any_await_using k) c.1 m.1 (list_fits k c.0 p),
      tt,
    )

for_fits : (cur hoist : ℕ) (h : Head) (k : Forest) (st : Store) → Fit h k → any_using (for_list (one h k)) ≡ true → FitsBelow h k
    → Fits (transform_for_statement cur hoist h k st).0.children
unfolding transform_for_statement
for_fits cur hoist h k st o u p =
    let c = make_context hoist st in
    let s = insert_scope_below cur (one h k) c.1 in
    let l = helper_load cur s.1 in
    try_fits s.0 (take_up_for c.0 (one h k)) c.0 cur c.0 cur (any_await_using (for_list (one h k))) s.1 l.1
    (loop_fits (one h k) c.0 o.label u (o, p, tt))

switch_fits : (cur a b d : ℕ) (k : Forest) (st : Store) → FitsIn true k → Fits (transform_switch_statement cur (hd Tag.Switch a b d) k st).0.children
unfolding transform_switch_statement
switch_fits cur a b d k st p =
    let h = hd Tag.Switch a b d in
    let c = make_context cur st in
    let s = create_child_scope cur 0 c.1 in
    let q = change_scope_parent h.a s.0 s.1 in
    let l = helper_load cur q.1 in
    try_fits s.0 (one h (take_up_cases c.0 k)) c.0 cur c.0 cur (any_case_await_using k) q.1 l.1
    (easy refl, cases_fit k c.0 p, tt)

-- ---- the parts of a Try

block_part : (u : Bool) (cur hoist a b c : ℕ) (k r : Forest) (st : Store) → Fit (hd Tag.Block a b c) k → Fits k → Fits r
    → Fits (single ((if u then transform_try_block cur hoist (hd Tag.Block a b c) k else return (node (hd Tag.Block a b c) k)) st).0 & r)
unfolding transform_try_block transform_statements create_try_stmt ◌&◌
block_part true cur hoist a b d k r st o p q =
    let c = make_context a st in
    let l = helper_load cur c.1 in
    let s = insert_scope_between a 0 l.1 in (
      easy refl,
      (
        easy refl,
        try_fits a (take_up c.0 k) c.0 cur c.0 s.0 (any_await_using k) c.1 s.1 (list_fits k c.0 p),
        tt,
      ),
      q,
    )
block_part false cur hoist a b c k r st o p q = (o, p, q)

-- A part that is no Catch does not become one.
part_lacks : (u : Bool) (cur hoist : ℕ) (h : Head) (k r : Forest) (st : Store) → eqb h.tag Tag.Catch ≡ false → Lacks Tag.Catch r
    → Lacks Tag.Catch (single ((if u then transform_try_block cur hoist h k else return (node h k)) st).0 & r)
unfolding transform_try_block ◌&◌
part_lacks true cur hoist h k r st e q = (refl, q)
part_lacks false cur hoist h k r st e q = (e, q)

parts_lack : (f : Forest) (cur hoist : ℕ) (st : Store) → Lacks Tag.Catch f → Lacks Tag.Catch (transform_try_parts cur hoist f st).0
unfolding transform_try_parts
parts_lack none cur hoist st p = tt
parts_lack (more h k r) cur hoist st p =
    rw p.0 (part_lacks (eqb h.tag Tag.Block && any_using k) cur hoist h k _ st p.0 (parts_lack r cur hoist _ p.1))

-- neither a Catch nor a Block
other_part : (x y u : Bool) (h : Head) (k r : Forest) (catches blocks : Change Node) (st : Store) → x ≡ false → y ≡ false → Fits (more h k r)
    → Fits (single ((if x then catches else if y && u then blocks else return (node h k)) st).0 & r)
unfolding ◌&◌
other_part true y u h k r catches blocks st e d p = absurd (clash e refl)
other_part false true u h k r catches blocks st e d p = absurd (clash d refl)
other_part false false u h k r catches blocks st e d p = p

one_part : {t : ℕ} (cur hoist a b c : ℕ) (k r : Forest) (inside : Change Forest) (st : Store) → Seen (Tag.Catch ∷ Tag.Block ∷ []) t → Fit (hd t a b c) k
    → FitsBelow (hd t a b c) k → (Lacks Tag.Catch k → Lacks Tag.Catch (inside st).0) → (Fits k → Fits (inside st).0) → Fits r
    → let h = hd t a b c in
    Fits
    (single
    ((if eqb t Tag.Catch then transform_handler h k inside
    else if eqb t Tag.Block && any_using k then transform_try_block cur hoist h k
    else return (node h k))
    st).0
    & r)
unfolding move_catch_names ◌&◌
one_part cur hoist a b c k r inside st here o p l i q = (catch_fit (l (o.handler refl)), i p, q)
one_part cur hoist a b c k r inside st (there e₁₂ here) o p l i q = block_part (any_using k) cur hoist a b c k r st o p q
one_part {t} cur hoist a b c k r inside st (there e₁₂ (there e₂ other)) o p l i q =
    let h = hd t a b c in
    other_part (eqb t Tag.Catch) (eqb t Tag.Block) (any_using k) h k r (transform_handler h k inside) (transform_try_block cur hoist h k) st e₁₂ e₂ (o, p, q)

parts_fit : (f : Forest) (cur hoist : ℕ) (st : Store) → Fits f → Fits (transform_try_parts cur hoist f st).0
unfolding transform_try_parts
parts_fit none cur hoist st p = tt
parts_fit (more h k r) cur hoist st p =
    one_part cur hoist h.a h.b h.c k _ (transform_try_parts cur hoist k) st (seen (Tag.Catch ∷ Tag.Block ∷ []) h.tag) p.0 p.1
    (parts_lack k cur hoist st)
    (parts_fit k cur hoist st)
    (parts_fit r cur hoist _ p.2)

-- ---- ForOf

rebind_fits : (y : ℕ) (k : Forest) → binds_identifier k ≡ true → Named k → Fits k → Fits (rebind y k)
unfolding rebind binds_identifier
rebind_fits y none e n p = tt
rebind_fits y (more h none r) e n p = p
rebind_fits y (more h (more h₁ k₁ r₁) r) e n p =
    let six = eqb-true h.tag Tag.Declarator (and_left (eqb h.tag Tag.Declarator) (eqb h.a 0) e) in
    (easy (rw six), (easy refl, below h₁ k₁ n refl p.1.1, p.1.2), p.2)

module _ (h h₁ : Head) (k₁ : Forest) (h₂ : Head) (k₂ : Forest) (h₃ : Head) (k₃ r : Forest) (st : Store) (b : Binds h₁ k₁) (n : Named k₁) where
  abbrev sides : Forest
  sides = more h₁ k₁ (more h₂ k₂ (more h₃ k₃ r))

  insert_fits : h₃.tag ≡ Tag.Block → Fits sides → Fits (enter_for_of_statement false h sides st).0.children
  unfolding enter_for_of_statement insert_using ◌&◌
  insert_fits e p =
      let t = (create_symbol (symbol_in st (bound_symbol k₁)).name 6 h.a 1 st).0 in
      let list = declaration h₁.a (bound_symbol k₁) (read t) & k₃ in
      let q = p.2.2 in (
        easy refl,
        rebind_fits t k₁ b.identifier n (below h₁ k₁ (using_tag h₁ b.uses) refl p.1),
        (
          p.2.0,
          p.2.1,
          (
            easy (rw e),
            above h₃ list e refl (declared_fits h₁.a (bound_symbol k₁) (read t) k₃ (easy refl, tt, tt) (below h₃ k₃ e refl q.1)),
            q.2,
          ),
        ),
      )

  wrap_fits : Fits sides → Fits (enter_for_of_statement true h sides st).0.children
  unfolding enter_for_of_statement wrap_body ◌&◌
  wrap_fits p =
      let t = (create_symbol (symbol_in st (bound_symbol k₁)).name 6 h.a 1 st).0 in
      let q = p.2.2 in (
        easy refl,
        rebind_fits t k₁ b.identifier n (below h₁ k₁ (using_tag h₁ b.uses) refl p.1),
        (
          p.2.0,
          p.2.1,
          (
            easy refl,
            declared_fits h₁.a (bound_symbol k₁) (read t) (one h₃ k₃) (easy refl, tt, tt) (q.0, q.1, tt),
            q.2,
          ),
        ),
      )

-- ---- Program

-- what stays and what moves
abbrev FitSplit : Split × Store → Type 0
FitSplit e = Fits e.0.kept × Fits e.0.moved

class_fits : (h : Head) (k : Forest) (st : Store) → Fits k → Fits (transform_class_decl h k st).0
unfolding transform_class_decl
class_fits h k st p = (easy refl, (easy refl, (easy refl, tt, (easy refl, p, tt)), tt), tt)

specifiers_fit : (st : Store) (names : List ℕ) → Fits (specifiers st names)
unfolding specifiers
specifiers_fit st [] = tt
specifiers_fit st (y ∷ names) = (easy refl, tt, specifiers_fit st names)

-- a class becomes an expression, another value stays
expression_fits : (b : Bool) (h : Head) (k : Forest) → eqb h.tag Tag.Class ≡ b → Fits (one h k)
    → Fits (one (if b then hd Tag.Class Form.Expression h.b h.c else h) k)
expression_fits true h k e p = (easy refl, below h k (eqb-true h.tag Tag.Class e) refl p.1, tt)
expression_fits false h k e p = p

item_fits : {x : ItemAct} {h : Head} {k : Forest} (st : Store) → Fit h k → FitsBelow h k → ChosenItem Anything x h k → FitSplit (item_as x h k st)
unfolding item_as top_level_class top_level_declaration exported_declaration exported_class default_class default_value as_expression
item_fits st o p (as_kept s) = ((o, p, tt), tt)
item_fits st o p (as_moved e₁₃ e₁₇ e₁₈ e₁₉ e₁₅ e₅) = (tt, (o, p, tt))
item_fits {h = h} {k = k} st o p as_class = (tt, class_fits h k st p)
item_fits st o p as_declaration = (tt, (easy refl, p, tt))
item_fits st o p (as_exported_declaration {k = k} anything) = ((easy refl, specifiers_fit _ (bound_names k), tt), (easy refl, p.1, tt))
item_fits st o p (as_exported_class {k = k} anything) = ((easy refl, (easy refl, tt, tt), tt), class_fits _ k st p.1)
item_fits st o p (as_default_class {k = k} named anything) = ((easy refl, (easy refl, tt, tt), tt), class_fits _ k st p.1)
item_fits st o p (as_default_value {h = h} {k = k} e d anything) = (
  (easy refl, (easy refl, tt, tt), tt),
  (easy refl, (easy refl, (easy refl, tt, expression_fits (eqb h.tag Tag.Class) h k refl (p.0, p.1, tt)), tt), tt),
)

items_fit : (f : Forest) (st : Store) → Fits f → FitSplit (program_items f st)
unfolding program_items program_item
items_fit none st p = (tt, tt)
items_fit (more h k r) st p =
    let i = program_item h k st in
    let j = program_items r i.1 in
    let q = item_fits st p.0 p.1 (chosen_item h k) in
    let s = items_fit r i.1 p.2 in
    (fits_& i.0.kept j.0.kept q.0 s.0, fits_& i.0.moved j.0.moved q.1 s.1)

program_fits : (h : Head) (k : Forest) (st : Store) → Fits k → Fits (enter_program h k st).0.children
unfolding enter_program
program_fits h k st p =
    let s = program_items k st in
    let i = items_fit k st p in
    fits_& s.0.kept (one _ s.0.moved) i.0 (easy refl, i.1, tt)

-- ---- any record

kept_fits : (b : Bool) (k : Forest) → (b ≡ true → any_case_using k ≡ false) → FitsIn b k → Fits k
kept_fits true k i p = entered_cases k (i refl) p
kept_fits false k i p = p

entered_fits : {a : Act} {h : Head} {k : Forest} (cur hoist : ℕ) (st : Store) → Fit h k → FitsBelow h k → Chosen a h k
    → Fits (enter_as a cur hoist h k st).0.children
unfolding enter_as enter_try_statement
entered_fits {h = h} {k = k} cur hoist st o p (kept i) = kept_fits (eqb h.tag Tag.Switch) k i.cases p
entered_fits {h = h} {k = k} cur hoist st o p (as_program e u) = program_fits h k st (below h k e refl p)
entered_fits {h = h} {k = k} cur hoist st o p (as_block e u) = block_fits cur hoist h k st (below h k e refl p)
entered_fits {h = h} {k = k} cur hoist st o p (as_body e u) = body_fits cur hoist k st (below h k e refl p)
entered_fits {h = h} {k = k} cur hoist st o p (as_try e u) = parts_fit k cur hoist st (below h k e refl p)
entered_fits {h = h} {k = k} cur hoist st o p (as_for e u) = for_fits cur hoist h k st o u p
entered_fits {h = h} {k = k} cur hoist st o p (as_switch e u) =
    subst (λ (t : ℕ). FitsIn (eqb t Tag.Switch) k → Fits (transform_switch_statement cur (hd t h.a h.b h.c) k st).0.children)
    (sym e)
    (switch_fits cur h.a h.b h.c k st)
    p
entered_fits {h = h} {k = k} cur hoist st o p (as_insert {h₁ = h₁} {h₂ = h₂} {h₃ = h₃} {k₁ = k₁} {k₂ = k₂} {k₃ = k₃} {r = r} e b two) =
    let n = o.side (eq-eqb h.tag Tag.ForOf e) b.both in
    insert_fits h h₁ k₁ h₂ k₂ h₃ k₃ r st b n.0 two (below h k e refl p)
entered_fits {h = h} {k = k} cur hoist st o p (as_wrap {h₁ = h₁} {h₂ = h₂} {h₃ = h₃} {k₁ = k₁} {k₂ = k₂} {k₃ = k₃} {r = r} e b) =
    let n = o.side (eq-eqb h.tag Tag.ForOf e) b.both in
    wrap_fits h h₁ k₁ h₂ k₂ h₃ k₃ r st b n.0 (below h k e refl p)

pub enter_fits : (cur hoist : ℕ) (h : Head) (k : Forest) (st : Store) → Fit h k → FitsBelow h k → Fits (enter cur hoist h k st).0.children
unfolding enter
enter_fits cur hoist h k st o p = entered_fits cur hoist st o p (chosen st.as_read h k)
