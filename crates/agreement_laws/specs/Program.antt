-- A Program with a using: the rows offer what comes of it demands.
-- Assumes nothing.
use Rattle.std.specs.Prelude.{if◌then◌else◌, ◌≡◌, refl, Bool, true, false, List, [], ◌∷◌, ℕ, ◌+◌, eqb}
use Rattle.std.proofs.Common.{sym, ◌∙◌, arith, eqb-true}
use Rattle.meaning.specs.Numbers.Tag
use Rattle.meaning.specs.Numbers.Kind
use Rattle.meaning.specs.Numbers.Form
use Rattle.meaning.specs.Numbers.SymbolFlag
use Rattle.meaning.specs.Tree.{Head, hd, Forest, none, more, one, ◌&◌}
use Rattle.meaning.specs.Grammar.{scope_of, below}
use Rattle.meaning.specs.Agreement.{names_scope}
use Rattle.meaning.specs.Scoping.{Store, set_flags_of, insert_scope_below}
use Rattle.meaning.specs.Shapes.{block, declaration, class_expression}
use Rattle.meaning.specs.Program.{
  preserve_class_expression_name,
  transform_class_decl,
  Split,
  bound_names,
  specifiers,
  top_level_class,
  top_level_declaration,
  exported_declaration,
  exported_class,
  default_class,
  as_expression,
  default_value,
  ItemAct,
  item_as,
  program_item,
  program_items,
  enter_program,
}
use Rattle.spec_laws.specs.SameScopes.{items_scopes}
use Rattle.charge_laws.proofs.Growth.Items.{
  Exports,
  Alone,
  alone,
  ChosenItem,
  as_kept,
  as_moved,
  as_class,
  as_declaration,
  as_exported_declaration,
  as_exported_class,
  as_default_class,
  as_default_value,
  only_item,
}
use Rattle.agreement_laws.specs.Weights.{Weight, demanded, Offers, offers_same}
use Rattle.agreement_laws.specs.Rows.{never_0}
use Rattle.agreement_laws.specs.Demands.{demanded_none, demanded_more, demanded_&, below_offers}
use Rattle.agreement_laws.specs.Tries.{block_demands, below_row, below_new, Keeps}

-- what stays and what moves demand together what the items demand
abbrev Parted : Forest → Split → Type 0
Parted f s = (w : Weight) (cur : ℕ) → demanded w cur s.kept + demanded w cur s.moved ≡ demanded w cur f

-- ---- what items become

-- a Class by its scope
class_demands : (w : Weight) (cur : ℕ) (h : Head) (k : Forest) → h.tag ≡ Tag.Class
    → demanded w cur (one h k) ≡ w h.b cur + demanded w (below cur h.b) k
unfolding demanded names_scope scope_of
class_demands w cur h k e = rw e (omega arith)

declares_one : (w : Weight) (cur kind y : ℕ) (e : Forest) → demanded w cur (declaration kind y e) ≡ demanded w cur e
unfolding demanded names_scope scope_of
declares_one w cur kind y e = omega arith

-- `var C = class C {}`
class_declared : (w : Weight) (cur : ℕ) (h : Head) (k : Forest) (st : Store) → h.tag ≡ Tag.Class
    → demanded w cur (transform_class_decl h k st).0 ≡ demanded w cur (one h k)
unfolding transform_class_decl
class_declared w cur h k st e =
    let y = (preserve_class_expression_name h st).0 in
    declares_one w cur Kind.Var h.c (class_expression h.b y k)
    ∙ class_demands w cur (hd Tag.Class Form.Expression h.b y) k refl
    ∙ sym (class_demands w cur h k e)

-- a Class that is made an expression
expression_demands : (b : Bool) (h : Head) (k : Forest) (w : Weight) (cur : ℕ) → eqb h.tag Tag.Class ≡ b
    → demanded w cur (one (if b then hd Tag.Class Form.Expression h.b h.c else h) k) ≡ demanded w cur (one h k)
expression_demands true h k w cur e =
    class_demands w cur (hd Tag.Class Form.Expression h.b h.c) k refl ∙ sym (class_demands w cur h k (eqb-true h.tag Tag.Class e))
expression_demands false h k w cur e = refl

-- exports name no row
specified : (w : Weight) (cur : ℕ) (st : Store) (ys : List ℕ) → demanded w cur (specifiers st ys) ≡ 0
unfolding demanded names_scope scope_of specifiers
specified w cur st [] = refl
specified w cur st (y ∷ ys) = omega (arith, specified w cur st ys)

-- ---- items

item_parted : {x : ItemAct} {h : Head} {k : Forest} (st : Store) → ChosenItem Alone x h k → Parted (one h k) (item_as x h k st).0
unfolding item_as top_level_class top_level_declaration exported_declaration exported_class default_class default_value as_expression demanded names_scope scope_of
item_parted st (as_kept s) w cur = omega arith
item_parted st (as_moved e₁₃ e₁₇ e₁₈ e₁₉ e₁₅ e₅) w cur = omega arith
item_parted st (as_class {a} {b} {c} {k}) w cur = omega (arith, class_declared w cur (hd Tag.Class a b c) k st refl)
item_parted st (as_declaration {a} {b} {c} {k}) w cur = omega arith
item_parted st (as_exported_declaration {x = x} {y} {z} {k} alone) w cur =
    omega (arith, specified w cur (set_flags_of (bound_names k) SymbolFlag.FunctionScoped st).1 (bound_names k))
item_parted st (as_exported_class {x = x} {y} {z} {k} alone) w cur = omega (arith, class_declared w cur (hd Tag.Class x y z) k st refl)
item_parted st (as_default_class {y = y} {z} {k} e alone) w cur =
    omega (arith, class_declared w cur (hd Tag.Class Form.Declaration y z) k st refl)
item_parted st (as_default_value {h = h} {k} e d alone) w cur =
    omega (arith, expression_demands (eqb h.tag Tag.Class) h k w cur refl)

items_parted : (f : Forest) (st : Store) → Exports f → Parted f (program_items f st).0
unfolding program_items program_item
items_parted none st x w cur = omega (arith, demanded_none w cur)
items_parted (more h k r) st x w cur =
    let item = program_item h k st in
    let rest = program_items r item.1 in
    omega (
      arith,
      item_parted st (only_item h k x.0) w cur,
      items_parted r item.1 x.1 w cur,
      demanded_more w cur h k r,
      demanded_& w cur item.0.kept rest.0.kept,
      demanded_& w cur item.0.moved rest.0.moved,
    )

-- ---- the Program

program_demands : (w : Weight) (cur a b c : ℕ) (k : Forest)
    → demanded w cur (one (hd Tag.Program a b c) k) ≡ w a cur + demanded w (below cur a) k
unfolding demanded names_scope scope_of
program_demands w cur a b c k = omega arith

pub program_keeps : (cur a b c : ℕ) (k : Forest) (st : Store) → Exports k
    → Keeps cur (hd Tag.Program a b c) k st (enter_program (hd Tag.Program a b c) k st)
unfolding enter_program
program_keeps cur a b c k st x R o =
    let parts = program_items k st in
    let kept = parts.0.kept in
    let moved = parts.0.moved in
    let o₀ : Offers st.scopes (λ w. w a cur + (demanded w (below cur a) k + R w)) = λ w. omega (arith, o w, program_demands w cur a b c k) in
    let e = below_row cur a (never_0 st.scopes a cur (λ w. demanded w (below cur a) k + R w) o₀) in
    let new = insert_scope_below a moved parts.1 in
    let o₁ =
    below_offers a a moved parts.1 (λ w. w a cur + (demanded w a kept + R w))
    (offers_same (items_scopes k st) (λ w. omega (arith, rw e at (o₀ w), items_parted k st x w a)))
    in
    let e₁ = below_row a new.0 (below_new a moved parts.1) in
    λ w.
    let list = kept & block new.0 moved in
    let after : demanded w cur (one (hd Tag.Program a b c) list) ≡ w a cur + demanded w a list = program_demands w cur a b c list ∙ rw e in
    let inside : demanded w a (block new.0 moved) ≡ w new.0 a + demanded w new.0 moved = block_demands w a new.0 moved ∙ rw e₁ in
    omega (arith, o₁ w, demanded_& w a kept (block new.0 moved))
