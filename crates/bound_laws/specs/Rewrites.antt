-- The rewrites of ForOf and of Program weigh no more than what they rewrite.
-- Assumes nothing.
use Rattle.std.specs.Prelude.{if◌then◌else◌, ◌≡◌, refl, Bool, true, false, ◌&&◌, List, [], ◌∷◌, ◌++◌, ℕ, ◌+◌, ◌*◌, ◌≤◌, eqb}
use native.Mathlib.Omega.{arith}
use Rattle.std.proofs.Common.{eqb-true}
use Rattle.meaning.specs.Numbers.Tag
use Rattle.meaning.specs.Numbers.Kind
use Rattle.meaning.specs.Numbers.Form
use Rattle.meaning.specs.Tree.{Head, hd, Forest, none, more, one, ◌&◌}
use Rattle.meaning.specs.Shapes.{declaration, read}
use Rattle.meaning.specs.Scoping.{Store, Change, symbol_in, generate_uid, set_flags_of, insert_scope_below}
use Rattle.meaning.specs.Statements.{is_using, any_using}
use Rattle.meaning.specs.Contexts.{names_in}
use Rattle.meaning.specs.ForOf.{binds_identifier, bound_symbol, rebind, insert_using, wrap_body, enter_for_of_statement}
use Rattle.meaning.specs.Program.{
  preserve_class_expression_name,
  transform_class_decl,
  Split,
  bound_names,
  specifiers,
  top_level_class,
  top_level_declaration,
  exported_declaration,
  exported_class,
  default_class,
  as_expression,
  default_value,
  ItemAct,
  item_as,
  program_item,
  program_items,
  enter_program,
}
use Rattle.spec_laws.specs.Tags.{clash, and_left}
use Rattle.charge_laws.proofs.Growth.Rows.{Grown, both, scope_below, symbol_made, symbol_flags, binding_moved, flags_of}
use Rattle.charge_laws.proofs.Growth.Items.{Anything, anything, ChosenItem, as_kept, as_moved, as_class, as_declaration, as_exported_declaration, as_exported_class, as_default_class, as_default_value, staying_tag, chosen_item}
use Rattle.charge_laws.proofs.Growth.Trees.{using_tag}
use Rattle.bound_laws.specs.Rows.{given, RowKind, per_record, per_scope, per_symbol, per_mention, rows, rows_most}
use Rattle.bound_laws.specs.Weights.{
  Role,
  plain,
  item,
  first,
  exported,
  declarator,
  name,
  held,
  next,
  in_declaration,
  in_declarator,
  below,
  context,
  extra,
  own,
  weigh,
  weight,
  least,
  lighter,
  plain_&,
  item_&,
  given_or,
}
use Rattle.bound_laws.specs.Contexts.{Within}

-- ---- a ForOf's using

-- the new using, which may be none
new_using : (K : RowKind) (u : Bool) (e : Forest)
    → own K plain 5 u + weigh K (in_declaration plain u) (one (hd Tag.Declarator 0 1 0) e) ≤ 3 * per_record K + per_mention K + context K + weigh K plain e
unfolding own extra weigh next below in_declaration in_declarator is_using
new_using K true e = omega arith
new_using K false e = omega arith

using_weighs : (K : RowKind) (kind y temp : ℕ) (f : Forest)
    → weigh K plain (declaration kind y (read temp) & f) ≤ 5 * per_record K + 3 * per_mention K + context K + weigh K plain f
unfolding own extra weigh next below in_declaration is_using ◌&◌
using_weighs K kind y temp f = omega (arith, new_using K (is_using (hd Tag.Declaration kind 0 0)) (more (hd Tag.Name y 0 0) none (read temp)))

-- the Declarator's Name, which mentions a symbol
renamed : (K : RowKind) (y : ℕ) (h : Head) (k r : Forest) → weigh K plain (more (hd Tag.Name y 0 0) k r) ≤ weigh K plain (more h k r) + per_mention K
unfolding own extra weigh next below is_using
renamed K y h k r = omega (arith, lighter K k {r = below plain h.tag (is_using h)} least)

declarator_lighter : (K : RowKind) (h : Head) (k k' r : Forest) → (eqb h.tag Tag.Declarator && eqb h.a 0) ≡ true → weigh K plain k' ≤ weigh K plain k + per_mention K
    → weigh K plain (more h k' r) + per_record K ≤ weigh K held (more h k r)
unfolding own extra weigh next below in_declarator
declarator_lighter K h k k' r e l =
    rw (eqb-true h.tag Tag.Declarator (and_left (eqb h.tag Tag.Declarator) (eqb h.a 0) e)) (omega (arith, lighter K r {r = held} least))

rebound : (K : RowKind) (y : ℕ) (k : Forest) → binds_identifier k ≡ true → weigh K plain (rebind y k) + per_record K ≤ weigh K held k
unfolding rebind binds_identifier
rebound K y none e = absurd (clash refl e)
rebound K y (more h none r) e = declarator_lighter K h none none r e (omega arith)
rebound K y (more h (more h₁ k₁ r₁) r) e = declarator_lighter K h (more h₁ k₁ r₁) (more (hd Tag.Name y 0 0) k₁ r₁) r e (renamed K y h₁ k₁ r₁)

-- the body gets the using, or is wrapped with it
abbrev BodyWithin : RowKind → Forest → Store → Forest × Store → Type 0
BodyWithin K f st e =
    rows K e.1 + weigh K plain e.0 ≤ rows K st + weigh K plain f + 6 * per_record K + 3 * per_mention K + context K + per_scope K

inserted : (K : RowKind) (y kind temp : ℕ) (h : Head) (k : Forest) (st : Store) → eqb h.tag Tag.Block ≡ true
    → BodyWithin K (one h k) st (insert_using y (declaration kind y (read temp)) h k st)
unfolding insert_using weigh next below
inserted K y kind temp h k st e =
    rw (eqb-true h.tag Tag.Block e) (omega (arith, using_weighs K kind y temp k, rows_most K (binding_moved y h.a st)))

wrapped : (K : RowKind) (y kind temp scope : ℕ) (f : Forest) (st : Store)
    → BodyWithin K f st (wrap_body y (declaration kind y (read temp)) scope f st)
unfolding wrap_body weigh next own extra below is_using
wrapped K y kind temp scope f st =
    let s = insert_scope_below scope f st in
    omega (arith, using_weighs K kind y temp f, rows_most K (both (scope_below scope f st) (binding_moved y s.0 s.1)))

for_of_body : (K : RowKind) (wraps : Bool) (y kind temp scope : ℕ) (h : Head) (k : Forest) (st : Store) → (wraps ≡ false → eqb h.tag Tag.Block ≡ true)
    → BodyWithin K (one h k) st
    ((if wraps then wrap_body y (declaration kind y (read temp)) scope (one h k) else insert_using y (declaration kind y (read temp)) h k) st)
for_of_body K true y kind temp scope h k st e = wrapped K y kind temp scope (one h k) st
for_of_body K false y kind temp scope h k st e = inserted K y kind temp h k st (e refl)

-- the left side becomes const
left_lighter : (K : RowKind) (y : ℕ) (h : Head) (k : Forest) → is_using h ≡ true → binds_identifier k ≡ true
    → weight K first (hd Tag.Declaration Kind.Const 0 0) (rebind y k) + (6 * per_record K + 3 * per_mention K + context K + per_scope K + per_symbol K) ≤ weight K first h k
unfolding own extra below in_declaration is_using
left_lighter K y h k e n = rw (e, using_tag h e) (omega (arith, rebound K y k n))

for_of_role : (t : ℕ) (r : Role) (u : Bool) → eqb t Tag.ForOf ≡ true → below r t u ≡ first
unfolding below
for_of_role t r u e = rw (eqb-true t 8 e)

module _ (K : RowKind) (r : Role) (wraps : Bool) (h h₁ : Head) (k₁ : Forest) (h₂ : Head) (k₂ : Forest) (h₃ : Head) (k₃ f : Forest) (st : Store) where
  pub for_of_within : eqb h.tag Tag.ForOf ≡ true → is_using h₁ ≡ true → binds_identifier k₁ ≡ true → (wraps ≡ false → eqb h₃.tag Tag.Block ≡ true)
      → Within K r h (more h₁ k₁ (more h₂ k₂ (more h₃ k₃ f))) st (enter_for_of_statement wraps h (more h₁ k₁ (more h₂ k₂ (more h₃ k₃ f))) st)
  unfolding enter_for_of_statement weigh next
  for_of_within e u b w =
      let y = bound_symbol k₁ in
      let t = generate_uid (symbol_in st y).name h.a 6 st in
      let held = declaration h₁.a y (read t.0) in
      let body : Change Forest = if wraps then wrap_body y held h.a (one h₃ k₃) else insert_using y held h₃ k₃ in
      rw (for_of_role h.tag r (is_using h) e)
      (omega (
        arith,
        left_lighter K t.0 h₁ k₁ u b,
        for_of_body K wraps y h₁.a t.0 h.a h₃ k₃ t.1 w,
        plain_& K (body t.1).0 f,
        rows_most K (symbol_made (symbol_in st y).name 6 h.a 1 st),
      ))

-- ---- Program's items

-- an item's parts weigh no more, with the rows; a using frees Program's Block
abbrev SplitWithin : RowKind → Bool → ℕ → Store → Split × Store → Type 0
SplitWithin K u n st e =
    rows K e.1 + weigh K item e.0.kept + weigh K plain e.0.moved + given u (per_record K + per_scope K) ≤ rows K st + n

class_weighs : (K : RowKind) (h : Head) (k : Forest) (st : Store)
    → weigh K plain (transform_class_decl h k st).0 ≡ 4 * per_record K + 2 * per_mention K + weigh K plain k
unfolding transform_class_decl weigh next own extra below in_declaration in_declarator is_using
class_weighs K h k st = omega arith

class_added : (h : Head) (k : Forest) (st : Store) → Grown false 0 1 0 st (transform_class_decl h k st).1
unfolding transform_class_decl preserve_class_expression_name
class_added h k st = both (symbol_made _ 8 h.b _ st) (symbol_flags h.c 1 _)

-- a direct Declaration becomes var
moved_lighter : (K : RowKind) (v : Bool) (k : Forest) → own K plain 5 v + weigh K (in_declaration plain v) k ≤ per_record K + context K + weigh K held k
unfolding own extra in_declaration
moved_lighter K true k = omega arith
moved_lighter K false k = omega (arith, lighter K k {r = held} least)

var_head : is_using (hd Tag.Declaration Kind.Var 0 0) ≡ false
unfolding is_using
var_head = refl

declaration_within : (K : RowKind) (u : Bool) (h : Head) (k : Forest) (st : Store) → is_using h ≡ u
    → SplitWithin K u (own K item 5 u + weigh K (in_declaration item u) k) st (top_level_declaration h k st)
unfolding top_level_declaration weigh next own extra below in_declaration
declaration_within K true h k st e =
    rw e (omega (arith, moved_lighter K (is_using (hd Tag.Declaration Kind.Var h.a 0)) k, rows_most K (flags_of (bound_names k) 1 st)))
declaration_within K false h k st e = rw (e, var_head) (omega (arith, rows_most K (flags_of (bound_names k) 1 st)))

-- ---- 19

specifiers_++ : (K : RowKind) (st : Store) (xs ys : List ℕ)
    → weigh K plain (specifiers st (xs ++ ys)) ≡ weigh K plain (specifiers st xs) + weigh K plain (specifiers st ys)
unfolding specifiers weigh next
specifiers_++ K st [] ys = omega arith
specifiers_++ K st (x ∷ xs) ys = omega (arith, specifiers_++ K st xs ys)

specifier_weighs : (K : RowKind) (b : Bool) (st : Store) (y : ℕ) (ys : List ℕ)
    → weigh K plain (specifiers st (if b then y ∷ ys else ys)) ≡ given b (per_record K + per_mention K) + weigh K plain (specifiers st ys)
unfolding specifiers weigh next own extra below is_using
specifier_weighs K true st y ys = omega arith
specifier_weighs K false st y ys = omega arith

-- a Specifier for each Name
names_specified : (K : RowKind) (st : Store) (f : Forest) → weigh K plain f + weigh K plain (specifiers st (names_in f)) ≤ weigh K name f
unfolding names_in specifiers weigh next own extra below in_declaration in_declarator
names_specified K st none = omega arith
names_specified K st (more h k r) =
    omega (arith, specifier_weighs K (eqb h.tag Tag.Name) st h.a (names_in r), names_specified K st r)

declarator_specified : (K : RowKind) (b : Bool) (t : ℕ) (u : Bool) (st : Store) (k : Forest) → eqb t Tag.Declarator ≡ b
    → own K plain t u + weigh K (below plain t u) k + weigh K plain (specifiers st (if b then names_in k else []))
    ≤ own K declarator t u + weigh K (below declarator t u) k
unfolding specifiers weigh next own extra below in_declaration in_declarator
declarator_specified K true t u st k e = rw (eqb-true t 6 e) (omega (arith, names_specified K st k))
declarator_specified K false t u st k e = rw e (omega arith)

declaration_specified : (K : RowKind) (st : Store) (f : Forest) → weigh K plain f + weigh K plain (specifiers st (bound_names f)) ≤ weigh K declarator f
unfolding bound_names weigh next specifiers
declaration_specified K st none = omega arith
declaration_specified K st (more h k r) =
    omega (
      arith,
      specifiers_++ K st (if eqb h.tag Tag.Declarator then names_in k else []) (bound_names r),
      declarator_specified K (eqb h.tag Tag.Declarator) h.tag (is_using h) st k refl,
      declaration_specified K st r,
    )

exported_weighs : (K : RowKind) (t : ℕ) (u : Bool) (k : Forest) → eqb t Tag.Class ≡ true
    → 5 * per_record K + per_symbol K + 3 * per_mention K + weigh K plain k ≤ own K exported t u + weigh K (below exported t u) k
unfolding own extra below
exported_weighs K t u k e = rw (eqb-true t 15 e) (omega arith)

-- ---- 18

expression_lighter : (K : RowKind) (b : Bool) (h : Head) (k : Forest) → eqb h.tag Tag.Class ≡ b
    → weigh K plain (one (if b then hd Tag.Class Form.Expression h.b h.c else h) k) ≤ weigh K plain (one h k)
unfolding weigh next own extra below is_using
expression_lighter K true h k e = rw (eqb-true h.tag Tag.Class e) (omega arith)
expression_lighter K false h k e = omega arith

-- ---- all items

item_within : (K : RowKind) {x : ItemAct} {h : Head} {k : Forest} (st : Store) → ChosenItem Anything x h k
    → SplitWithin K (is_using h) (weight K item h k) st (item_as x h k st)
unfolding item_as top_level_class exported_declaration exported_class default_class default_value as_expression weigh next own extra below in_declaration in_declarator is_using
item_within K st (as_kept s) = rw (staying_tag s).1 (omega arith)
item_within K st (as_moved e₁₃ e₁₇ e₁₈ e₁₉ e₁₅ e₅) = omega arith
item_within K {h = h} {k = k} st as_class = omega (arith, class_weighs K h k st, rows_most K (class_added h k st))
item_within K {h = h} {k = k} st as_declaration = declaration_within K (is_using h) h k st refl
item_within K st (as_exported_declaration {k = k} anything) =
    let s = set_flags_of (bound_names k) 1 st in
    omega (arith, declaration_specified K s.1 k, rows_most K (flags_of (bound_names k) 1 st))
item_within K st (as_exported_class {x = x} {y = y} {z = z} {k = k} anything) =
    let h = hd Tag.Class x y z in
    omega (arith, exported_weighs K 15 (is_using h) k refl, class_weighs K h k st, rows_most K (class_added h k st))
item_within K st (as_default_class {y = y} {z = z} {k = k} named anything) =
    let h = hd Tag.Class Form.Declaration y z in
    omega (arith, class_weighs K h k st, rows_most K (class_added h k st), lighter K k {r = below plain 15 false} least)
item_within K st (as_default_value {h = h} {k = k} e d anything) =
    omega (arith, expression_lighter K (eqb h.tag Tag.Class) h k refl, rows_most K (symbol_made 4 1 1 0 st))

items_within : (K : RowKind) (f : Forest) (st : Store) → SplitWithin K (any_using f) (weigh K item f) st (program_items f st)
unfolding program_items program_item any_using weigh next
items_within K none st = omega arith
items_within K (more h k r) st =
    let i = program_item h k st in
    let j = program_items r i.1 in
    omega (
      arith,
      item_within K st (chosen_item h k),
      items_within K r i.1,
      item_& K i.0.kept j.0.kept,
      plain_& K i.0.moved j.0.moved,
      given_or (is_using h) (any_using r) (per_record K + per_scope K),
    )

program_role : (t : ℕ) (r : Role) (u : Bool) → eqb t Tag.Program ≡ true → below r t u ≡ item
unfolding below
program_role t r u e = rw (eqb-true t 1 e)

block_weighs : (K : RowKind) (scope : ℕ) (f : Forest) → weigh K item (one (hd Tag.Block scope 0 0) f) ≡ per_record K + weigh K plain f
unfolding weigh next own extra below is_using
block_weighs K scope f = omega arith

pub program_within : (K : RowKind) (r : Role) (h : Head) (k : Forest) (st : Store) → eqb h.tag Tag.Program ≡ true → any_using k ≡ true
    → Within K r h k st (enter_program h k st)
unfolding enter_program weigh next extra is_using
program_within K r h k st e any =
    let p = program_items k st in
    let s = insert_scope_below h.a p.0.moved p.1 in
    rw (program_role h.tag r (is_using h) e)
    (omega (
      arith,
      rw any at (items_within K k st),
      item_& K p.0.kept (one (hd Tag.Block s.0 0 0) p.0.moved),
      block_weighs K s.0 p.0.moved,
      rows_most K (scope_below h.a p.0.moved p.1),
    ))
