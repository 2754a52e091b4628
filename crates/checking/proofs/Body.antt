-- What the body is to a ForOf: what the bytes say is what the tree says.
-- Assumes nothing.
use Rattle.std.specs.Prelude.{if◌then◌else◌}
use mathlib.Core.Path.{◌≡◌, refl, sym, ap, subst, ◌∙◌}
use mathlib.Core.Bool.{Bool, true, false, ◌&&◌, ◌||◌, or-false}
use mathlib.Core.List.{List, [], ◌∷◌}
use Prim.Native.Nat.{ℕ, ◌+◌, ◌≤◌}
use native.Mathlib.Omega.{arith}
use lib.Dec.{eqb, leb, ltb, T, eqb→eq}
use lib.ListN.{get_or}
use Rattle.meaning.specs.Numbers.Tag
use Rattle.meaning.specs.Tree.{one_of, Head, hd, Forest, none, more, count}
use Rattle.meaning.specs.File.{numbers_of, has_children, own_numbers, field_bytes}
use Rattle.meaning.specs.Grammar.{
  tags_of,
  index,
  two,
  number,
  field_of,
  right,
  declaration_right,
  declarator_right,
  children_of,
  place_of,
  head_of,
}
use Rattle.meaning.specs.Statements.{is_using}
use Rattle.meaning.specs.ForOf.{binds_identifier, bound_symbol}
use Rattle.meaning.specs.declared.Place.{Place}
use Rattle.meaning.specs.declared.Place.TheVariants.{ForOfLeft, ForOfDeclarator, Name}
use Rattle.meaning.specs.declared.Field.{Field}
use Rattle.parsing.specs.Parsed.{RecordAt, Parsed, parsed_none, parsed_more}
use Rattle.parsing.specs.Fields.{only_tag}
use Rattle.figures.specs.Tally.{body_of, body_role}
use Rattle.figures.specs.declared.tally.Role.{Role}
use Rattle.figures.specs.declared.tally.Role.TheVariants.{Plain, Body}

-- ---- the three fields that decide

pub and_inv : (a b : Bool) → (a && b) ≡ true → (a ≡ true) × (b ≡ true)
and_inv true b e = (refl, e)
and_inv false b e = absurd (let z : ◌≡◌ {A = ℕ} 0 1 = cc in omega arith)

pub is_eq : (a b : ℕ) → eqb a b ≡ true → a ≡ b
is_eq a b e = eqb→eq a b (subst T (sym e) tt)

module _ (p : Place) (syms : ℕ) (x : Field) (tag : x.tag ≡ Tag.Declaration) where
  declaration_head : head_of x ≡ hd Tag.Declaration x.a 0 0
  unfolding head_of numbers_of has_children own_numbers
  declaration_head = rw tag

  declaration_place : p ≡ ForOfLeft → place_of p x 0 ≡ ForOfDeclarator
  unfolding place_of index
  declaration_place e = rw (tag, e)

  declaration_one : p ≡ ForOfLeft → right p syms x ≡ true → children_of x ≡ 1
  unfolding right declaration_right index children_of numbers_of has_children own_numbers
  declaration_one e r = rw tag (is_eq x.b 1 (and_inv (leb x.a 4) (eqb x.b 1) (rw (tag, e) at r)).1)

module _ (p : Place) (syms : ℕ) (x : Field) (tag : x.tag ≡ Tag.Declarator) where
  declarator_head : head_of x ≡ hd Tag.Declarator x.a x.b 0
  unfolding head_of numbers_of has_children own_numbers
  declarator_head = rw tag

  declarator_kids : children_of x ≡ x.c
  unfolding children_of numbers_of has_children own_numbers
  declarator_kids = rw tag

  declarator_place : x.b ≡ 1 → place_of p x 0 ≡ Name
  unfolding place_of
  declarator_place e = rw (tag, e)

  declarator_one : p ≡ ForOfDeclarator → right p syms x ≡ true → x.a ≡ 0 → (x.b ≡ 1) × (x.c ≡ 1)
  unfolding right declarator_right index
  declarator_one d e z =
      let a = and_inv (eqb x.b 1) (eqb x.c x.b || false) (rw (tag, z, d) at e) in
      let b = is_eq x.b 1 a.0 in
      (b, is_eq x.c x.b (sym (or-false (eqb x.c x.b)) ∙ a.1) ∙ b)

name_head : (x : Field) → x.tag ≡ Tag.Name → head_of x ≡ hd Tag.Name x.a 0 0
unfolding head_of numbers_of has_children own_numbers
name_head x tag = rw tag

-- the first number of a field that has one
first_number : (f : List ℕ) (at t : ℕ) → (field_of f at).tag ≡ t → ltb 0 (numbers_of t) ≡ true → (field_of f at).a ≡ two f (at + 3)
unfolding field_of number
first_number f at t e n = rw (e, n) (ap (two f) (omega arith))

-- ---- from the Name upwards

first_number_of : Forest → ℕ
first_number_of none = 0
first_number_of (more h k r) = h.a

bound_is : (h : Head) (k r : Forest) → bound_symbol (more h k r) ≡ first_number_of k
unfolding bound_symbol first_number_of
bound_is h none r = refl
bound_is h (more h₁ k₁ r₁) r = refl

-- what a Declarator binds, in the tree and in the bytes
identifier_of : Forest → Role
identifier_of t = if binds_identifier t then Body (bound_symbol t) else Plain

module _ {f : List ℕ} {syms : ℕ} where
  name_is : {place : ℕ → Place} {cur at next : ℕ} {m o : List ℕ} {t : Forest} → place 0 ≡ Name → count t ≡ 1
      → Parsed f syms place 0 cur at m t next o → first_number_of t ≡ two f (at + 3)
  unfolding first_number_of tags_of numbers_of count
  name_is p n parsed_none = absurd (omega arith)
  name_is {at = at} p n (parsed_more y k r) =
      let tag = only_tag 26 (ap tags_of p) y.field in
      ap (λ (h : Head). h.a) (y.head ∙ name_head (field_of f at) tag) ∙ first_number f at 26 tag refl

  declarator_is : {place : ℕ → Place} {cur at next : ℕ} {m o : List ℕ} {t : Forest} → place 0 ≡ ForOfDeclarator → count t ≡ 1
      → Parsed f syms place 0 cur at m t next o
      → identifier_of t ≡ (if eqb (two f (at + 3)) 0 then Body (two f (at + 12)) else Plain)
  unfolding identifier_of binds_identifier tags_of numbers_of field_bytes count
  declarator_is p n parsed_none = absurd (omega arith)
  declarator_is {place} {at = at} p n (parsed_more {k = kids} {r = beside} y k r) =
      let x = field_of f at in
      let tag : x.tag ≡ Tag.Declarator = only_tag 6 (ap tags_of p) y.field in
      let number : x.a ≡ two f (at + 3) = first_number f at 6 tag refl in
      let name : x.a ≡ 0 → first_number_of kids ≡ two f (at + 12) =
      λ z.
      let o = declarator_one (place 0) syms x tag p y.numbers z in
      let next : x.next + 3 ≡ at + 12 = omega (arith, rw tag at y.field.bytes) in
      rw next at (name_is (declarator_place (place 0) syms x tag o.0) (y.children ∙ declarator_kids (place 0) syms x tag ∙ o.1) k) in
      rw (y.head, declarator_head (place 0) syms x tag, number) (both (hd Tag.Declarator (two f (at + 3)) x.b 0) kids beside (eqb (two f (at + 3)) 0)
      (λ e. name (number ∙ is_eq (two f (at + 3)) 0 e)))
    where
      both : {n : ℕ} (h : Head) (k r : Forest) (b : Bool) → (b ≡ true → first_number_of k ≡ n)
          → (if b then Body (bound_symbol (more h k r)) else Plain) ≡ (if b then Body n else Plain)
      both h k r true e = ap Body (bound_is h k r ∙ e refl)
      both h k r false e = refl

-- ---- the Declaration

body_if : (h : Head) (k r : Forest) → body_of (more h k r) ≡ (if is_using h then identifier_of k else Plain)
unfolding body_of identifier_of
body_if h k r = go (is_using h)
  where
    go : (b : Bool) → (if b && binds_identifier k then Body (bound_symbol k) else Plain) ≡ (if b then (if binds_identifier k then Body (bound_symbol k) else Plain) else Plain)
    go true = refl
    go false = refl

up_if : (f : List ℕ) (at : ℕ) → body_role f at
    ≡ (if eqb (get_or f at 0) 5 then (if one_of (3 ∷ 4 ∷ []) (two f (at + 3)) then (if eqb (two f (at + 10)) 0 then Body (two f (at + 19)) else Plain) else Plain) else Plain)
unfolding body_role
up_if f at = go (eqb (get_or f at 0) 5) (one_of (3 ∷ 4 ∷ []) (two f (at + 3))) (eqb (two f (at + 10)) 0)
  where
    go : (a b c : Bool) → (if a && b && c then Body (two f (at + 19)) else Plain)
        ≡ (if a then (if b then (if c then Body (two f (at + 19)) else Plain) else Plain) else Plain)
    go true true true = refl
    go true true false = refl
    go true false c = refl
    go false b c = refl

using_if : (n : ℕ) → is_using (hd Tag.Declaration n 0 0) ≡ one_of (3 ∷ 4 ∷ []) n
unfolding is_using
using_if n = or-false (one_of (3 ∷ 4 ∷ []) n)

-- a ForOf's first child: its kind, and what it binds
module _ {f : List ℕ} {syms : ℕ} {p : Place} {cur at : ℕ} {m : List ℕ} {h : Head} {kids : Forest}
    (y : RecordAt f syms p cur at m h kids) where
  tag_is : get_or f at 0 ≡ 5 → (field_of f at).tag ≡ Tag.Declaration
  unfolding field_of
  tag_is e = e

  using_is : (b : Bool) → eqb (get_or f at 0) 5 ≡ b → is_using h ≡ (b && one_of (3 ∷ 4 ∷ []) (two f (at + 3)))
  unfolding is_using head_of field_of numbers_of
  using_is true e =
      let tag = is_eq (get_or f at 0) 5 e in
      ap is_using (y.head ∙ declaration_head p syms (field_of f at) tag)
      ∙ ap (λ (n : ℕ). is_using (hd Tag.Declaration n 0 0)) (first_number f at 5 tag refl)
      ∙ using_if (two f (at + 3))
  using_is false e = rw (y.head, e)

  binds_is : {below next : ℕ} {n o : List ℕ} → p ≡ ForOfLeft → (field_of f at).tag ≡ Tag.Declaration
      → Parsed f syms (place_of p (field_of f at)) 0 below (field_of f at).next n kids next o
      → identifier_of kids ≡ (if eqb (two f (at + 10)) 0 then Body (two f (at + 19)) else Plain)
  unfolding field_bytes numbers_of
  binds_is e tag k =
      let x = field_of f at in
      let a₁ : x.next + 3 ≡ at + 10 = omega (arith, rw tag at y.field.bytes) in
      let a₂ : x.next + 12 ≡ at + 19 = omega (arith, rw tag at y.field.bytes) in
      declarator_is (declaration_place p syms x tag e) (y.children ∙ declaration_one p syms x tag e y.numbers) k
      ∙ ap (λ (n : ℕ). if eqb (two f n) 0 then Body (two f (x.next + 12)) else Plain) a₁
      ∙ ap (λ (n : ℕ). if eqb (two f (at + 10)) 0 then Body (two f n) else Plain) a₂

-- the children of a ForOf as read
pub body_is : {f : List ℕ} {syms : ℕ} {place : ℕ → Place} {cur at next : ℕ} {m o : List ℕ} {t : Forest} → place 0 ≡ ForOfLeft
    → 1 ≤ count t → Parsed f syms place 0 cur at m t next o → body_of t ≡ body_role f at
unfolding count
body_is p n parsed_none = absurd (omega arith)
body_is {f} {at = at} p n (parsed_more {k = kids} y k r) =
    rw (up_if f at, body_if, using_is y (eqb (get_or f at 0) 5) refl) (go (eqb (get_or f at 0) 5) refl)
  where
    go : (b : Bool) → eqb (get_or f at 0) 5 ≡ b
        → (if b && one_of (3 ∷ 4 ∷ []) (two f (at + 3)) then identifier_of kids else Plain)
        ≡ (if b then (if one_of (3 ∷ 4 ∷ []) (two f (at + 3)) then (if eqb (two f (at + 10)) 0 then Body (two f (at + 19)) else Plain) else Plain) else Plain)
    go true e = rw (binds_is y p (tag_is y (is_eq (get_or f at 0) 5 e)) k)
    go false e = refl
