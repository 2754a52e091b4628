-- Leaves: the check of a record accepts what the code passes at once.
-- Assumes nothing.
use Rattle.std.specs.Prelude.{if◌then◌else◌, Option, Some, None, Ok}
use mathlib.Core.Path.{◌≡◌, refl, sym, ap, ◌∙◌}
use mathlib.Core.Bool.{Bool, true, false, ◌&&◌}
use mathlib.Core.List.{List}
use Prim.Native.Nat.{ℕ, suc, ◌+◌, ◌*◌, ◌≤◌}
use native.Mathlib.Omega.{arith}
use lib.Dec.{eqb}
use lib.ListN.{length, get_or}
use borrow.Author.Tests.{le-ltb, eqb-true, leb-true}
use Rattle.meaning.specs.File.{numbers_of, has_children, own_numbers, field_bytes}
use Rattle.meaning.specs.Grammar.{
  allowed,
  two,
  number,
  field_of,
  field_at,
  is_row,
  right,
  scope_of,
  children_of,
  head_of,
  may_name,
  naming,
}
use Rattle.meaning.specs.Statements.{is_using}
use Rattle.meaning.specs.declared.Place.{Place}
use Rattle.meaning.specs.declared.Field.{Field}
use Rattle.figures.specs.Tally.{
  role_index,
  inserts_in,
  takes_up,
  takes_up_cases,
  gets_context,
  is_export,
  items_kept,
  no_tally,
  leaf_tally,
  ◌⊞◌,
  cap,
  own,
}
use Rattle.figures.specs.declared.tally.Tally.{Tally}
use Rattle.figures.specs.declared.tally.Role.{Role}
use Rattle.figures.specs.declared.tally.Role.TheVariants.{
  Plain,
  Part,
  Item,
  Default,
  Exported,
  ExportedDeclarator,
  ExportedName,
  Held,
  Body,
}
use Rattle.checking.specs.Flat.{next_f, past, is_whole, expression_size, mention_size, leaf_size, enter_f, list_f, record_f}
use Rattle.checking.proofs.Body.{and_inv}

-- ---- what the tests tell

pub record Stands (f : List ℕ) (p : Place) (tag len at : ℕ) : Type 0 where
  pub inside : at + (3 + len) ≤ length f
  pub may : allowed p tag ≡ true
  pub sized : eqb (two f (at + 1)) len ≡ true

pub stands : (f : List ℕ) (p : Place) (tag len at : ℕ) (b : Bool) → b ≡ is_whole f p tag len at → b ≡ true
    → Stands f p tag len at
unfolding is_whole
stands f p tag len at b e is_true =
    let tests = and_inv _ _ (sym e ∙ is_true) in
    let start = and_inv _ _ tests.0 in
    record { inside = leb-true _ _ start.0; may = start.1; sized = tests.1 }

-- a field of so many bytes that is right, names no scope, has no children, and counts as one record and its bytes alone
record Leaf (f : List ℕ) (syms : ℕ) (p : Place) (at size : ℕ) : Type 0 where
  field : Field
  is_whole_lem : field_at f p at ≡ Ok field
  is_right : right p syms field ≡ true
  no_scope_lem : scope_of (head_of field) ≡ 0
  no_children : children_of field ≡ 0
  adds : cap (own Plain false (head_of field) 0 no_tally) ≡ leaf_tally size
  behind : field.next ≡ at + size
  inside : at + size ≤ length f

module _ (f : List ℕ) (syms : ℕ) (p : Place) (at : ℕ) where
  -- a size tells of a leaf
  abbrev Passed : Option ℕ → Type 0
  Passed (Some size) = Leaf f syms p at size
  Passed None = Unit {0}

  if_passed : (b : Bool) (x y : Option ℕ) → (b ≡ true → Passed x) → Passed y → Passed (if b then x else y)
  if_passed true x y h k = h refl
  if_passed false x y h k = k

  -- the field, where it has this tag and so many numbers
  abbrev field_with : ℕ → ℕ → Field
  field_with tag n =
      record {
        tag = tag;
        a = number f at n 0;
        b = number f at n 1;
        c = number f at n 2;
        d = number f at n 3;
        next = at + (3 + 2 * n);
      }

  field_is : (tag n : ℕ) → get_or f at 0 ≡ tag → numbers_of tag ≡ n → Stands f p tag (2 * n) at → field_at f p at ≡ Ok (field_with tag n)
  unfolding field_at field_of field_bytes
  field_is tag n is_tag numbers s =
      let inside = s.inside in
      rw (
        is_tag,
        numbers,
        le-ltb (length f) (at + 3) (omega arith),
        s.may,
        s.sized,
        le-ltb (length f) (at + (3 + 2 * n)) inside,
      )

  -- a test that tells that the numbers are right and that there are no children
  field_passed : (tag n : ℕ) (test : Bool) → numbers_of tag ≡ n → (test ≡ true → right p syms (field_with tag n) ≡ true)
      → scope_of (head_of (field_with tag n)) ≡ 0 → (test ≡ true → children_of (field_with tag n) ≡ 0)
      → cap (own Plain false (head_of (field_with tag n)) 0 no_tally) ≡ leaf_tally (3 + 2 * n)
      → get_or f at 0 ≡ tag → Passed (if is_whole f p tag (2 * n) at && test then Some (3 + 2 * n) else None)
  field_passed tag n test numbers is_right no_scope_lem no_children adds is_tag =
      if_passed (is_whole f p tag (2 * n) at && test) (Some (3 + 2 * n)) None (λ e.
      let tests = and_inv _ _ e in
      let s = stands f p tag (2 * n) at _ refl tests.0 in
      record {
        field = field_with tag n;
        is_whole_lem = field_is tag n is_tag numbers s;
        is_right = is_right tests.1;
        no_scope_lem = no_scope_lem;
        no_children = no_children tests.1;
        adds = adds;
        behind = refl;
        inside = s.inside;
      }) tt

  leaf_passed : (u : Role) → Passed (leaf_size f p u syms at)
  unfolding leaf_size expression_size mention_size numbers_of has_children own_numbers field_bytes number right scope_of head_of children_of own takes_up takes_up_cases gets_context is_export items_kept is_using role_index
  leaf_passed u =
      let first : at + 3 + 2 * 0 ≡ at + 3 = omega arith in
      let second : at + 3 + 2 * 1 ≡ at + 5 = omega arith in
      let row = is_row syms (two f (at + 3)) in
      if_passed (eqb (role_index u) 0) _ None (λ _.
      if_passed _ _ _ (λ e.
      field_passed 24 2 (eqb (two f (at + 5)) 0) refl (λ _. refl) refl (λ z. rw second (eqb-true _ _ z)) refl (eqb-true _ _ e))
      (if_passed _ _ _ (λ e. field_passed 25 1 row refl (λ r. rw first r) refl (λ _. refl) refl (eqb-true _ _ e))
      (if_passed _ _ _ (λ e. field_passed 26 1 row refl (λ r. rw first r) refl (λ _. refl) refl (eqb-true _ _ e))
      tt))) tt

-- ---- what the check makes of a leaf

leaf_record : (l : ℕ) (f : List ℕ) (scopes syms : ℕ) (p : Place) (cur : ℕ) (t : Tally) (at : ℕ) (m : List ℕ) (size : ℕ)
    → Leaf f syms p at size
    → past (next_f (at + size) (cap (t ⊞ leaf_tally size))) m ≡ record_f (suc l) f scopes syms p Plain cur t at m
unfolding record_f enter_f list_f may_name naming inserts_in
leaf_record l f scopes syms p cur t at m size x =
    rw (x.is_whole_lem, x.is_right, x.no_scope_lem, x.no_children, ← x.behind)
    (ap (λ (o : Tally). past (next_f x.field.next (cap (t ⊞ o))) m) (sym x.adds))

passes : (b : Bool) (x : Option ℕ) (size : ℕ) → (if b then x else None) ≡ Some size → b ≡ true
passes true x size e = refl
passes false x size e = cc

plain_is : (u : Role) → role_index u ≡ 0 → u ≡ Plain
unfolding role_index
plain_is Plain e = refl
plain_is Part e = cc
plain_is Item e = cc
plain_is Default e = cc
plain_is Exported e = cc
plain_is ExportedDeclarator e = cc
plain_is ExportedName e = cc
plain_is Held e = cc
plain_is (Body y) e = cc

module _ (f : List ℕ) (syms : ℕ) (p : Place) (u : Role) (at size : ℕ) (is_size : leaf_size f p u syms at ≡ Some size) where
  leaf : Leaf f syms p at size
  leaf = rw is_size at (leaf_passed f syms p at u)

  pub leaf_inside : at + size ≤ length f
  leaf_inside = leaf.inside

  is_plain : u ≡ Plain
  unfolding leaf_size
  is_plain = plain_is u (eqb-true _ _ (passes _ _ _ is_size))

  pub leaf_fine : (l scopes cur : ℕ) (t : Tally) (m : List ℕ) (sum : Tally) → sum ≡ cap (t ⊞ leaf_tally size)
      → past (next_f (at + size) sum) m ≡ record_f (suc l) f scopes syms p u cur t at m
  leaf_fine l scopes cur t m sum is_sum = rw (is_plain, is_sum) (leaf_record l f scopes syms p cur t at m size leaf)
