-- THE WORD IN THE BYTES: where it stands, and that the bytes with another word there are parsed as the changed tree.
-- Assumes nothing.
use Rattle.std.specs.Prelude.{◌≡◌, refl, true, List, [], ◌∷◌, leb, length}
use Rattle.std.proofs.Math.Path.{sym, ap}
use Rattle.std.proofs.Common.{subst, ◌∙◌}
use Prim.Native.Nat.{ℕ, suc, ◌+◌, ◌*◌, ◌≤◌}
use native.Mathlib.Omega.{arith}
use Rattle.std.proofs.Math.ListN.{get_or}
use Rattle.meaning.specs.Numbers.Tag
use Rattle.meaning.specs.Numbers.Kind
use Rattle.meaning.specs.Tree.{one_of, Head, hd, Forest, more, count}
use Rattle.meaning.specs.File.{numbers_of, has_children, own_numbers, field_bytes}
use Rattle.meaning.specs.Grammar.{
  two,
  number,
  field_of,
  declaration_right,
  right,
  children_of,
  place_of,
  head_of,
  scope_of,
  below,
  parent_in,
  may_name,
  naming,
}
use Rattle.meaning.specs.declared.Place.{Place}
use Rattle.meaning.specs.declared.Field.{Field}
use Rattle.spec_laws.specs.Tags.{Seen, other, here, there, seen, clash}
use Rattle.parsing.specs.Parsed.{RecordAt, same_tag, Parsed, parsed_more}
use Rattle.parsing.specs.Counts.{parsed_bytes}
use Rattle.one_word_laws.specs.Changed.{WordChanged, here as this, behind, TreeChanged, in_list_lem, inside, beside}
use Rattle.one_word_laws.proofs.Alike.{word_count, alike}
use Rattle.one_word_laws.proofs.SameBytes.{SameFrom, two_same, field_same, naming_length, marks_length, record_same, parsed_same}

-- the bytes g are f but for one: the kind of the Declaration at the offset q, of which it is the second byte
pub record OtherWord (f g : List ℕ) (q kind : ℕ) : Type 0 where
  pub long : length f ≡ length g
  pub same : (j : ℕ) → (j ≡ q + 4 → ⊥) → get_or f j 0 ≡ get_or g j 0
  pub word : get_or g (q + 4) 0 ≡ kind

abbrev pub SameParents : List ℕ → List ℕ → ℕ → Type 0
SameParents f g scopes = (s : ℕ) → s ≤ scopes → parent_in f s ≡ parent_in g s

-- Such a place lies in what is parsed, and with another word there the second forest is parsed.
abbrev pub Found : List ℕ → ℕ → ℕ → (ℕ → Place) → ℕ → ℕ → ℕ → List ℕ → Forest → ℕ → List ℕ → Type 0
Found f syms scopes place i cur at m t next n =
    (q : ℕ) × (kind : ℕ) × (at ≤ q) × (q + 7 ≤ next)
    × ((g : List ℕ) → OtherWord f g q kind → SameParents f g scopes → Parsed g syms place i cur at m t next n)

-- ---- the Declaration itself

kind_most : {kind : ℕ} → Seen (Kind.Using ∷ Kind.AwaitUsing ∷ []) kind → one_of (Kind.Using ∷ Kind.AwaitUsing ∷ []) kind ≡ true → leb kind 4 ≡ true
kind_most here e = refl
kind_most (there _ here) e = refl
kind_most (there e₁ (there e₂ other)) e = absurd (clash (rw (e₁, e₂)) e)

-- a Declaration as a field
abbrev as_field : List ℕ → ℕ → ℕ → Field
as_field f at kind = record { tag = Tag.Declaration; a = kind; b = two f (at + 3 + 2 * 1); c = 0; d = 0; next = at + 7 }

field_is : (f : List ℕ) (at : ℕ) → get_or f at 0 ≡ Tag.Declaration → field_of f at ≡ as_field f at (two f (at + 3 + 2 * 0))
unfolding field_of number field_bytes numbers_of
field_is f at e = rw e

module _ (f g : List ℕ) (at kind : ℕ) (w : OtherWord f g at kind) where
  tag_same : get_or f at 0 ≡ get_or g at 0
  tag_same = w.same at (λ e. omega (arith, e))

  -- its kind was const, so that the first byte of it is 0
  kind_is : two f (at + 3 + 2 * 0) ≡ Kind.Const → two g (at + 3 + 2 * 0) ≡ kind
  unfolding two
  kind_is e =
      let low : at + 3 + 2 * 0 + 1 ≡ at + 4 = omega arith in
      let high = w.same (at + 3 + 2 * 0) (λ e. omega (arith, e)) in
      let second : get_or g (at + 3 + 2 * 0 + 1) 0 ≡ kind = ap (λ (j : ℕ). get_or g j 0) low ∙ w.word in
      omega (arith, e, high, second)

  rest_same : two f (at + 3 + 2 * 1) ≡ two g (at + 3 + 2 * 1)
  unfolding two
  rest_same = rw (w.same (at + 3 + 2 * 1) (λ e. omega (arith, e)), w.same (at + 3 + 2 * 1 + 1) (λ e. omega (arith, e)))

  module _ {syms : ℕ} {p : Place} {cur : ℕ} {m : List ℕ} {d : Forest} (y : RecordAt f syms p cur at m (hd Tag.Declaration Kind.Const 0 0) d) where
    is_declaration : get_or f at 0 ≡ Tag.Declaration
    unfolding field_of
    is_declaration = sym (same_tag y)

    was_const : two f (at + 3 + 2 * 0) ≡ Kind.Const
    unfolding head_of own_numbers has_children numbers_of
    was_const = sym (ap (λ (h : Head). h.a) (y.head ∙ ap head_of (field_is f at is_declaration)))

    before_is : field_of f at ≡ as_field f at Kind.Const
    before_is = field_is f at is_declaration ∙ ap (as_field f at) was_const

    after_is : field_of g at ≡ as_field f at kind
    after_is =
        field_is g at (sym tag_same ∙ is_declaration)
        ∙ (λ i. record { tag = Tag.Declaration; a = kind_is was_const i; b = sym rest_same i; c = 0; d = 0; next = at + 7 })

    -- its children have the same places
    places_same : place_of p (field_of f at) ≡ place_of p (field_of g at)
    unfolding place_of
    places_same = ap (place_of p) before_is ∙ (λ i k. place_of p (as_field f at 0) k) ∙ sym (ap (place_of p) after_is)

    next_same : (field_of f at).next ≡ (field_of g at).next
    next_same = ap (λ (x : Field). x.next) before_is ∙ sym (ap (λ (x : Field). x.next) after_is)

    record_again : one_of (Kind.Using ∷ Kind.AwaitUsing ∷ []) kind ≡ true → RecordAt g syms p cur at m (hd Tag.Declaration kind 0 0) d
    unfolding right declaration_right head_of children_of own_numbers has_children numbers_of scope_of may_name field_bytes
    record_again u =
        record {
          field =
              record {
                taken = rw after_is (rw before_is at y.field.taken);
                sized =
                    rw after_is
                    (sym (two_same f g at (at + 4) (λ j l b. w.same j (λ e. omega (arith, e))) (at + 1) (omega arith) (omega arith))
                    ∙ (rw before_is at y.field.sized));
                bytes = rw after_is refl;
                ends = omega (arith, y.field.ends, next_same, w.long);
              };
          head = rw after_is refl;
          numbers = rw (after_is, kind_most (seen _ kind) u) (rw before_is at y.numbers);
          scope = refl;
          children = rw after_is (rw before_is at y.children);
        }

-- ---- the bytes before it and behind it

module _ {f g : List ℕ} {q kind : ℕ} (w : OtherWord f g q kind) where
  before_same : (at : ℕ) → SameFrom f g at (q + 4)
  before_same at j l u = w.same j (λ e. omega (arith, e))

  behind_same : (at end : ℕ) → q + 5 ≤ at → SameFrom f g at end
  behind_same at end b j l u = w.same j (λ e. omega (arith, e))

-- ---- the records around it

-- a record is told by the number of its children
with_count : {f : List ℕ} {syms : ℕ} {p : Place} {cur at : ℕ} {m : List ℕ} {h : Head} {k k' : Forest} → count k ≡ count k'
    → RecordAt f syms p cur at m h k → RecordAt f syms p cur at m h k'
with_count e y = record { field = y.field; head = y.head; numbers = y.numbers; scope = y.scope; children = sym e ∙ y.children }

module _ (f : List ℕ) (syms scopes : ℕ) {place : ℕ → Place} {i cur at : ℕ} {m : List ℕ} {h : Head} (many : length m ≡ scopes) where
  -- it is among the children
  found_below : {mid next : ℕ} {n o : List ℕ} {k k' r : Forest} → RecordAt f syms (place i) cur at m h k → count k ≡ count k'
      → Found f syms scopes (place_of (place i) (field_of f at)) 0 (below cur (scope_of h)) (field_of f at).next (naming m (scope_of h)) k' mid n
      → length n ≡ scopes → Parsed f syms place (suc i) cur mid n r next o → Found f syms scopes place i cur at m (more h k' r) next o
  found_below {mid} {next} {n} {k' = k'} y e (q, kind, low, high, parsed) many_next rest =
      let bytes = y.field.bytes in
      let next_is = parsed_bytes rest in (
        q,
        kind,
        omega arith,
        omega arith,
        λ g w parents.
            let x = field_same f g at (q + 4) (before_same w at) (omega arith) in
            parsed_more
            (record_same f g w.long scopes parents (q + 4) (before_same w at) (omega arith) many (with_count e y))
            (subst (λ (x : Field). Parsed g syms (place_of (place i) x) 0 (below cur (scope_of h)) x.next (naming m (scope_of h)) k' mid n) x
            (parsed g w parents))
            (parsed_same f g w.long scopes parents next rest many_next (behind_same w mid next (omega arith)) (omega arith)),
      )

  -- it is behind
  found_behind : {mid next : ℕ} {n o : List ℕ} {k r' : Forest} → RecordAt f syms (place i) cur at m h k
      → Parsed f syms (place_of (place i) (field_of f at)) 0 (below cur (scope_of h)) (field_of f at).next (naming m (scope_of h)) k mid n
      → Found f syms scopes place (suc i) cur mid n r' next o → Found f syms scopes place i cur at m (more h k r') next o
  found_behind {mid} {next} {n} {k = k} y kids (q, kind, low, high, parsed) =
      let bytes = y.field.bytes in
      let mid_is = parsed_bytes kids in (
        q,
        kind,
        omega arith,
        omega arith,
        λ g w parents.
            let x = field_same f g at (q + 4) (before_same w at) (omega arith) in
            parsed_more
            (record_same f g w.long scopes parents (q + 4) (before_same w at) (omega arith) many y)
            (subst (λ (x : Field). Parsed g syms (place_of (place i) x) 0 (below cur (scope_of h)) x.next (naming m (scope_of h)) k mid n) x
            (parsed_same f g w.long scopes parents (q + 4) kids (naming_length m (scope_of h) ∙ many) (before_same w (field_of f at).next) (omega arith)))
            (parsed g w parents),
      )

-- ---- in a list, and in a tree

declaration_wide : {f : List ℕ} {syms : ℕ} {p : Place} {cur at kind : ℕ} {m : List ℕ} {d : Forest}
    → RecordAt f syms p cur at m (hd Tag.Declaration kind 0 0) d → (field_of f at).next ≡ at + 7
unfolding field_bytes numbers_of
declaration_wide {at = at} y = y.field.bytes ∙ ap (λ (t : ℕ). at + field_bytes t) (sym (same_tag y))

module _ (f : List ℕ) (syms scopes : ℕ) {d : Forest} where
  word_found : {place : ℕ → Place} {i cur at next : ℕ} {m n : List ℕ} {t t' : Forest} → WordChanged d t t' → length m ≡ scopes
      → Parsed f syms place i cur at m t next n → Found f syms scopes place i cur at m t' next n
  unfolding scope_of
  word_found {place} {i} {cur} {at} {next} {m} (this {kind = kind} u) many (parsed_more {mid = mid} {n = n} y kids rest) =
      let mid_is = parsed_bytes kids in
      let next_is = parsed_bytes rest in
      let inner = naming_length m 0 ∙ many in
      let wide : (field_of f at).next ≡ at + 7 = declaration_wide y in (
        at,
        kind,
        omega arith,
        omega arith,
        λ g w parents.
            parsed_more
            (record_again f g at kind w y u)
            (subst (λ (a : ℕ). Parsed g syms (place_of (place i) (field_of g at)) 0 (below cur 0) a (naming m 0) d mid n) (next_same f g at kind w y)
            (subst (λ (p : ℕ → Place). Parsed g syms p 0 (below cur 0) (field_of f at).next (naming m 0) d mid n) (places_same f g at kind w y)
            (parsed_same f g w.long scopes parents mid kids inner (behind_same w (field_of f at).next mid (omega arith)) (omega arith))))
            (parsed_same f g w.long scopes parents next rest (marks_length kids ∙ inner) (behind_same w mid next (omega arith)) (omega arith)),
      )
  word_found (behind w) many (parsed_more {m = m} {h = h} y kids rest) =
      found_behind f syms scopes many y kids (word_found w (marks_length kids ∙ naming_length m (scope_of h) ∙ many) rest)

  pub tree_found : {place : ℕ → Place} {i cur at next : ℕ} {m n : List ℕ} {t t' : Forest} → TreeChanged d t t' → length m ≡ scopes
      → Parsed f syms place i cur at m t next n → Found f syms scopes place i cur at m t' next n
  tree_found (in_list_lem e w) many (parsed_more {m = m} {h = h} y kids rest) =
      let inner = naming_length m (scope_of h) ∙ many in
      found_below f syms scopes many y (word_count w) (word_found w inner kids) (marks_length kids ∙ inner) rest
  tree_found {place = place} {i = i} {at = at} (inside t) many (parsed_more {m = m} {h = h} y kids rest) =
      let inner = naming_length m (scope_of h) ∙ many in
      let below = tree_found {place = place_of (place i) (field_of f at)} t inner kids in
      found_below f syms scopes many y (alike t).0 below (marks_length kids ∙ inner) rest
  tree_found (beside t) many (parsed_more {m = m} {h = h} y kids rest) =
      found_behind f syms scopes many y kids (tree_found t (marks_length kids ∙ naming_length m (scope_of h) ∙ many) rest)
