-- RECORDS IN OTHER BYTES: what is parsed from some bytes is parsed from others that are the same where it stands.
-- Assumes nothing.
use Rattle.std.specs.Prelude.{if◌then◌else◌, ◌≡◌, Bool, ◌||◌, ◌&&◌, List, ℕ, ◌+◌, ◌*◌, ◌-◌, ◌≤◌, ◌<◌, length, set}
use Rattle.std.proofs.Math.Path.{refl, sym, ap}
use Rattle.std.proofs.Common.{subst, ◌∙◌, arith, length-set}
use Rattle.std.proofs.Math.Bool.{true, false}
use Rattle.std.proofs.Math.Dec.{eqb, leb, ltb}
use Rattle.std.proofs.Math.ListN.{get_or}
use borrow.Author.Tests.{ltb-true, leb-true}
use Rattle.meaning.specs.Tree.{Head, Forest}
use Rattle.meaning.specs.File.{numbers_of, field_bytes}
use Rattle.meaning.specs.Grammar.{two, number, field_of, place_of, scope_of, below, parent_in, may_name, naming}
use Rattle.meaning.specs.declared.Place.{Place}
use Rattle.meaning.specs.declared.Field.{Field}
use Rattle.parsing.specs.Parsed.{FieldAt, RecordAt, Parsed, parsed_none, parsed_more}
use Rattle.parsing.specs.Counts.{parsed_bytes}

module _ (f g : List ℕ) where
  -- the bytes from one offset up to another
  abbrev pub SameFrom : ℕ → ℕ → Type 0
  SameFrom at end = (j : ℕ) → at ≤ j → j < end → get_or f j 0 ≡ get_or g j 0

  -- ---- a field

  pub two_same : (at end : ℕ) → SameFrom at end → (j : ℕ) → at ≤ j → j + 2 ≤ end → two f j ≡ two g j
  unfolding two
  two_same at end same j l u = rw (same j l (omega arith), same (j + 1) (omega arith) (omega arith))

  number_same : (at len i : ℕ) → SameFrom at (at + 3 + 2 * len) → number f at len i ≡ number g at len i
  unfolding number
  number_same at len i same = go (ltb i len) refl
    where
      go : (b : Bool) → ltb i len ≡ b → (if b then two f (at + 3 + 2 * i) else 0) ≡ (if b then two g (at + 3 + 2 * i) else 0)
      go true e = two_same at (at + 3 + 2 * len) same (at + 3 + 2 * i) (omega arith) (omega (arith, ltb-true i len e))
      go false e = refl

  pub field_same : (at end : ℕ) → SameFrom at end → (field_of f at).next ≤ end → field_of f at ≡ field_of g at
  unfolding field_of field_bytes
  field_same at end same u =
      let t = get_or f at 0 in
      let tag : t ≡ get_or g at 0 = same at (omega arith) (omega arith) in
      let n = number_same at (numbers_of t) in
      let inner : SameFrom at (at + 3 + 2 * numbers_of t) = λ j l k. same j l (omega arith) in
      rw (← tag, n 0 inner, n 1 inner, n 2 inner, n 3 inner)

  pub at_same : (p : Place) (at end : ℕ) → length f ≡ length g → SameFrom at end → (field_of f at).next ≤ end → FieldAt f p at → FieldAt g p at
  unfolding field_bytes
  at_same p at end long same u y =
      let e = field_same at end same u in
      let same_tag = ap (λ (x : Field). x.tag) e in
      let same_next = ap (λ (x : Field). x.next) e in
      record {
        taken = rw e at y.taken;
        sized = sym (two_same at end same (at + 1) (omega arith) (omega (arith, y.bytes))) ∙ y.sized ∙ ap (λ (t : ℕ). 2 * numbers_of t) same_tag;
        bytes = rw e at y.bytes;
        ends = omega (arith, y.ends, same_next, long);
      }

-- ---- the marks

pub naming_length : (m : List ℕ) (s : ℕ) → length (naming m s) ≡ length m
unfolding naming
naming_length m s = go (eqb s 0)
  where
    go : (b : Bool) → length (if b then m else set m (s - 1) 1) ≡ length m
    go true = refl
    go false = length-set m (s - 1) 1

pub marks_length : {f : List ℕ} {syms : ℕ} {place : ℕ → Place} {i cur at next : ℕ} {m n : List ℕ} {t : Forest}
    → Parsed f syms place i cur at m t next n → length n ≡ length m
marks_length parsed_none = refl
marks_length (parsed_more {m = m} {h = h} y k r) = marks_length r ∙ marks_length k ∙ naming_length m (scope_of h)

-- ---- records

-- in bytes of one length, with the same parents in so many scope rows
module _ (f g : List ℕ) (long : length f ≡ length g) (scopes : ℕ) (parents : (s : ℕ) → s ≤ scopes → parent_in f s ≡ parent_in g s) where
  name_same : (cur : ℕ) (m : List ℕ) (s : ℕ) → length m ≡ scopes → may_name f cur m s ≡ true → may_name g cur m s ≡ true
  unfolding may_name
  name_same cur m s many e = go (leb s (length m)) refl e
    where
      go : (b : Bool) → leb s (length m) ≡ b → (eqb s 0 || (b && eqb (parent_in f s) cur && eqb (get_or m (s - 1) 0) 0)) ≡ true
          → (eqb s 0 || (b && eqb (parent_in g s) cur && eqb (get_or m (s - 1) 0) 0)) ≡ true
      go true is e = rw (← parents s (omega (arith, leb-true s (length m) is))) e
      go false is e = e

  pub record_same : {syms : ℕ} {p : Place} {cur at : ℕ} {m : List ℕ} {h : Head} {k : Forest} (end : ℕ) → SameFrom f g at end
      → (field_of f at).next ≤ end → length m ≡ scopes → RecordAt f syms p cur at m h k → RecordAt g syms p cur at m h k
  record_same {p = p} {cur} {at} {m} {h} end same u many y =
      let e = field_same f g at end same u in
      record {
        field = at_same f g p at end long same u y.field;
        head = rw e at y.head;
        numbers = rw e at y.numbers;
        scope = name_same cur m (scope_of h) many y.scope;
        children = rw e at y.children;
      }

  pub parsed_same : {syms : ℕ} {place : ℕ → Place} {i cur at next : ℕ} {m n : List ℕ} {t : Forest} (end : ℕ)
      → Parsed f syms place i cur at m t next n → length m ≡ scopes → SameFrom f g at end → next ≤ end → Parsed g syms place i cur at m t next n
  parsed_same end parsed_none many same u = parsed_none
  parsed_same {syms} {place} {i} {cur} {at} {next} {m} end (parsed_more {mid = mid} {n = n} {h = h} {k = k} y kids rest) many same u =
      let mid_is = parsed_bytes kids in
      let next_is = parsed_bytes rest in
      let inner : length (naming m (scope_of h)) ≡ scopes = naming_length m (scope_of h) ∙ many in
      let e = field_same f g at end same (omega arith) in
      parsed_more (record_same end same (omega arith) many y)
      (subst (λ (x : Field). Parsed g syms (place_of (place i) x) 0 (below cur (scope_of h)) x.next (naming m (scope_of h)) k mid n) e
      (parsed_same end kids inner (λ j l b. same j (omega (arith, y.field.bytes)) b) (omega arith)))
      (parsed_same end rest (marks_length kids ∙ inner) (λ j l b. same j (omega (arith, y.field.bytes)) b) u)
