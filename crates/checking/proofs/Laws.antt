-- Laws of the definitions, for the proofs of the code.
-- Assumes nothing.
use Rattle.meaning.specs.declared.Reason.{Reason}
use Rattle.meaning.specs.Refusals.{Outcome, refused}
use Rattle.std.specs.Prelude.{Err, Ok, Option, Some, None, if◌then◌else◌}
use Rattle.std.proofs.Common.{ltb-true, ltb-false}
use mathlib.Core.Path.{◌≡◌, refl, sym, ap, subst, ◌∙◌}
use mathlib.Core.Logic.{inl, inr}
use mathlib.Core.Bool.{Bool, true, false, not}
use mathlib.Core.List.{List, [], ◌∷◌, ◌++◌, map}
use Prim.Native.Nat.{ℕ, zero, suc, ◌+◌, ◌-◌, ◌*◌, ◌≤◌, ◌<◌}
use native.Mathlib.Omega.{arith}
use lib.ListN.{length, drop, get_or, take, replicate, length-replicate, replicate-append-replicate, drop_of_length-le}
use lib.Seq.{take-append_seam}
use lib.Dec.{eqb, ltb}
use types.Run.{OneOf}
use Rattle.std.specs.List.{position}
use Rattle.std.proofs.lemmas.List.Recursion.{is_position_or_len}
use borrow.Author.Tests.{ne_eqb, le-leb, lt-leb, lt-ltb, le-ltb}
use Rattle.meaning.specs.Tree.{hd}
use Rattle.meaning.specs.File.{numbers_of, field_bytes}
use Rattle.meaning.specs.Grammar.{allowed, two, field_of, field_at, right, scope_of, head_of, below, children_of, place_of, may_name, naming, unnamed}
use Rattle.meaning.specs.Reading.{◌>>=◌, ◌>>◌, ensure, too_deep, judged, symbols_in, rows_read, read_rows}
use Rattle.meaning.specs.declared.Place.{Place}
use Rattle.meaning.specs.declared.Place.TheVariants.{Program}
use Rattle.meaning.specs.declared.Field.{Field}
use Rattle.meaning.specs.declared.Rows.{Rows}
use Rattle.meaning.specs.declared.Refusal.{Refusal}
use Rattle.checking.specs.declared.Progress.{Progress}
use Rattle.figures.specs.Tally.{inserts_in, no_tally, ◌⊞◌, cap, own}
use Rattle.figures.specs.declared.tally.Tally.{Tally}
use Rattle.figures.specs.declared.tally.Role.{Role}
use Rattle.figures.specs.declared.tally.Role.TheVariants.{Plain}
use Rattle.checking.specs.Flat.{
  Entered,
  Past,
  entered,
  past,
  right_at,
  next_f,
  enter_f,
  add_f,
  list_f,
  record_f,
  ups_f,
  below_last,
  children_f,
  row_below,
  added_f,
  after_f,
  answer_of,
  end_f,
  tree_f,
}

-- ---- entering a record

-- the scope row of a field named
abbrev pub named_f : List ℕ → ℕ → ℕ → List ℕ → Field → Outcome Entered
named_f f cur at m x = do
  ensure (may_name f cur m (scope_of (head_of x))) Reason.WrongNumber at
  Ok (record { field = x; marks = naming m (scope_of (head_of x)) })

judging : (b : Bool) (x : Field) (at : ℕ) (g : Field → Outcome Entered)
    → (ensure b Reason.WrongNumber at >> g x) ≡ ((if b then Ok x else refused Reason.WrongNumber at) >>= g)
judging true x at g = refl
judging false x at g = refl

entering : (d : Outcome Field) (test : Field → Bool) (at : ℕ) (g : Field → Outcome Entered)
    → (d >>= (λ x. ensure (test x) Reason.WrongNumber at >> g x)) ≡ (judged test at d >>= g)
entering (Ok x) test at g = judging (test x) x at g
entering (Err r) test at g = refl

-- its scope row is named after the checks of its field
pub enter_is : (f : List ℕ) (syms : ℕ) (p : Place) (cur at : ℕ) (m : List ℕ)
    → enter_f f syms p cur at m ≡ (right_at f syms p at >>= named_f f cur at m)
unfolding enter_f right_at
enter_is f syms p cur at m = entering (field_at f p at) (right p syms) at (named_f f cur at m)

if_all : {X : Type 0} (P : X → Type 0) (b : Bool) (x y : X) → P x → P y → P (if b then x else y)
if_all P true x y h k = h
if_all P false x y h k = k

-- what is read is a refusal, or the field that stands there
field_all : (f : List ℕ) (p : Place) (at : ℕ) (P : Outcome Field → Type 0) → ((r : Refusal) → P (Err r)) → P (Ok (field_of f at))
    → P (field_at f p at)
unfolding field_at
field_all f p at P h k =
    let t = get_or f at 0 in
    if_all P (ltb (length f) (at + 3)) _ _ (h _)
    (if_all P (not (allowed p t)) _ _ (h _)
    (if_all P (not (eqb (two f (at + 1)) (2 * numbers_of t))) _ _ (h _)
    (if_all P (ltb (length f) (at + field_bytes t)) _ _ (h _) k)))

-- where the field that stands there names no scope, there is nothing to name
enter_unscoped : (f : List ℕ) (syms : ℕ) (p : Place) (cur at : ℕ) (m : List ℕ) → scope_of (head_of (field_of f at)) ≡ 0
    → entered (right_at f syms p at) m ≡ enter_f f syms p cur at m
unfolding right_at may_name naming
enter_unscoped f syms p cur at m none =
    field_all f p at (λ d. entered (judged (right p syms) at d) m ≡ (judged (right p syms) at d >>= named_f f cur at m))
    (λ r. refl)
    (if_all (λ (d : Outcome Field). entered d m ≡ (d >>= named_f f cur at m)) (right p syms (field_of f at)) _ _ (rw none) refl)
    ∙ sym (enter_is f syms p cur at m)

-- two functions agree at a key of an arm if they agree at all of them
at_keys : (f g : ℕ → ℕ) (ks : List ℕ) (t : ℕ) → map f ks ≡ map g ks → OneOf ks t → f t ≡ g t
at_keys f g [] t e h = absurd h
at_keys f g (k ∷ []) t e h = cc
at_keys f g (k ∷ j ∷ ks) t e (inl h) = cc
at_keys f g (k ∷ j ∷ ks) t e (inr h) = at_keys f g (j ∷ ks) t (cc) h

-- so at a tag none of whose records names a scope
pub enter_tagged : (f : List ℕ) (syms : ℕ) (p : Place) (cur at : ℕ) (m : List ℕ) (ks : List ℕ) (t : ℕ) → t ≡ get_or f at 0
    → ((a b c : ℕ) → map (λ k. scope_of (hd k a b c)) ks ≡ map (λ _. 0) ks) → OneOf ks t
    → entered (right_at f syms p at) m ≡ enter_f f syms p cur at m
unfolding head_of field_of
enter_tagged f syms p cur at m ks t is_tag none key =
    enter_unscoped f syms p cur at m
    (at_keys (λ k. scope_of (hd k _ _ _)) (λ _. 0) ks (get_or f at 0) (none _ _ _) (rw is_tag at key))

-- ---- one record: refused on entering, refused inside, or fine

-- a record is entered, and then what is left of it
record_is : (l : ℕ) (f : List ℕ) (scopes syms : ℕ) (p : Place) (u : Role) (cur : ℕ) (t : Tally) (at : ℕ) (m : List ℕ)
    → record_f (suc l) f scopes syms p u cur t at m ≡ after_f l f scopes syms p u cur t (enter_f f syms p cur at m)
unfolding record_f children_f after_f
record_is l f scopes syms p u cur t at m = refl

pub record_entered : (l : ℕ) (f : List ℕ) (scopes syms : ℕ) (p : Place) (u : Role) (cur : ℕ) (t : Tally) (at : ℕ) (m : List ℕ)
    (e : Outcome Entered) (o : Outcome Past) → e ≡ enter_f f syms p cur at m → o ≡ after_f l f scopes syms p u cur t e
    → o ≡ record_f (suc l) f scopes syms p u cur t at m
record_entered l f scopes syms p u cur t at m e o enters after = rw (record_is l f scopes syms p u cur t at m, ← enters, after)

-- with no tally before it
pub record_first : (l : ℕ) (f : List ℕ) (scopes syms : ℕ) (p : Place) (u : Role) (cur : ℕ) (t : Tally) (at : ℕ) (m : List ℕ)
    (o : Outcome Past) → o ≡ record_f l f scopes syms p u cur t at m → t ≡ no_tally → o ≡ record_f l f scopes syms p u cur no_tally at m
record_first l f scopes syms p u cur t at m o e none = e ∙ ap (λ (s : Tally). record_f l f scopes syms p u cur s at m) none

-- or refused at once
pub record_refused : (l : ℕ) (f : List ℕ) (scopes syms : ℕ) (p : Place) (u : Role) (cur : ℕ) (t : Tally) (at : ℕ) (m m₁ : List ℕ)
    (d : Outcome Field) (r : Refusal) → entered d m₁ ≡ enter_f f syms p cur at m → d ≡ Err r
    → Err r ≡ record_f (suc l) f scopes syms p u cur t at m
unfolding after_f
record_refused l f scopes syms p u cur t at m m₁ d r enters e =
    rw (record_is l f scopes syms p u cur t at m, ← enters, e)

module _ (l : ℕ) (f : List ℕ) (scopes syms : ℕ) (p : Place) (u : Role) (cur : ℕ) (t : Tally) (m₁ : List ℕ)
    (x : Field) (a : Outcome Progress) (m₂ : List ℕ)
    (inside : past a m₂ ≡ children_f l f scopes syms p u x (below cur (scope_of (head_of x))) m₁) where
  after_inside : after_f l f scopes syms p u cur t (entered (Ok x) m₁) ≡ past a m₂ >>= added_f f scopes syms u t x
  unfolding after_f
  after_inside = rw (← inside)

  pub after_stop : (r : Refusal) → a ≡ Err r
      → Err r ≡ after_f l f scopes syms p u cur t (entered (Ok x) m₁)
  after_stop r e = rw (after_inside, e)

  pub after_fine : (q : ℕ) (kids : Tally) (inserted : Bool) (sum : Tally) → a ≡ next_f q kids
      → inserted ≡ inserts_in (symbols_in f syms (7 + 7 * scopes)) u (head_of x)
      → sum ≡ cap (t ⊞ cap (own u inserted (head_of x) (children_of x) kids))
      → past (next_f q sum) m₂ ≡ after_f l f scopes syms p u cur t (entered (Ok x) m₁)
  after_fine q kids inserted sum e i r =
      let w : sum ≡ add_f f scopes syms u x t kids =
      r ∙ ap (λ (b : Bool). cap (t ⊞ cap (own u b (head_of x) (children_of x) kids))) i in
      ap (λ (s : Tally). past (next_f q s) m₂) w
      ∙ sym (after_inside ∙ ap (λ (b : Outcome Progress). past b m₂ >>= added_f f scopes syms u t x) e)

-- ---- children and levels

-- below the last level: no children, or the first is cut or too deep
module _ (f : List ℕ) (n at : ℕ) where
  pub below_none : (t : Tally) → n ≡ 0 → t ≡ no_tally → next_f at t ≡ below_last f n at
  below_none t none empty = rw (none, empty)

  some_below : (n ≡ 0 → ⊥) → answer_of (too_deep f at) ≡ below_last f n at
  some_below some =
      let s : n ≡ suc (n - 1) = omega arith in
      rw s

  pub below_cut : (n ≡ 0 → ⊥) → length f < at + 3 → refused Reason.Cut at ≡ below_last f n at
  below_cut some cut = rw (lt-ltb (length f) (at + 3) cut) at (some_below some)

  pub below_deep : (n ≡ 0 → ⊥) → at + 3 ≤ length f → refused Reason.TooDeep at ≡ below_last f n at
  below_deep some whole = rw (le-ltb (length f) (at + 3) whole) at (some_below some)

below_past : (f : List ℕ) (scopes syms : ℕ) (place : ℕ → Place) (up : ℕ → Role) (cur n at : ℕ) (m : List ℕ)
    → past (below_last f n at) m ≡ list_f (λ k t a m₁. record_f zero f scopes syms (place k) (up k) cur t a m₁) n 0 no_tally at m
unfolding list_f record_f
below_past f scopes syms place up cur zero at m = refl
below_past f scopes syms place up cur (suc n) at m = refl

pub children_deep : (l : ℕ) (f : List ℕ) (scopes syms : ℕ) (p : Place) (u : Role) (x : Field) (cur n : ℕ) (m : List ℕ) (a : Outcome Progress)
    → l ≡ 0 → n ≡ children_of x → a ≡ below_last f n x.next → past a m ≡ children_f l f scopes syms p u x cur m
unfolding children_f
children_deep l f scopes syms p u x cur n m a none counted answered =
    rw (none, answered, counted) (below_past f scopes syms (place_of p x) (ups_f f u x) cur (children_of x) x.next m)

-- with levels left, a child has one less for its own children
pub child_level : (l : ℕ) (f : List ℕ) (scopes syms : ℕ) (p : Place) (u : Role) (cur : ℕ) (t : Tally) (at : ℕ) (m : List ℕ)
    (o : Outcome Past) → 1 ≤ l → o ≡ record_f (suc (l - 1)) f scopes syms p u cur t at m
    → o ≡ record_f l f scopes syms p u cur t at m
child_level l f scopes syms p u cur t at m o some e =
    let s : suc (l - 1) ≡ l = omega arith in
    rw s at e

-- ---- records in a row

abbrev One : Type 0
One = ℕ → Tally → ℕ → List ℕ → Outcome Past

module _ (one : One) (n k : ℕ) (t : Tally) (p : ℕ) (m : List ℕ) (r : Outcome Past)
    (so_far : r ≡ list_f one (n - k) k t p m) where
  pub list_step : (q : ℕ) (s : Tally) (m₁ : List ℕ) (a : Outcome Progress) → k < n → past a m₁ ≡ one k t p m → a ≡ next_f q s
      → r ≡ list_f one (n - (k + 1)) (k + 1) s q m₁
  unfolding list_f
  list_step q s m₁ a h i j =
      let e : n - k ≡ suc (n - (k + 1)) = omega arith in
      rw (e, ← i, j) at so_far

  pub list_stop : (e : Refusal) (m₁ : List ℕ) (a : Outcome Progress) → k < n → past a m₁ ≡ one k t p m → a ≡ Err e
      → Err e ≡ r
  unfolding list_f
  list_stop e m₁ a h i j =
      let s : n - k ≡ suc (n - (k + 1)) = omega arith in
      let w : r ≡ Err e = rw (s, ← i, j) at so_far in
      sym w

  pub list_end : n ≤ k → past (next_f p t) m ≡ r
  unfolding list_f
  list_end h = let e : n - k ≡ 0 = omega arith in rw e at (sym so_far)

-- ---- the rows before the tree

module _ (again : ℕ → ℕ → Bool) (one : ℕ → ℕ → Outcome Field) (n k at : ℕ) (r : Outcome Rows)
    (so_far : r ≡ read_rows again one (n - k) k at) where
  pub rows_stop : (b : Bool) → k < n → b ≡ again k at → b ≡ false → Ok (rows_read k at) ≡ r
  unfolding read_rows
  rows_stop b h eb bf =
      let s : n - k ≡ suc (n - (k + 1)) = omega arith in
      let w : r ≡ Ok (rows_read k at) = rw (s, ← eb, bf) at so_far in
      sym w

  pub rows_step : (b : Bool) (d : Outcome Field) (x : Field) → k < n → b ≡ again k at → b ≡ true → d ≡ one k at → d ≡ Ok x
      → r ≡ read_rows again one (n - (k + 1)) (k + 1) x.next
  unfolding read_rows
  rows_step b d x h eb bt ed dw =
      let s : n - k ≡ suc (n - (k + 1)) = omega arith in
      rw (s, ← eb, bt, ← ed, dw) at so_far

  pub rows_bad : (b : Bool) (d : Outcome Field) (e : Refusal) → k < n → b ≡ again k at → b ≡ true → d ≡ one k at → d ≡ Err e
      → Err e ≡ r
  unfolding read_rows
  rows_bad b d e h eb bt ed dw =
      let s : n - k ≡ suc (n - (k + 1)) = omega arith in
      let w : r ≡ Err e = rw (s, ← eb, bt, ← ed, dw) at so_far in
      sym w

  pub rows_end : n ≤ k → Ok (rows_read k at) ≡ r
  unfolding read_rows
  rows_end h = let s : n - k ≡ 0 = omega arith in rw s at (sym so_far)

-- no more than the most rows
abbrev Few : ℕ → Outcome Rows → Type 0
Few b (Ok q) = q.count ≤ b
Few b (Err r) = Unit {0}

few_if : (b : Bool) (n : ℕ) (x y : Outcome Rows) → Few n x → Few n y → Few n (if b then x else y)
few_if true n x y hx hy = hx
few_if false n x y hx hy = hy

few_field : (d : Outcome Field) (n : ℕ) (g : Field → Outcome Rows) → ((x : Field) → Few n (g x)) → Few n (d >>= g)
few_field (Ok x) n g h = h x
few_field (Err r) n g h = tt

rows_few : (again : ℕ → ℕ → Bool) (one : ℕ → ℕ → Outcome Field) (n k b at : ℕ) → k + n ≤ b → Few b (read_rows again one n k at)
unfolding read_rows
rows_few again one zero k b at h = omega arith
rows_few again one (suc n) k b at h =
    few_if (again k at) b _ _
    (few_field (one k at) b _ (λ x. rows_few again one n (k + 1) b x.next (omega arith)))
    (omega arith)

pub few : (again : ℕ → ℕ → Bool) (one : ℕ → ℕ → Outcome Field) (most at : ℕ) (d : Outcome Rows) (k p : ℕ)
    → d ≡ read_rows again one most 0 at → d ≡ Ok (rows_read k p) → k ≤ most
few again one most at d k p e w = subst (Few most) (sym e ∙ w) (rows_few again one most 0 most at (omega arith))

-- ---- the lowest unnamed row

-- a row is found below n, or there is none
row_told : (i n k : ℕ) (b : Bool) → ltb i n ≡ b → (if b then Some i else None) ≡ Some k → (k ≡ i) × (i < n)
row_told i n k true t f = (cc, ltb-true i n t)
row_told i n k false t f = absurd (cc)

none_told : (i n : ℕ) (b : Bool) → ltb i n ≡ b → (if b then Some i else None) ≡ None → n ≤ i
none_told i n true t f = absurd (cc)
none_told i n false t f = ltb-false i n t

module _ (i n : ℕ) (r : Option ℕ) (found : r ≡ row_below i n) where
  pub row_found : (k : ℕ) → r ≡ Some k → (k ≡ i) × (i < n)
  row_found k e = row_told i n k (ltb i n) refl (sym found ∙ e)

  pub row_missed : r ≡ None → n ≤ i
  row_missed e = none_told i n (ltb i n) refl (sym found ∙ e)

pub row_here : (k i n : ℕ) → k ≡ i → k < n → Some k ≡ row_below i n
row_here k i n e h = rw (← e, lt-ltb k n h)

pub row_behind : (k i n : ℕ) → k ≡ i → n ≤ k → None ≡ row_below i n
row_behind k i n e h = rw (← e, le-ltb k n h)

-- as std's search for an index
pub unnamed_row : (m : List ℕ) → position (λ x. eqb x 0) m ≡ row_below (unnamed m) (length m)
unfolding unnamed
unnamed_row m = ap (λ (i : ℕ). row_below i (length m)) (sym (is_position_or_len unnamed (λ x. eqb x 0) refl (λ x xs. refl) m))

unnamed_turn : (m : List ℕ) (i : ℕ) → unnamed (drop i m) ≡ (if eqb (get_or m i 0) 0 then 0 else 1 + unnamed (drop (suc i) m))
unfolding unnamed
unnamed_turn [] zero = refl
unnamed_turn [] (suc i) = refl
unnamed_turn (x ∷ m) zero = refl
unnamed_turn (x ∷ m) (suc i) = unnamed_turn m i

module _ (m : List ℕ) (i u : ℕ) (so_far : u ≡ i + unnamed (drop i m)) where
  pub unnamed_here : get_or m i 0 ≡ 0 → i ≡ u
  unnamed_here h =
      let t : unnamed (drop i m) ≡ 0 =
      unnamed_turn m i ∙ ap (λ (n : ℕ). if eqb n 0 then 0 else 1 + unnamed (drop (suc i) m)) h in
      omega arith

  pub unnamed_step : (get_or m i 0 ≡ 0 → ⊥) → u ≡ (i + 1) + unnamed (drop (i + 1) m)
  unnamed_step h =
      let t : unnamed (drop i m) ≡ 1 + unnamed (drop (suc i) m) =
      unnamed_turn m i ∙ ap (λ (b : Bool). if b then 0 else 1 + unnamed (drop (suc i) m)) (ne_eqb _ _ h) in
      let s : i + 1 ≡ suc i = omega arith in
      rw s (omega arith)

  pub unnamed_end : length m ≤ i → i ≡ u
  unfolding unnamed
  unnamed_end h = let t : unnamed (drop i m) ≡ 0 = ap unnamed (drop_of_length-le m h) in omega arith

-- ---- behind the tree

module _ (f : List ℕ) (scopes syms at : ℕ) (m₀ m : List ℕ) (a : Outcome Progress)
    (answered : past a m ≡ record_f 64 f scopes syms Program Plain 0 no_tally at m₀) where
  ends : tree_f f scopes syms at m₀ ≡ answer_of (end_f f (length m₀) (past a m))
  unfolding tree_f
  ends = sym (ap (λ (o : Outcome Past). answer_of (end_f f (length m₀) o)) answered)

  pub tree_refused : (r : Refusal) → a ≡ Err r → Err r ≡ tree_f f scopes syms at m₀
  unfolding end_f
  tree_refused r e = rw (ends, e)

  module _ (q : ℕ) (t : Tally) (next : a ≡ next_f q t) where
    pub tree_more : q < length f → refused Reason.BytesBehind q ≡ tree_f f scopes syms at m₀
    unfolding end_f
    tree_more h = rw (ends, next, lt-leb _ _ h)

    module _ (u : ℕ) (whole : length f ≤ q) (lowest : u ≡ unnamed m) (marks : length m ≡ length m₀) where
      pub tree_unnamed : u < length m → refused Reason.WrongNumber (7 + 7 * u) ≡ tree_f f scopes syms at m₀
      unfolding end_f
      tree_unnamed h = rw (ends, next, le-leb _ _ whole, ← lowest, ← marks, lt-leb _ _ h)

      pub tree_fine : length m ≤ u → next_f q t ≡ tree_f f scopes syms at m₀
      unfolding end_f
      tree_fine h = rw (ends, next, le-leb _ _ whole, ← lowest, ← marks, le-leb _ _ h)

-- ---- marks and counters of zeros

zeros : (k d : ℕ) → take {A = ℕ} k (replicate {A = ℕ} (k + d) 0) ≡ replicate k 0
zeros k d =
    ap (take {A = ℕ} k) (sym (replicate-append-replicate k d 0))
    ∙ ap (λ (j : ℕ). take {A = ℕ} j (replicate k 0 ++ replicate d 0)) (sym (length-replicate k 0))
    ∙ take-append_seam (replicate k 0) (replicate d 0)

module _ (most k : ℕ) (fits : k ≤ most) where
  pub take_zeros : take {A = ℕ} k (replicate {A = ℕ} most 0) ≡ replicate k 0
  take_zeros =
      let e : most ≡ k + (most - k) = omega arith in
      ap (λ (n : ℕ). take {A = ℕ} k (replicate {A = ℕ} n 0)) e ∙ zeros k (most - k)

  pub zeros_length : k ≡ length (take {A = ℕ} k (replicate {A = ℕ} most 0))
  zeros_length = sym (ap length take_zeros ∙ length-replicate k 0)

  pub zeros_few : length (take {A = ℕ} k (replicate {A = ℕ} most 0)) ≤ most
  zeros_few = omega (arith, zeros_length)
