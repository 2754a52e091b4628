-- Request 6 of document 02: a record's depth is judged before the rest of it. The reader of before is kept here, for this claim alone.
-- Assumes nothing.
use Rattle.meaning.specs.declared.Reason.{Reason}
use Rattle.meaning.specs.Refusals.{Outcome, refused, number_of}
use Rattle.meaning.specs.declared.Reason.TheVariants as Reason
use Rattle.std.specs.Prelude.{Ok, Err, if◌then◌else◌, ◌≡◌, Bool, true, false, not, ◌&&◌, List, ◌⊎◌, leb, ltb, eqb, length, get_or, replicate}
use Rattle.std.proofs.Math.Path.{refl}
use Rattle.std.proofs.Common.{sym, ap, ◌∙◌, inr, arith, le-leb, ltb-true, ltb-false}
use Rattle.std.proofs.Math.Logic.{inl}
use Prim.Native.Nat.{ℕ, zero, suc, ◌+◌, ◌*◌, ◌≤◌}
use Rattle.std.proofs.lemmas.Bool.{lt-leb}
use Rattle.meaning.specs.Tree.{none}
use Rattle.meaning.specs.File.{File, numbers_of, head_bytes, field_bytes}
use Rattle.meaning.specs.Grammar.{allowed, two, field_of, field_at, right, children_of, place_of, head_of, scope_of, below, may_name, naming}
use Rattle.meaning.specs.Reading.{
  ◌>>=◌,
  ◌>>◌,
  ensure,
  Records,
  read_list,
  too_deep,
  read_forest,
  read_scopes,
  read_symbols,
  most_levels,
  read_with,
  read_file,
}
use Rattle.meaning.specs.declared.Place.{Place}
use Rattle.meaning.specs.declared.Place.TheVariants.{Settings, Program}
use Rattle.meaning.specs.declared.Field.{Field}

-- ---- one reader, but for what it answers at level 65

-- the answer for a record below the last level: of a file with so many symbol rows, at a place, below a scope, at an offset, with the marks
abbrev pub Deep : Type 0
Deep = List ℕ → ℕ → Place → ℕ → ℕ → List ℕ → Outcome Records

unfoldable pub forest_with : Deep → ℕ → List ℕ → ℕ → (ℕ → Place) → ℕ → ℕ → ℕ → ℕ → List ℕ → Outcome Records
forest_with deep zero f syms place cur k zero at m = Ok (record { forest = none; next = at; marks = m })
forest_with deep zero f syms place cur k (suc n) at m = deep f syms (place k) cur at m
forest_with deep (suc l) f syms place cur k n at m =
    read_list (λ p x cur m. forest_with deep l f syms (place_of p x) cur 0 (children_of x) x.next m) f syms place cur k n at m

abbrev pub read_deep : Deep → List ℕ → Outcome File
read_deep deep = read_with (forest_with deep most_levels)

-- before: 2, 3, 4 and 5 as at any level, and then 6
abbrev pub depth_last : Deep
depth_last f syms p cur at m = do
  x ← field_at f p at
  ensure (right p syms x) Reason.WrongNumber at
  ensure (may_name f cur m (scope_of (head_of x))) Reason.WrongNumber at
  refused Reason.TooDeep at

-- now: 2 if the three bytes of its head are not there, and then 6
abbrev pub depth_first : Deep
depth_first f syms p cur at m = ensure (leb (at + head_bytes) (length f)) Reason.Cut at >> refused Reason.TooDeep at

unfoldable pub read_before : List ℕ → Outcome File
read_before f = read_deep depth_last f

-- ---- what became of an answer

-- it is now 6 at the same place, and was 2, 3, 4 or 5; a head is whole there, so that the 2 was for a cut payload
abbrev pub Deeper : {A : Type 0} → List ℕ → Outcome A → Outcome A → Type 0
Deeper f before now =
    (c : Reason) × (p : ℕ) × (before ≡ refused c p) × (now ≡ refused Reason.TooDeep p)
    × (number_of Reason.Cut ≤ number_of c) × (number_of c ≤ number_of Reason.WrongNumber)
    × (p + head_bytes ≤ length f)

abbrev pub Changed : {A : Type 0} → List ℕ → Outcome A → Outcome A → Type 0
Changed f before now = (now ≡ before) ⊎ Deeper f before now

-- of two steps in order
changed_then : {A B : Type 0} (f : List ℕ) (before now : Outcome A) (g h : A → Outcome B) → Changed f before now
    → ((a : A) → Changed f (g a) (h a)) → Changed f (before >>= g) (now >>= h)
changed_then f (Ok a) now g h (inl e) k = rw e (k a)
changed_then f (Err r) now g h (inl e) k = rw e (inl refl)
changed_then f before now g h (inr (c, p, old, new, low, high, whole)) k = rw (old, new) (inr (c, p, refl, refl, low, high, whole))

-- of one step that both take
both_take : {A B : Type 0} (f : List ℕ) (o : Outcome A) (g h : A → Outcome B) → ((a : A) → Changed f (g a) (h a))
    → Changed f (o >>= g) (o >>= h)
both_take f o g h k = changed_then f o o g h (inl refl) k

-- ---- a record at level 65

-- 6, where 5 was looked for first
numbers_changed : (f : List ℕ) (at : ℕ) (b₁ b₂ : Bool) → at + 3 ≤ length f
    → Changed {A = Records} f (ensure b₁ Reason.WrongNumber at >> (ensure b₂ Reason.WrongNumber at >> refused Reason.TooDeep at)) (refused Reason.TooDeep at)
numbers_changed f at true true whole = inl refl
numbers_changed f at true false whole = inr (Reason.WrongNumber, at, refl, refl, omega arith, omega arith, whole)
numbers_changed f at false b₂ whole = inr (Reason.WrongNumber, at, refl, refl, omega arith, omega arith, whole)

-- 6, where 3, 4 and a cut payload were looked for first; a cut head stays 2
field_changed : (f : List ℕ) (at : ℕ) (cut is_allowed sized short : Bool) (x : Field) (t₁ t₂ : Field → Bool) → (cut ≡ false → at + 3 ≤ length f)
    → Changed {A = Records} f
    ((if cut then refused Reason.Cut at else if not is_allowed then refused Reason.WrongTag at else if not sized then refused Reason.WrongLength at else if short then refused Reason.Cut at else Ok x)
    >>= (λ y. ensure (t₁ y) Reason.WrongNumber at >> (ensure (t₂ y) Reason.WrongNumber at >> refused Reason.TooDeep at)))
    (refused (if cut then Reason.Cut else Reason.TooDeep) at)
field_changed f at true is_allowed sized short x t₁ t₂ whole = inl refl
field_changed f at false false sized short x t₁ t₂ whole = inr (Reason.WrongTag, at, refl, refl, omega arith, omega arith, whole refl)
field_changed f at false true false short x t₁ t₂ whole = inr (Reason.WrongLength, at, refl, refl, omega arith, omega arith, whole refl)
field_changed f at false true true true x t₁ t₂ whole = inr (Reason.Cut, at, refl, refl, omega arith, omega arith, whole refl)
field_changed f at false true true false x t₁ t₂ whole = numbers_changed f at (t₁ x) (t₂ x) (whole refl)

record_changed : (f : List ℕ) (syms : ℕ) (p : Place) (cur at : ℕ) (m : List ℕ) → Changed f (depth_last f syms p cur at m) (too_deep f at)
unfolding field_at
record_changed f syms p cur at m =
    let t = get_or f at 0 in
    field_changed f at
    (ltb (length f) (at + 3)) (allowed p t) (eqb (two f (at + 1)) (2 * numbers_of t)) (ltb (length f) (at + field_bytes t)) (field_of f at)
    (right p syms) (λ x. may_name f cur m (scope_of (head_of x)))
    (ltb-false (length f) (at + 3))

-- the order of now, in the words of this file
cut_first : (f : List ℕ) (at : ℕ) (cut : Bool) → ltb (length f) (at + 3) ≡ cut
    → ◌≡◌ {A = Outcome Records} (refused (if cut then Reason.Cut else Reason.TooDeep) at) (ensure (leb (at + 3) (length f)) Reason.Cut at >> refused Reason.TooDeep at)
cut_first f at true e = rw (lt-leb (at + 3) (length f) (ltb-true (length f) (at + 3) e))
cut_first f at false e = rw (le-leb (at + 3) (length f) (ltb-false (length f) (at + 3) e))

-- ---- lists, levels and files

module _ (f : List ℕ) (syms : ℕ) where
  list_changed : (before now : Place → Field → ℕ → List ℕ → Outcome Records)
      → ((p : Place) (x : Field) (cur : ℕ) (m : List ℕ) → Changed f (before p x cur m) (now p x cur m))
      → (place : ℕ → Place) (cur k n at : ℕ) (m : List ℕ)
      → Changed f (read_list before f syms place cur k n at m) (read_list now f syms place cur k n at m)
  unfolding read_list
  list_changed before now inside place cur k zero at m = inl refl
  list_changed before now inside place cur k (suc n) at m =
      both_take f (field_at f (place k) at) _ _ (λ x.
      both_take f (ensure (right (place k) syms x) Reason.WrongNumber at) _ _ (λ _.
      both_take f (ensure (may_name f cur m (scope_of (head_of x))) Reason.WrongNumber at) _ _ (λ _.
      changed_then f _ _ _ _ (inside (place k) x (below cur (scope_of (head_of x))) (naming m (scope_of (head_of x)))) (λ kids.
      changed_then f _ _ _ _ (list_changed before now inside place cur (suc k) n kids.next kids.marks) (λ beside. inl refl)))))

  forest_changed : (l : ℕ) (place : ℕ → Place) (cur k n at : ℕ) (m : List ℕ)
      → Changed f (forest_with depth_last l f syms place cur k n at m) (read_forest l f syms place cur k n at m)
  unfolding forest_with read_forest
  forest_changed zero place cur k zero at m = inl refl
  forest_changed zero place cur k (suc n) at m = record_changed f syms (place k) cur at m
  forest_changed (suc l) place cur k n at m =
      list_changed _ _ (λ p x cur m. forest_changed l (place_of p x) cur 0 (children_of x) x.next m) place cur k n at m

-- each answer is the one of before, or is 6 now
pub answer_changed : (f : List ℕ) → Changed f (read_before f) (read_file f)
unfolding read_before read_file
answer_changed f =
    both_take f (ensure (leb (length f) 65535) Reason.TooLong 65535) _ _ (λ _.
    both_take f (field_at f Settings 0) _ _ (λ settings.
    both_take f (ensure (leb settings.a 2 && leb settings.b 1) Reason.WrongNumber 0) _ _ (λ _.
    both_take f (read_scopes f settings.next) _ _ (λ scopes.
    both_take f (read_symbols f scopes.count scopes.next) _ _ (λ symbols.
    changed_then f _ _ _ _ (forest_changed f symbols.count 64 (λ _. Program) 0 0 1 symbols.next (replicate scopes.count 0))
    (λ program. inl refl))))))

-- level by level it is the reader with the depth first
forest_first : (l : ℕ) (f : List ℕ) (syms : ℕ) (place : ℕ → Place) (cur k n at : ℕ) (m : List ℕ)
    → read_forest l f syms place cur k n at m ≡ forest_with depth_first l f syms place cur k n at m
unfolding read_forest forest_with
forest_first zero f syms place cur k zero at m = refl
forest_first zero f syms place cur k (suc n) at m = cut_first f at (ltb (length f) (at + 3)) refl
forest_first (suc l) f syms place cur k n at m = λ i.
    read_list (λ p x cur m. forest_first l f syms (place_of p x) cur 0 (children_of x) x.next m i) f syms place cur k n at m

pub depth_is_first : (f : List ℕ) → read_file f ≡ read_deep depth_first f
unfolding read_file
depth_is_first f = ap (λ forest. read_with forest f) (λ i f syms place cur k n at m. forest_first 64 f syms place cur k n at m i)

-- what a change says of an accepted answer
pub still_accepted : (f : List ℕ) {before now : Outcome File} {x : File} → Changed f before now → before ≡ Ok x → now ≡ Ok x
still_accepted f (inl e) was = e ∙ was
still_accepted f (inr (c, p, old, new, low, high, whole)) was = cc

pub once_accepted : (f : List ℕ) {before now : Outcome File} {x : File} → Changed f before now → now ≡ Ok x → before ≡ Ok x
once_accepted f (inl e) is = sym e ∙ is
once_accepted f (inr (c, p, old, new, low, high, whole)) is = cc
