-- An accepted file asks by the kinds of its usings, reads its own rows, and calls nothing through a context that lowering made.
-- Assumes nothing.
use Rattle.std.specs.Prelude.{Ok, if◌then◌else◌, ◌≡◌, Bool, ◌||◌, ◌&&◌, length, leb, ltb}
use Rattle.std.proofs.Math.Path.{refl, ap}
use Rattle.std.proofs.Math.Bool.{true, false}
use mathlib.Core.List.{List, [], ◌∷◌, ◌++◌}
use Prim.Native.Nat.{ℕ, zero, suc}
use native.Mathlib.Omega.{arith}
use Rattle.std.proofs.Math.Dec.{eqb}
use borrow.Author.Tests.{leb-true, le-ltb}
use Rattle.meaning.specs.Numbers.Tag
use Rattle.meaning.specs.Tree.{Head, hd, Forest, none, more, one, count}
use Rattle.meaning.specs.File.{File, numbers_of, has_children, own_numbers, record_numbers}
use Rattle.meaning.specs.Renumbering.{with_scope}
use Rattle.meaning.specs.Reading.{read_file}
use Rattle.meaning.specs.Hint.{sync_dispose, async_dispose, hint_of, letter_of}
use Rattle.meaning.specs.Statements.{is_using, is_await_using, letter_if}
use Rattle.spec_laws.specs.Tags.{Seen, other, here, there, seen, and_left}
use Rattle.hint_laws.specs.Hints.{sum_over, names_of, of_initializer, over_declarators, is_expression, shown, as_in_source, of_source, wanted, letter_for, usings_in, for_of_using, asks_for, asked, called, calls_in}
use Rattle.hint_laws.proofs.Requested.Everywhere.{Everywhere, everywhere, sums_same}
use Rattle.hint_laws.proofs.Requested.Known.{Known, accepted_known}
use Rattle.spec_laws.specs.Bools.{if_same}

-- ---- summands

if_none : (b : Bool) (x : ℕ) → x ≡ 0 → (if b then x else 0) ≡ 0
if_none true x e = e
if_none false x e = refl

-- ---- what is asked for

module _ (w w' : List ℕ → List ℕ → ℕ → ℕ) (letter letter' : Head → ℕ) where
  -- the usings of a list, if each counts the same
  usings_same : (P : Head → Type 0)
      → ((g : Head) (k : Forest) → P g → Everywhere P k → is_using g ≡ true
      → over_declarators (wanted w (letter g)) k ≡ over_declarators (wanted w' (letter' g)) k)
      → (k : Forest) → Everywhere P k → usings_in w letter k ≡ usings_in w' letter' k
  unfolding usings_in
  usings_same P e none p = refl
  usings_same P e (more h k r) p =
      omega (
        arith,
        if_same (is_using h) (over_declarators (wanted w (letter h)) k) (over_declarators (wanted w' (letter' h)) k)
            (e h k p.0 p.1),
        usings_same P e r p.2,
      )

  asks_same : (h : Head) (k : Forest) → usings_in w letter k ≡ usings_in w' letter' k → for_of_using w k ≡ for_of_using w' k
      → asks_for w letter h k ≡ asks_for w' letter' h k
  unfolding asks_for
  asks_same h k u o = rw (u, o)

-- ---- by kind

letter_of_lem : (b : Bool) → letter_if (b || false) ≡ letter_of (if b then async_dispose else sync_dispose)
unfolding letter_of
letter_of_lem true = refl
letter_of_lem false = refl

-- a using that is not recorded has the letter of its kind
kind_letter : (n : ℕ) (g : Head) → Known n g → is_using g ≡ true → letter_if (is_await_using g) ≡ letter_for g
unfolding is_using is_await_using hint_of
kind_letter n g p u =
    let five = and_left (eqb g.tag Tag.Declaration) _ u in
    rw (five, p.unmarked five) (letter_of_lem (eqb g.a 4))

either_letter : (b : Bool) (n : ℕ) (g : Head) → Known n g → is_using g ≡ true
    → (if b then letter_for g else letter_if (is_await_using g)) ≡ letter_for g
either_letter true n g p u = refl
either_letter false n g p u = kind_letter n g p u

-- The letter with which a using will be called is that of its hint.
pub asked_by_kind : (w : List ℕ → List ℕ → ℕ → ℕ) (b : List ℕ) (f : File) → read_file b ≡ Ok f
    → sum_over (λ h k. asks_for w (λ g. if eqb h.tag Tag.Program then letter_for g else letter_if (is_await_using g)) h k) f.tree
    ≡ asked w f.tree
unfolding asked
asked_by_kind w b f e =
    let n = length f.symbols in
    let letter : Head → Head → ℕ = λ h g. if eqb h.tag Tag.Program then letter_for g else letter_if (is_await_using g) in
    sums_same (Known n) (λ h k. asks_for w (letter h) h k) (asks_for w letter_for)
    (λ h k p.
    let same =
    usings_same w w (letter h) letter_for (Known n)
    (λ g kids q _ u. ap (λ (l : ℕ). over_declarators (wanted w l) kids) (either_letter (eqb h.tag Tag.Program) n g q u)) k p in
    asks_same w w (letter h) letter_for h k same refl)
    f.tree (accepted_known b f e)

-- ---- rows that are read

module _ (n : ℕ) (w : List ℕ → List ℕ → ℕ → ℕ) where
  -- an initializer stands in the source as it is
  in_source : {t : ℕ} (a b c : ℕ) (k : Forest) → Seen (Tag.Read ∷ []) t → (eqb t Tag.Read ≡ true → leb a n ≡ true)
      → as_in_source n (shown (one (hd t a b c) k)) ≡ shown (one (hd t a b c) k)
  unfolding as_in_source shown with_scope count record_numbers own_numbers has_children numbers_of
  in_source a b c k here o = let e = le-ltb n a (leb-true a n (o refl)) in rw e
  in_source {t} a b c k (there e other) o = other_in_source (is_expression t) _
    where
      other_in_source : (x : Bool) (ns : List ℕ)
          → as_in_source n ((if x then t ∷ ns else []) ++ []) ≡ (if x then t ∷ ns else []) ++ []
      other_in_source true [] = refl
      other_in_source true (y ∷ ns) = rw e
      other_in_source false ns = refl

  initializer_in_source : (l m : ℕ) (names : List ℕ) (k : Forest) → Everywhere (Known n) k
      → of_initializer (wanted (of_source n w) l names) m k ≡ of_initializer (wanted w l names) m k
  unfolding of_initializer
  initializer_in_source l m names none p = refl
  initializer_in_source l zero names (more h k r) p =
      ap (λ (e : List ℕ). w names e l) (in_source h.a h.b h.c k (seen (Tag.Read ∷ []) h.tag) p.0.symbol)
  initializer_in_source l (suc m) names (more h k r) p = initializer_in_source l m names r p.2

  overs_same : (l : ℕ) (k : Forest) → Everywhere (Known n) k
      → over_declarators (wanted (of_source n w) l) k ≡ over_declarators (wanted w l) k
  unfolding over_declarators
  overs_same l none p = refl
  overs_same l (more h k r) p =
      omega (
        arith,
        ap (λ (x : ℕ). if eqb h.tag Tag.Declarator then x else 0) (initializer_in_source l h.b (names_of h.b k) k p.1),
        overs_same l r p.2,
      )

  for_of_same : (k : Forest) → for_of_using (of_source n w) k ≡ for_of_using w k
  unfolding for_of_using as_in_source
  for_of_same none = refl
  for_of_same (more h₁ k₁ none) = refl
  for_of_same (more h₁ none (more h₂ k₂ r)) = refl
  for_of_same (more h₁ (more d kids s) (more h₂ k₂ none)) = refl
  for_of_same (more h₁ (more d kids s) (more h₂ k₂ (more h₃ k₃ r))) = refl

-- No initializer of the source reads a symbol that lowering makes.
pub asked_of_source : (w : List ℕ → List ℕ → ℕ → ℕ) (b : List ℕ) (f : File) → read_file b ≡ Ok f
    → asked (of_source (length f.symbols) w) f.tree ≡ asked w f.tree
unfolding asked
asked_of_source w b f e =
    let n = length f.symbols in
    let w' = of_source n w in
    sums_same (Known n) (asks_for w' letter_for) (asks_for w letter_for)
    (λ h k p.
    let same = usings_same w' w letter_for letter_for (Known n) (λ g kids _ q _. overs_same n w (letter_for g) kids q) k p in
    asks_same w' w letter_for letter_for h k same (for_of_same n w k))
    f.tree (accepted_known b f e)

-- ---- what is called

-- a Call's context is one of the rows read, so many
abbrev pub OldCall : ℕ → Head → Type 0
OldCall read h = eqb h.tag Tag.Call ≡ true → leb h.b read ≡ true

-- so it is with each Call of a tree
abbrev pub OldCalls : ℕ → Forest → Type 0
OldCalls read f = Everywhere (OldCall read) f

-- No Call of an accepted file has a context that lowering made.
pub accepted_old : (b : List ℕ) (f : File) → read_file b ≡ Ok f → OldCalls (length f.symbols) f.tree
accepted_old b f e =
    let n = length f.symbols in
    everywhere (Known n) (OldCall n) (λ h k. k.context) f.tree (accepted_known b f e)

module _ (w : List ℕ → List ℕ → ℕ → ℕ) (read : ℕ) where
  not_called : (b : Bool) (names : List ℕ) (h : Head) (k : Forest) → (b ≡ true → leb h.b read ≡ true)
      → (if b && ltb read h.b then w names (shown k) h.a else 0) ≡ 0
  not_called true names h k o = rw (le-ltb read h.b (leb-true h.b read (o refl)))
  not_called false names h k o = refl

  -- a Call through a context that was read is none of lowering's
  pub called_none : (names : List ℕ) (h : Head) (k : Forest) → OldCall read h → called w read names h k ≡ 0
  unfolding called
  called_none names h k o = not_called (eqb h.tag Tag.Call) names h k o

  initializer_none : (names : List ℕ) (m : ℕ) (k : Forest) → OldCalls read k → of_initializer (called w read names) m k ≡ 0
  unfolding of_initializer
  initializer_none names m none o = refl
  initializer_none names zero (more h k r) o = called_none names h k o.0
  initializer_none names (suc m) (more h k r) o = initializer_none names m r o.2

  -- no initializer of a list's Declarators is called
  pub overs_none : (k : Forest) → OldCalls read k → over_declarators (called w read) k ≡ 0
  unfolding over_declarators
  overs_none none o = refl
  overs_none (more h k r) o =
      let names = names_of h.b k in
      omega (
        arith,
        if_none (eqb h.tag Tag.Declarator) (of_initializer (called w read names) h.b k) (initializer_none names h.b k o.1),
        overs_none r o.2,
      )

  -- nor one of its Declarations
  pub calls_in_none : (k : Forest) → OldCalls read k → calls_in w read k ≡ 0
  unfolding calls_in
  calls_in_none none o = refl
  calls_in_none (more h k r) o =
      omega (arith, if_none (eqb h.tag Tag.Declaration) (over_declarators (called w read) k) (overs_none k o.1), calls_in_none r o.2)
