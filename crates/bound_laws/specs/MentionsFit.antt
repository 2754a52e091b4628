-- The mentions of a symbol, and those of all symbols together, fit 16 bits all along the walk of an accepted file, with the import line, too.
-- Assumes nothing.
use Rattle.std.specs.Prelude.{Ok, ◌≡◌, refl, Bool, true, false, List, [], ◌∷◌, ℕ, ◌+◌, ◌≤◌, eqb}
use native.Mathlib.Omega.{arith}
use Rattle.std.proofs.Common.{ne_eqb}
use Rattle.meaning.specs.Numbers.Tag
use Rattle.meaning.specs.Tree.{Head, hd, Forest, none, more, ◌&◌}
use Rattle.meaning.specs.File.{File}
use Rattle.meaning.specs.Reading.{read_file}
use Rattle.meaning.specs.Statements.{is_using}
use Rattle.meaning.specs.Walk.{start, visits, tree_at, store_at}
use Rattle.meaning.specs.ImportLine.{with_import, completed}
use Rattle.meaning.specs.Mentions.{first_named, second_named, named, mentions}
use Rattle.spec_laws.specs.Tags.{Seen, other, here, there, seen}
use Rattle.spec_laws.specs.Calls.{completed_keeps}
use Rattle.bound_laws.specs.Rows.{given, mentioned, per_mention}
use Rattle.bound_laws.specs.Weights.{Role, plain, next, below, mentions_one, own, weigh}
use Rattle.bound_laws.specs.Fits.{mentioned_room}

-- ---- all mentions

-- how many symbols a record of this tag names, at most
unfoldable pub namings_of : ℕ → ℕ
namings_of t = given (mentions_one t) 1 + given (eqb t Tag.Step) 2

-- and all records
unfoldable pub namings : Forest → ℕ
namings none = 0
namings (more h k r) = namings_of h.tag + (namings k + namings r)

-- ---- one symbol's mentions are among them

one_most : (b : Bool) → given b 1 ≤ 1
one_most true = omega arith
one_most false = omega arith

-- 0 names no symbol
none_named : (y : ℕ) → 1 ≤ y → given (eqb 0 y) 1 ≡ 0
none_named y l = rw (ne_eqb 0 y (λ q. omega (arith, q))) refl

module _ (y : ℕ) (l : 1 ≤ y) where
  tag_most : {t : ℕ} (a b c : ℕ)
      → Seen (Tag.Function ∷ Tag.Class ∷ Tag.Specifier ∷ Tag.Read ∷ Tag.Name ∷ Tag.Call ∷ Tag.Load ∷ Tag.Step ∷ []) t
      → named y (hd t a b c) ≤ namings_of t
  unfolding named first_named second_named namings_of
  tag_most a b c here = omega (arith, one_most (eqb c y), none_named y l)
  tag_most a b c (there e₁₃ here) = omega (arith, one_most (eqb c y), none_named y l)
  tag_most a b c (there e₁₃ (there e₁₅ here)) = omega (arith, one_most (eqb a y), none_named y l)
  tag_most a b c (there e₁₃ (there e₁₅ (there e₂₀ here))) = omega (arith, one_most (eqb a y), none_named y l)
  tag_most a b c (there e₁₃ (there e₁₅ (there e₂₀ (there e₂₅ here)))) = omega (arith, one_most (eqb a y), none_named y l)
  tag_most a b c (there e₁₃ (there e₁₅ (there e₂₀ (there e₂₅ (there e₂₆ here))))) = omega (arith, one_most (eqb b y), none_named y l)
  tag_most a b c (there e₁₃ (there e₁₅ (there e₂₀ (there e₂₅ (there e₂₆ (there e₂₇ here)))))) =
      omega (arith, one_most (eqb b y), none_named y l)
  tag_most a b c (there e₁₃ (there e₁₅ (there e₂₀ (there e₂₅ (there e₂₆ (there e₂₇ (there e₂₈ here))))))) =
      omega (arith, one_most (eqb b y), one_most (eqb c y))
  tag_most a b c (there e₁₃ (there e₁₅ (there e₂₀ (there e₂₅ (there e₂₆ (there e₂₇ (there e₂₈ (there e₂₉ other)))))))) =
      rw (e₁₃, e₁₅, e₂₀, e₂₅, e₂₆, e₂₇, e₂₈, e₂₉) (omega (arith, none_named y l))

  named_most : (h : Head) → named y h ≤ namings_of h.tag
  named_most h =
      tag_most h.a h.b h.c
      (seen (Tag.Function ∷ Tag.Class ∷ Tag.Specifier ∷ Tag.Read ∷ Tag.Name ∷ Tag.Call ∷ Tag.Load ∷ Tag.Step ∷ []) h.tag)

  forest_most : (f : Forest) → mentions y f ≤ namings f
  unfolding mentions namings
  forest_most none = omega arith
  forest_most (more h k r) = omega (arith, named_most h, forest_most k, forest_most r)

-- AMONG ALL. A symbol is mentioned no more often than all symbols together.
pub mentions_most : (y : ℕ) (f : Forest) → 1 ≤ y → mentions y f ≤ namings f
mentions_most y f l = forest_most y l f

-- ---- and they fit

-- each record's mentions count in its weight
weight_most : (r : Role) (f : Forest) → namings f ≤ weigh mentioned r f
unfolding namings namings_of weigh own per_mention
weight_most r none = omega arith
weight_most r (more h k f) = omega (arith, weight_most (below r h.tag (is_using h)) k, weight_most (next r) f)

-- the import line has one Specifier
import_most : (y : ℕ) (f : Forest) → namings (with_import y f) ≤ namings f + 1
unfolding with_import ◌&◌ namings namings_of
import_most y none = omega arith
import_most y (more h k r) = omega arith

-- ALL MENTIONS. After any number of visits of an accepted file's walk, with the import line once it is put, they fit 16 bits together.
pub namings_fit : (b : List ℕ) (f : File) (k : ℕ) → read_file b ≡ Ok f → namings (tree_at (completed (visits k (start f)))) ≤ 65535
namings_fit b f k e =
    let s = visits k (start f) in
    let w = weight_most plain (tree_at s) in
    let m = mentioned_room b f k e in
    completed_keeps (λ (t : Forest). namings t ≤ 65535) s (omega (arith, w, m))
    (omega (arith, w, m, import_most (store_at s).helper (tree_at s)))

-- THE MENTIONS. So do those of each symbol, before the line is put, too.
pub visits_mentions_fit : (b : List ℕ) (f : File) (k y : ℕ) → read_file b ≡ Ok f → 1 ≤ y → mentions y (tree_at (visits k (start f))) ≤ 65535
visits_mentions_fit b f k y e l =
    let t = tree_at (visits k (start f)) in
    omega (arith, mentions_most y t l, weight_most plain t, mentioned_room b f k e)

pub mentions_fit : (b : List ℕ) (f : File) (k y : ℕ) → read_file b ≡ Ok f → 1 ≤ y
    → mentions y (tree_at (completed (visits k (start f)))) ≤ 65535
mentions_fit b f k y e l =
    let t = tree_at (completed (visits k (start f))) in
    omega (arith, mentions_most y t l, namings_fit b f k e)
