-- Small laws of trees, files and the walk.
-- Assumes nothing.
use Rattle.std.specs.Prelude.{if◌then◌else◌, ◌≡◌, refl, Bool, true, false, List, [], ◌∷◌, ◌++◌, ℕ, zero, suc, ◌+◌, ◌*◌, ◌≤◌, eqb, length, get_or, set}
use Rattle.std.proofs.Common.{sym, arith, length-set, eqb-true}
use Rattle.std.proofs.lemmas.List.Edits.{sets}
use Rattle.meaning.specs.Numbers.Tag
use Rattle.meaning.specs.Numbers.Form
use Rattle.meaning.specs.Tree.{one_of, Head, hd, Forest, none, more, count, size, Node, node}
use Rattle.meaning.specs.File.{numbers_of, two_bytes}
use Rattle.meaning.specs.Scoping.{Change, ◌>>=◌, ◌>>◌, return, set_row}
use Rattle.meaning.specs.Contexts.{move_catch_names}
use Rattle.meaning.specs.Walk.{Spot, visit, visits}

-- ---- trees

pub count_size : (f : Forest) → count f ≤ size f
unfolding count size
count_size none = omega arith
count_size (more h k r) = omega (arith, count_size r)

-- a Class that is made an expression keeps its tag
pub expression_tag : (b : Bool) (h : Head) → eqb h.tag Tag.Class ≡ b → (if b then hd Tag.Class Form.Expression h.b h.c else h).tag ≡ h.tag
expression_tag true h e = sym (eqb-true h.tag Tag.Class e)
expression_tag false h e = refl

-- what becomes of a Catch whose parts `inside` lowers
abbrev pub transform_handler : Head → Forest → Change Forest → Change Node
transform_handler h k inside = do
  parts ← inside
  move_catch_names k parts
  return (node h parts)

-- ---- rows

pub length_set_row : {X : Type 0} (xs : List X) (s : ℕ) (x : X) → length (set_row xs s x) ≡ length xs
length_set_row xs zero x = refl
length_set_row xs (suc i) x = length-set xs i x

-- ---- bytes

-- each is at most 255: what a proof has of a `&[u8]`, as `.shared-slice-known .given`
abbrev pub Bytes : List ℕ → Type 0
Bytes f = (i : ℕ) → get_or f i 0 ≤ 255

most : (m : ℕ) (b : Bool) (x y : ℕ) → x ≤ m → y ≤ m → (if b then x else y) ≤ m
most m true x y p q = p
most m false x y p q = q

module _ (m : ℕ) (four : 4 ≤ m) (t : ℕ) (symbol : (if eqb t Tag.Symbol then 5 else 0) ≤ m) where
  numbers_up_to : numbers_of t ≤ m
  unfolding numbers_of
  numbers_up_to =
      most m (one_of (Tag.Body ∷ Tag.DefaultExport ∷ Tag.ExportedDeclaration ∷ Tag.Read ∷ Tag.Name ∷ []) t) 1 _ (omega arith)
      (most m (one_of (Tag.Program ∷ Tag.Block ∷ Tag.Label ∷ Tag.Declaration ∷ Tag.For ∷ Tag.Switch ∷ Tag.Case ∷ Tag.Try ∷ Tag.StaticBlock ∷ Tag.Specifier ∷ Tag.Expression ∷ Tag.Load ∷ Tag.Settings ∷ Tag.Scope ∷ []) t) 2 _ (omega arith)
      (most m (one_of (Tag.Plain ∷ Tag.Declarator ∷ Tag.ForOf ∷ Tag.ModuleLine ∷ Tag.Call ∷ Tag.Step ∷ []) t) 3 _ (omega arith)
      (most m (one_of (Tag.Catch ∷ Tag.Function ∷ Tag.Class ∷ []) t) 4 _ four symbol)))

-- a symbol row has five numbers, and every other field at most four
pub numbers_most : (t : ℕ) → numbers_of t ≤ 5
numbers_most t = numbers_up_to 5 (omega arith) t (most 5 (eqb t Tag.Symbol) 5 0 (omega arith) (omega arith))

pub numbers_few : (t : ℕ) → eqb t Tag.Symbol ≡ false → numbers_of t ≤ 4
numbers_few t e = numbers_up_to 4 (omega arith) t (rw e (omega arith))

pub two_length : (ns : List ℕ) → length (two_bytes ns) ≡ 2 * length ns
unfolding two_bytes
two_length [] = refl
two_length (n ∷ ns) = omega (arith, two_length ns)

-- bytes that are stored one after another
pub sets_++ : (xs ys out : List ℕ) (at : ℕ) → sets out at (xs ++ ys) ≡ sets (sets out at xs) (at + length xs) ys
sets_++ [] ys out at = let e : at + 0 ≡ at = omega arith in rw e
sets_++ (x ∷ xs) ys out at =
    let e : at + suc (length xs) ≡ suc at + length xs = omega arith in
    rw e (sets_++ xs ys (set out at x) (suc at))

-- ---- visits

pub visits_last : (k : ℕ) (s : Spot) → visits (suc k) s ≡ visit (visits k s)
unfolding visits
visits_last zero s = refl
visits_last (suc k) s = visits_last k (visit s)
