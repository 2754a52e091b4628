-- Trees of records (01, "The tree file").
-- Assumes nothing.
use Rattle.std.specs.Prelude.{if◌then◌else◌, List, [], ◌∷◌, ◌++◌, Bool, false, cond, ◌||◌, ℕ, suc, ◌+◌, eqb}

-- a number is one of a list
abbrev pub one_of : List ℕ → ℕ → Bool
one_of [] t = false
one_of (x ∷ xs) t = eqb t x || one_of xs t

-- A record's tag and its numbers but n, filled up with 0. A Declaration's second number marks a recorded one (`enter_program`); it is never written.
pub record Head : Type 0 where
  pub tag : ℕ
  pub a : ℕ
  pub b : ℕ
  pub c : ℕ

abbrev pub hd : ℕ → ℕ → ℕ → ℕ → Head
hd t a b c = record { tag = t; a = a; b = b; c = c }

-- Records beside each other: the first, its children, and the rest. n is the number of children, and is not kept.
pub data Forest : Type 0 where
  none : Forest
  more : Head → Forest → Forest → Forest

-- a record with its children, on its own and as a forest
pub record Node : Type 0 where
  pub head : Head
  pub children : Forest

abbrev pub node : Head → Forest → Node
node h k = record { head = h; children = k }

abbrev pub one : Head → Forest → Forest
one h k = more h k none

abbrev pub single : Node → Forest
single n = one n.head n.children

infixr 50 ◌&◌
unfoldable pub ◌&◌ : Forest → Forest → Forest
none & g = g
more h k r & g = more h k (r & g)

-- how many records stand beside each other, and how many there are in all
unfoldable pub count : Forest → ℕ
count none = 0
count (more h k r) = suc (count r)

unfoldable pub size : Forest → ℕ
size none = 0
size (more h k r) = suc (size k + size r)

-- the records in file order, each with its n
pub record Row : Type 0 where
  pub head : Head
  pub n : ℕ

abbrev pub row : Head → ℕ → Row
row h n = record { head = h; n = n }

unfoldable pub flatten : Forest → List Row
flatten none = []
flatten (more h k r) = row h (count k) ∷ (flatten k ++ flatten r)
