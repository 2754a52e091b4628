-- The written bytes of a file, read back field by field.
-- Assumes nothing.
use Rattle.std.specs.Prelude.{if◌then◌else◌, ◌≡◌, Bool, ℕ, zero, suc, ◌+◌, ◌*◌, length, take, drop, leb}
use Rattle.std.proofs.Math.Bool.{true}
use mathlib.Core.List.{List, [], ◌∷◌, ◌++◌}
use Rattle.meaning.specs.Numbers.Tag
use Rattle.meaning.specs.Tree.{Forest, none, more, Row, flatten}
use Rattle.meaning.specs.Mentions.{mentions}
use Rattle.meaning.specs.File.{Scope, Symbol, File, record_numbers}

-- ---- reading

-- the numbers of a payload
unfoldable pub numbers_in : List ℕ → List ℕ
numbers_in [] = []
numbers_in (x ∷ []) = []
numbers_in (x ∷ y ∷ bs) = (256 * x + y) ∷ numbers_in bs

-- a field: its tag and its numbers
pub record Read : Type 0 where
  pub tag : ℕ
  pub numbers : List ℕ

abbrev pub read_as : ℕ → List ℕ → Read
read_as t ns = record { tag = t; numbers = ns }

-- the fields of some bytes, at most so many
unfoldable pub fields_in : ℕ → List ℕ → List Read
fields_in zero bs = []
fields_in (suc n) [] = []
fields_in (suc n) (t ∷ []) = []
fields_in (suc n) (t ∷ x ∷ []) = []
fields_in (suc n) (t ∷ x ∷ y ∷ bs) =
    read_as t (numbers_in (take (256 * x + y) bs)) ∷ fields_in n (drop (256 * x + y) bs)

unfoldable pub fields_of : List ℕ → List Read
fields_of bs = fields_in (length bs) bs

-- ---- the fields of a file

unfoldable pub scope_reads : List Scope → List Read
scope_reads [] = []
scope_reads (s ∷ ss) = read_as 41 (s.parent ∷ s.flags ∷ []) ∷ scope_reads ss

unfoldable pub symbol_reads : (ℕ → ℕ) → ℕ → List Symbol → List Read
symbol_reads count k [] = []
symbol_reads count k (y ∷ ys) =
    read_as 42 (y.name ∷ y.flags ∷ y.scope ∷ y.made ∷ count k ∷ []) ∷ symbol_reads count (suc k) ys

unfoldable pub record_reads : List Row → List Read
record_reads [] = []
record_reads (r ∷ rs) = read_as r.head.tag (record_numbers r) ∷ record_reads rs

-- Settings, the scope rows, the symbol rows, and the records in file order
unfoldable pub fields_for : File → List Read
fields_for g =
    read_as 40 (g.mode ∷ g.is_module ∷ [])
    ∷ (scope_reads g.scopes ++ (symbol_reads (λ y. mentions y g.tree) 1 g.symbols ++ record_reads (flatten g.tree)))

-- ---- how many fields have a tag that passes a test

unfoldable pub field_count : (ℕ → Bool) → List Read → ℕ
field_count p [] = 0
field_count p (r ∷ rs) = (if p r.tag then 1 else 0) + field_count p rs

-- the tags of records; settings and rows have others
abbrev pub is_record : ℕ → Bool
is_record t = leb t 29

-- each record of a tree has one
abbrev pub Tagged : Forest → Type 0
Tagged none = Unit {0}
Tagged (more h k r) = (is_record h.tag ≡ true) × Tagged k × Tagged r
