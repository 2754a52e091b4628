-- What reading accepts: each record is right at its place, and its children at theirs.
-- Assumes nothing.
use Rattle.std.specs.Prelude.{Ok, ◌≡◌, true, List, ℕ, suc}
use Rattle.std.proofs.Common.{ap}
use Rattle.meaning.specs.Tree.{Head, Forest, none, more, count}
use Rattle.meaning.specs.File.{File}
use Rattle.meaning.specs.Grammar.{allowed, field_of, right, children_of, place_of, head_of}
use Rattle.meaning.specs.Reading.{read_file}
use Rattle.meaning.specs.declared.Place.{Place}
use Rattle.meaning.specs.declared.Place.TheVariants.{Program}
use Rattle.meaning.specs.declared.Field.{Field}
use Rattle.parsing.specs.Parsed.{Parsed, parsed_none, parsed_more}
use Rattle.parsing.specs.Files.{file_parsed}

-- a record with its children, read as a field at a place
pub record ReadAs (syms : ℕ) (p : Place) (x : Field) (h : Head) (k : Forest) : Type 0 where
  pub head : h ≡ head_of x
  pub taken : allowed p x.tag ≡ true
  pub numbers : right p syms x ≡ true
  pub children : count k ≡ children_of x

pub same_tag : {syms : ℕ} {p : Place} {x : Field} {h : Head} {k : Forest} → ReadAs syms p x h k → h.tag ≡ x.tag
unfolding head_of
same_tag q = ap (λ (v : Head). v.tag) q.head

-- records beside each other, each in its place, from child i on
abbrev pub Placed : ℕ → (ℕ → Place) → ℕ → Forest → Type 0
Placed syms place i none = Unit {0}
Placed syms place i (more h k r) =
    (x : Field) × ReadAs syms (place i) x h k × Placed syms (place_of (place i) x) 0 k × Placed syms place (suc i) r

-- ---- reading

placed : {f : List ℕ} {syms : ℕ} {place : ℕ → Place} {i cur at next : ℕ} {m n : List ℕ} {t : Forest}
    → Parsed f syms place i cur at m t next n → Placed syms place i t
placed parsed_none = tt
placed {f} {at = at} (parsed_more y k r) = (
  field_of f at,
  record { head = y.head; taken = y.field.taken; numbers = y.numbers; children = y.children },
  placed k,
  placed r,
)

-- the tree, with so many symbol rows
pub accepted_placed : (b : List ℕ) (f : File) → read_file b ≡ Ok f → (syms : ℕ) × Placed syms (λ _. Program) 0 f.tree
accepted_placed b f e = let q = file_parsed b f e in (q.symbol_number_lem, placed q.tree)
