-- The symbols that the Reads and Calls of an accepted file have are rows of it, and its Declarations are not recorded.
-- Assumes nothing.
use Rattle.std.specs.Prelude.{Ok, ◌≡◌, true, ◌&&◌, List, [], ◌∷◌, ℕ, length, eqb, leb}
use Rattle.std.proofs.Math.Path.{refl}
use Rattle.meaning.specs.Numbers.Tag
use Rattle.meaning.specs.Tree.{Head, Forest}
use Rattle.meaning.specs.File.{File, numbers_of, has_children, own_numbers}
use Rattle.meaning.specs.Grammar.{field_of, is_row, right, head_of}
use Rattle.meaning.specs.Reading.{read_file}
use Rattle.meaning.specs.declared.Place.{Place}
use Rattle.meaning.specs.declared.Field.{Field}
use Rattle.spec_laws.specs.Tags.{Seen, other, here, there, seen, clash, and_left, and_right}
use Rattle.parsing.specs.Parsed.{Parsed, parsed_none, parsed_more}
use Rattle.parsing.specs.Files.{file_parsed}
use Rattle.hint_laws.proofs.Requested.Everywhere.{Everywhere}

-- A Declaration has no mark, the symbol of a Read is one of so many rows, and so is the context of a Call.
pub record Known (syms : ℕ) (h : Head) : Type 0 where
  pub unmarked : eqb h.tag Tag.Declaration ≡ true → h.b ≡ 0
  pub symbol : eqb h.tag Tag.Read ≡ true → leb h.a syms ≡ true
  pub context : eqb h.tag Tag.Call ≡ true → leb h.b syms ≡ true

-- ---- a field

module _ (p : Place) (syms : ℕ) where
  known_as : {t : ℕ} (a b c d next : ℕ) → Seen (Tag.Declaration ∷ Tag.Read ∷ Tag.Call ∷ []) t
      → let x : Field = record { tag = t; a = a; b = b; c = c; d = d; next = next } in
      right p syms x ≡ true → Known syms (head_of x)
  unfolding right head_of own_numbers has_children numbers_of
  known_as a b c d next here e =
      record { unmarked = λ _. refl; symbol = λ s. absurd (clash refl s); context = λ s. absurd (clash refl s) }
  known_as a b c d next (there e₅ here) e =
      record {
        unmarked = λ s. absurd (clash refl s);
        symbol = λ _. and_right (leb 1 a) (leb a syms) e;
        context = λ s. absurd (clash refl s);
      }
  known_as a b c d next (there e₅ (there e₂₅ here)) e =
      record {
        unmarked = λ s. absurd (clash refl s);
        symbol = λ s. absurd (clash refl s);
        context =
            λ _. and_right (leb 1 b) (leb b syms) (and_right (leb a 1) (is_row syms b) (and_left (leb a 1 && is_row syms b) (eqb c 1) e));
      }
  known_as a b c d next (there e₅ (there e₂₅ (there e₂₇ other))) e =
      record {
        unmarked = λ s. absurd (clash e₅ s);
        symbol = λ s. absurd (clash e₂₅ s);
        context = λ s. absurd (clash e₂₇ s);
      }

  known : (x : Field) → right p syms x ≡ true → Known syms (head_of x)
  known x = known_as x.a x.b x.c x.d x.next (seen (Tag.Declaration ∷ Tag.Read ∷ Tag.Call ∷ []) x.tag)

-- ---- reading

all_known : {f : List ℕ} {syms : ℕ} {place : ℕ → Place} {i cur at next : ℕ} {m n : List ℕ} {t : Forest}
    → Parsed f syms place i cur at m t next n → Everywhere (Known syms) t
all_known parsed_none = tt
all_known {f} {syms} {place} {i} {at = at} (parsed_more y k r) = (
  rw y.head (known (place i) syms (field_of f at) y.numbers),
  all_known k,
  all_known r,
)

-- the tree, with the file's symbol rows
pub accepted_known : (b : List ℕ) (f : File) → read_file b ≡ Ok f → Everywhere (Known (length f.symbols)) f.tree
accepted_known b f e = let q = file_parsed b f e in rw q.symbols_many (all_known q.tree)
