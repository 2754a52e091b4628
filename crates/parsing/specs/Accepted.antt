-- THE CONVERSE: what is parsed is accepted. So reading accepts exactly that.
-- Assumes nothing.
use Rattle.std.specs.Prelude.{Ok, ◌≡◌, true, ◌&&◌, List, leb, length, get_or, replicate}
use Rattle.std.proofs.Math.Path.{refl, sym}
use Rattle.std.proofs.Common.{◌∙◌, arith}
use Prim.Native.Nat.{ℕ, zero, suc, ◌+◌, ◌*◌}
use borrow.Author.Tests.{eq-eqb, le-leb, le-ltb}
use Rattle.meaning.specs.Tree.{Forest, count}
use Rattle.meaning.specs.File.{File, numbers_of, field_bytes}
use Rattle.meaning.specs.Mentions.{mentions}
use Rattle.meaning.specs.Grammar.{two, field_of, field_at, unnamed}
use Rattle.meaning.specs.Reading.{read_list, read_forest, wrong_count, read_file}
use Rattle.meaning.specs.declared.Place.{Place}
use Rattle.meaning.specs.declared.Place.TheVariants.{Program}
use Rattle.parsing.specs.Parsed.{FieldAt, Parsed, parsed_none, parsed_more, Levels, ParsedFile, AcceptedFile}
use Rattle.parsing.specs.Files.{settings_are}

-- ---- the steps of the reader

pub field_whole : {f : List ℕ} {p : Place} {at : ℕ} → FieldAt f p at → field_at f p at ≡ Ok (field_of f at)
unfolding field_at field_of field_bytes
field_whole {f} {p} {at} y =
    let ends = y.ends in
    rw (
      le-ltb (length f) (at + 3) (omega arith),
      y.taken,
      eq-eqb (two f (at + 1)) (2 * numbers_of (get_or f at 0)) y.sized,
      le-ltb (length f) (at + field_bytes (get_or f at 0)) (omega arith),
    )

module _ (f : List ℕ) (syms : ℕ) where
  abbrev AcceptedAs : ℕ → (ℕ → Place) → ℕ → ℕ → ℕ → List ℕ → Forest → ℕ → List ℕ → Type 0
  AcceptedAs l place cur i at m t next n =
      read_forest l f syms place cur i (count t) at m ≡ Ok (record { forest = t; next = next; marks = n })

  pub forest_accepted : (l : ℕ) {place : ℕ → Place} {cur i at next : ℕ} {m n : List ℕ} {t : Forest} → Levels l t
      → Parsed f syms place i cur at m t next n → AcceptedAs l place cur i at m t next n
  unfolding read_forest read_list count
  forest_accepted zero levels parsed_none = refl
  forest_accepted zero levels (parsed_more y k r) = absurd levels
  forest_accepted (suc l) levels parsed_none = refl
  forest_accepted (suc l) {place} {cur} {i} {at} {m = m} levels (parsed_more {h = h} y k r) =
      let kids = forest_accepted l levels.0 k in
      let beside = forest_accepted (suc l) levels.1 r in
      rw (field_whole y.field, y.numbers, ← y.head, y.scope, ← y.children, kids, beside)

-- ---- a file

module _ (f : List ℕ) (g : File) (q : ParsedFile f g) (levels : Levels 64 g.tree) where
  settings_right : (leb (field_of f 0).a 2 && leb (field_of f 0).b 1) ≡ true
  settings_right =
      let s = settings_are f q.settings in
      rw (s.0, s.1, ← q.mode, ← q.esm, le-leb g.mode 2 q.mode_right, le-leb g.is_module 1 q.esm_right)

  program_read
      : read_forest 64 f q.symbol_number_lem (λ _. Program) 0 0 1 q.root (replicate q.scope_number_lem 0)
      ≡ Ok (record { forest = g.tree; next = length f; marks = q.marks })
  program_read = rw q.one_program at (forest_accepted f q.symbol_number_lem 64 levels q.tree)

  whole_read : read_file f ≡ Ok g
  unfolding read_file
  whole_read =
      let s = settings_are f q.settings in
      rw (
        le-leb (length f) 65535 q.small,
        field_whole q.settings,
        settings_right,
        s.2,
        q.scopes_read,
        q.symbols_read,
        program_read,
        le-leb (length f) (length f) (omega arith),
        le-leb q.scope_number_lem (unnamed q.marks) q.all_named,
        le-leb q.symbol_number_lem (wrong_count f (λ y. mentions y g.tree) q.symbol_number_lem 1 q.first) q.all_counted_lem,
      )
      (λ i.
      Ok
      (record {
        mode = (s.0 ∙ sym q.mode) i;
        is_module = (s.1 ∙ sym q.esm) i;
        scopes = sym q.scopes i;
        symbols = sym q.symbols i;
        tree = g.tree;
      }))

-- WHAT IS PARSED, with at most 64 levels, is accepted.
pub parsed_accepted : (f : List ℕ) (g : File) → AcceptedFile f g → read_file f ≡ Ok g
parsed_accepted f g a = whole_read f g a.parsed a.levels
