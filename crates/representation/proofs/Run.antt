-- BYTES AND ROWS: the records that stand one after the other in a file are the rows of the tree that is read from it.
-- Assumes nothing.
use Rattle.std.specs.Prelude.{◌≡◌, List, [], ◌∷◌, ◌++◌, ℕ, ◌<◌, length}
use Rattle.std.proofs.Math.Path.{refl}
use Rattle.std.proofs.Common.{arith}
use Rattle.meaning.specs.Tree.{Head, Forest, count}
use Rattle.meaning.specs.File.{field_bytes}
use Rattle.meaning.specs.Grammar.{field_of}
use Rattle.meaning.specs.declared.Place.{Place}
use Rattle.parsing.specs.Parsed.{RecordAt, Parsed, parsed_none, parsed_more}
use Rattle.tables.specs.declared.Row.{Row}
use Rattle.representation.specs.Gap.Cells.{line, rows_of}
use Rattle.representation.specs.Run.{record_row}

-- the rows of the records from an offset on, up to another
abbrev pub Run : List ℕ → ℕ → List Row → ℕ → Type 0
Run f at [] next = at ≡ next
Run f at (r ∷ rs) next = (at < length f) × (r ≡ record_row (field_of f at)) × Run f (field_of f at).next rs next

run_++ : (f : List ℕ) (rs qs : List Row) (at mid next : ℕ) → Run f at rs mid → Run f mid qs next → Run f at (rs ++ qs) next
run_++ f [] qs at mid next e i = rw e i
run_++ f (r ∷ rs) qs at mid next (l, e, j) i = (l, e, run_++ f rs qs (field_of f at).next mid next j i)

module _ {f : List ℕ} {syms : ℕ} where
  begins : {p : Place} {cur at : ℕ} {m : List ℕ} {h : Head} {k : Forest} → RecordAt f syms p cur at m h k → at < length f
  unfolding field_bytes
  begins y = omega (arith, y.field.bytes, y.field.ends)

  row_is : {p : Place} {cur at : ℕ} {m : List ℕ} {h : Head} {k : Forest} → RecordAt f syms p cur at m h k
      → line h (count k) ≡ record_row (field_of f at)
  unfolding record_row
  row_is y = rw (y.head, y.children)

  pub parsed_run : {place : ℕ → Place} {i cur at next : ℕ} {m o : List ℕ} {t : Forest} → Parsed f syms place i cur at m t next o
      → Run f at (rows_of t) next
  unfolding rows_of
  parsed_run parsed_none = refl
  parsed_run {at = at} {next = next} (parsed_more {mid = mid} {k = kids} {r = beside} y k r) = (
    begins y,
    row_is y,
    run_++ f (rows_of kids) (rows_of beside) (field_of f at).next mid next (parsed_run k) (parsed_run r),
  )
