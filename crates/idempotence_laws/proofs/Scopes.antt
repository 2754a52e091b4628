-- In an accepted file every symbol has a scope row.
-- Assumes nothing.
use Rattle.std.specs.Prelude.{Ok, ◌≡◌, refl, true, ◌&&◌, List, ℕ, zero, suc, ◌+◌, ◌*◌, ◌≤◌, ◌<◌, length, leb}
use Rattle.std.proofs.Common.{sym, ap, subst, arith, leb-true}
use Rattle.meaning.specs.File.{symbol_bytes, Symbol, File, numbers_of, field_bytes}
use Rattle.meaning.specs.Grammar.{tags_of, two, number, field_of, symbol_right}
use Rattle.meaning.specs.Reading.{symbols_in, read_file}
use Rattle.meaning.specs.declared.Place.TheVariants.{SymbolRow}
use Rattle.spec_laws.specs.Tags.{and_left, and_right}
use Rattle.parsing.specs.Parsed.{FieldAt}
use Rattle.parsing.specs.Fields.{only_tag}
use Rattle.parsing.specs.Files.{file_parsed}
use Rattle.bound_laws.specs.Numbers.{All}

-- the third number of a symbol row
scope_number_lem : (f : List ℕ) (at : ℕ) → FieldAt f SymbolRow at → (field_of f at).c ≡ two f (at + 7)
unfolding field_of number field_bytes numbers_of tags_of
scope_number_lem f at y = rw (only_tag 42 refl y) (ap (two f) (omega arith))

row_scope : (f : List ℕ) (scopes at : ℕ) → FieldAt f SymbolRow at → symbol_right scopes (field_of f at) ≡ true → two f (at + 7) ≤ scopes
unfolding symbol_right
row_scope f scopes at y e =
    let x = field_of f at in
    let row = and_right (leb 1 x.a && leb x.b 127) (leb 1 x.c && leb x.c scopes) (and_left _ (leb x.d 1) e) in
    rw (scope_number_lem f at y) at (leb-true x.c scopes (and_right (leb 1 x.c) (leb x.c scopes) row))

rows_scopes : (f : List ℕ) (scopes n at : ℕ) → ((j : ℕ) → j < n → two f (at + symbol_bytes * j + 7) ≤ scopes)
    → All (λ (y : Symbol). y.scope ≤ scopes) (symbols_in f n at)
unfolding symbols_in
rows_scopes f scopes zero at each = tt
rows_scopes f scopes (suc n) at each =
    let here : at + symbol_bytes * 0 + 7 ≡ at + 7 = omega arith in (
      rw here at (each 0 (omega arith)),
      rows_scopes f scopes n (at + symbol_bytes)
          (λ j l.
          let next : at + symbol_bytes + symbol_bytes * j + 7 ≡ at + symbol_bytes * suc j + 7 = omega arith in
          rw next (each (suc j) (omega arith))),
    )

pub symbol_scopes : (b : List ℕ) (g : File) → read_file b ≡ Ok g → All (λ y. y.scope ≤ length g.scopes) g.symbols
symbol_scopes b g e =
    let q = file_parsed b g e in
    subst (All (λ (y : Symbol). y.scope ≤ length g.scopes)) (sym q.symbols)
    (rows_scopes b (length g.scopes) q.symbol_number_lem q.first
    (λ j l. omega (arith, q.scopes_many, row_scope b q.scope_number_lem _ (q.symbol_rows.field j l) (q.symbol_rows.right j l))))
