-- The numbers of an accepted file fit 16 bits, as read and all along the walk.
-- Assumes nothing.
use Rattle.std.specs.Prelude.{Ok, ◌≡◌, refl, Bool, true, false, List, [], get_or, eqb, leb, ltb}
use Prim.Native.Nat.{ℕ, zero, suc, ◌+◌, ◌*◌, ◌≤◌, ◌<◌}
use Rattle.std.proofs.Common.{arith, leb-true, leb-false, ne_eqb}
use Rattle.meaning.specs.Numbers.Tag
use Rattle.meaning.specs.Tree.{Forest, none}
use Rattle.meaning.specs.File.{scope_bytes, symbol_bytes, File, numbers_of, own_numbers}
use Rattle.meaning.specs.Grammar.{two, number, field_of, right, head_of, parent_in}
use Rattle.meaning.specs.Reading.{scopes_in, symbols_in, read_file}
use Rattle.meaning.specs.declared.Place.{Place}
use Rattle.meaning.specs.declared.Field.{Field}
use Rattle.meaning.specs.Walk.{store_of, start, visits, tree_at, store_at}
use Rattle.spec_laws.specs.Tags.{clash}
use Rattle.spec_laws.specs.Trees.{Bytes}
use Rattle.parsing.specs.Parsed.{Parsed, parsed_none, parsed_more}
use Rattle.parsing.specs.Files.{file_parsed}
use Rattle.bound_laws.specs.Fits.{walk_fits}
use Rattle.bound_laws.specs.Numbers.{All, UpTo, HeadWithin, TreeWithin, ScopeWithin, SymbolWithin, StoreWithin, either}
use Rattle.bound_laws.specs.NumbersVisits.{SpotWithin, settled_within, tree_within, store_within, visits_within}

-- ---- a field

abbrev FieldWithin : Field → Type 0
FieldWithin x = (x.a ≤ 65535) × (x.b ≤ 65535) × (x.c ≤ 65535)

-- `right` takes no tag past 29
past : (t n : ℕ) → 29 < t → leb n 29 ≡ true → eqb t n ≡ false
past t n l e = ne_eqb t n (λ q. omega (arith, leb-true n 29 e))

pub tag_most : (b : Bool) (p : Place) (syms : ℕ) (x : Field) → leb x.tag Tag.Step ≡ b → right p syms x ≡ true → x.tag ≤ 29
unfolding right
tag_most true p syms x e r = leb-true x.tag Tag.Step e
tag_most false p syms x e r =
    let l : 29 < x.tag = leb-false x.tag Tag.Step e in
    absurd (clash refl (simp past at r))

head_within : (x : Field) → FieldWithin x → x.tag ≤ 29 → HeadWithin 65535 (head_of x)
unfolding head_of
head_within x p t =
    let own = own_numbers x.tag in
    let P : ℕ → Type 0 = UpTo 65535 in (
      t,
      either P (ltb 0 own) p.0 (omega arith),
      either P (ltb 1 own) p.1 (omega arith),
      either P (ltb 2 own) p.2 (omega arith),
    )

module _ (f : List ℕ) (bytes : Bytes f) where
  two_most : (at : ℕ) → two f at ≤ 65535
  unfolding two
  two_most at = omega (arith, bytes at, bytes (at + 1))

  number_most : (at len i : ℕ) → number f at len i ≤ 65535
  unfolding number
  number_most at len i = either (UpTo 65535) (ltb i len) (two_most (at + 3 + 2 * i)) (omega arith)

  field_within : (at : ℕ) → FieldWithin (field_of f at)
  unfolding field_of
  field_within at = let len = numbers_of (get_or f at 0) in (number_most at len 0, number_most at len 1, number_most at len 2)

  -- ---- records

  records_within : {syms : ℕ} {place : ℕ → Place} {i cur at next : ℕ} {m o : List ℕ} {t : Forest}
      → Parsed f syms place i cur at m t next o → TreeWithin 65535 t
  records_within parsed_none = tt
  records_within {syms} {place} {i} {at = at} (parsed_more y k r) =
      let x = field_of f at in (
        rw y.head (head_within x (field_within at) (tag_most (leb x.tag Tag.Step) (place i) syms x refl y.numbers)),
        records_within k,
        records_within r,
      )

  -- ---- rows

  scopes_within : (n s : ℕ) → All (ScopeWithin 65535) (scopes_in f n s)
  unfolding scopes_in parent_in
  scopes_within zero s = tt
  scopes_within (suc n) s = ((two_most (scope_bytes * s + 3), two_most (scope_bytes * s + 5)), scopes_within n (suc s))

  symbols_within : (n at : ℕ) → All (SymbolWithin 65535) (symbols_in f n at)
  unfolding symbols_in
  symbols_within zero at = tt
  symbols_within (suc n) at = (
    (two_most (at + 3), two_most (at + 5), two_most (at + 7), two_most (at + 9)),
    symbols_within n (at + symbol_bytes),
  )

  -- ---- the file

  abbrev FileWithin : File → Type 0
  FileWithin g = TreeWithin 65535 g.tree × StoreWithin 65535 (store_of g)

  file_within : (g : File) → read_file f ≡ Ok g → FileWithin g
  unfolding store_of
  file_within g e =
      let q = file_parsed f g e in (
        records_within q.tree,
        record {
          scopes = rw q.scopes (scopes_within q.scope_number_lem 1);
          symbols = rw q.symbols (symbols_within q.symbol_number_lem q.first);
          helper = omega arith;
        },
      )

-- THE NUMBERS. After any number of visits of an accepted file's walk, every tag is at most 29, and every number of a record or a row,
-- and the helper's symbol, fits 16 bits.
pub numbers_fit : (b : List ℕ) (f : File) (k : ℕ) → Bytes b → read_file b ≡ Ok f
    → let s = visits k (start f) in TreeWithin 65535 (tree_at s) × StoreWithin 65535 (store_at s)
unfolding start
numbers_fit b f k bytes e =
    let big : 32 ≤ 65535 = omega arith in
    let g = file_within b bytes f e in
    let i : SpotWithin 65535 (start f) = settled_within big [] none f.tree (store_of f) tt tt g.0 g.1 in
    let v = visits_within big k (start f) i (λ j. let r = walk_fits b f j e in (r.1, r.2)) in
    (tree_within big _ v, store_within big _ v)
