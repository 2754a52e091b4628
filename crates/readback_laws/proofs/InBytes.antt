-- A file with no number above 65,535 is written in bytes, and so is what the walk of an accepted file leaves.
-- Assumes nothing.
use Rattle.std.specs.Prelude.{Ok, if◌then◌else◌, ◌≡◌, Bool, true, false, List, [], ◌∷◌, ◌++◌, ℕ, zero, suc, ◌*◌, ◌≤◌, length, take}
use Rattle.std.proofs.Common.{arith, length-append}
use Rattle.meaning.specs.Numbers.Tag
use Rattle.meaning.specs.Tree.{Forest, none, more, Row, size, flatten}
use Rattle.meaning.specs.Mentions.{mentions}
use Rattle.meaning.specs.File.{
  Scope,
  Symbol,
  File,
  has_children,
  own_numbers,
  two_bytes,
  field,
  record_numbers,
  scope_fields,
  symbol_fields,
  record_fields,
  written,
}
use Rattle.meaning.specs.Reading.{read_file}
use Rattle.meaning.specs.Walk.{Spot, visits, start, tree_at, store_at, file_at}
use Rattle.meaning.specs.ImportLine.{completed}
use Rattle.spec_laws.specs.Trees.{Bytes}
use Rattle.spec_laws.specs.Calls.{completed_store}
use Rattle.parsing.specs.Files.{file_parsed}
use Rattle.charge_laws.proofs.Counts.Figures.{whole_at}
use Rattle.charge_laws.proofs.Fit.Import.{accepted_helper, calls_above}
use Rattle.charge_laws.proofs.Totals.Fits.{accepted_fits}
use Rattle.bound_laws.specs.Fits.{AtMost, rows_most_n}
use Rattle.bound_laws.specs.Numbers.{All, UpTo, HeadWithin, TreeWithin, ScopeWithin, SymbolWithin, all_++}
use Rattle.bound_laws.specs.NumbersFit.{numbers_fit}
use Rattle.bound_laws.specs.Completed.{calls_fit}
use Rattle.bound_laws.specs.MentionsFit.{mentions_fit}

-- ---- lists of bytes, and of numbers of two

abbrev AllBytes : List ℕ → Type 0
AllBytes xs = All (UpTo 255) xs

abbrev AllNumbers : List ℕ → Type 0
AllNumbers xs = All (UpTo 65535) xs

to_bytes : (xs : List ℕ) → AllBytes xs → Bytes xs
to_bytes [] p i = omega arith
to_bytes (x ∷ xs) p zero = p.0
to_bytes (x ∷ xs) p (suc i) = to_bytes xs p.1 i

two_bytes_lem : (ns : List ℕ) → AllNumbers ns → AllBytes (two_bytes ns)
unfolding two_bytes
two_bytes_lem [] p = tt
two_bytes_lem (n ∷ ns) p = let l = p.0 in (omega arith, (omega arith, two_bytes_lem ns p.1))

field_bytes_lem : (t : ℕ) (ns : List ℕ) → t ≤ 255 → length ns ≤ 5 → AllNumbers ns → AllBytes (field t ns)
unfolding field
field_bytes_lem t ns l m p = (l, two_bytes_lem (2 * length ns ∷ ns) (omega arith, p))

-- ---- rows

scopes_bytes : (ss : List Scope) → All (ScopeWithin 65535) ss → AllBytes (scope_fields ss)
unfolding scope_fields
scopes_bytes [] p = tt
scopes_bytes (s ∷ ss) p =
    let ns = s.parent ∷ s.flags ∷ [] in
    all_++ (UpTo 255) (field Tag.Scope ns) (scope_fields ss)
    (field_bytes_lem Tag.Scope ns (omega arith) (omega arith) (p.0.0, (p.0.1, tt)))
    (scopes_bytes ss p.1)

-- rows are numbered from 1
symbols_bytes : (count : ℕ → ℕ) (k : ℕ) (ys : List Symbol) → 1 ≤ k → ((y : ℕ) → 1 ≤ y → count y ≤ 65535) → All (SymbolWithin 65535) ys
    → AllBytes (symbol_fields count k ys)
unfolding symbol_fields
symbols_bytes count k [] l c p = tt
symbols_bytes count k (y ∷ ys) l c p =
    let ns = y.name ∷ y.flags ∷ y.scope ∷ y.made ∷ count k ∷ [] in
    all_++ (UpTo 255) (field Tag.Symbol ns) (symbol_fields count (suc k) ys)
    (field_bytes_lem Tag.Symbol ns (omega arith) (omega arith) (p.0.0, (p.0.1, (p.0.2, (p.0.3, (c k l, tt))))))
    (symbols_bytes count (suc k) ys (omega arith) c p.1)

-- ---- records

take_numbers : (n a b c : ℕ) → a ≤ 65535 → b ≤ 65535 → c ≤ 65535
    → AllNumbers (take n (a ∷ b ∷ c ∷ [])) × (length (take n (a ∷ b ∷ c ∷ [])) ≤ 3)
take_numbers zero a b c p q r = (tt, omega arith)
take_numbers (suc zero) a b c p q r = ((p, tt), omega arith)
take_numbers (suc (suc zero)) a b c p q r = ((p, (q, tt)), omega arith)
take_numbers (suc (suc (suc zero))) a b c p q r = ((p, (q, (r, tt))), omega arith)
take_numbers (suc (suc (suc (suc n)))) a b c p q r = ((p, (q, (r, tt))), omega arith)

record_bytes_lem : (r : Row) → HeadWithin 65535 r.head → r.n ≤ 65535 → AllBytes (field r.head.tag (record_numbers r))
unfolding record_numbers
record_bytes_lem r p n =
    let h = r.head in
    let own = take (own_numbers h.tag) (h.a ∷ h.b ∷ h.c ∷ []) in
    let t = take_numbers (own_numbers h.tag) h.a h.b h.c p.1 p.2 p.3 in
    ended (has_children h.tag) own t.0 t.1
  where
    ended : (b : Bool) (own : List ℕ) → AllNumbers own → length own ≤ 3 → AllBytes (field r.head.tag (own ++ (if b then r.n ∷ [] else [])))
    ended true own q l =
        field_bytes_lem r.head.tag (own ++ r.n ∷ []) (omega (arith, p.0)) (omega (arith, length-append own (r.n ∷ [])))
        (all_++ (UpTo 65535) own (r.n ∷ []) q (n, tt))
    ended false own q l =
        field_bytes_lem r.head.tag (own ++ []) (omega (arith, p.0)) (omega (arith, length-append own []))
        (all_++ (UpTo 65535) own [] q tt)

-- each row's head
heads_within : (f : Forest) → TreeWithin 65535 f → All (λ r. HeadWithin 65535 r.head) (flatten f)
unfolding flatten
heads_within none p = tt
heads_within (more h k r) p =
    (p.0, all_++ (λ x. HeadWithin 65535 x.head) (flatten k) (flatten r) (heads_within k p.1) (heads_within r p.2))

records_bytes : (rs : List Row) → All (λ r. HeadWithin 65535 r.head) rs → AtMost 65535 rs → AllBytes (record_fields rs)
unfolding record_fields
records_bytes [] p q = tt
records_bytes (r ∷ rs) p q =
    all_++ (UpTo 255) (field r.head.tag (record_numbers r)) (record_fields rs) (record_bytes_lem r p.0 q.0) (records_bytes rs p.1 q.1)

-- ---- the file

-- no number of it is above 65,535
pub record Small (g : File) : Type 0 where
  pub settings : (g.mode ≤ 65535) × (g.is_module ≤ 65535)
  pub scope_rows : All (ScopeWithin 65535) g.scopes
  pub symbol_rows : All (SymbolWithin 65535) g.symbols
  pub counts : (y : ℕ) → 1 ≤ y → mentions y g.tree ≤ 65535
  pub heads : TreeWithin 65535 g.tree
  pub records : size g.tree ≤ 65535

-- SUCH A FILE IS WRITTEN IN BYTES.
pub small_bytes : (g : File) → Small g → Bytes (written g)
unfolding written
small_bytes g q =
    let count : ℕ → ℕ = λ y. mentions y g.tree in
    let settings = field_bytes_lem Tag.Settings (g.mode ∷ g.is_module ∷ []) (omega arith) (omega arith) (q.settings.0, (q.settings.1, tt)) in
    let ss = scopes_bytes g.scopes q.scope_rows in
    let ys = symbols_bytes count 1 g.symbols (omega arith) q.counts q.symbol_rows in
    let rs = records_bytes (flatten g.tree) (heads_within g.tree q.heads) (rows_most_n 65535 g.tree q.records) in
    to_bytes (written g)
    (all_++ (UpTo 255) (field Tag.Settings (g.mode ∷ g.is_module ∷ [])) _ settings
    (all_++ (UpTo 255) (scope_fields g.scopes) _ ss (all_++ (UpTo 255) (symbol_fields count 1 g.symbols) _ ys rs)))

module _ (b : List ℕ) (f : File) (k : ℕ) (bytes : Bytes b) (e : read_file b ≡ Ok f) where
  abbrev spot : Spot
  spot = completed (visits k (start f))

  -- the settings are those read
  settings_small : ((store_at spot).mode ≤ 2) × ((store_at spot).is_module ≤ 1)
  settings_small =
      let q = file_parsed b f e in
      let h = accepted_helper b f k e in
      rw (completed_store (visits k (start f)), h.mode, h.is_module) (q.mode_right, q.esm_right)

  few_records : size (tree_at spot) ≤ 65535
  few_records = omega (arith, whole_at spot, calls_above b f e k, accepted_fits b f e)

  -- WHEREVER CALLS FOR VISITS LEAD, it is so.
  pub calls_small : Small (file_at spot)
  unfolding file_at
  calls_small =
      let rows = (numbers_fit b f k bytes e).1 in
      let small = settings_small in
      record {
        settings = (omega (arith, small.0), omega (arith, small.1));
        scope_rows = rw (completed_store (visits k (start f))) rows.scopes;
        symbol_rows = rw (completed_store (visits k (start f))) rows.symbols;
        counts = λ y l. mentions_fit b f k y e l;
        heads = calls_fit b f k bytes e;
        records = few_records;
      }
