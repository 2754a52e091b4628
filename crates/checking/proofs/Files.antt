-- The whole file: what the check computes is what the reader answers.
-- Assumes nothing.
use Rattle.meaning.specs.Refusals.{Outcome, refused}
use Rattle.std.specs.Prelude.{Ok, Err, if◌then◌else◌}
use mathlib.Core.Path.{◌≡◌, refl, sym, ap, ◌∙◌}
use mathlib.Core.Bool.{Bool, true, false, ◌&&◌}
use mathlib.Core.List.{List}
use Prim.Native.Nat.{ℕ, ◌+◌, ◌*◌, ◌≤◌, min}
use native.Mathlib.Omega.{arith}
use lib.Dec.{leb}
use lib.ListN.{length, replicate, length-replicate}
use borrow.Author.Tests.{leb-true}
use Rattle.meaning.specs.Tree.{Forest, size}
use Rattle.meaning.specs.File.{Symbol, File, symbol_bytes}
use Rattle.meaning.specs.Mentions.{mentions}
use Rattle.meaning.specs.Grammar.{field_at, unnamed}
use Rattle.meaning.specs.Reading.{◌>>=◌, ◌>>◌, ensure, Records, rows_read, read_scopes, read_symbols, scopes_in, symbols_in, read_forest, wrong_count, check_counts, read_file}
use Rattle.meaning.specs.declared.Place.{Place}
use Rattle.meaning.specs.declared.Place.TheVariants.{Settings, Program}
use Rattle.meaning.specs.declared.Field.{Field}
use Rattle.meaning.specs.declared.Rows.{Rows}
use Rattle.parsing.specs.Fields.{field_is, scopes_are, symbols_are}
use Rattle.parsing.specs.Parsed.{Parsed}
use Rattle.parsing.specs.Records.{forest_parsed}
use Rattle.parsing.specs.Counts.{parsed_bytes, parsed_ends, size_bytes}
use Rattle.parsing.specs.Files.{settings_are, scopes_length, symbols_length}
use Rattle.figures.specs.Tally.{no_tally, ◌⊞◌, cap, tally_of}
use Rattle.figures.specs.declared.tally.Tally.{Tally}
use Rattle.figures.specs.declared.tally.Role.TheVariants.{Plain}
use Rattle.charge_laws.proofs.Totals.Bound.{tally_records}
use Rattle.meaning.specs.declared.Reason.{Reason}
use Rattle.checking.specs.declared.Layout.{Layout}
use Rattle.checking.specs.declared.Whole.{Whole}
use Rattle.checking.specs.Flat.{Past, whole, list_f, record_f, wrong_f, counted_f, run_answer, end_f, answer_of, tree_f, layout, with_records, by_rows, symbols_f, rows_f, settings_f, file_f}
use Rattle.checking.specs.Survey.{layout_of}
use Rattle.checking.proofs.Cap.{none_⊞}
use Rattle.checking.proofs.Link.{forget, as_read, link_forest}
use Rattle.checking.proofs.Mentions.{wrong_is}

-- what a file comes to
abbrev pub tally_in : File → Tally
tally_in f = tally_of f.symbols (λ _. Plain) 0 f.tree

abbrev pub whole_of : Outcome File → Outcome Whole
whole_of (Ok f) = whole (with_records (layout_of f) (cap (tally_in f)).records) (cap (tally_in f))
whole_of (Err r) = Err r

-- ---- the tree

alone : (o : Outcome Past) → o >>= (λ q. Ok (record { next = q.next; marks = q.marks; tally = q.tally })) ≡ o
alone (Ok q) = refl
alone (Err r) = refl

program_is : (f : List ℕ) (scopes syms at : ℕ) (m : List ℕ)
    → forget (as_read f scopes syms) (λ _. Plain) 0 no_tally (read_forest 64 f syms (λ _. Program) 0 0 1 at m)
    ≡ record_f 64 f scopes syms Program Plain 0 no_tally at m
unfolding list_f
program_is f scopes syms at m =
    link_forest f scopes syms 64 (λ _. Program) (λ _. Plain) 0 1 0 no_tally at m ∙ alone (record_f 64 f scopes syms Program Plain 0 no_tally at m)

-- 7 and the lowest unnamed row; then the counts
end_tests : (f : List ℕ) (b₁ b₂ : Bool) (c₁ : Reason) (p₁ : ℕ) (c₂ : Reason) (p₂ : ℕ) (o : Outcome File) (q : Past) (l : Layout)
    → whole_of o ≡ counted_f f (with_records l q.tally.records) q.tally
    → whole_of (ensure b₁ c₁ p₁ >> (ensure b₂ c₂ p₂ >> o))
    ≡ run_answer f l (answer_of (ensure b₁ c₁ p₁ >> (ensure b₂ c₂ p₂ >> Ok q)))
end_tests f true true c₁ p₁ c₂ p₂ o q l e = e
end_tests f true false c₁ p₁ c₂ p₂ o q l e = refl
end_tests f false b₂ c₁ p₁ c₂ p₂ o q l e = refl

-- the tally of some records, and a layout with it
abbrev tallied_in : List Symbol → Records → Tally
tallied_in ys k = cap (no_tally ⊞ tally_of ys (λ _. Plain) 0 k.forest)

abbrev layout_in : Layout → List Symbol → Records → Layout
layout_in l ys k = with_records l (tallied_in ys k).records

-- `last` does the last check, and makes the file
end_is : (f : List ℕ) (n : ℕ) (ys : List Symbol) (o : Outcome Records) (o_f : Outcome Past) (last : Records → Outcome File) (l : Layout)
    → forget ys (λ _. Plain) 0 no_tally o ≡ o_f
    → ((k : Records) → o ≡ Ok k → whole_of (last k) ≡ counted_f f (layout_in l ys k) (tallied_in ys k))
    → whole_of
    (o >>= (λ k.
    ensure (leb (length f) k.next) Reason.BytesBehind k.next
    >> (ensure (leb n (unnamed k.marks)) Reason.WrongNumber (7 + 7 * unnamed k.marks) >> last k)))
    ≡ run_answer f l (answer_of (end_f f n o_f))
unfolding end_f
end_is f n ys (Ok k) o_f last l e h =
    end_tests f (leb (length f) k.next) (leb n (unnamed k.marks)) Reason.BytesBehind k.next Reason.WrongNumber (7 + 7 * unnamed k.marks) (last k)
    (record { next = k.next; marks = k.marks; tally = tallied_in ys k }) l (h k refl)
    ∙ ap (λ (q : Outcome Past). run_answer f l (answer_of (end_f f n q))) e
end_is f n ys (Err r) o_f last l e h = ap (λ (q : Outcome Past). run_answer f l (answer_of (end_f f n q))) e

-- ---- the steps before the tree

by_size : (b : Bool) (o : Outcome File) (r : Outcome Whole) → (b ≡ true → whole_of o ≡ r)
    → whole_of (ensure b Reason.TooLong 65535 >> o) ≡ (if b then r else refused Reason.TooLong 65535)
by_size true o r e = e refl
by_size false o r e = refl

by_settings : (b₁ b₂ : Bool) (o : Outcome File) (r : Outcome Whole) → whole_of o ≡ r
    → whole_of (ensure (b₁ && b₂) Reason.WrongNumber 0 >> o) ≡ (if b₁ then (if b₂ then r else refused Reason.WrongNumber 0) else refused Reason.WrongNumber 0)
by_settings true true o r e = e
by_settings true false o r e = refl
by_settings false b₂ o r e = refl

by_field_lem : (d : Outcome Field) (g : Field → Outcome File) (g_f : Field → Outcome Whole) → ((x : Field) → d ≡ Ok x → whole_of (g x) ≡ g_f x)
    → whole_of (d >>= g) ≡ (d >>= g_f)
by_field_lem (Ok x) g g_f h = h x refl
by_field_lem (Err r) g g_f h = refl

by_rows_lem : (d : Outcome Rows) (g : Rows → Outcome File) (g_f : ℕ → ℕ → Outcome Whole)
    → ((k at : ℕ) → d ≡ Ok (rows_read k at) → whole_of (g (rows_read k at)) ≡ g_f k at)
    → whole_of (d >>= g) ≡ by_rows d g_f
by_rows_lem (Ok q) g g_f h = h q.count q.next refl
by_rows_lem (Err r) g g_f h = refl

-- the file that is made of accepted records
abbrev made : List ℕ → Field → ℕ → ℕ → ℕ → Records → File
made f s n syms at k =
    record { mode = s.a; is_module = s.b; scopes = scopes_in f n 1; symbols = symbols_in f syms at; tree = k.forest }

made_is : (f : List ℕ) (s : Field) (n syms at at₂ : ℕ) (k : Records) → min at 65535 ≡ 7 + 7 * n → at ≡ 7 + 7 * n
    → min at₂ 65535 ≡ 7 + 7 * n + symbol_bytes * syms
    → whole_of (Ok (made f s n syms at k))
    ≡ whole (layout_in (layout s n syms at at₂) (as_read f n syms) k) (tallied_in (as_read f n syms) k)
made_is f s n syms at at₂ k e₁ e e₂ =
    rw (scopes_length f n 1, symbols_length f syms at, e₁, e₂, e)
    (ap (λ (t : Tally).
    whole
    (record {
      mode = s.a;
      esm = s.b;
      scopes = n;
      symbols = syms;
      records = min (cap t).records 65535;
      first = 7 + 7 * n;
      tree = 7 + 7 * n + symbol_bytes * syms;
    })
    (cap t))
    (sym (none_⊞ _)))

-- the first symbol row stands behind the settings and n scope rows
symbols_from : (f : List ℕ) (x : Field) (n at : ℕ) → field_at f Settings 0 ≡ Ok x → read_scopes f x.next ≡ Ok (rows_read n at)
    → (at ≡ 7 + 7 * n) × (at ≤ length f)
symbols_from f x n at e r =
    let s = field_is f Settings 0 x e in
    let y = s.1 in
    let next = ap (λ (z : Field). z.next) s.0 in
    let q = scopes_are f x.next n at (omega (arith, next, y.ends)) r in
    (omega (arith, next, (settings_are f y).2, q.next_is), q.ends)

-- Program stands behind the symbol rows
tree_from : (f : List ℕ) (n at syms at₂ : ℕ) → at ≤ length f → read_symbols f n at ≡ Ok (rows_read syms at₂)
    → (at₂ ≡ at + symbol_bytes * syms) × (at₂ ≤ length f)
tree_from f n at syms at₂ l e = let q = symbols_are f n at syms at₂ l e in (q.next_is, q.ends)

-- ---- the counts

-- the records of a tree that was read are counted
records_are : {f : List ℕ} {syms : ℕ} {place : ℕ → Place} {i cur at next : ℕ} {m o : List ℕ} {t : Forest} (ys : List Symbol)
    → length f ≤ 65535 → at ≤ length f → Parsed f syms place i cur at m t next o
    → min (cap (no_tally ⊞ tally_of ys (λ _. Plain) 0 t)).records 65535 ≡ size t
records_are {t = t} ys small inside tree =
    omega (arith, tally_records ys t (λ _. Plain) 0, size_bytes t, parsed_bytes tree, parsed_ends tree inside)

-- a wrong count, or the file
by_counts : (b : Bool) (p : ℕ) (g : File) (r : Outcome Whole) → whole_of (Ok g) ≡ r
    → whole_of (ensure b Reason.WrongNumber p >> Ok g) ≡ (if b then r else refused Reason.WrongNumber p)
by_counts true p g r e = e
by_counts false p g r e = refl

-- the last check, and the layout and the tally, of what was read from a file that is not too long
file_is : (f : List ℕ) (s : Field) (n at syms at₂ : ℕ) (k : Records) → length f ≤ 65535 → field_at f Settings 0 ≡ Ok s
    → read_scopes f s.next ≡ Ok (rows_read n at) → read_symbols f n at ≡ Ok (rows_read syms at₂)
    → read_forest 64 f syms (λ _. Program) 0 0 1 at₂ (replicate n 0) ≡ Ok k
    → whole_of (check_counts f (λ y. mentions y k.forest) syms at >> Ok (made f s n syms at k))
    ≡ counted_f f (layout_in (layout s n syms at at₂) (as_read f n syms) k) (tallied_in (as_read f n syms) k)
unfolding counted_f
file_is f s n at syms at₂ k small es en ey et =
    let x = symbols_from f s n at es en in
    let y = tree_from f n at syms at₂ x.1 ey in
    let tree = (forest_parsed f syms 64 (λ _. Program) 0 0 1 at₂ (replicate n 0) k et).0 in
    let l = layout_in (layout s n syms at at₂) (as_read f n syms) k in
    let t = tallied_in (as_read f n syms) k in
    let first : min at 65535 ≡ at = omega (arith, x.1) in
    let wrong = wrong_count f (λ y. mentions y k.forest) syms 1 at in
    let same : wrong_f f l ≡ wrong =
    wrong_is small y.1 tree l (records_are (as_read f n syms) small y.1 tree) (omega (arith, y.1))
    ∙ ap (wrong_count f (λ y. mentions y k.forest) syms 1) first in
    by_counts (leb syms wrong) (at + symbol_bytes * wrong) _ (whole l t)
    (made_is f s n syms at at₂ k (omega (arith, x.0, x.1)) x.0 (omega (arith, x.0, y.0, y.1)))
    ∙ ap (λ (w : ℕ). if leb syms w then whole l t else refused Reason.WrongNumber (at + symbol_bytes * w)) (sym same)
    ∙ ap (λ (p : ℕ). if leb syms (wrong_f f l) then whole l t else refused Reason.WrongNumber (p + symbol_bytes * wrong_f f l)) (sym first)

-- ---- the whole file

pub whole_is : (f : List ℕ) → whole_of (read_file f) ≡ file_f f
unfolding read_file file_f settings_f rows_f symbols_f tree_f
whole_is f =
    by_size (leb (length f) 65535) _ _ (λ short.
    by_field_lem (field_at f Settings 0) _ _ (λ s es.
    by_settings (leb s.a 2) (leb s.b 1) _ _ (
    by_rows_lem (read_scopes f s.next) _ _ (λ n at en.
    by_rows_lem (read_symbols f n at) _ _ (λ syms at₂ ey.
    end_is f n (as_read f n syms) (read_forest 64 f syms (λ _. Program) 0 0 1 at₂ (replicate n 0)) _ _ (layout s n syms at at₂)
    (program_is f n syms at₂ (replicate n 0))
    (λ k et. file_is f s n at syms at₂ k (leb-true (length f) 65535 short) es en ey et)
    ∙ ap (λ (j : ℕ). run_answer f (layout s n syms at at₂) (answer_of (end_f f j (record_f 64 f n syms Program Plain 0 no_tally at₂ (replicate n 0)))))
    (sym (length-replicate n 0)))))))
