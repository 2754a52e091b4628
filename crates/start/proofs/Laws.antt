-- The turns of the loops.
-- Assumes nothing.
use mathlib.Core.Path.{◌≡◌, sym, ap, ◌∙◌}
use mathlib.Core.List.{List}
use Prim.Native.Nat.{ℕ, ◌+◌, ◌*◌, ◌-◌, ◌≤◌, ◌<◌}
use native.Mathlib.Numerals.{add-one}
use native.Mathlib.Omega.{arith}
use lib.ListN.{length, get_or, take, set, replicate, replicate-append-replicate}
use lib.Seq.{take_all, take-suc-set}
use Rattle.meaning.specs.File.{field_bytes}
use Rattle.meaning.specs.Grammar.{field_of}
use Rattle.meaning.specs.declared.Field.{Field}
use Rattle.tables.specs.Loops.{turns, next_turn}
use Rattle.tables.specs.Table.{set_row_f}
use Rattle.tables.specs.declared.Row.{Row}
use Rattle.spec_laws.specs.Trees.{numbers_most}
use Rattle.start.specs.Flat.{Filling, filling, next_record}
use Rattle.representation.specs.Run.{record_row}

-- ---- clearing

pub clear_turn : (t : List ℕ) (i : ℕ) → take i t ≡ replicate i 0 → i < length t → take (i + 1) (set t i 0) ≡ replicate (i + 1) 0
clear_turn t i e h = rw (add-one i, take-suc-set t i 0 h, e) (rw (add-one i) at (replicate-append-replicate {A = ℕ} i 1 0))

pub clear_last : (t₀ t : List ℕ) (i : ℕ) → take i t ≡ replicate i 0 → length t ≡ length t₀ → i ≡ length t₀ → t ≡ replicate (length t₀) 0
clear_last t₀ t i e l d = sym (take_all i t (omega arith)) ∙ (e ∙ ap (λ (k : ℕ). replicate k 0) d)

-- ---- the offset behind a field

pub next_most : (f : List ℕ) (at n next : ℕ) → next ≡ (field_of f at).next → at ≤ 65535 + 13 * n → next ≤ 65535 + 13 * (n + 1)
unfolding field_of field_bytes
next_most f at n next e h = rw e (omega (arith, numbers_most (get_or f at 0)))

-- ---- records

pub fill_turn : (r : Filling) (f t t' : List ℕ) (end at k : ℕ) (x : Field) (row : Row)
    → r ≡ turns (end - k) (next_record f) (filling t at k) → k < end → x ≡ field_of f at → row ≡ record_row x → t' ≡ set_row_f t k row
    → r ≡ turns (end - (k + 1)) (next_record f) (filling t' x.next (k + 1))
unfolding next_record
fill_turn r f t t' end at k x row e h ex er et = rw (et, er, ex) (next_turn end k (next_record f) r (filling t at k) e h)
