-- The turns of the two loops over subtrees.
-- Assumes nothing.
use mathlib.Core.Path.{◌≡◌}
use mathlib.Core.List.{List}
use Prim.Native.Nat.{ℕ, ◌+◌, ◌-◌, ◌<◌}
use borrow.Author.Tests.{ne_eqb}
use Rattle.tables.specs.Loops.{until, go_on}
use Rattle.tables.specs.Table.{capped, cap_one, column_f, row_f, move_row_f, Skipping, skipping, skipped, skip_one}
use Rattle.tables.specs.Stream.{Buf, copy_row_f, replace_row_f, Copying, copying, copied, copy_one}
use Rattle.tables.specs.declared.Row.{Row}

pub skip_turn : (r : Skipping) (t : List ℕ) (at p f : ℕ) → r ≡ until (65535 - at) skipped (skip_one t) (skipping at p) → at < 65535 → (p ≡ 0 → ⊥)
    → f ≡ column_f t at 4 → r ≡ until (65535 - (at + 1)) skipped (skip_one t) (skipping (at + 1) (p - 1 + f))
unfolding skip_one
skip_turn r t at p f e h n c = rw c (go_on 65535 at skipped (skip_one t) r (skipping at p) e h (ne_eqb p 0 n))

abbrev pub buf3 : List ℕ → ℕ → ℕ → Buf
buf3 t read written = record { t = t; read = read; written = written }

pub copy_turn : (r : Copying) (t t' : List ℕ) (read written written' p : ℕ) (x : Row)
    → r ≡ until (65535 - read) copied copy_one (copying (buf3 t read written) p) → read < 65535 → (p ≡ 0 → ⊥)
    → x ≡ row_f t read → t' ≡ move_row_f t read written x → written' ≡ capped written 1
    → r ≡ until (65535 - (read + 1)) copied copy_one (copying (buf3 t' (read + 1) written') (p - 1 + x.n))
unfolding copy_one copy_row_f replace_row_f row_f
copy_turn r t t' read written written' p x e h n ex et ew =
    let g = go_on 65535 read copied copy_one r (copying (buf3 t read written) p) e h (ne_eqb p 0 n) in
    rw (et, ex, ew) (rw (cap_one read h) at g)
