-- The records of a file, stored as rows.
-- Assumes nothing.
use Rattle.std.specs.Prelude.{◌≡◌, refl, List, [], ◌∷◌, ◌++◌, ℕ, zero, suc, ◌+◌, ◌*◌, ◌-◌, ◌≤◌, length, replicate}
use Rattle.std.proofs.Common.{sym, ap, ◌∙◌, arith}
use Rattle.std.proofs.Math.Seq.{append_snoc}
use Rattle.tables.specs.Columns.RecordTable
use Rattle.meaning.specs.Grammar.{field_of}
use Rattle.tables.specs.Loops.{turns}
use Rattle.tables.specs.Table.{set_row_f}
use Rattle.tables.specs.declared.Row.{Row}
use Rattle.representation.specs.Gap.Cells.{table, zeros, free, length_free}
use Rattle.representation.proofs.Gap.Rows.{set_row_lem, length_snoc}
use Rattle.representation.proofs.Run.{Run}
use Rattle.start.specs.Flat.{cleared, filling, next_record, records_f}
use Rattle.start.specs.Rows.{blank, cleared_is}

records_from : (f : List ℕ) (rs a : List Row) (z : List ℕ) (at next : ℕ) → Run f at rs next
    → (turns (length rs) (next_record f) (filling (table (a ++ free (length rs)) z) at (length a))).t ≡ table (a ++ rs) z
unfolding turns free next_record
records_from f [] a z at next i = refl
records_from f (r ∷ rs) a z at next (l, e, i) =
    let x = field_of f at in
    let v = free (length rs) in
    let go : List ℕ → List ℕ = λ t. (turns (length rs) (next_record f) (filling t x.next (length a + 1))).t in
    let j = records_from f rs (a ++ r ∷ []) z x.next next i in
    ap (λ (q : Row). go (set_row_f (table (a ++ zeros ∷ v) z) (length a) q)) (sym e)
    ∙ ap go (set_row_lem z a zeros v r)
    ∙ (rw (append_snoc a r v, append_snoc a r rs, length_snoc a r) at j)

free_++ : (g n : ℕ) → free (g + n) ≡ free g ++ free n
unfolding free
free_++ zero n = let d : 0 + n ≡ n = omega arith in rw d
free_++ (suc g) n = let d : suc g + n ≡ suc (g + n) = omega arith in rw d (ap (λ (v : List Row). zeros ∷ v) (free_++ g n))

blank_rows : (n : ℕ) (z : List ℕ) → blank 7 n z ≡ table (free n) z
unfolding blank table free
blank_rows zero z = refl
blank_rows (suc n) z = ap (λ (t : List ℕ). 0 ∷ 0 ∷ 0 ∷ 0 ∷ 0 ∷ 0 ∷ 0 ∷ t) (blank_rows n z)

pub records_are : (f : List ℕ) (rs : List Row) (at next g end : ℕ) (t : List ℕ) → Run f at rs next → g + length rs ≡ end
    → end * RecordTable.Numbers ≤ length t
    → records_f f g end at (cleared t) ≡ table (free g ++ rs) (replicate (length t - RecordTable.Numbers * end) 0)
unfolding records_f
records_are f rs at next g end t i e h =
    let n = length rs in
    let z = replicate {A = ℕ} (length t - end * RecordTable.Numbers) 0 in
    let d : RecordTable.Numbers * end ≡ end * RecordTable.Numbers = omega arith in
    let m : end - g ≡ n = omega arith in
    let w : cleared t ≡ table (free g ++ free n) z =
    cleared_is 7 end t h ∙ blank_rows end z ∙ ap (λ (k : ℕ). table (free k) z) (sym e) ∙ ap (λ (v : List Row). table v z) (free_++ g n)
    in
    rw d
    (ap (λ (k : ℕ). (turns k (next_record f) (filling (cleared t) at g)).t) m
    ∙ ap (λ (l : List ℕ). (turns n (next_record f) (filling l at g)).t) w
    ∙ (rw (length_free g) at (records_from f rs (free g) z at next i)))
