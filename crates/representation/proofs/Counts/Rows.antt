-- Rows of the record table, added to counters and taken off: their records, one after the other.
-- Assumes nothing.
use Rattle.std.specs.Prelude.{◌≡◌, ℕ, zero, suc, ◌+◌, length, take, drop}
use Rattle.std.proofs.Math.Path.{refl, ap}
use Rattle.std.proofs.Common.{sym, ap₂, ◌∙◌, arith, length-append, take-append-drop, take_at, drop_at}
use mathlib.Core.List.{List, [], ◌∷◌, ◌++◌, append_assoc}
use Rattle.std.proofs.Math.Seq.{append_snoc}
use Rattle.meaning.specs.Tree.{Head, Forest, none, more, ◌&◌}
use Rattle.tables.specs.Loops.{turns}
use Rattle.tables.specs.Table.{head_f}
use Rattle.tables.specs.declared.Row.{Row}
use Rattle.mentions.specs.Counters.{counting, next_row}
use Rattle.mentions.specs.Sums.{heads_of, all}
use Rattle.representation.specs.Gap.Cells.{table, rows_of}
use Rattle.representation.proofs.Gap.Rows.{row_at_lem, length_snoc}

-- ---- the records in rows

unfoldable pub heads : List Row → List Head
heads [] = []
heads (r ∷ rs) = head_f r ∷ heads rs

pub heads_++ : (rs qs : List Row) → heads (rs ++ qs) ≡ heads rs ++ heads qs
unfolding heads
heads_++ [] qs = refl
heads_++ (r ∷ rs) qs = ap (◌∷◌ (head_f r)) (heads_++ rs qs)

pub heads_length : (rs : List Row) → length (heads rs) ≡ length rs
unfolding heads
heads_length [] = refl
heads_length (r ∷ rs) = omega (arith, heads_length rs)

pub heads_rows : (f : Forest) → heads (rows_of f) ≡ heads_of f
unfolding heads rows_of heads_of
heads_rows none = refl
heads_rows (more h k r) =
    ap (◌∷◌ h) (heads_++ (rows_of k) (rows_of r) ∙ ap₂ ◌++◌ (heads_rows k) (heads_rows r))

pub heads_& : (f g : Forest) → heads_of (f & g) ≡ heads_of f ++ heads_of g
unfolding heads_of ◌&◌
heads_& none g = refl
heads_& (more h k r) g = ap (◌∷◌ h) (ap (◌++◌ (heads_of k)) (heads_& r g) ∙ sym (append_assoc (heads_of k) (heads_of r) (heads_of g)))

heads_take : (n : ℕ) (v : List Row) → heads (take n v) ≡ take n (heads v)
unfolding heads
heads_take zero v = refl
heads_take (suc n) [] = refl
heads_take (suc n) (x ∷ v) = ap (◌∷◌ (head_f x)) (heads_take n v)

heads_drop : (n : ℕ) (v : List Row) → heads (drop n v) ≡ drop n (heads v)
unfolding heads
heads_drop zero v = refl
heads_drop (suc n) [] = refl
heads_drop (suc n) (x ∷ v) = heads_drop n v

-- rows whose records are two lists
record Split (v : List Row) (ps qs : List Head) : Type 0 where
  first : List Row
  rest : List Row
  rows : first ++ rest ≡ v
  firsts : heads first ≡ ps
  rests : heads rest ≡ qs

split : (v : List Row) (ps qs : List Head) → heads v ≡ ps ++ qs → Split v ps qs
split v ps qs e =
    let n = length ps in
    record {
      first = take n v;
      rest = drop n v;
      rows = take-append-drop n v;
      firsts = heads_take n v ∙ ap (take n) e ∙ take_at ps qs n refl;
      rests = heads_drop n v ∙ ap (drop n) e ∙ drop_at ps qs n refl;
    }

regroup : (u v w a r b q : List Row) → a ++ r ≡ v → b ++ q ≡ r → u ++ (v ++ w) ≡ (u ++ a) ++ (b ++ (q ++ w))
regroup u v w a r b q e d = rw (← e, ← d) (simp append_assoc)

-- ---- one after the other

module _ (one : List ℕ → Head → List ℕ) (z : List ℕ) where
  turns_rows : (a v w : List Row) (t : List ℕ)
      → (turns (length v) (next_row one (table (a ++ (v ++ w)) z)) (counting t (length a))).t ≡ all one t (heads v)
  unfolding turns next_row all heads
  turns_rows a [] w t = refl
  turns_rows a (x ∷ v) w t =
      let r = table (a ++ x ∷ (v ++ w)) z in
      ap (λ (q : Row). (turns (length v) (next_row one r) (counting (one t (head_f q)) (length a + 1))).t) (row_at_lem z a x (v ++ w))
      ∙ (rw (length_snoc a x, append_snoc a x (v ++ w)) at (turns_rows (a ++ x ∷ []) v w (one t (head_f x))))

  -- SOME ROWS of those behind others, by the records in them: behind the first of these, and before the last.
  pub some_rows : (u v w : List Row) (ps qs ws : List Head) (t : List ℕ) (from many : ℕ) → heads v ≡ ps ++ (qs ++ ws)
      → from ≡ length u + length ps → many ≡ length qs
      → (turns many (next_row one (table (u ++ (v ++ w)) z)) (counting t from)).t ≡ all one t qs
  some_rows u v w ps qs ws t from many e f m =
      let a = split v ps (qs ++ ws) e in
      let b = split a.rest qs ws a.rests in
      let before = u ++ a.first in
      let rows = regroup u v w a.first a.rest b.first b.rest a.rows b.rows in
      let start : from ≡ length before =
      f ∙ omega (arith, length-append u a.first, heads_length a.first, ap length a.firsts) in
      let count : many ≡ length b.first = m ∙ omega (arith, heads_length b.first, ap length b.firsts) in
      rw (rows, start, count) (turns_rows before b.first (b.rest ++ w) t ∙ ap (all one t) b.firsts)
