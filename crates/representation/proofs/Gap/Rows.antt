-- Single rows: stored, read, and moved over the gap.
-- Assumes nothing.
use Rattle.std.specs.Prelude.{◌≡◌, ℕ, zero, suc, ◌+◌, ◌*◌, ◌-◌, ◌<◌}
use Rattle.std.proofs.Math.Path.{refl, sym, ap}
use Rattle.std.proofs.Common.{◌∙◌, arith, length-append}
use mathlib.Core.List.{List, [], ◌∷◌, ◌++◌, append_assoc, append-nil}
use Rattle.std.proofs.Math.ListN.{length}
use Rattle.std.proofs.Math.Seq.{append_snoc}
use Rattle.tables.specs.Columns.RecordTable
use Rattle.tables.specs.Loops.{turns}
use Rattle.tables.specs.Table.{cap_one, column_f, row_f, set_column_f, set_row_f, move_row_f}
use Rattle.tables.specs.Stream.{Buf, emit_f, replace_row_f, copy_row_f, unread_row_f, take_back_f}
use Rattle.tables.specs.declared.Row.{Row}
use Rattle.representation.specs.Gap.Cells.{table, zeros, free, gapped, with_up, with_left, length_free}

seven : (i f : ℕ) → suc i * RecordTable.Numbers + f ≡ suc (suc (suc (suc (suc (suc (suc (i * RecordTable.Numbers + f)))))))
seven i f = omega arith

-- ---- at any place

module _ (z : List ℕ) where
  pub set_row_lem : (a : List Row) (x : Row) (v : List Row) (r : Row) → set_row_f (table (a ++ x ∷ v) z) (length a) r ≡ table (a ++ r ∷ v) z
  unfolding set_row_f set_column_f table
  set_row_lem [] x v r = refl
  set_row_lem (y ∷ a) x v r =
      let i = length a in
      rw (seven i 0, seven i 1, seven i 2, seven i 3, seven i 4, seven i 5, seven i 6) (ap (table (y ∷ [])) (set_row_lem a x v r))

  pub set_up : (a : List Row) (x : Row) (v : List Row) (n : ℕ)
      → set_column_f (table (a ++ x ∷ v) z) (length a) 5 n ≡ table (a ++ with_up x n ∷ v) z
  unfolding set_column_f table
  set_up [] x v n = refl
  set_up (y ∷ a) x v n = rw (seven (length a) 5) (ap (table (y ∷ [])) (set_up a x v n))

  pub set_left : (a : List Row) (x : Row) (v : List Row) (n : ℕ)
      → set_column_f (table (a ++ x ∷ v) z) (length a) 6 n ≡ table (a ++ with_left x n ∷ v) z
  unfolding set_column_f table
  set_left [] x v n = refl
  set_left (y ∷ a) x v n = rw (seven (length a) 6) (ap (table (y ∷ [])) (set_left a x v n))

  pub row_at_lem : (a : List Row) (x : Row) (v : List Row) → row_f (table (a ++ x ∷ v) z) (length a) ≡ x
  unfolding row_f column_f table
  row_at_lem [] x v = refl
  row_at_lem (y ∷ a) x v =
      let i = length a in
      rw (seven i 0, seven i 1, seven i 2, seven i 3, seven i 4, seven i 5, seven i 6) (row_at_lem a x v)

-- the columns of a row
module _ (z : List ℕ) (a : List Row) (x : Row) (v : List Row) where
  pub tag_at : column_f (table (a ++ x ∷ v) z) (length a) 0 ≡ x.tag
  unfolding row_f
  tag_at = ap (λ (r : Row). r.tag) (row_at_lem z a x v)

  pub a_at : column_f (table (a ++ x ∷ v) z) (length a) 1 ≡ x.a
  unfolding row_f
  a_at = ap (λ (r : Row). r.a) (row_at_lem z a x v)

  pub n_at : column_f (table (a ++ x ∷ v) z) (length a) 4 ≡ x.n
  unfolding row_f
  n_at = ap (λ (r : Row). r.n) (row_at_lem z a x v)

  pub up_at : column_f (table (a ++ x ∷ v) z) (length a) 5 ≡ x.up
  unfolding row_f
  up_at = ap (λ (r : Row). r.up) (row_at_lem z a x v)

  pub left_at : column_f (table (a ++ x ∷ v) z) (length a) 6 ≡ x.left
  unfolding row_f
  left_at = ap (λ (r : Row). r.left) (row_at_lem z a x v)

-- ---- at the ends of the gap

buf_eq : {x y : Buf} → x.t ≡ y.t → x.read ≡ y.read → x.written ≡ y.written → x ≡ y
buf_eq e₁ e₂ e₃ = λ i. record { t = e₁ i; read = e₂ i; written = e₃ i }

pub length_snoc : (a : List Row) (r : Row) → length (a ++ r ∷ []) ≡ length a + 1
length_snoc a r = length-append a (r ∷ [])

-- a free row may as well stand before the others
slide : (g : ℕ) (v : List Row) → free g ++ zeros ∷ v ≡ zeros ∷ (free g ++ v)
unfolding free
slide zero v = refl
slide (suc g) v = ap (◌∷◌ zeros) (slide g v)

-- the rows up to the right end
pub length_left : (a : List Row) (g : ℕ) → length (a ++ free g) ≡ length a + g
length_left a g = rw (length-append, length_free)

module _ (z : List ℕ) (a : List Row) (g : ℕ) where
  -- a row stored at the right end
  set_right : (x : Row) (v : List Row) (r : Row)
      → set_row_f (table (a ++ (free g ++ x ∷ v)) z) (length a + g) r ≡ table (a ++ (free g ++ r ∷ v)) z
  set_right x v r =
      let e = set_row_lem z (a ++ free g) x v r in
      rw (← length_left a g, ← append_assoc a (free g) (x ∷ v), ← append_assoc a (free g) (r ∷ v)) e

  pub move_row_gapped : (x : Row) (v : List Row) (r : Row)
      → move_row_f (table (a ++ (free g ++ x ∷ v)) z) (length a + g) (length a) r ≡ table (a ++ r ∷ (free g ++ v)) z
  unfolding move_row_f
  move_row_gapped x v r = rw (set_right x v zeros, slide g v) (set_row_lem z a zeros (free g ++ v) r)

  pub emit_gapped : (v : List Row) (r : Row) → length a < 65535 → emit_f (gapped z a (suc g) v) r ≡ gapped z (a ++ r ∷ []) g v
  unfolding emit_f gapped free
  emit_gapped v r h =
      buf_eq
      (set_row_lem z a zeros (free g ++ v) r ∙ ap (λ (u : List Row). table u z) (sym (append_snoc a r (free g ++ v))))
      (omega (arith, length_snoc a r))
      (cap_one (length a) h ∙ sym (length_snoc a r))

  pub pass_as_gapped : (x : Row) (v : List Row) (r : Row) → length a + g < 65535
      → replace_row_f (gapped z a g (x ∷ v)) r ≡ gapped z (a ++ r ∷ []) g v
  unfolding replace_row_f gapped
  pass_as_gapped x v r h =
      buf_eq
      (move_row_gapped x v r ∙ ap (λ (u : List Row). table u z) (sym (append_snoc a r (free g ++ v))))
      (omega (arith, cap_one (length a + g) h, length_snoc a r))
      (cap_one (length a) (omega arith) ∙ sym (length_snoc a r))

  pub next_gapped : (x : Row) (v : List Row) → row_f (gapped z a g (x ∷ v)).t (gapped z a g (x ∷ v)).read ≡ x
  unfolding gapped
  next_gapped x v = rw (← length_left a g, ← append_assoc a (free g) (x ∷ v)) (row_at_lem z (a ++ free g) x v)

  pub pass_gapped : (x : Row) (v : List Row) → length a + g < 65535 → copy_row_f (gapped z a g (x ∷ v)) ≡ gapped z (a ++ x ∷ []) g v
  unfolding copy_row_f
  pass_gapped x v h = rw (next_gapped x v) (pass_as_gapped x v x h)

  -- the last row written goes back
  back_gapped : (x : Row) (v : List Row) → unread_row_f (gapped z (a ++ x ∷ []) g v) ≡ gapped z a g (x ∷ v)
  unfolding unread_row_f move_row_f gapped
  back_gapped x v =
      let u = free g ++ v in
      let w : length (a ++ x ∷ []) - 1 ≡ length a = omega (arith, length_snoc a x) in
      let r : length (a ++ x ∷ []) + g - 1 ≡ length a + g = omega (arith, length_snoc a x) in
      buf_eq (rw (w, r, append_snoc a x u, row_at_lem z a x u, set_row_lem z a x u zeros, ← slide g v) (set_right zeros v x)) r w

-- one turn more, before the others or behind them
pub turns_last : {A : Type 0} (n : ℕ) (f : A → A) (x : A) → turns n f (f x) ≡ f (turns n f x)
unfolding turns
turns_last zero f x = refl
turns_last (suc n) f x = turns_last n f (f x)

-- THE LAST ROWS WRITTEN stand behind the gap again
pub take_back_gapped : (z : List ℕ) (a : List Row) (g : ℕ) (m v : List Row)
    → take_back_f (length m) (gapped z (a ++ m) g v) ≡ gapped z a g (m ++ v)
unfolding take_back_f turns
take_back_gapped z a g [] v = rw append-nil
take_back_gapped z a g (x ∷ m) v =
    turns_last (length m) unread_row_f (gapped z (a ++ x ∷ m) g v)
    ∙ ap unread_row_f (rw (← append_snoc a x m) (take_back_gapped z (a ++ x ∷ []) g m v))
    ∙ back_gapped z a g x (m ++ v)
