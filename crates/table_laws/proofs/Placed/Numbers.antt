-- Rows get places, and lose them again.
-- Assumes nothing.
use Rattle.std.specs.Prelude.{◌≡◌, ℕ, suc, ◌+◌, ◌≤◌, ◌<◌, length}
use Rattle.std.proofs.Math.Path.{refl, ap}
use Rattle.std.proofs.Common.{sym, ap₂, ◌∙◌, arith}
use mathlib.Core.List.{List, [], ◌∷◌, ◌++◌}
use Rattle.std.proofs.Math.Numerals.{add-one}
use Rattle.std.proofs.Math.Seq.{append_snoc}
use Rattle.meaning.specs.Tree.{Forest, none, more}
use Rattle.tables.specs.Loops.{turns}
use Rattle.tables.specs.declared.Row.{Row}
use Rattle.tables.specs.Table.{cap_one}
use Rattle.representation.specs.Gap.Cells.{table, rows_of, with_up}
use Rattle.representation.proofs.Gap.Rows.{set_up, length_snoc}
use Rattle.rewrite_program.specs.Placing.{RowsAt, rows_at, clear_one_f, clear_places_f, Numbering, numbering, number_one_f, number_rows_f}

-- every row has a property
pub data All (P : Row → Type 0) : List Row → Type 0 where
  empty : All P []
  cons : {x : Row} {m : List Row} → P x → All P m → All P (x ∷ m)

-- no row has a number in the column of places
abbrev pub Closed : List Row → Type 0
Closed m = All (λ (r : Row). r.up ≡ 0) m

-- rows with the places p, p + 1 and so on, and with none
unfoldable pub numbered : ℕ → List Row → List Row
numbered p [] = []
numbered p (r ∷ m) = with_up r p ∷ numbered (suc p) m

unfoldable pub cleared : List Row → List Row
cleared [] = []
cleared (r ∷ m) = with_up r 0 ∷ cleared m

-- ---- lists

pub all_append : {P : Row → Type 0} {l m : List Row} → All P l → All P m → All P (l ++ m)
all_append empty q = q
all_append (cons h p) q = cons h (all_append p q)

pub rows_closed : (f : Forest) → Closed (rows_of f)
unfolding rows_of
rows_closed none = empty
rows_closed (more h k r) = cons refl (all_append (rows_closed k) (rows_closed r))

pub length_numbered : (p : ℕ) (m : List Row) → length (numbered p m) ≡ length m
unfolding numbered
length_numbered p [] = refl
length_numbered p (r ∷ m) = ap suc (length_numbered (suc p) m)

pub cleared_numbered : (p : ℕ) {m : List Row} → Closed m → cleared (numbered p m) ≡ m
unfolding numbered cleared
cleared_numbered p empty = refl
cleared_numbered p (cons {x = x} h c) = ap₂ ◌∷◌ (ap (with_up x) (sym h)) (cleared_numbered (suc p) c)

-- ---- tables

module _ (z : List ℕ) where
  number_one : (a : List Row) (r : Row) (w : List Row) (p : ℕ) → length a < 65535 → p < 65535
      → (let a₁ = a ++ with_up r p ∷ [] in
      number_one_f (numbering (table (a ++ r ∷ w) z) (length a) p) ≡ numbering (table (a₁ ++ w) z) (length a₁) (suc p))
  unfolding number_one_f
  number_one a r w p h k =
      rw (set_up z a r w p, cap_one (length a) h, cap_one p k, add-one p, append_snoc a (with_up r p) w, length_snoc a (with_up r p))

  clear_one : (a : List Row) (r : Row) (w : List Row) → length a < 65535
      → (let a₁ = a ++ with_up r 0 ∷ [] in clear_one_f (rows_at (table (a ++ r ∷ w) z) (length a)) ≡ rows_at (table (a₁ ++ w) z) (length a₁))
  unfolding clear_one_f
  clear_one a r w h =
      rw (set_up z a r w 0, cap_one (length a) h, append_snoc a (with_up r 0) w, length_snoc a (with_up r 0))

  -- ROWS GET PLACES
  pub number_law : (m a v : List Row) (first : ℕ) → length a + length m ≤ 65535 → first + length m ≤ 65535
      → number_rows_f (table (a ++ (m ++ v)) z) (length a) (length m) first ≡ table (a ++ (numbered first m ++ v)) z
  unfolding number_rows_f turns numbered
  number_law [] a v first h k = refl
  number_law (r ∷ m) a v first h k =
      let a₁ = a ++ with_up r first ∷ [] in
      ap (λ (s : Numbering). (turns (length m) number_one_f s).rows.t) (number_one a r (m ++ v) first (omega arith) (omega arith))
      ∙ number_law m a₁ v (suc first) (omega (arith, length_snoc a (with_up r first))) (omega arith)
      ∙ rw (append_snoc a (with_up r first) (numbered (suc first) m ++ v))

  -- ROWS LOSE THEM
  pub clear_law : (m a v : List Row) → length a + length m ≤ 65535
      → clear_places_f (table (a ++ (m ++ v)) z) (length a) (length m) ≡ table (a ++ (cleared m ++ v)) z
  unfolding clear_places_f turns cleared
  clear_law [] a v h = refl
  clear_law (r ∷ m) a v h =
      ap (λ (s : RowsAt). (turns (length m) clear_one_f s).t) (clear_one a r (m ++ v) (omega arith))
      ∙ clear_law m (a ++ with_up r 0 ∷ []) v (omega (arith, length_snoc a (with_up r 0)))
      ∙ rw (append_snoc a (with_up r 0) (cleared m ++ v))
