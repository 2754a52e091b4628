-- The sides of a ForOf and its body, found in its rows.
-- Assumes nothing.
use Rattle.std.specs.Prelude.{if◌then◌else◌, ◌≡◌, refl, List, [], ◌∷◌, ◌++◌, Bool, true, false, ◌&&◌, ℕ, suc, ◌+◌, ◌≤◌, ◌<◌, eqb}
use Rattle.std.proofs.Math.Path.{sym}
use Rattle.std.proofs.Common.{ap, ◌∙◌, append_assoc, arith, length-append}
use borrow.Author.Tests.{lt-ltb, le-ltb, ne_eqb}
use Rattle.std.proofs.Math.ListN.{length}
use Rattle.meaning.specs.Tree.{Head, Forest, none, more, one, count, size}
use Rattle.meaning.specs.Statements.{is_using}
use Rattle.meaning.specs.ForOf.{binds_identifier, bound_symbol}
use Rattle.charge_laws.proofs.Counts.Enter.{Begins}
use Rattle.tables.specs.Table.{capped, column_f, row_f}
use Rattle.tables.specs.declared.Row.{Row}
use Rattle.representation.specs.Gap.Cells.{table, line, rows_of, length_rows}
use Rattle.representation.proofs.Gap.Rows.{a_at, n_at, row_at_lem, length_snoc}
use Rattle.representation.proofs.Gap.Streams.{end_all}
use Rattle.table_laws.specs.Lists.Plan.{cap_sum, parted}
use Rattle.rewrite_for_of.specs.ForOf.{is_identifier_f, takes_using_f, using_symbol_f, body_after_f}
use Rattle.table_laws.specs.Streamed.Places.{one_row, more_rows}

-- the rows of a record with two children and others
pub sides_rows : (h h₁ : Head) (k₁ : Forest) (h₂ : Head) (k₂ rest : Forest) (v : List Row)
    → rows_of (one h (more h₁ k₁ (more h₂ k₂ rest))) ++ v
    ≡ line h (count (more h₁ k₁ (more h₂ k₂ rest))) ∷ (rows_of (one h₁ k₁) ++ (rows_of (one h₂ k₂) ++ (rows_of rest ++ v)))
sides_rows h h₁ k₁ h₂ k₂ rest v =
    let k = more h₁ k₁ (more h₂ k₂ rest) in
    ap (λ (u : List Row). u ++ v) (one_row h k)
    ∙ ap (◌∷◌ (line h (count k))) (more_rows h₁ k₁ (more h₂ k₂ rest) v ∙ ap (◌++◌ (rows_of (one h₁ k₁))) (more_rows h₂ k₂ rest v))

-- a row after some others
row_after : (z : List ℕ) (a m : List Row) (x : Row) (v : List Row) (t : List ℕ) → t ≡ table (a ++ (m ++ x ∷ v)) z
    → row_f t (length a + length m) ≡ x
row_after z a m x v t e = rw (e, ← length-append a m, ← append_assoc a m (x ∷ v)) (row_at_lem z (a ++ m) x v)

n_here : (z : List ℕ) (h : Head) (k : Forest) (a v : List Row) (t : List ℕ) → t ≡ table (a ++ (rows_of (one h k) ++ v)) z
    → column_f t (length a) 4 ≡ count k
n_here z h k a v t e = rw (e, one_row h k) (n_at z a (line h (count k)) (rows_of k ++ v))

-- FEWER THAN THREE CHILDREN have no using to take
pub takes_none_law : (z : List ℕ) (h : Head) (k : Forest) (a v : List Row) (t : List ℕ) → t ≡ table (a ++ (rows_of (one h k) ++ v)) z
    → count k < 3 → takes_using_f t (length a) ≡ false
unfolding takes_using_f
takes_none_law z h k a v t e i = rw (n_here z h k a v t e, lt-ltb (count k) 3 i)

and-false : (b : Bool) → false ≡ (b && false)
and-false true = refl
and-false false = refl

-- the first of some Declarators, and its first child
identifier_by : (z : List ℕ) (k : Forest) (u : Bool) (a v : List Row) (t : List ℕ) → t ≡ table (a ++ (rows_of k ++ v)) z
    → (if eqb (count k) 0 then false else (u && is_identifier_f (row_f t (length a)))) ≡ (u && binds_identifier k)
unfolding is_identifier_f binds_identifier count
identifier_by z none u a v t e = and-false u
identifier_by z (more h k r) u a v t e =
    rw (ne_eqb (suc (count r)) 0 (λ i. omega arith), (parted z h k r a v t e).0, row_at_lem z a (line h (count k)) (rows_of k ++ (rows_of r ++ v)))

symbol_by : (z : List ℕ) (k : Forest) (a v : List Row) (t : List ℕ) → Begins k → t ≡ table (a ++ (rows_of k ++ v)) z
    → column_f t (length a + 1) 1 ≡ bound_symbol k
unfolding bound_symbol
symbol_by z none a v t s e = absurd s
symbol_by z (more h none r) a v t s e = absurd s
symbol_by z (more h (more h₁ k₁ r₁) r) a v t s e =
    let x = line h (count (more h₁ k₁ r₁)) in
    let a₁ = a ++ x ∷ [] in
    let w = rows_of r ++ v in
    let e₁ : t ≡ table (a₁ ++ (rows_of (more h₁ k₁ r₁) ++ w)) z = (parted z h (more h₁ k₁ r₁) r a v t e).0 ∙ simp append_assoc in
    rw (← length_snoc a x, (parted z h₁ k₁ r₁ a₁ w t e₁).0) (a_at z a₁ (line h₁ (count k₁)) (rows_of k₁ ++ (rows_of r₁ ++ w)))

module _ (z : List ℕ) (h h₁ : Head) (k₁ : Forest) (h₂ : Head) (k₂ : Forest) (h₃ : Head) (k₃ r : Forest) (a v : List Row) (t : List ℕ)
    (e : t ≡ table (a ++ (rows_of (one h (more h₁ k₁ (more h₂ k₂ (more h₃ k₃ r)))) ++ v)) z)
    (q : length a + size (one h (more h₁ k₁ (more h₂ k₂ (more h₃ k₃ r)))) ≤ 65535) where
  abbrev children : Forest
  children = more h₁ k₁ (more h₂ k₂ (more h₃ k₃ r))

  abbrev first : Row
  first = line h (count children)

  abbrev others : List Row
  others = rows_of (one h₂ k₂) ++ (rows_of (more h₃ k₃ r) ++ v)

  -- the left side's rows, and those below it
  beside : t ≡ table (a ++ first ∷ line h₁ (count k₁) ∷ (rows_of k₁ ++ others)) z
  beside = rw (sides_rows h h₁ k₁ h₂ k₂ (more h₃ k₃ r) v, one_row h₁ k₁) at e

  abbrev up_to : List Row
  up_to = a ++ first ∷ line h₁ (count k₁) ∷ []

  below : t ≡ table (up_to ++ (rows_of k₁ ++ others)) z
  below = beside ∙ simp append_assoc

  length_up : length up_to ≡ length a + 2
  length_up = length-append a (first ∷ line h₁ (count k₁) ∷ [])

  left_row : row_f t (capped (length a) 1) ≡ line h₁ (count k₁)
  unfolding size
  left_row =
      rw (cap_sum (length a) 1 (omega arith)) (row_after z a (first ∷ []) (line h₁ (count k₁)) (rows_of k₁ ++ others) t beside)

  -- THE USING OF A FOROF
  pub takes_using_law : takes_using_f t (length a) ≡ (is_using h₁ && binds_identifier k₁)
  unfolding takes_using_f count size
  takes_using_law =
      let two : capped (length a) 2 ≡ length up_to = cap_sum (length a) 2 (omega arith) ∙ sym length_up in
      rw (n_here z h children a v t e, le-ltb (count children) 3 (omega arith), left_row, two)
      (identifier_by z k₁ (is_using h₁) up_to others t below)

  -- its symbol
  pub using_symbol_law : Begins k₁ → using_symbol_f t (length a) ≡ bound_symbol k₁
  unfolding using_symbol_f size
  using_symbol_law s =
      let three : capped (length a) 3 ≡ length up_to + 1 = cap_sum (length a) 3 (omega arith) ∙ omega (arith, length_up) in
      rw three (symbol_by z k₁ up_to others t s below)

  -- the two sides, and the body's row behind them
  abbrev sides : Forest
  sides = more h₁ k₁ (one h₂ k₂)

  before : t ≡ table (a ++ (first ∷ rows_of sides ++ (rows_of (more h₃ k₃ r) ++ v))) z
  before = rw (sides_rows h h₁ k₁ h₂ k₂ (more h₃ k₃ r) v, ← more_rows h₁ k₁ (one h₂ k₂) (rows_of (more h₃ k₃ r) ++ v)) at e

  -- THE ROW BEFORE THE BODY, and the body's row
  pub body_after_law : body_after_f t (length a) ≡ length a + (1 + size (more h₁ k₁ (one h₂ k₂)))
  unfolding body_after_f count size
  body_after_law =
      let l = length_snoc a first in
      let w = rows_of (more h₃ k₃ r) ++ v in
      rw (cap_sum (length a) 1 (omega arith), ← l)
      (end_all z sides (a ++ first ∷ []) w t (before ∙ simp append_assoc) (omega arith) ∙ omega arith)

  pub body_row_law : row_f t (body_after_f t (length a)) ≡ line h₃ (count k₃)
  unfolding rows_of
  body_row_law =
      let m = first ∷ rows_of sides in
      let l : body_after_f t (length a) ≡ length a + length m = omega (arith, body_after_law, length_rows sides) in
      rw l (row_after z a m (line h₃ (count k₃)) ((rows_of k₃ ++ rows_of r) ++ v) t before)
