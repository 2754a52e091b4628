-- The innermost open row, and the scopes of the open records.
-- Assumes nothing.
use Rattle.std.specs.Prelude.{if◌then◌else◌, ◌≡◌, refl, Bool, true, false, not, ℕ, zero, suc, ◌+◌, ◌-◌, ◌≤◌, length}
use Rattle.std.proofs.Common.{sym, ap, ap₂, ◌∙◌, not-suc-le-zero, arith, ne_eqb}
use mathlib.Core.List.{List, [], ◌∷◌, ◌++◌, append_assoc}
use Rattle.std.proofs.Math.Dec.{eqb}
use Rattle.std.proofs.Math.ListN.{length-append}
use Rattle.meaning.specs.Tree.{one_of, Head, Forest, count}
use Rattle.meaning.specs.Grammar.{scope_of, below}
use Rattle.meaning.specs.Walk.{Crumb, crumb, current_scope, hoist_scope}
use Rattle.tables.specs.Loops.{until, stopped}
use Rattle.tables.specs.Table.{column_f, row_f, head_f}
use Rattle.tables.specs.declared.Row.{Row}
use Rattle.path.specs.Path.{scope_at_f, has_scope_f, up_f, current_scope_f, is_hoist_f, hoist_scope_f}
use Rattle.representation.specs.Gap.Cells.{table, rows_of}
use Rattle.representation.proofs.Gap.Rows.{row_at_lem, tag_at, up_at, left_at}
use Rattle.representation.specs.Spots.Spots.{open_line, open_rows_of}

-- ---- how many rows are open

-- whatever the children of the innermost
pub same_number : (path : List Crumb) (n l n' l' : ℕ) → length (open_rows_of path n l) ≡ length (open_rows_of path n' l')
unfolding open_rows_of
same_number [] n l n' l' = refl
same_number (crumb h before after ∷ path) n l n' l' = simp length-append

-- at least one for each open record
pub depth_law : (path : List Crumb) (n l : ℕ) → length path ≤ length (open_rows_of path n l)
unfolding open_rows_of
depth_law [] n l = omega arith
depth_law (crumb h before after ∷ path) n l =
    simp length-append (omega (arith, depth_law path (count before + suc (count after)) (count after)))

-- ---- one turn of the searches

choose : (f : ℕ → ℕ) (b : Bool) (i j : ℕ) → f (if b then i else j) ≡ (if b then f i else f j)
choose f true i j = refl
choose f false i j = refl

choose_not : (b : Bool) (i j : ℕ) → (if not b then i else j) ≡ (if b then j else i)
choose_not true i j = refl
choose_not false i j = refl

-- what is found at a record with a tag and a scope, and above it
abbrev hoisted : ℕ → ℕ → ℕ → ℕ
hoisted tag s out = if one_of (1 ∷ 13 ∷ 16 ∷ []) tag then s else out

-- at a row
module _ (t : List ℕ) (i m : ℕ) (e : eqb i 0 ≡ false) where
  current_turn : current_scope_f t i (suc m) ≡ below (current_scope_f t (up_f t i) m) (scope_at_f t i)
  unfolding current_scope_f until has_scope_f
  current_turn =
      let none = eqb (scope_at_f t i) 0 in
      rw e (choose (scope_at_f t) (not none) i _ ∙ choose_not none (scope_at_f t i) _)

  hoist_turn : hoist_scope_f t i (suc m) ≡ hoisted (column_f t (i - 1) 0) (scope_at_f t i) (hoist_scope_f t (up_f t i) m)
  unfolding hoist_scope_f until is_hoist_f
  hoist_turn = rw e (choose (scope_at_f t) (one_of (1 ∷ 13 ∷ 16 ∷ []) (column_f t (i - 1) 0)) i _)

-- past the outermost
no_current : (t : List ℕ) (m : ℕ) → current_scope_f t 0 m ≡ 0
unfolding current_scope_f has_scope_f scope_at_f
no_current t m = ap (scope_at_f t) (sym (stopped m (has_scope_f t) (up_f t) _ 0 refl refl))

no_hoist : (t : List ℕ) (m : ℕ) → hoist_scope_f t 0 m ≡ 0
unfolding hoist_scope_f is_hoist_f scope_at_f
no_hoist t m = ap (scope_at_f t) (sym (stopped m (is_hoist_f t) (up_f t) _ 0 refl refl))

-- ---- the innermost open row

-- the rows up to the row around it, and all rows before it
abbrev pub outer : Forest → Forest → List Crumb → List Row
outer before after path = open_rows_of path (count before + suc (count after)) (count after)

abbrev pub under : Forest → Forest → List Crumb → List Row
under before after path = outer before after path ++ rows_of before

module _ (h : Head) (before after : Forest) (path : List Crumb) (n l : ℕ) where
  abbrev opens : List Row
  opens = open_rows_of (crumb h before after ∷ path) n l

  abbrev inner : Row
  inner = open_line h n (length (outer before after path)) l

  pub inner_row : (v : List Row) → opens ++ v ≡ under before after path ++ inner ∷ v
  unfolding open_rows_of
  inner_row v = simp append_assoc

  pub inner_number : length opens ≡ suc (length (under before after path))
  unfolding open_rows_of
  inner_number = simp length-append (omega arith)

  pub some_open : eqb (length opens) 0 ≡ false
  some_open = ne_eqb (length opens) 0 (λ e. omega (arith, inner_number))

  module _ (v : List Row) (z : List ℕ) where
    -- what is done to it
    pub at_inner : {A : Type 0} (f : List ℕ → ℕ → A)
        → (let u = under before after path in f (table (opens ++ v) z) (length opens - 1) ≡ f (table (u ++ inner ∷ v) z) (length u))
    at_inner f = ap₂ (λ (u : List Row) (i : ℕ). f (table u z) i) (inner_row v) (omega (arith, inner_number))

    -- what it says
    pub inner_tag : column_f (table (opens ++ v) z) (length opens - 1) 0 ≡ h.tag
    inner_tag = at_inner (λ t i. column_f t i 0) ∙ tag_at z (under before after path) inner v

    pub inner_up : up_f (table (opens ++ v) z) (length opens) ≡ length (outer before after path)
    unfolding up_f
    inner_up = at_inner (λ t i. column_f t i 5) ∙ up_at z (under before after path) inner v

    pub inner_left : column_f (table (opens ++ v) z) (length opens - 1) 6 ≡ l
    inner_left = at_inner (λ t i. column_f t i 6) ∙ left_at z (under before after path) inner v

    inner_scope : scope_at_f (table (opens ++ v) z) (length opens) ≡ scope_of h
    unfolding scope_at_f
    inner_scope = rw some_open (ap (λ (r : Row). scope_of (head_f r)) (at_inner row_f ∙ row_at_lem z (under before after path) inner v))

    -- a search goes on at the row around it
    abbrev above : (List ℕ → ℕ → ℕ) → ℕ
    above f = let u = outer before after path in f (table (u ++ (rows_of before ++ inner ∷ v)) z) (length u)

    go_above : (f : List ℕ → ℕ → ℕ) → f (table (opens ++ v) z) (up_f (table (opens ++ v) z) (length opens)) ≡ above f
    go_above f =
        let e = inner_row v ∙ append_assoc (outer before after path) (rows_of before) (inner ∷ v) in
        ap₂ f (ap (λ (u : List Row). table u z) e) inner_up

    current_here : (m : ℕ)
        → current_scope_f (table (opens ++ v) z) (length opens) (suc m) ≡ below (above (λ t i. current_scope_f t i m)) (scope_of h)
    current_here m = current_turn _ _ m some_open ∙ ap₂ below (go_above (λ t i. current_scope_f t i m)) inner_scope

    hoist_here : (m : ℕ)
        → hoist_scope_f (table (opens ++ v) z) (length opens) (suc m) ≡ hoisted h.tag (scope_of h) (above (λ t i. hoist_scope_f t i m))
    hoist_here m =
        let e = go_above (λ t i. hoist_scope_f t i m) in
        hoist_turn _ _ m some_open ∙ (λ j. hoisted (inner_tag j) (inner_scope j) (e j))

-- ---- the scopes

-- THE CURRENT SCOPE, with a turn for each open record
pub current_law : (path : List Crumb) (n l : ℕ) (v : List Row) (z : List ℕ) (m : ℕ) → length path ≤ m
    → current_scope_f (table (open_rows_of path n l ++ v) z) (length (open_rows_of path n l)) m ≡ current_scope path
unfolding current_scope open_rows_of
current_law [] n l v z m q = no_current (table v z) m
current_law (crumb h before after ∷ path) n l v z zero q = absurd (not-suc-le-zero q)
current_law (crumb h before after ∷ path) n l v z (suc m) q =
    current_here h before after path n l v z m
    ∙ ap (λ (s : ℕ). below s (scope_of h)) (current_law path _ _ (rows_of before ++ inner h before after path n l ∷ v) z m (omega arith))

-- THE SCOPE FOR HOISTED NAMES
pub hoist_law : (path : List Crumb) (n l : ℕ) (v : List Row) (z : List ℕ) (m : ℕ) → length path ≤ m
    → hoist_scope_f (table (open_rows_of path n l ++ v) z) (length (open_rows_of path n l)) m ≡ hoist_scope path
unfolding hoist_scope open_rows_of
hoist_law [] n l v z m q = no_hoist (table v z) m
hoist_law (crumb h before after ∷ path) n l v z zero q = absurd (not-suc-le-zero q)
hoist_law (crumb h before after ∷ path) n l v z (suc m) q =
    hoist_here h before after path n l v z m
    ∙ ap (hoisted h.tag (scope_of h)) (hoist_law path _ _ (rows_of before ++ inner h before after path n l ∷ v) z m (omega arith))
