-- The rows of a ForOf that gives its using to its body.
-- Assumes nothing.
use Rattle.std.specs.Prelude.{◌≡◌, ℕ, suc, ◌+◌, ◌-◌, ◌≤◌, length}
use Rattle.std.proofs.Math.Path.{refl, ap}
use Rattle.std.proofs.Common.{sym, ◌∙◌}
use mathlib.Core.List.{List, [], ◌∷◌, ◌++◌, append_assoc}
use native.Mathlib.Omega.{arith}
use Rattle.std.proofs.Math.ListN.{length-append}
use Rattle.meaning.specs.Numbers.Tag
use Rattle.meaning.specs.Numbers.Kind
use Rattle.meaning.specs.Tree.{Head, hd, Forest, none, more, one, count, size, ◌&◌}
use Rattle.meaning.specs.Shapes.{block, declaration, read}
use Rattle.meaning.specs.ForOf.{rebind}
use Rattle.charge_laws.proofs.Counts.Enter.{Begins}
use Rattle.tables.specs.Table.{capped, closed_row_f}
use Rattle.tables.specs.Stream.{Buf, emit_f, copy_f}
use Rattle.tables.specs.declared.Row.{Row}
use Rattle.representation.specs.Gap.Cells.{table, free, line, rows_of, gapped, length_rows, count_&, size_&, rows_&}
use Rattle.representation.proofs.Gap.Rows.{length_snoc, next_gapped, pass_gapped, pass_as_gapped, emit_gapped}
use Rattle.representation.proofs.Gap.Streams.{copy_all}
use Rattle.table_laws.specs.Lists.Plan.{cap_sum}
use Rattle.table_laws.proofs.Lists.Try.{declare_law}
use Rattle.rewrite_for_of.specs.ForOf.{left_rows_f, using_rows_f, insert_rows_f, wrap_rows_f}
use Rattle.table_laws.specs.Streamed.Places.{cap_count, next_rows, more_rows, n_gapped}
use Rattle.table_laws.proofs.Streamed.Sides.{sides_rows}
use Rattle.spec_laws.specs.Trees.{count_size}

-- ---- up to the body

-- the rows of a Declaration whose first Declarator has a child
names_rows : (h d n : Head) (k r s : Forest) (v : List Row)
    → rows_of (one h (more d (more n k r) s)) ++ v
    ≡ line h (suc (count s)) ∷ line d (suc (count r)) ∷ line n (count k) ∷ (rows_of k ++ (rows_of r ++ (rows_of s ++ v)))
unfolding rows_of count
names_rows h d n k r s v = simp append_assoc

-- what is copied behind the Name, as one forest
abbrev behind : Forest → Forest → Forest → Head → Forest → Forest
behind k r s h₂ k₂ = k & (r & (s & one h₂ k₂))

module _ (k r s : Forest) (h₂ : Head) (k₂ : Forest) where
  behind_rows : (h d n : Head)
      → rows_of (one h (more d (more n k r) s)) ++ rows_of (one h₂ k₂)
      ≡ line h (suc (count s)) ∷ line d (suc (count r)) ∷ line n (count k) ∷ rows_of (behind k r s h₂ k₂)
  behind_rows h d n =
      rw (rows_& k (r & (s & one h₂ k₂)), rows_& r (s & one h₂ k₂), rows_& s (one h₂ k₂)) (names_rows h d n k r s (rows_of (one h₂ k₂)))

  behind_size : size (behind k r s h₂ k₂) ≡ size k + (size r + (size s + suc (size k₂)))
  unfolding size
  behind_size = omega (arith, size_& k (r & (s & one h₂ k₂)), size_& r (s & one h₂ k₂), size_& s (one h₂ k₂))

  behind_count : count k + (count r + suc (count s)) ≤ 65535
      → capped (capped (count k) (suc (count r) - 1)) (suc (count s)) ≡ count (behind k r s h₂ k₂)
  unfolding count
  behind_count q =
      let c : capped (count k) (suc (count r) - 1) ≡ count k + count r =
      cap_sum (count k) (suc (count r) - 1) (omega arith) ∙ omega arith in
      rw c
      (cap_sum (count k + count r) (suc (count s)) (omega arith)
      ∙ omega (arith, count_& k (r & (s & one h₂ k₂)), count_& r (s & one h₂ k₂), count_& s (one h₂ k₂)))

pub size_rebind : (y : ℕ) (f : Forest) → size (rebind y f) ≡ size f
unfolding rebind size
size_rebind y none = refl
size_rebind y (more h none r) = refl
size_rebind y (more h (more h₁ k₁ r₁) r) = refl

module _ (z : List ℕ) (temp : ℕ) where
  -- the first four rows
  four_rows : (x₀ x₁ x₂ x₃ : Row) (a : List Row) (g : ℕ) (v : List Row) → length a + g + 4 ≤ 65535
      → left_rows_f temp (gapped z a g (x₀ ∷ x₁ ∷ x₂ ∷ x₃ ∷ v))
      ≡ copy_f
      (gapped z (a ++ (x₀ ∷ closed_row_f 5 2 0 0 x₁.n ∷ x₂ ∷ closed_row_f 26 temp 0 0 x₃.n ∷ [])) g v)
      (capped (capped x₃.n (x₂.n - 1)) x₁.n)
  unfolding left_rows_f
  four_rows x₀ x₁ x₂ x₃ a g v q =
      let y₁ = closed_row_f 5 2 0 0 x₁.n in
      let y₃ = closed_row_f 26 temp 0 0 x₃.n in
      let a₁ = a ++ x₀ ∷ [] in
      let a₂ = a₁ ++ y₁ ∷ [] in
      let a₃ = a₂ ++ x₂ ∷ [] in
      let l₁ = length_snoc a x₀ in
      let l₂ = length_snoc a₁ y₁ in
      let l₃ = length_snoc a₂ x₂ in
      rw (
        pass_gapped z a g x₀ (x₁ ∷ x₂ ∷ x₃ ∷ v) (omega arith),
        n_gapped z a₁ g x₁ (x₂ ∷ x₃ ∷ v),
        pass_as_gapped z a₁ g x₁ (x₂ ∷ x₃ ∷ v) y₁ (omega arith),
        n_gapped z a₂ g x₂ (x₃ ∷ v),
        pass_gapped z a₂ g x₂ (x₃ ∷ v) (omega arith),
        n_gapped z a₃ g x₃ v,
        pass_as_gapped z a₃ g x₃ v y₃ (omega arith),
      )
      (ap (λ (u : List Row). copy_f (gapped z u g v) (capped (capped x₃.n (x₂.n - 1)) x₁.n)) (simp append_assoc))

  -- THE FOROF UP TO ITS BODY
  pub left_rows_law : (h h₁ : Head) (k₁ : Forest) (h₂ : Head) (k₂ rest : Forest) (a : List Row) (g : ℕ) (v : List Row) → Begins k₁
      → length a + g + size (one h (more h₁ k₁ (more h₂ k₂ rest))) ≤ 65535
      → left_rows_f temp (gapped z a g (rows_of (one h (more h₁ k₁ (more h₂ k₂ rest))) ++ v))
      ≡ gapped z
      (a
      ++ line h (count (more h₁ k₁ (more h₂ k₂ rest)))
      ∷ (rows_of (one (hd Tag.Declaration Kind.Const 0 0) (rebind temp k₁)) ++ rows_of (one h₂ k₂)))
      g (rows_of rest ++ v)
  unfolding rebind count size
  left_rows_law h h₁ none h₂ k₂ rest a g v s q = absurd s
  left_rows_law h h₁ (more d none r₁) h₂ k₂ rest a g v s q = absurd s
  left_rows_law h h₁ (more d (more n k r) r₁) h₂ k₂ rest a g v s q =
      let k₁ = more d (more n k r) r₁ in
      let x₀ = line h (count (more h₁ k₁ (more h₂ k₂ rest))) in
      let m = x₀ ∷ closed_row_f 5 2 0 0 (suc (count r₁)) ∷ line d (suc (count r)) ∷ closed_row_f 26 temp 0 0 (count k) ∷ [] in
      let w = rows_of rest ++ v in
      let f = behind k r r₁ h₂ k₂ in
      let b = rows_of (one h₂ k₂) in
      let e : rows_of (one h (more h₁ k₁ (more h₂ k₂ rest))) ++ v
      ≡ x₀ ∷ line h₁ (count k₁) ∷ line d (suc (count r)) ∷ line n (count k) ∷ (rows_of f ++ w) =
      sides_rows h h₁ k₁ h₂ k₂ rest v
      ∙ ap (◌∷◌ x₀) (sym (append_assoc (rows_of (one h₁ k₁)) b w) ∙ ap (λ (u : List Row). u ++ w) (behind_rows k r r₁ h₂ k₂ h₁ d n)) in
      ap (λ (u : List Row). left_rows_f temp (gapped z a g u)) e
      ∙ four_rows x₀ (line h₁ (count k₁)) (line d (suc (count r))) (line n (count k)) a g (rows_of f ++ w) (omega arith)
      ∙ ap (copy_f (gapped z (a ++ m) g (rows_of f ++ w)))
      (behind_count k r r₁ h₂ k₂ (omega (arith, count_size k, count_size r, count_size r₁)))
      ∙ copy_all z f (a ++ m) g w (omega (arith, length-append a m, behind_size k r r₁ h₂ k₂))
      ∙ rw (behind_rows k r r₁ h₂ k₂ (hd Tag.Declaration Kind.Const 0 0) d (hd Tag.Name temp 0 0)) (simp append_assoc)

  -- ---- the body

  -- `using x = _x`
  using_rows_law : (kind y : ℕ) (a : List Row) (g : ℕ) (v : List Row) → length a + 4 ≤ 65535
      → using_rows_f kind y temp (gapped z a (4 + g) v) ≡ gapped z (a ++ rows_of (declaration kind y (read temp))) g v
  unfolding using_rows_f rows_of count
  using_rows_law kind y a g v q =
      let m = closed_row_f 5 kind 0 0 1 ∷ closed_row_f 6 0 1 0 2 ∷ closed_row_f 26 y 0 0 0 ∷ [] in
      let x = closed_row_f 25 temp 0 0 0 in
      ap (λ (n : ℕ). using_rows_f kind y temp (gapped z a n v)) (omega arith)
      ∙ ap (λ (b : Buf). emit_f b x) (declare_law z kind y a (suc g) v (omega arith))
      ∙ emit_gapped z (a ++ m) g v x (omega (arith, length-append a m))
      ∙ ap (λ (u : List Row). gapped z u g v) (append_assoc a m (x ∷ []))

  module _ (kind y : ℕ) (h h₁ : Head) (k₁ : Forest) (h₂ : Head) (k₂ : Forest) (h₃ : Head) (k₃ r : Forest) (a v : List Row)
      (s : Begins k₁) where
    abbrev children : Forest
    children = more h₁ k₁ (more h₂ k₂ (more h₃ k₃ r))

    abbrev held : Forest
    held = declaration kind y (read temp)

    abbrev up_to : List Row
    up_to = a ++ line h (count children) ∷ (rows_of (one (hd Tag.Declaration Kind.Const 0 0) (rebind temp k₁)) ++ rows_of (one h₂ k₂))

    length_up : length up_to ≡ length a + (3 + (size k₁ + size k₂))
    unfolding size
    length_up =
        let m = rows_of (one (hd Tag.Declaration Kind.Const 0 0) (rebind temp k₁)) in
        omega (
          arith,
          length-append a (line h (count children) ∷ (m ++ rows_of (one h₂ k₂))),
          length-append m (rows_of (one h₂ k₂)),
          length_rows (one (hd Tag.Declaration Kind.Const 0 0) (rebind temp k₁)),
          length_rows (one h₂ k₂),
          size_rebind temp k₁,
        )

    -- the rows up to the body, its row, and those behind it
    closed : (h₀ : Head) (l : Forest)
        → up_to ++ line h₀ (count l) ∷ (rows_of l ++ (rows_of r ++ v))
        ≡ a ++ (rows_of (one h (more (hd Tag.Declaration Kind.Const 0 0) (rebind temp k₁) (more h₂ k₂ (one h₀ l & r)))) ++ v)
    unfolding count ◌&◌
    closed h₀ l =
        rw (sides_rows h (hd Tag.Declaration Kind.Const 0 0) (rebind temp k₁) h₂ k₂ (more h₀ l r) v, next_rows h₀ l r v) (simp append_assoc)

    held_count : (f : Forest) → suc (count f) ≡ count (held & f)
    unfolding count ◌&◌
    held_count f = refl

    -- the body's list begins with the using
    with_held : (h₀ : Head) (f : Forest) (m : List Row) → m ≡ rows_of f ++ (rows_of r ++ v)
        → (gapped z ((up_to ++ line h₀ (suc (count f)) ∷ []) ++ rows_of held) 0 m).t
        ≡ table (a ++ (rows_of (one h (more (hd Tag.Declaration Kind.Const 0 0) (rebind temp k₁) (more h₂ k₂ (one h₀ (held & f) & r)))) ++ v)) z
    unfolding gapped free
    with_held h₀ f m e =
        rw (← closed h₀ (held & f), ← held_count f, rows_& held f, e) (ap (λ (u : List Row). table u z) (simp append_assoc))

    -- THE USING GOES INTO THE BODY
    pub insert_rows_law : length a + 4 + size (one h (more h₁ k₁ (more h₂ k₂ (more h₃ k₃ r)))) ≤ 65535
        → (insert_rows_f kind y temp (gapped z a 4 (rows_of (one h (more h₁ k₁ (more h₂ k₂ (more h₃ k₃ r)))) ++ v))).t
        ≡ table
        (a
        ++ (rows_of
        (one h (more (hd Tag.Declaration Kind.Const 0 0) (rebind temp k₁) (more h₂ k₂ (one h₃ (declaration kind y (read temp) & k₃) & r)))) ++ v))
        z
    unfolding insert_rows_f size
    insert_rows_law q =
        let x = line h₃ (count k₃) in
        let x' = line h₃ (suc (count k₃)) in
        let w = rows_of k₃ ++ (rows_of r ++ v) in
        let l = length_up in
        let e : left_rows_f temp (gapped z a 4 (rows_of (one h children) ++ v)) ≡ gapped z up_to 4 (x ∷ w) =
        left_rows_law h h₁ k₁ h₂ k₂ (more h₃ k₃ r) a 4 v s q ∙ ap (gapped z up_to 4) (next_rows h₃ k₃ r v) in
        rw (e, next_gapped z up_to 4 x w, cap_count k₃ (omega arith), pass_as_gapped z up_to 4 x w x' (omega arith))
        (ap (λ (b : Buf). b.t) (using_rows_law kind y (up_to ++ x' ∷ []) 0 w (omega (arith, length_snoc up_to x'))) ∙ with_held h₃ k₃ w refl)

    -- THE USING GOES BEFORE THE BODY in a new Block
    pub wrap_rows_law : (scope : ℕ) → length a + 5 + size (one h (more h₁ k₁ (more h₂ k₂ (more h₃ k₃ r)))) ≤ 65535
        → (wrap_rows_f kind y temp scope (gapped z a 5 (rows_of (one h (more h₁ k₁ (more h₂ k₂ (more h₃ k₃ r)))) ++ v))).t
        ≡ table
        (a
        ++ (rows_of
        (one h
        (more (hd Tag.Declaration Kind.Const 0 0) (rebind temp k₁)
        (more h₂ k₂ (block scope (declaration kind y (read temp) & one h₃ k₃) & r)))) ++ v))
        z
    unfolding wrap_rows_f size count
    wrap_rows_law scope q =
        let x = closed_row_f 2 scope 0 0 2 in
        let w = rows_of (more h₃ k₃ r) ++ v in
        let l = length_up in
        rw (left_rows_law h h₁ k₁ h₂ k₂ (more h₃ k₃ r) a 5 v s q, emit_gapped z up_to 4 w x (omega arith))
        (ap (λ (b : Buf). b.t) (using_rows_law kind y (up_to ++ x ∷ []) 0 w (omega (arith, length_snoc up_to x)))
        ∙ with_held (hd Tag.Block scope 0 0) (one h₃ k₃) w (more_rows h₃ k₃ r v))
