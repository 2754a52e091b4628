-- A loop over the rows of some Declarators: it visits the names that they bind, in their order.
-- Assumes nothing.
use Rattle.std.specs.Prelude.{if◌then◌else◌, ◌≡◌, Bool}
use Rattle.std.proofs.Math.Path.{refl, sym, ap, ap₂}
use Rattle.std.proofs.Common.{◌∙◌, zero-add, add-zero, arith, length-append}
use Rattle.std.proofs.Math.Bool.{true, false}
use mathlib.Core.List.{List, [], ◌∷◌, ◌++◌, append_assoc, append-nil}
use Prim.Native.Nat.{ℕ, suc, ◌+◌, ◌-◌, ◌≤◌, ◌<◌}
use Rattle.std.proofs.Math.Dec.{eqb}
use Rattle.std.proofs.Math.ListN.{length}
use Rattle.meaning.specs.Numbers.Tag
use Rattle.meaning.specs.Tree.{Head, Forest, none, more, count, size}
use Rattle.meaning.specs.Contexts.{names_in}
use Rattle.meaning.specs.Program.{bound_names}
use Rattle.tables.specs.Loops.{until, stopped}
use Rattle.tables.specs.Table.{cap_one, capped, column_f, row_f}
use Rattle.tables.specs.declared.Row.{Row}
use Rattle.representation.specs.Gap.Cells.{table, line, rows_of, length_rows}
use Rattle.representation.proofs.Gap.Rows.{row_at_lem, length_snoc}
use Rattle.table_laws.specs.Lists.Plan.{cap_sum}
use Rattle.rewrite_items.specs.Names.{names, first_names, is_name_f, next_name_f, names_done_f}
use Rattle.rewrite_items.specs.declared.Names.{Names}
use Rattle.spec_laws.specs.Bools.{and-false, one_less, some}
use Rattle.spec_laws.specs.Trees.{count_size}

-- what names make of a state, one after another
abbrev pub visited : {A : Type 0} → (ℕ → A → A) → List ℕ → A → A
visited go [] x = x
visited go (y ∷ ys) x = visited go ys (go y x)

visited_++ : {A : Type 0} (go : ℕ → A → A) (ns ys : List ℕ) (x : A) → visited go (ns ++ ys) x ≡ visited go ys (visited go ns x)
visited_++ go [] ys x = refl
visited_++ go (y ∷ ns) ys x = visited_++ go ns ys (go y x)

-- A loop over the rows w, which stand after others: its states are by what was made of the names before, and the names still to come.
pub record Visiting (A S : Type 0) (Fits : A → List ℕ → Type 0) (z : List ℕ) (base : ℕ) (w : List Row) : Type 0 where
  pub stop : S → Bool
  pub step : S → S
  pub state : A → List ℕ → Names → S
  pub go : ℕ → A → A
  pub before : A → List ℕ → List Row
  pub stops : (x : A) (ys : List ℕ) (s : Names) → stop (state x ys s) ≡ names_done_f s
  pub long : (x : A) (ys : List ℕ) → Fits x ys → length (before x ys) ≡ base
  pub next : (x : A) (y : ℕ) (ys : List ℕ) → Fits x (y ∷ ys) → Fits (go y x) ys
  pub passes : (x : A) (ys : List ℕ) (s : Names) → Fits x ys → is_name_f (table (before x ys ++ w) z) s ≡ false
      → step (state x ys s) ≡ state x ys (next_name_f (table (before x ys ++ w) z) s)
  pub visits : (x : A) (y : ℕ) (ys : List ℕ) (s : Names) → Fits x (y ∷ ys)
      → (let t = table (before x (y ∷ ys) ++ w) z in
      is_name_f t s ≡ true → column_f t s.at.0 1 ≡ y → step (state x (y ∷ ys) s) ≡ state (go y x) ys (next_name_f t s))

module _ {A S : Type 0} {Fits : A → List ℕ → Type 0} {z : List ℕ} {base : ℕ} {w : List Row} (L : Visiting A S Fits z base w) where
  abbrev run : ℕ → S → S
  run m s = until m L.stop L.step s

  -- a state after the rows b of w
  abbrev standing : A → List ℕ → List Row → ℕ → ℕ → ℕ → S
  standing x ys b declarators children below = L.state x ys (names (base + length b) declarators children below)

  turn : (m : ℕ) (x : A) (ys : List ℕ) (s : Names) → names_done_f s ≡ false
      → run (suc m) (L.state x ys s) ≡ run m (L.step (L.state x ys s))
  unfolding until
  turn m x ys s e = rw (L.stops x ys s ∙ e)

  -- ---- the next row, with n children

  module _ (h : Head) (n : ℕ) (b u : List Row) (e : w ≡ b ++ line h n ∷ u) (q : base + length b < 65535) where
    abbrev after : List Row
    after = b ++ line h n ∷ []

    next_is : capped (base + length b) 1 ≡ base + length after
    next_is = cap_one (base + length b) q ∙ omega (arith, length_snoc b (line h n))

    row_is : (x : A) (ys : List ℕ) → Fits x ys → row_f (table (L.before x ys ++ w) z) (base + length b) ≡ line h n
    row_is x ys p =
        let a = L.before x ys in
        rw (e, ← append_assoc a b (line h n ∷ u), ← L.long x ys p, ← length-append a b) (row_at_lem z (a ++ b) (line h n) u)

    tag_is : (x : A) (ys : List ℕ) → Fits x ys → column_f (table (L.before x ys ++ w) z) (base + length b) 0 ≡ h.tag
    unfolding row_f
    tag_is x ys p = ap (λ (r : Row). r.tag) (row_is x ys p)

    a_is : (x : A) (ys : List ℕ) → Fits x ys → column_f (table (L.before x ys ++ w) z) (base + length b) 1 ≡ h.a
    unfolding row_f
    a_is x ys p = ap (λ (r : Row). r.a) (row_is x ys p)

    pass_below : (x : A) (ys : List ℕ) (d c s m : ℕ) → Fits x ys → s + n ≤ 65535
        → run (suc m) (standing x ys b d c (suc s)) ≡ run m (standing x ys after d c (s + n))
    unfolding is_name_f next_name_f names_done_f
    pass_below x ys d c s m p i =
        let o = names (base + length b) d c (suc s) in
        turn m x ys o (rw (some s, and-false (eqb c 0)) (and-false (eqb d 0)))
        ∙ ap (run m) (L.passes x ys o p (rw (some s)) ∙ rw (some s, row_is x ys p, next_is, one_less s, cap_sum s n i))

    pass_child : (x : A) (ys : List ℕ) (d c m : ℕ) → Fits x ys → eqb h.tag Tag.Name ≡ false
        → run (suc m) (standing x ys b d (suc c) 0) ≡ run m (standing x ys after d c n)
    unfolding is_name_f next_name_f names_done_f
    pass_child x ys d c m p f =
        let o = names (base + length b) d (suc c) 0 in
        turn m x ys o (rw (some c) (and-false (eqb d 0)))
        ∙ ap (run m) (L.passes x ys o p (rw (some c, tag_is x ys p) f) ∙ rw (some c, row_is x ys p, next_is, one_less c))

    visit_child : (x : A) (ys : List ℕ) (d c m : ℕ) → Fits x (h.a ∷ ys) → eqb h.tag Tag.Name ≡ true
        → run (suc m) (standing x (h.a ∷ ys) b d (suc c) 0) ≡ run m (standing (L.go h.a x) ys after d c n)
    unfolding is_name_f next_name_f names_done_f
    visit_child x ys d c m p f =
        let y = h.a in
        let o = names (base + length b) d (suc c) 0 in
        turn m x (y ∷ ys) o (rw (some c) (and-false (eqb d 0)))
        ∙ ap (run m)
        (L.visits x y ys o p (rw (some c, tag_is x (y ∷ ys) p) f) (a_is x (y ∷ ys) p)
        ∙ rw (some c, row_is x (y ∷ ys) p, next_is, one_less c))

    -- a Declarator is entered, any other record passed over
    enter : (x : A) (ys : List ℕ) (d m : ℕ) → Fits x ys → eqb h.tag Tag.Declarator ≡ true
        → run (suc m) (standing x ys b (suc d) 0 0) ≡ run m (standing x ys after d n 0)
    unfolding is_name_f next_name_f names_done_f
    enter x ys d m p f =
        let o = names (base + length b) (suc d) 0 0 in
        turn m x ys o (rw (some d)) ∙ ap (run m) (L.passes x ys o p refl ∙ rw (row_is x ys p, f, next_is, one_less d))

    pass : (x : A) (ys : List ℕ) (d m : ℕ) → Fits x ys → eqb h.tag Tag.Declarator ≡ false
        → run (suc m) (standing x ys b (suc d) 0 0) ≡ run m (standing x ys after d 0 n)
    unfolding is_name_f next_name_f names_done_f
    pass x ys d m p f =
        let o = names (base + length b) (suc d) 0 0 in
        turn m x ys o (rw (some d)) ∙ ap (run m) (L.passes x ys o p refl ∙ rw (row_is x ys p, f, next_is, one_less d))

  -- ---- lists of records

  -- after a record and what is below it
  abbrev behind : List Row → Head → Forest → List Row
  behind b h k = (b ++ line h (count k) ∷ []) ++ rows_of k

  length_behind : (b : List Row) (h : Head) (k : Forest) → length (behind b h k) ≡ length b + suc (size k)
  length_behind b h k =
      let b₁ = b ++ line h (count k) ∷ [] in
      omega (arith, length-append b₁ (rows_of k), length_snoc b (line h (count k)), length_rows k)

  -- below a child of a Declarator, or a record that is none
  below_list : (f : Forest) (b u : List Row) (x : A) (ys : List ℕ) (d c s m : ℕ) → Fits x ys → w ≡ b ++ (rows_of f ++ u)
      → base + length b + size f + s ≤ 65535
      → run (size f + m) (standing x ys b d c (count f + s)) ≡ run m (standing x ys (b ++ rows_of f) d c s)
  unfolding rows_of count size
  below_list none b u x ys d c s m p e i = simp (append-nil, zero-add)
  below_list (more h k r) b u x ys d c s m p e i =
      let b₁ = b ++ line h (count k) ∷ [] in
      let l₁ = length_snoc b (line h (count k)) in
      let l₂ = length_behind b h k in
      let c₁ = count_size k in
      let c₂ = count_size r in
      ap₂ (λ (i n : ℕ). run i (standing x ys b d c n)) (omega arith) (omega arith)
      ∙ pass_below h (count k) b (rows_of k ++ rows_of r ++ u) (e ∙ simp append_assoc) (omega arith) x ys d c (count r + s)
      (size k + (size r + m)) p (omega arith)
      ∙ ap (λ (n : ℕ). run (size k + (size r + m)) (standing x ys b₁ d c n)) (omega arith)
      ∙ below_list k b₁ (rows_of r ++ u) x ys d c (count r + s) (size r + m) p (e ∙ simp append_assoc) (omega arith)
      ∙ below_list r (behind b h k) u x ys d c s m p (e ∙ simp append_assoc) (omega arith)
      ∙ simp append_assoc

  below_all : (h : Head) (k : Forest) (b u : List Row) (x : A) (ys : List ℕ) (d c m : ℕ) → Fits x ys
      → w ≡ b ++ line h (count k) ∷ (rows_of k ++ u) → base + length b + suc (size k) ≤ 65535
      → run (size k + m) (standing x ys (b ++ line h (count k) ∷ []) d c (count k)) ≡ run m (standing x ys (behind b h k) d c 0)
  below_all h k b u x ys d c m p e i =
      let b₁ = b ++ line h (count k) ∷ [] in
      ap (λ (n : ℕ). run (size k + m) (standing x ys b₁ d c n)) (sym (add-zero (count k)))
      ∙ below_list k b₁ u x ys d c 0 m p (e ∙ simp append_assoc) (omega (arith, length_snoc b (line h (count k))))

  -- what is left still fits
  fits_after : (ns : List ℕ) (x : A) (ys : List ℕ) → Fits x (ns ++ ys) → Fits (visited L.go ns x) ys
  fits_after [] x ys p = p
  fits_after (y ∷ ns) x ys p = fits_after ns (L.go y x) ys (L.next x y (ns ++ ys) p)

  -- the first child of some, by whether it is a Name; below it nothing is visited
  first_child : (c : Bool) (h : Head) (k : Forest) → eqb h.tag Tag.Name ≡ c
      → (b u : List Row) (x : A) (ys : List ℕ) (d n m : ℕ) → Fits x ((if c then h.a ∷ [] else []) ++ ys)
      → w ≡ b ++ line h (count k) ∷ (rows_of k ++ u) → base + length b + suc (size k) ≤ 65535
      → run (suc (size k + m)) (standing x ((if c then h.a ∷ [] else []) ++ ys) b d (suc n) 0)
      ≡ run m (standing (visited L.go (if c then h.a ∷ [] else []) x) ys (behind b h k) d n 0)
  first_child true h k o b u x ys d n m p e i =
      visit_child h (count k) b (rows_of k ++ u) e (omega arith) x ys d n (size k + m) p o
      ∙ below_all h k b u (L.go h.a x) ys d n m (L.next x h.a ys p) e i
  first_child false h k o b u x ys d n m p e i =
      pass_child h (count k) b (rows_of k ++ u) e (omega arith) x ys d n (size k + m) p o ∙ below_all h k b u x ys d n m p e i

  names_first : (h : Head) (k r : Forest) → names_in (more h k r) ≡ (if eqb h.tag Tag.Name then h.a ∷ [] else []) ++ names_in r
  unfolding names_in
  names_first h k r = by (eqb h.tag Tag.Name)
    where
      by : (c : Bool) → (if c then h.a ∷ names_in r else names_in r) ≡ (if c then h.a ∷ [] else []) ++ names_in r
      by true = refl
      by false = refl

  -- the children of a Declarator
  children_list : (f : Forest) (b u : List Row) (x : A) (ys : List ℕ) (d m : ℕ) → Fits x (names_in f ++ ys) → w ≡ b ++ (rows_of f ++ u)
      → base + length b + size f ≤ 65535
      → run (size f + m) (standing x (names_in f ++ ys) b d (count f) 0)
      ≡ run m (standing (visited L.go (names_in f) x) ys (b ++ rows_of f) d 0 0)
  unfolding rows_of count size names_in
  children_list none b u x ys d m p e i = simp (append-nil, zero-add)
  children_list (more h k r) b u x ys d m p e i =
      let c = eqb h.tag Tag.Name in
      let own : List ℕ = if c then h.a ∷ [] else [] in
      let e₁ : names_in (more h k r) ++ ys ≡ own ++ (names_in r ++ ys) =
      rw (names_first h k r) (append_assoc own (names_in r) ys) in
      let p₁ = rw e₁ at p in
      ap₂ (λ (j : ℕ) (ns : List ℕ). run j (standing x ns b d (suc (count r)) 0)) (omega arith) e₁
      ∙ first_child c h k refl b (rows_of r ++ u) x (names_in r ++ ys) d (count r) (size r + m) p₁ (e ∙ simp append_assoc) (omega arith)
      ∙ children_list r (behind b h k) u (visited L.go own x) ys d m (fits_after own x (names_in r ++ ys) p₁) (e ∙ simp append_assoc)
      (omega (arith, length_behind b h k))
      ∙ rw (names_first h k r, visited_++ L.go own (names_in r) x) (simp append_assoc)

  -- the first of some records, by whether it is a Declarator
  first_record : (c : Bool) (h : Head) (k : Forest) → eqb h.tag Tag.Declarator ≡ c
      → (b u : List Row) (x : A) (ys : List ℕ) (d m : ℕ) → Fits x ((if c then names_in k else []) ++ ys)
      → w ≡ b ++ line h (count k) ∷ (rows_of k ++ u) → base + length b + suc (size k) ≤ 65535
      → run (suc (size k + m)) (standing x ((if c then names_in k else []) ++ ys) b (suc d) 0 0)
      ≡ run m (standing (visited L.go (if c then names_in k else []) x) ys (behind b h k) d 0 0)
  first_record true h k o b u x ys d m p e i =
      enter h (count k) b (rows_of k ++ u) e (omega arith) x (names_in k ++ ys) d (size k + m) p o
      ∙ children_list k (b ++ line h (count k) ∷ []) u x ys d m p (e ∙ simp append_assoc)
      (omega (arith, length_snoc b (line h (count k))))
  first_record false h k o b u x ys d m p e i =
      pass h (count k) b (rows_of k ++ u) e (omega arith) x ys d (size k + m) p o ∙ below_all h k b u x ys d 0 m p e i

  -- all records
  records_list : (f : Forest) (b u : List Row) (x : A) (m : ℕ) → Fits x (bound_names f) → w ≡ b ++ (rows_of f ++ u)
      → base + length b + size f ≤ 65535
      → run (size f + m) (standing x (bound_names f) b (count f) 0 0)
      ≡ run m (standing (visited L.go (bound_names f) x) [] (b ++ rows_of f) 0 0 0)
  unfolding rows_of count size bound_names
  records_list none b u x m p e i = simp (append-nil, zero-add)
  records_list (more h k r) b u x m p e i =
      let c = eqb h.tag Tag.Declarator in
      let own : List ℕ = if c then names_in k else [] in
      ap (λ (j : ℕ). run j (standing x (own ++ bound_names r) b (suc (count r)) 0 0)) (omega arith)
      ∙ first_record c h k refl b (rows_of r ++ u) x (bound_names r) (count r) (size r + m) p (e ∙ simp append_assoc) (omega arith)
      ∙ records_list r (behind b h k) u (visited L.go own x) m (fits_after own x (bound_names r) p) (e ∙ simp append_assoc)
      (omega (arith, length_behind b h k))
      ∙ rw (visited_++ L.go own (bound_names r) x) (simp append_assoc)

  -- THE NAMES OF SOME DECLARATORS are visited, and no others
  pub visits_all : (f : Forest) (u : List Row) (x : A) → Fits x (bound_names f) → w ≡ rows_of f ++ u → base + size f ≤ 65535
      → until 65535 L.stop L.step (L.state x (bound_names f) (first_names base (count f)))
      ≡ L.state (visited L.go (bound_names f) x) [] (first_names (base + size f) 0)
  unfolding names_done_f
  visits_all f u x p e i =
      let m = 65535 - size f in
      let x' = visited L.go (bound_names f) x in
      let s = standing x' [] (rows_of f) 0 0 0 in
      ap₂ (λ (j n : ℕ). run j (L.state x (bound_names f) (first_names n (count f)))) (omega arith) (sym (add-zero base))
      ∙ records_list f [] u x m p e (omega arith)
      ∙ sym (stopped m L.stop L.step _ s refl (L.stops x' [] (first_names (base + length (rows_of f)) 0)))
      ∙ ap (λ (n : ℕ). L.state x' [] (first_names (base + n) 0)) (length_rows f)
