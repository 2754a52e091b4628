-- Visits made in one call: the next one, and those behind it that only enter a record. They are visits like any other.
-- Assumes nothing.
use Rattle.std.specs.Prelude.{if◌then◌else◌, ◌≡◌, Bool, true, false, not, ◌&&◌, List, [], ◌∷◌, eqb, ltb}
use Rattle.std.proofs.Math.Path.{refl, ap}
use Rattle.std.proofs.Common.{sym, ◌∙◌}
use Prim.Native.Nat.{ℕ, zero, suc, ◌+◌, ◌-◌, ◌≤◌, ◌<◌}
use native.Mathlib.Omega.{arith}
use borrow.Author.Tests.{not-true, ltb-true, ltb-false, lt-leb, le-leb, ne_eqb}
use Rattle.meaning.specs.Numbers.Tag
use Rattle.meaning.specs.Tree.{one_of}
use Rattle.spec_laws.specs.Tags.{clash, and_left, and_right, or_none}
use Rattle.tables.specs.Columns.RecordTable
use Rattle.tables.specs.Table.{column_f}
use Rattle.tables.specs.Loops.{turns, turns_more, until}
use Rattle.path.specs.Path.{Tables, tables, on_records, enter_f}
use Rattle.path.specs.declared.Walk.{Walk}
use Rattle.walk.specs.Visit.{rewrite_f, leave_f, is_leaving_f, is_over_f, visit_f}
use Rattle.walk.specs.Over.{is_over_in, until_over}

-- the tags that may ask for a rewrite
abbrev pub rewritten : List ℕ
rewritten =
    Tag.Program ∷ Tag.Block ∷ Tag.Label ∷ Tag.For ∷ Tag.ForOf ∷ Tag.Switch ∷ Tag.Try ∷ Tag.Body ∷ []

-- the next visit enters a record with another tag
unfoldable pub is_plain_f : List ℕ → Walk → Bool
is_plain_f t w =
    not (is_leaving_f t w) && (ltb w.gap.0 w.end.0 && not (one_of rewritten (column_f t w.gap.0 RecordTable.Tag)))

-- the record table, the walk, and how many visits were made
pub record Entering : Type 0 where
  pub records : List ℕ
  pub walk : Walk
  pub visits : ℕ

abbrev pub entering : List ℕ → Walk → ℕ → Entering
entering t w k = record { records = t; walk = w; visits = k }

abbrev pub stops_f : Entering → Bool
stops_f e = not (eqb e.visits 0) && not (is_plain_f e.records e.walk)

unfoldable pub enter_one_f : Entering → Entering
enter_one_f e =
    let q = enter_f (on_records e.records e.walk) in
    entering q.records q.walk (e.visits + 1)

-- a record is entered, and those behind it with such a tag, n at most
unfoldable pub enter_some_f : ℕ → List ℕ → Walk → Entering
enter_some_f n t w = until n stops_f enter_one_f (entering t w 0)

-- the tables, and how many visits were made
pub record Visiting : Type 0 where
  pub tables : Tables
  pub visits : ℕ

abbrev pub visiting : Tables → ℕ → Visiting
visiting q k = record { tables = q; visits = k }

-- THE NEXT VISITS, n at most, on any tables; none once the walk is over
unfoldable pub visit_some_f : ℕ → Tables → Visiting
visit_some_f n q =
    let q₁ = rewrite_f q in
    let e = enter_some_f n q₁.records q₁.walk in
    if eqb n 0 then visiting q 0
    else if is_leaving_f q.records q.walk then visiting (leave_f q) 1
    else if ltb q.walk.gap.0 q.walk.end.0 then visiting (tables e.records q₁.scopes q₁.symbols e.walk) e.visits
    else visiting q 0

-- ---- they are visits

-- no other tag asks for a rewrite
no_rewrite : (q : Tables) → one_of rewritten (column_f q.records q.walk.gap.0 RecordTable.Tag) ≡ false → rewrite_f q ≡ q
unfolding rewrite_f
no_rewrite q e =
    let t = column_f q.records q.walk.gap.0 RecordTable.Tag in
    let n₁ = or_none (eqb t Tag.Program) _ e in
    let n₂ = or_none (eqb t Tag.Block) _ n₁.1 in
    let n₄ = or_none (eqb t Tag.Label) _ n₂.1 in
    let n₇ = or_none (eqb t Tag.For) _ n₄.1 in
    let n₈ = or_none (eqb t Tag.ForOf) _ n₇.1 in
    let n₉ = or_none (eqb t Tag.Switch) _ n₈.1 in
    let n₁₁ = or_none (eqb t Tag.Try) _ n₉.1 in
    let n₁₄ = or_none (eqb t Tag.Body) _ n₁₁.1 in
    rw (n₁.0, n₂.0, n₄.0, n₇.0, n₈.0, n₉.0, n₁₁.0, n₁₄.0)

module _ (r s y : List ℕ) (w : Walk) (plain : is_plain_f r w ≡ true) where
  parts : (is_leaving_f r w ≡ false) × (ltb w.gap.0 w.end.0 ≡ true)
      × (one_of rewritten (column_f r w.gap.0 RecordTable.Tag) ≡ false)
  unfolding is_plain_f
  parts =
      let rest = and_right (not (is_leaving_f r w)) _ plain in
      (not-true _ (and_left (not (is_leaving_f r w)) _ plain), and_left _ _ rest, not-true _ (and_right (ltb w.gap.0 w.end.0) _ rest))

  pub plain_visit : visit_f (tables r s y w) ≡ tables (enter_f (on_records r w)).records s y (enter_f (on_records r w)).walk
  unfolding visit_f
  plain_visit = rw (parts.0, parts.1, no_rewrite (tables r s y w) parts.2)

-- one of them is the visit
tables_of : (a b : Bool) (x y z : Tables) (k : ℕ)
    → (if a then visiting x 1 else if b then visiting y k else visiting z 0).tables ≡ (if a then x else if b then y else z)
tables_of true b x y z k = refl
tables_of false true x y z k = refl
tables_of false false x y z k = refl

pub one_visit : (q : Tables) → (visit_some_f 1 q).tables ≡ visit_f q
unfolding visit_some_f visit_f enter_some_f until enter_one_f
one_visit q = tables_of (is_leaving_f q.records q.walk) (ltb q.walk.gap.0 q.walk.end.0) _ _ _ _

-- ---- what is told of them

-- the record is entered, and k visits are made before: `e` is where some more lead, n at most, that only enter
abbrev Made : ℕ → ℕ → List ℕ → List ℕ → List ℕ → Walk → Entering → Type 0
Made n k r s y w e =
    (k ≤ e.visits) × (e.visits ≤ n + k) × (turns (e.visits - k) visit_f (tables r s y w) ≡ tables e.records s y e.walk)

none_made : (n k : ℕ) (r s y : List ℕ) (w : Walk) → Made n k r s y w (entering r w k)
unfolding turns
none_made n k r s y w =
    let none : k - k ≡ 0 = omega arith in
    (omega arith, omega arith, rw none)

begun : (k : ℕ) → 1 ≤ k → eqb k 0 ≡ false
begun k h = ne_eqb k 0 (λ e. omega arith)

one_made : (b : Bool) (n k : ℕ) (r s y : List ℕ) (w : Walk) → 1 ≤ k → is_plain_f r w ≡ b
    → ((r₁ : List ℕ) (w₁ : Walk) → Made n (k + 1) r₁ s y w₁ (until n stops_f enter_one_f (entering r₁ w₁ (k + 1))))
    → Made (suc n) k r s y w (until (suc n) stops_f enter_one_f (entering r w k))
unfolding until turns enter_one_f
one_made false n k r s y w h e go = rw (begun k h, e) (none_made (suc n) k r s y w)
one_made true n k r s y w h e go =
    let q = enter_f (on_records r w) in
    let g = go q.records q.walk in
    let v = (until n stops_f enter_one_f (entering q.records q.walk (k + 1))).visits in
    let one : v - k ≡ suc (v - (k + 1)) = omega (arith, g.0) in
    let first = ap (turns (v - (k + 1)) visit_f) (plain_visit r s y w e) in
    rw (begun k h, e)
    (omega (arith, g.0), omega (arith, g.1), ap (λ (i : ℕ). turns i visit_f (tables r s y w)) one ∙ first ∙ g.2)

made : (n k : ℕ) (r s y : List ℕ) (w : Walk) → 1 ≤ k → Made n k r s y w (until n stops_f enter_one_f (entering r w k))
unfolding until
made zero k r s y w h = none_made zero k r s y w
made (suc n) k r s y w h = one_made (is_plain_f r w) n k r s y w h refl (λ r₁ w₁. made n (k + 1) r₁ s y w₁ (omega arith))

-- Exactly the visits reported are made, n at most; none once the walk is over, and else one at least if one is asked for.
abbrev pub Reports : ℕ → Tables → Visiting → Type 0
Reports n q v =
    (v.tables ≡ turns v.visits visit_f q) × (v.visits ≤ n) × (is_over_in q ≡ true → v.visits ≡ 0)
    × (is_over_in q ≡ false → 1 ≤ n → 1 ≤ v.visits)

module _ (m : ℕ) (q : Tables) where
  asked : eqb (suc m) 0 ≡ false
  asked = begun (suc m) (omega arith)

  leaves : is_leaving_f q.records q.walk ≡ true → Reports (suc m) q (visit_some_f (suc m) q)
  unfolding visit_some_f visit_f turns is_over_f
  leaves e =
      let one : leave_f q ≡ visit_f q = rw e in
      rw (asked, e) (one, omega arith, λ o. absurd (clash refl o), λ o l. omega arith)

  enters : is_leaving_f q.records q.walk ≡ false → ltb q.walk.gap.0 q.walk.end.0 ≡ true
      → Reports (suc m) q (visit_some_f (suc m) q)
  unfolding visit_some_f visit_f turns is_over_f until enter_some_f enter_one_f
  enters e f =
      let q₁ = rewrite_f q in
      let o = enter_f (on_records q₁.records q₁.walk) in
      let g = made m 1 o.records q₁.scopes q₁.symbols o.walk (omega arith) in
      let v = (until m stops_f enter_one_f (entering o.records o.walk 1)).visits in
      let first : v ≡ suc (v - 1) = omega (arith, g.0) in
      let one : visit_f q ≡ tables o.records q₁.scopes q₁.symbols o.walk = rw (e, f) in
      let all : turns v visit_f q ≡ _ = ap (λ (n : ℕ). turns n visit_f q) first ∙ ap (turns (v - 1) visit_f) one ∙ g.2 in
      let ahead = lt-leb q.walk.end.0 q.walk.gap.0 (ltb-true _ _ f) in
      rw (asked, e, f, ahead) (sym all, omega (arith, g.1), λ o. absurd (clash refl o), λ o l. g.0)

  ended : is_leaving_f q.records q.walk ≡ false → ltb q.walk.gap.0 q.walk.end.0 ≡ false
      → Reports (suc m) q (visit_some_f (suc m) q)
  unfolding visit_some_f turns is_over_f
  ended e f =
      let behind = le-leb q.walk.end.0 q.walk.gap.0 (ltb-false _ _ f) in
      rw (asked, e, f, behind) (refl, omega arith, λ o. refl, λ o. absurd (clash o refl))

  by_turn : (a b : Bool) → is_leaving_f q.records q.walk ≡ a → ltb q.walk.gap.0 q.walk.end.0 ≡ b
      → Reports (suc m) q (visit_some_f (suc m) q)
  by_turn true b e f = leaves e
  by_turn false true e f = enters e f
  by_turn false false e f = ended e f

-- VISIT_SOME MAKES THE VISITS THAT IT REPORTS, on any tables.
pub some_visits : (n : ℕ) (q : Tables) → Reports n q (visit_some_f n q)
unfolding visit_some_f turns
some_visits zero q = (refl, omega arith, λ o. refl, λ o l. omega arith)
some_visits (suc m) q = by_turn m q _ _ refl refl

-- in a loop of n visits at most, after k of them
pub some_go_on : (n k : ℕ) (r q : Tables) (v : Visiting) → r ≡ until (n - k) is_over_in visit_f q → k < n → is_over_in q ≡ false
    → v ≡ visit_some_f (n - k) q
    → (1 ≤ v.visits) × (k + v.visits ≤ n) × (r ≡ until (n - (k + v.visits)) is_over_in visit_f v.tables)
some_go_on n k r q v e h g is =
    let o : Reports (n - k) q v = rw is (some_visits (n - k) q) in
    let left = n - (k + v.visits) in
    let all : n - k ≡ v.visits + left = omega (arith, o.1) in (
      o.3 g (omega arith),
      omega (arith, o.1),
      e
          ∙ until_over (n - k) q
          ∙ ap (λ (i : ℕ). turns i visit_f q) all
          ∙ turns_more v.visits left visit_f q
          ∙ ap (turns left visit_f) (sym o.0)
          ∙ sym (until_over left v.tables),
    )
