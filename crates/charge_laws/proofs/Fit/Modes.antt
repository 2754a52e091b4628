-- Records that a rewrite above has changed are charged what they are charged where they stand, the rewrite's own lines aside.
-- Assumes nothing.
use Rattle.std.specs.Prelude.{if◌then◌else◌, ◌≡◌, Bool, List, [], ◌∷◌, ◌++◌}
use Rattle.std.proofs.Math.Path.{refl}
use Rattle.std.proofs.Math.Bool.{true, false}
use Prim.Native.Nat.{ℕ, zero, suc, ◌+◌}
use native.Mathlib.Omega.{arith}
use Rattle.std.proofs.Math.ListN.{length}
use Rattle.meaning.specs.Numbers.Tag
use Rattle.meaning.specs.Tree.{Head, hd, Forest, none, more}
use Rattle.meaning.specs.File.{Symbol}
use Rattle.meaning.specs.Statements.{is_using, any_using}
use Rattle.meaning.specs.Contexts.{for_list}
use Rattle.meaning.specs.Program.{bound_names, ItemAct}
use Rattle.meaning.specs.Walk.{act_of}
use Rattle.meaning.specs.Charges.{Line, wrapped, of_for, context_lines}
use Rattle.meaning.specs.Due.{enter_lines}
use Rattle.charge_laws.proofs.Growth.Items.{Anything, anything, ChosenItem, as_kept, as_moved, as_class, as_declaration, as_exported_declaration, as_exported_class, as_default_class, as_default_value, chosen_item}
use Rattle.charge_laws.specs.VisitCharges.{Treatment, standing, taken_up, declarators, initializer, loop, cases, kept, moved, skipped, next, Visits, around, free, visits_as, visits_standing, visits_taken_up, visits_kept, visits_moved, visits_of, program_visits, visits_in}
use Rattle.spec_laws.specs.Tags.{Seen, other, here, there, seen, clash}
use Rattle.charge_laws.proofs.Growth.Trees.{using_tag}
use Rattle.charge_laws.proofs.Counts.Visits.{none_skipped}
use Rattle.charge_laws.proofs.Counts.ForOf.{standing_at}

-- ---- the cost of lines, in one figure

-- each wrapped initializer adds the same
abbrev pub Linear : (Line → ℕ) → Type 0
Linear w = (n : ℕ) → w (wrapped (1 + n)) ≡ w (wrapped 1) + w (wrapped n)

unfoldable pub cost : (Line → ℕ) → List Line → ℕ
cost w [] = 0
cost w (l ∷ ls) = w l + cost w ls

unfoldable pub costs : (Line → ℕ) → List (List Line) → ℕ
costs w [] = 0
costs w (x ∷ xs) = cost w x + costs w xs

pub cost_++ : (w : Line → ℕ) (xs ys : List Line) → cost w (xs ++ ys) ≡ cost w xs + cost w ys
unfolding cost
cost_++ w [] ys = omega arith
cost_++ w (x ∷ xs) ys = omega (arith, cost_++ w xs ys)

pub costs_++ : (w : Line → ℕ) (xs ys : List (List Line)) → costs w (xs ++ ys) ≡ costs w xs + costs w ys
unfolding costs
costs_++ w [] ys = omega arith
costs_++ w (x ∷ xs) ys = omega (arith, costs_++ w xs ys)

module _ (w : Line → ℕ) (ys : List Symbol) where
  -- the visits to some records in a mode
  abbrev pub visited : Forest → Treatment → ℕ
  visited f m = costs w (visits_in ys f m)

  -- those to one record and below it
  abbrev pub cost_of : Visits → Forest → ℕ
  cost_of v k =
      costs w v.before
      + (visited k v.inside
      + (costs w (program_visits ys v.again k (λ _. visits_in ys k moved))
      + costs w v.behind))

  pub one_visited : (m : Treatment) (h : Head) (k r : Forest) → visited (more h k r) m ≡ cost_of (visits_of ys m h k) k + visited r (next m)
  unfolding visits_in
  one_visited m h k r =
      let v = visits_of ys m h k in
      let again = program_visits ys v.again k (λ _. visits_in ys k moved) in
      let rest = visits_in ys r (next m) in
      omega (
        arith,
        costs_++ w v.before (visits_in ys k v.inside ++ (again ++ (v.behind ++ rest))),
        costs_++ w (visits_in ys k v.inside) (again ++ (v.behind ++ rest)),
        costs_++ w again (v.behind ++ rest),
        costs_++ w v.behind rest,
      )

  -- ---- lists that a context took up

  initializer_same : (f : Forest) (m : ℕ) → visited f (initializer m) ≡ visited f standing
  unfolding visits_in visits_of next costs cost
  initializer_same none m = refl
  initializer_same (more h k r) zero = omega (arith, one_visited (initializer zero) h k r, one_visited standing h k r)
  initializer_same (more h k r) (suc m) =
      omega (arith, one_visited (initializer (suc m)) h k r, one_visited standing h k r, initializer_same r m)

  declarator_same : {t : ℕ} (a b c : ℕ) (k : Forest) → Seen (Tag.Declarator ∷ []) t
      → cost_of (visits_of ys declarators (hd t a b c) k) k ≡ cost_of (visits_standing ys (hd t a b c) k) k
  unfolding visits_of visits_standing visits_as act_of costs cost
  declarator_same a b c k here = omega (arith, initializer_same k b)
  declarator_same a b c k (there e other) = rw e

  declarators_same : (f : Forest) → visited f declarators ≡ visited f standing
  unfolding visits_in visits_of next
  declarators_same none = refl
  declarators_same (more h k r) =
      omega (
        arith,
        one_visited declarators h k r,
        one_visited standing h k r,
        declarator_same h.a h.b h.c k (seen (Tag.Declarator ∷ []) h.tag),
        declarators_same r,
      )

  using_same : (u : Bool) (h : Head) (k : Forest) → is_using h ≡ u
      → cost_of (if u then around (free 1) declarators [] else visits_standing ys h k) k ≡ cost_of (visits_standing ys h k) k
  unfolding visits_standing visits_as act_of costs cost
  using_same true h k e = rw (standing_at ys h k 5 (using_tag h e)) (omega (arith, declarators_same k))
  using_same false h k e = refl

  pub taken_up_same : (f : Forest) → visited f taken_up ≡ visited f standing
  unfolding visits_in visits_of visits_taken_up next
  taken_up_same none = refl
  taken_up_same (more h k r) =
      omega (arith, one_visited taken_up h k r, one_visited standing h k r, using_same (is_using h) h k refl, taken_up_same r)

  case_same : {t : ℕ} (a b c : ℕ) (k : Forest) → Seen (Tag.Case ∷ []) t
      → cost_of (visits_of ys cases (hd t a b c) k) k ≡ cost_of (visits_standing ys (hd t a b c) k) k
  unfolding visits_of visits_standing visits_as act_of costs cost
  case_same a b c k here = omega (arith, taken_up_same k)
  case_same a b c k (there e other) = rw e

  pub cases_same : (f : Forest) → visited f cases ≡ visited f standing
  unfolding visits_in visits_of next
  cases_same none = refl
  cases_same (more h k r) =
      omega (
        arith,
        one_visited cases h k r,
        one_visited standing h k r,
        case_same h.a h.b h.c k (seen (Tag.Case ∷ []) h.tag),
        cases_same r,
      )

  -- ---- a For with its Labels

  loop_one : {t : ℕ} (a b c : ℕ) (k r : Forest) → Seen (Tag.Label ∷ Tag.For ∷ []) t
      → let h = hd t a b c in
      any_using (for_list (more h k r)) ≡ true
      → cost_of (visits_of ys loop h k) k + cost w (context_lines of_for (for_list (more h k r))) ≡ cost_of (visits_standing ys h k) k
  unfolding visits_of visits_standing visits_as act_of enter_lines for_list any_using costs cost
  loop_one a b c k r here u = rw u (omega arith)
  loop_one a b c k r (there e₄ here) u = rw u (omega arith)
  loop_one a b c k r (there e₄ (there e₇ other)) u = absurd (clash (rw (e₄, e₇)) u)

  pub loop_same : (f : Forest) → any_using (for_list f) ≡ true → visited f loop + cost w (context_lines of_for (for_list f)) ≡ visited f standing
  unfolding visits_in visits_of next for_list any_using
  loop_same none u = absurd (clash refl u)
  loop_same (more h k r) u =
      omega (
        arith,
        one_visited loop h k r,
        one_visited standing h k r,
        loop_one h.a h.b h.c k r (seen (Tag.Label ∷ Tag.For ∷ []) h.tag) u,
      )

  -- ---- Program's items: what stays and what moves, together

  skipped_free : (f : Forest) → visited f skipped ≡ 0
  unfolding costs
  skipped_free f = rw (none_skipped ys f)

  free_free : (n : ℕ) → costs w (free n) ≡ 0
  unfolding costs cost
  free_free zero = refl
  free_free (suc n) = omega (arith, free_free n)

  -- one item
  abbrev Item : ItemAct → Head → Forest → Type 0
  Item x h k = cost_of (visits_kept ys x h k) k + cost_of (visits_moved ys x h k) k ≡ cost_of (visits_standing ys h k) k

  item_one : {x : ItemAct} {h : Head} {k : Forest} → ChosenItem Anything x h k → Item x h k
  unfolding visits_kept visits_moved visits_taken_up visits_standing visits_as act_of costs cost
  item_one {k = k} (as_kept s) = omega (arith, skipped_free k)
  item_one {k = k} (as_moved e₁₃ e₁₇ e₁₈ e₁₉ e₁₅ e₅) = omega (arith, skipped_free k)
  item_one {k = k} as_class = omega (arith, skipped_free k)
  item_one {h = h} {k = k} as_declaration = omega (arith, skipped_free k, using_same (is_using h) h k refl)
  item_one {k = k} (as_exported_declaration {k = k₁} anything) = omega (arith, skipped_free k, free_free (1 + length (bound_names k₁)))
  item_one {k = k} (as_exported_class anything) = omega (arith, skipped_free k)
  item_one {k = k} (as_default_class named anything) = omega (arith, skipped_free k)
  item_one {k = k} (as_default_value e d anything) = omega (arith, skipped_free k)

  pub items_same : (f : Forest) → visited f kept + visited f moved ≡ visited f standing
  unfolding visits_in visits_of next costs
  items_same none = refl
  items_same (more h k r) =
      omega (
        arith,
        one_visited kept h k r,
        one_visited moved h k r,
        one_visited standing h k r,
        item_one (chosen_item h k),
        items_same r,
      )
