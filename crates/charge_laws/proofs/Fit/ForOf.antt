-- The children of a ForOf with a using are charged what they are charged where they stand, the using's own lines aside.
-- Assumes nothing.
use Rattle.std.specs.Prelude.{if◌then◌else◌, ◌≡◌, refl, Bool, List, [], ◌∷◌, ℕ, ◌+◌}
use Rattle.std.proofs.Math.Bool.{true, false}
use native.Mathlib.Omega.{arith}
use Rattle.meaning.specs.Numbers.Tag
use Rattle.meaning.specs.Tree.{Head, hd, Forest, none, more, one}
use Rattle.meaning.specs.File.{Symbol}
use Rattle.meaning.specs.Statements.{is_using, any_using}
use Rattle.meaning.specs.ForOf.{insert, wrap}
use Rattle.meaning.specs.Walk.{block, act_if, act_of}
use Rattle.meaning.specs.Charges.{Line, context, wrapped, of_block, wraps, context_lines, body_lines}
use Rattle.meaning.specs.Due.{enter_lines}
use Rattle.charge_laws.specs.VisitCharges.{standing, left, right, body, next, free, visits_as, visits_standing, visits_taken_up, visits_body, visits_of}
use Rattle.charge_laws.proofs.Counts.ForOf.{standing_at}
use Rattle.spec_laws.specs.Tags.{or_none}
use Rattle.charge_laws.proofs.Fit.Modes.{Linear, cost, costs, costs_++, visited, cost_of, one_visited, taken_up_same}

-- without a using nothing is wrapped
pub no_wraps : (f : Forest) → any_using f ≡ false → wraps f ≡ 0
unfolding any_using wraps
no_wraps none e = refl
no_wraps (more h k r) e =
    let n = or_none (is_using h) (any_using r) e in
    rw n.0 (omega (arith, no_wraps r n.1))

module _ (w : Line → ℕ) (linear : Linear w) (ys : List Symbol) where
  -- the body Block that takes the using, by whether its list has one
  insert_if : (u : Bool) (a b c : ℕ) (k : Forest) → any_using k ≡ u
      → cost_of w ys (visits_body ys insert (hd Tag.Block a b c) k) k
      ≡ w (wrapped 1) + cost w (if u then [] else (context of_block ∷ [])) + cost_of w ys (visits_as (act_if u block) (hd Tag.Block a b c) k) k
  unfolding visits_body visits_as enter_lines context_lines costs cost
  insert_if true a b c k u = rw u (omega (arith, linear (wraps k), taken_up_same w ys k))
  insert_if false a b c k u = rw (no_wraps k u) (omega (arith, taken_up_same w ys k))

  insert_body : (h : Head) (k : Forest) → h.tag ≡ Tag.Block
      → cost_of w ys (visits_body ys insert h k) k
      ≡ w (wrapped 1) + cost w (if any_using k then [] else (context of_block ∷ [])) + cost_of w ys (visits_standing ys h k) k
  unfolding visits_standing act_of visits_body
  insert_body h k e = rw (standing_at ys h k 2 e) (insert_if (any_using k) h.a h.b h.c k refl)

  wrap_body_lem : (h : Head) (k : Forest) → is_using h ≡ false
      → cost_of w ys (visits_body ys wrap h k) k
      ≡ w (wrapped 1) + w (context of_block) + cost_of w ys (visits_standing ys h k) k
  unfolding visits_body visits_taken_up any_using costs cost
  wrap_body_lem h k e =
      let none_wrapped : wraps (one h k) ≡ 0 = no_wraps (one h k) (rw e) in
      rw (none_wrapped, e) (omega (arith, costs_++ w (visits_standing ys h k).behind (free 6)))

  -- ---- all three

  module _ (h₁ : Head) (k₁ : Forest) (h₂ : Head) (k₂ : Forest) (h₃ : Head) (k₃ r : Forest) where
    abbrev sides : Forest
    sides = more h₁ k₁ (more h₂ k₂ (more h₃ k₃ r))

    pub insert_same : h₃.tag ≡ Tag.Block
        → visited w ys sides (left insert) ≡ w (wrapped 1) + cost w (body_lines sides) + visited w ys sides standing
    unfolding visits_of next body_lines
    insert_same e =
        omega (
          arith,
          one_visited w ys (left insert) h₁ k₁ (more h₂ k₂ (more h₃ k₃ r)),
          one_visited w ys (right insert) h₂ k₂ (more h₃ k₃ r),
          one_visited w ys (body insert) h₃ k₃ r,
          one_visited w ys standing h₁ k₁ (more h₂ k₂ (more h₃ k₃ r)),
          one_visited w ys standing h₂ k₂ (more h₃ k₃ r),
          one_visited w ys standing h₃ k₃ r,
          insert_body h₃ k₃ e,
        )

    pub wrap_same : is_using h₃ ≡ false
        → visited w ys sides (left wrap) ≡ w (wrapped 1) + w (context of_block) + visited w ys sides standing
    unfolding visits_of next
    wrap_same e =
        omega (
          arith,
          one_visited w ys (left wrap) h₁ k₁ (more h₂ k₂ (more h₃ k₃ r)),
          one_visited w ys (right wrap) h₂ k₂ (more h₃ k₃ r),
          one_visited w ys (body wrap) h₃ k₃ r,
          one_visited w ys standing h₁ k₁ (more h₂ k₂ (more h₃ k₃ r)),
          one_visited w ys standing h₂ k₂ (more h₃ k₃ r),
          one_visited w ys standing h₃ k₃ r,
          wrap_body_lem h₃ k₃ e,
        )
