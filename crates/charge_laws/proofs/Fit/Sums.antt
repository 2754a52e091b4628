-- The charges of all visits are those found in the source.
-- Assumes nothing.
use Rattle.std.specs.Prelude.{if◌then◌else◌, ◌≡◌, ◌||◌, ◌&&◌, List, [], ◌∷◌, ◌++◌, ℕ, ◌+◌}
use Rattle.std.proofs.Math.Path.{refl, ap}
use Rattle.std.proofs.Common.{sym, ◌∙◌, zero-add, eqb-true}
use Rattle.std.proofs.Math.Bool.{Bool, true, false, not}
use native.Mathlib.Omega.{arith}
use Rattle.std.proofs.Math.Dec.{eqb}
use Rattle.meaning.specs.Numbers.Tag
use Rattle.meaning.specs.Tree.{Head, hd, Forest, none, more, one}
use Rattle.meaning.specs.File.{Symbol}
use Rattle.meaning.specs.Statements.{is_using, any_using}
use Rattle.meaning.specs.Contexts.{any_part_using, any_case_using, for_list}
use Rattle.meaning.specs.ForOf.{binds_identifier, bound_symbol, binds_name, ForOfAct, as_is, insert, wrap, for_of_act}
use Rattle.meaning.specs.Walk.{
  Act,
  keep,
  program,
  block,
  function_body,
  try_parts,
  for_loop,
  switch,
  act_if,
  of_for_of,
  act_of,
}
use Rattle.meaning.specs.Charges.{Line, of_try_part, context_lines, for_of_lines, own_lines, tree_lines}
use Rattle.meaning.specs.Due.{part_lines, enter_lines}
use Rattle.charge_laws.specs.VisitCharges.{standing, parts, in_try, taken_up, free, next, visits_as, visits_standing, visits_of, visits_in}
use Rattle.spec_laws.specs.Tags.{Seen, other, here, there, seen, and_left, or_none}
use Rattle.charge_laws.proofs.Totals.Roles.{Lacks}
use Rattle.charge_laws.proofs.Fit.Orderly.{is_try, PlainBody, Orderly}
use Rattle.charge_laws.proofs.Fit.Modes.{
  Linear,
  cost,
  costs,
  cost_++,
  visited,
  cost_of,
  one_visited,
  taken_up_same,
  cases_same,
  loop_same,
  items_same,
}
use Rattle.charge_laws.proofs.Fit.ForOf.{insert_same, wrap_same}

module _ (w : Line → ℕ) (linear : Linear w) (ys : List Symbol) where
  -- ---- what is found in the source

  abbrev found : ℕ → Forest → ℕ
  found up f = cost w (tree_lines ys up f)

  one_found : (up : ℕ) (h : Head) (k r : Forest)
      → found up (more h k r) ≡ cost w (own_lines ys up h k) + (found h.tag k + found up r)
  unfolding tree_lines
  one_found up h k r =
      omega (
        arith,
        cost_++ w (own_lines ys up h k) (tree_lines ys h.tag k ++ tree_lines ys up r),
        cost_++ w (tree_lines ys h.tag k) (tree_lines ys up r),
      )

  -- of the record around it only this is asked
  own_same : (up up' : ℕ) (h : Head) (k : Forest) → is_try up ≡ is_try up' → own_lines ys up h k ≡ own_lines ys up' h k
  unfolding own_lines
  own_same up up' h k e = rw e

  found_same : (f : Forest) (up up' : ℕ) → is_try up ≡ is_try up' → found up f ≡ found up' f
  unfolding tree_lines
  found_same none up up' e = refl
  found_same (more h k r) up up' e =
      omega (
        arith,
        one_found up h k r,
        one_found up' h k r,
        ap (cost w) (own_same up up' h k e),
        found_same r up up' e,
      )

  -- ---- one record, by its tag

  abbrev Found : Act → Head → Forest → Type 0
  Found a h k = cost_of w ys (visits_as a h k) k ≡ cost w (own_lines ys 0 h k) + found h.tag k

  module _ (a b c : ℕ) (k : Forest) where
    program_found : (u : Bool) → any_using k ≡ u → visited w ys k standing ≡ found Tag.Program k → Found (act_if u program) (hd Tag.Program a b c) k
    unfolding own_lines visits_as enter_lines context_lines costs cost
    program_found true u s = rw u (omega (arith, items_same w ys k))
    program_found false u s = rw u (omega arith)

    block_found : (u : Bool) → any_using k ≡ u → visited w ys k standing ≡ found Tag.Block k → Found (act_if u block) (hd Tag.Block a b c) k
    unfolding own_lines visits_as enter_lines context_lines costs cost
    block_found true u s = rw u (omega (arith, taken_up_same w ys k))
    block_found false u s = rw u (omega arith)

    label_found : (u : Bool) → any_using (for_list k) ≡ u → visited w ys k standing ≡ found Tag.Label k → Found (act_if u for_loop) (hd Tag.Label a b c) k
    unfolding own_lines visits_as enter_lines for_list costs cost
    label_found true u s = omega (arith, loop_same w ys k u)
    label_found false u s = omega arith

    for_found : (u : Bool) → any_using k ≡ u → visited w ys k standing ≡ found Tag.For k → Found (act_if u for_loop) (hd Tag.For a b c) k
    unfolding own_lines visits_as enter_lines for_list context_lines costs cost
    for_found true u s = omega (arith, taken_up_same w ys k)
    for_found false u s = rw u (omega arith)

    switch_found : (u : Bool) → any_case_using k ≡ u → visited w ys k standing ≡ found Tag.Switch k → Found (act_if u switch) (hd Tag.Switch a b c) k
    unfolding own_lines visits_as enter_lines costs cost
    switch_found true u s = rw u (omega (arith, cases_same w ys k))
    switch_found false u s = rw u (omega arith)

    body_found : (u : Bool) → any_using k ≡ u → visited w ys k standing ≡ found Tag.Body k → Found (act_if u function_body) (hd Tag.Body a b c) k
    unfolding own_lines visits_as enter_lines context_lines costs cost
    body_found true u s = rw u (omega (arith, taken_up_same w ys k))
    body_found false u s = rw u (omega arith)

    static_found : visited w ys k standing ≡ found Tag.StaticBlock k → Found keep (hd Tag.StaticBlock a b c) k
    unfolding own_lines visits_as costs cost
    static_found s = omega arith

  -- ---- a ForOf

  module _ (a b c : ℕ) where
    abbrev FoundAs : Forest → ForOfAct → Type 0
    FoundAs k x = cost_of w ys (visits_as (of_for_of x) (hd Tag.ForOf a b c) k) k ≡ cost w (for_of_lines x k) + found Tag.ForOf k

    found_if : (k : Forest) (e : Bool) (x y : ForOfAct) → (e ≡ true → FoundAs k x) → FoundAs k y → FoundAs k (if e then x else y)
    found_if k true x y p q = p refl
    found_if k false x y p q = q

    plain_found : (k : Forest) → visited w ys k standing ≡ found Tag.ForOf k → FoundAs k as_is
    unfolding visits_as for_of_lines costs cost
    plain_found k s = omega arith

    for_of_found : (k : Forest) → PlainBody k → visited w ys k standing ≡ found Tag.ForOf k → Found (of_for_of (for_of_act ys k)) (hd Tag.ForOf a b c) k
    unfolding own_lines for_of_act visits_as enter_lines for_of_lines costs cost
    for_of_found none p s = plain_found none s
    for_of_found (more h₁ k₁ none) p s = plain_found (one h₁ k₁) s
    for_of_found (more h₁ k₁ (more h₂ k₂ none)) p s = plain_found (more h₁ k₁ (one h₂ k₂)) s
    for_of_found (more h₁ k₁ (more h₂ k₂ (more h₃ k₃ r))) p s =
        let k = more h₁ k₁ (more h₂ k₂ (more h₃ k₃ r)) in
        let unbound = not (binds_name ys h₃.a (bound_symbol k₁)) in
        let two : Bool = eqb h₃.tag Tag.Block && unbound in
        found_if k (is_using h₁ && binds_identifier k₁) (if two then insert else wrap) as_is
        (λ _. found_if k two insert wrap
        (λ e. omega (arith, insert_same w linear ys h₁ k₁ h₂ k₂ h₃ k₃ r (eqb-true h₃.tag Tag.Block (and_left (eqb h₃.tag Tag.Block) unbound e))))
        (omega (arith, wrap_same w linear ys h₁ k₁ h₂ k₂ h₃ k₃ r p)))
        (plain_found k s)

  -- ---- a Try

  -- what its visit is charged for one of its parts
  abbrev own_part : ℕ → Forest → List Line
  own_part t k = if eqb t Tag.Catch then part_lines k else if eqb t Tag.Block then context_lines of_try_part k else []

  -- without a using its parts stand as they are
  part_same : {t : ℕ} (a b c : ℕ) (k r : Forest) → Seen (Tag.Catch ∷ Tag.Block ∷ []) t
      → let h = hd t a b c in
      any_part_using (more h k r) ≡ false
      → (any_part_using k ≡ false → (visited w ys k parts ≡ visited w ys k standing) × (cost w (part_lines k) ≡ 0))
      → (cost_of w ys (visits_of ys parts h k) k ≡ cost_of w ys (visits_standing ys h k) k)
      × (cost w (own_part t k) ≡ 0)
      × (any_part_using r ≡ false)
  unfolding any_part_using visits_of visits_standing visits_as act_of context_lines costs cost
  part_same a b c k r here e i =
      let n = or_none (any_part_using k) (any_part_using r) e in
      let j = i n.0 in (omega arith, j.1, n.1)
  part_same a b c k r (there e₁₂ here) e i =
      let n = or_none (any_using k || false) (any_part_using r) e in
      rw (or_none (any_using k) false n.0).0 (refl, refl, n.1)
  part_same a b c k r (there e₁₂ (there e₂ other)) e i = rw (e₁₂, e₂) (refl, refl, rw (e₁₂, e₂) at e)

  parts_same : (f : Forest) → any_part_using f ≡ false → (visited w ys f parts ≡ visited w ys f standing) × (cost w (part_lines f) ≡ 0)
  unfolding visits_in visits_of next part_lines cost
  parts_same none e = (refl, refl)
  parts_same (more h k r) e =
      let p = part_same h.a h.b h.c k r (seen (Tag.Catch ∷ Tag.Block ∷ []) h.tag) e (parts_same k) in
      let q = parts_same r p.2 in
      omega (arith, one_visited w ys parts h k r, one_visited w ys standing h k r, cost_++ w (own_part h.tag k) (part_lines r))

  try_found : (u : Bool) (a b c : ℕ) (k : Forest) → any_part_using k ≡ u → cost w (part_lines k) + visited w ys k parts ≡ found Tag.Try k
      → Found (act_if u try_parts) (hd Tag.Try a b c) k
  unfolding own_lines visits_as enter_lines costs cost
  try_found true a b c k u s = omega arith
  try_found false a b c k u s = omega (arith, parts_same k u)

  -- ---- any record

  record_found : {t : ℕ} (a b c : ℕ) (k : Forest) → Seen (Tag.Program ∷ Tag.Block ∷ Tag.Label ∷ Tag.For ∷ Tag.ForOf ∷ Tag.Switch ∷ Tag.Try ∷ Tag.Body ∷ Tag.StaticBlock ∷ []) t → eqb t Tag.Catch ≡ false
      → (eqb t Tag.ForOf ≡ true → PlainBody k)
      → (is_try t ≡ false → visited w ys k standing ≡ found t k)
      → cost w (part_lines k) + visited w ys k parts ≡ found Tag.Try k
      → Found (act_of ys (hd t a b c) k) (hd t a b c) k
  unfolding act_of for_list own_lines visits_as costs cost
  record_found a b c k here n p s q = program_found a b c k (any_using k) refl (s refl)
  record_found a b c k (there e₁ here) n p s q = block_found a b c k (any_using k) refl (s refl)
  record_found a b c k (there e₁ (there e₂ here)) n p s q = label_found a b c k (any_using (for_list k)) refl (s refl)
  record_found a b c k (there e₁ (there e₂ (there e₄ here))) n p s q = for_found a b c k (any_using k) refl (s refl)
  record_found a b c k (there e₁ (there e₂ (there e₄ (there e₇ here)))) n p s q = for_of_found a b c k (p refl) (s refl)
  record_found a b c k (there e₁ (there e₂ (there e₄ (there e₇ (there e₈ here))))) n p s q =
      switch_found a b c k (any_case_using k) refl (s refl)
  record_found a b c k (there e₁ (there e₂ (there e₄ (there e₇ (there e₈ (there e₉ here)))))) n p s q =
      try_found (any_part_using k) a b c k refl q
  record_found a b c k (there e₁ (there e₂ (there e₄ (there e₇ (there e₈ (there e₉ (there e₁₁ here))))))) n p s q =
      body_found a b c k (any_using k) refl (s refl)
  record_found a b c k (there e₁ (there e₂ (there e₄ (there e₇ (there e₈ (there e₉ (there e₁₁ (there e₁₄ here)))))))) n p s q =
      static_found a b c k (s refl)
  record_found a b c k (there e₁ (there e₂ (there e₄ (there e₇ (there e₈ (there e₉ (there e₁₁ (there e₁₄ (there e₁₆ other))))))))) n p s q =
      let i = s (rw (e₁₁, n)) in
      rw (e₁, e₂, e₄, e₇, e₈, e₉, e₁₁, e₁₄, e₁₆) (omega arith)

  block_part : (u : Bool) (a b c : ℕ) (k : Forest) → any_using k ≡ u → visited w ys k standing ≡ found Tag.Block k
      → cost w (context_lines of_try_part k) + cost_of w ys (if u then in_try (free 2) taken_up else visits_standing ys (hd Tag.Block a b c) k) k
      ≡ cost w (context_lines of_try_part k) + found Tag.Block k
  unfolding visits_standing visits_as act_of costs cost
  block_part true a b c k u s = omega (arith, taken_up_same w ys k)
  block_part false a b c k u s = rw u (omega arith)

  -- a part of a Try or a Catch; any other record there as it stands
  part_found : {t : ℕ} (a b c : ℕ) (k : Forest) → Seen (Tag.Catch ∷ Tag.Block ∷ []) t
      → (eqb t Tag.Catch ≡ false → cost_of w ys (visits_standing ys (hd t a b c) k) k ≡ cost w (own_lines ys 0 (hd t a b c) k) + found t k)
      → (is_try t ≡ false → visited w ys k standing ≡ found t k)
      → cost w (part_lines k) + visited w ys k parts ≡ found Tag.Try k
      → cost w (own_part t k) + cost_of w ys (visits_of ys parts (hd t a b c) k) k
      ≡ cost w (own_lines ys 11 (hd t a b c) k) + found t k
  unfolding visits_of own_lines costs cost
  part_found a b c k here o s q = omega (arith, found_same k 12 11 refl)
  part_found a b c k (there e₁₂ here) o s q = block_part (any_using k) a b c k refl (s refl)
  part_found a b c k (there e₁₂ (there e₂ other)) o s q = rw (e₁₂, e₂) (zero-add _ ∙ rw e₂ at (o e₁₂))

  -- ---- all records

  -- where they stand, and as the parts of a Try with its visit
  pub sums : (f : Forest) → Orderly f
      → (Lacks Tag.Catch f → visited w ys f standing ≡ found 0 f) × (cost w (part_lines f) + visited w ys f parts ≡ found Tag.Try f)
  unfolding visits_in visits_of visits_standing next part_lines tree_lines costs cost
  sums none o = ((λ _. refl), refl)
  sums (more h k r) o =
      let t = h.tag in
      let i = sums k o.2 in
      let j = sums r o.3 in
      let stands : is_try t ≡ false → visited w ys k standing ≡ found t k = λ e. i.0 (o.0 e) ∙ found_same k 0 t (sym e) in
      let own : eqb t Tag.Catch ≡ false → Found (act_of ys h k) h k =
      λ e. record_found h.a h.b h.c k (seen (Tag.Program ∷ Tag.Block ∷ Tag.Label ∷ Tag.For ∷ Tag.ForOf ∷ Tag.Switch ∷ Tag.Try ∷ Tag.Body ∷ Tag.StaticBlock ∷ []) t) e o.1 stands i.1 in (
        (λ l. omega (arith, one_visited w ys standing h k r, one_found 0 h k r, own l.0, j.0 l.1)),
        omega (
          arith,
          one_visited w ys parts h k r,
          one_found 11 h k r,
          cost_++ w (own_part t k) (part_lines r),
          part_found h.a h.b h.c k (seen (Tag.Catch ∷ Tag.Block ∷ []) t) own stands i.1,
          j.1,
        ),
      )
