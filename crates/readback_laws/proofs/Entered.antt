-- Entering a record gives no children to records without n.
-- Assumes nothing.
use Rattle.std.specs.Prelude.{◌≡◌, refl, true, false, ℕ}
use Rattle.std.proofs.Common.{ap, arith, eq-eqb}
use Rattle.meaning.specs.Numbers.Tag
use Rattle.meaning.specs.Tree.{Head, Forest, none, more, one, count, single, ◌&◌}
use Rattle.meaning.specs.File.{has_children}
use Rattle.meaning.specs.Scoping.{Store, symbol_in, create_symbol}
use Rattle.meaning.specs.Shapes.{read}
use Rattle.meaning.specs.ForOf.{bound_symbol, rebind, insert_using, wrap_body, enter_for_of_statement}
use Rattle.meaning.specs.Walk.{Act, enter_as, enter}
use Rattle.spec_laws.specs.Tags.{clash}
use Rattle.charge_laws.proofs.Growth.ForOf.{Named}
use Rattle.charge_laws.specs.Growth.Chosen.{Chosen, kept, as_program, as_block, as_body, as_try, as_for, as_switch, as_insert, as_wrap}
use Rattle.charge_laws.proofs.Growth.Chosen.{chosen}
use Rattle.charge_laws.proofs.Counts.Enter.{Fit}
use Rattle.readback_laws.proofs.Back.{Childless}
use Rattle.readback_laws.proofs.Taken.{never, declared_childless}
use Rattle.readback_laws.proofs.Contexts.{
  block_childless,
  body_childless,
  for_statement_childless,
  switch_childless,
  try_statement_childless,
}
use Rattle.readback_laws.proofs.Items.{program_childless}

-- ---- ForOf

-- a record is there
pub filled : (h : Head) (k r : Forest) → more h k r ≡ none → ⊥
unfolding count
filled h k r e = omega (arith, ap count e)

-- the Name that is replaced has no children
rebind_childless : (y : ℕ) (k : Forest) → Named k → Childless k → Childless (rebind y k)
unfolding rebind has_children
rebind_childless y none n p = tt
rebind_childless y (more h none r) n p = p
rebind_childless y (more h (more h₁ k₁ r₁) r) n p =
    ((λ e. absurd (filled h₁ k₁ r₁ (p.0 e))), ((λ _. p.1.0 (ap has_children n)), p.1.1, p.1.2), p.2)

module _ (h h₁ : Head) (k₁ : Forest) (h₂ : Head) (k₂ : Forest) (h₃ : Head) (k₃ r : Forest) (st : Store) (n : Named k₁) where
  abbrev sides : Forest
  sides = more h₁ k₁ (more h₂ k₂ (more h₃ k₃ r))

  -- the new symbol
  abbrev temp : ℕ
  temp = (create_symbol (symbol_in st (bound_symbol k₁)).name 6 h.a 1 st).0

  insert_childless : has_children h₃.tag ≡ true → Childless (one h sides)
      → Childless (single (enter_for_of_statement false h sides st).0)
  unfolding enter_for_of_statement insert_using ◌&◌ has_children
  insert_childless c p =
      let q = p.1.2 in (
        (λ e. absurd (filled _ _ _ (p.0 e))),
        (
          never,
          rebind_childless temp k₁ n p.1.1,
          (
            q.0,
            q.1,
            (
              (λ e. absurd (clash e c)),
              declared_childless h₁.a (bound_symbol k₁) (read temp) k₃ ((λ _. refl), tt, tt) q.2.1,
              q.2.2,
            ),
          ),
        ),
        tt,
      )

  wrap_childless : Childless (one h sides) → Childless (single (enter_for_of_statement true h sides st).0)
  unfolding enter_for_of_statement wrap_body ◌&◌ has_children
  wrap_childless p =
      let q = p.1.2 in (
        (λ e. absurd (filled _ _ _ (p.0 e))),
        (
          never,
          rebind_childless temp k₁ n p.1.1,
          (
            q.0,
            q.1,
            (
              never,
              declared_childless h₁.a (bound_symbol k₁) (read temp) (one h₃ k₃) ((λ _. refl), tt, tt) (q.2.0, q.2.1, tt),
              q.2.2,
            ),
          ),
        ),
        tt,
      )

-- ---- any record

entered : {a : Act} {h : Head} {k : Forest} (cur hoist : ℕ) (st : Store) → Childless (one h k) → Fit h k → Chosen a h k
    → Childless (single (enter_as a cur hoist h k st).0)
unfolding enter_as has_children
entered cur hoist st p o (kept i) = p
entered {h = h} {k = k} cur hoist st p o (as_program e u) = program_childless h k st (ap has_children e) p.1
entered {h = h} {k = k} cur hoist st p o (as_block e u) = block_childless cur hoist h k st p.1
entered {k = k} cur hoist st p o (as_body e u) = body_childless cur hoist k st p.1
entered {h = h} {k = k} cur hoist st p o (as_try e u) = try_statement_childless cur hoist h k st p
entered {h = h} {k = k} cur hoist st p o (as_for e u) = for_statement_childless cur hoist h k st p
entered {h = h} {k = k} cur hoist st p o (as_switch e u) = switch_childless cur h k st p
entered {h = h} cur hoist st p o (as_insert {h₁ = h₁} {h₂ = h₂} {h₃ = h₃} {k₁ = k₁} {k₂ = k₂} {k₃ = k₃} {r = r} e b two) =
    insert_childless h h₁ k₁ h₂ k₂ h₃ k₃ r st (o.side (eq-eqb h.tag Tag.ForOf e) b.both).0 (ap has_children two) p
entered {h = h} cur hoist st p o (as_wrap {h₁ = h₁} {h₂ = h₂} {h₃ = h₃} {k₁ = k₁} {k₂ = k₂} {k₃ = k₃} {r = r} e b) =
    wrap_childless h h₁ k₁ h₂ k₂ h₃ k₃ r st (o.side (eq-eqb h.tag Tag.ForOf e) b.both).0 p

-- of a record as it should be
pub enter_childless : (cur hoist : ℕ) (h : Head) (k : Forest) (st : Store) → Fit h k → Childless (one h k)
    → Childless (single (enter cur hoist h k st).0)
unfolding enter
enter_childless cur hoist h k st o p = entered cur hoist st p o (chosen st.as_read h k)
