-- A ForOf with a using.
-- Assumes nothing.
use Rattle.std.specs.Prelude.{◌≡◌, true, false, [], ◌∷◌, ℕ}
use Rattle.std.proofs.Math.Path.{refl, ap}
use native.Mathlib.Omega.{arith}
use Rattle.meaning.specs.Numbers.Tag
use Rattle.meaning.specs.Tree.{Head, hd, Forest, none, more, one, single, size, ◌&◌}
use Rattle.meaning.specs.File.{field_bytes, numbers_of}
use Rattle.meaning.specs.Scoping.{Store, symbol_in, create_symbol, insert_scope_below}
use Rattle.meaning.specs.Shapes.{declaration, read}
use Rattle.meaning.specs.Statements.{is_using}
use Rattle.meaning.specs.ForOf.{bound_symbol, rebind, insert_using, wrap_body, enter_for_of_statement}
use Rattle.meaning.specs.Charges.{for_of, for_of_block, line_charge, total, record_bytes}
use Rattle.meaning.specs.Due.{is_context, any_context}
use Rattle.charge_laws.proofs.Growth.Rows.{Grown, both, scope_below, symbol_made, binding_moved}
use Rattle.charge_laws.proofs.Growth.Trees.{More, block_bytes_lem, using_tag}
use Rattle.charge_laws.proofs.Growth.Charged.{PaysFor, pays}

-- the first of some Declarators begins with a Name
abbrev pub Named : Forest → Type 0
Named none = Unit {0}
Named (more h none r) = Unit {0}
Named (more h (more h₁ k₁ r₁) r) = h₁.tag ≡ Tag.Name

rebind_more : (y : ℕ) (k : Forest) → Named k → More 0 0 k (rebind y k)
unfolding rebind size record_bytes
rebind_more y none e = omega arith
rebind_more y (more h none r) e = omega arith
rebind_more y (more h (more h₁ k₁ r₁) r) e = omega (arith, ap field_bytes e)

-- the using that goes into the body
held_more : (kind y temp : ℕ) (f : Forest) → More 4 26 f (declaration kind y (read temp) & f)
unfolding ◌&◌ size record_bytes field_bytes numbers_of
held_more kind y temp f = omega arith

module _ (h h₁ : Head) (k₁ : Forest) (h₂ : Head) (k₂ : Forest) (h₃ : Head) (k₃ r : Forest) (st : Store) where
  abbrev sides : Forest
  sides = more h₁ k₁ (more h₂ k₂ (more h₃ k₃ r))

  insert_grows : Grown false 0 1 0 st (enter_for_of_statement false h sides st).1
  unfolding enter_for_of_statement insert_using
  insert_grows = both (symbol_made _ 6 h.a 1 st) (binding_moved (bound_symbol k₁) h₃.a _)

  insert_more : is_using h₁ ≡ true → Named k₁ → More 4 26 (one h sides) (single (enter_for_of_statement false h sides st).0)
  unfolding enter_for_of_statement insert_using size record_bytes ◌&◌
  insert_more e n =
      let t = (create_symbol (symbol_in st (bound_symbol k₁)).name 6 h.a 1 st).0 in
      omega (arith, ap field_bytes (using_tag h₁ e), rebind_more t k₁ n, held_more h₁.a (bound_symbol k₁) t k₃)

  pub insert_pays : is_using h₁ ≡ true → Named k₁ → PaysFor (for_of ∷ []) (one h sides) st (enter_for_of_statement false h sides st)
  unfolding total line_charge any_context is_context
  insert_pays e n = pays 4 26 (for_of ∷ []) refl (omega arith) insert_grows (insert_more e n)

  wrap_grows : Grown false 1 1 0 st (enter_for_of_statement true h sides st).1
  unfolding enter_for_of_statement wrap_body
  wrap_grows = both (both (symbol_made _ 6 h.a 1 st) (scope_below h.a (one h₃ k₃) _)) (binding_moved (bound_symbol k₁) _ _)

  wrap_more : is_using h₁ ≡ true → Named k₁ → More 5 33 (one h sides) (single (enter_for_of_statement true h sides st).0)
  unfolding enter_for_of_statement wrap_body size record_bytes ◌&◌
  wrap_more e n =
      let t = create_symbol (symbol_in st (bound_symbol k₁)).name 6 h.a 1 st in
      let s = insert_scope_below h.a (one h₃ k₃) t.1 in
      omega (
        arith,
        ap field_bytes (using_tag h₁ e),
        block_bytes_lem (hd Tag.Block s.0 0 0) refl,
        rebind_more t.0 k₁ n,
        held_more h₁.a (bound_symbol k₁) t.0 (one h₃ k₃),
      )

  pub wrap_pays : is_using h₁ ≡ true → Named k₁ → PaysFor (for_of_block ∷ []) (one h sides) st (enter_for_of_statement true h sides st)
  unfolding total line_charge any_context is_context
  wrap_pays e n = pays 5 33 (for_of_block ∷ []) refl (omega arith) wrap_grows (wrap_more e n)
