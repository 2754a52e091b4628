-- What is known of a record for which a visit chooses an act: one view for every property of visits.
-- Assumes nothing.
use Rattle.std.specs.Prelude.{◌≡◌, Bool, true, false, ◌&&◌, [], ◌∷◌, eqb}
use Rattle.meaning.specs.Numbers.Tag
use Rattle.meaning.specs.Tree.{one_of, Head, Forest, none, more, one}
use Rattle.meaning.specs.Statements.{is_using, any_using}
use Rattle.meaning.specs.Contexts.{any_part_using, any_case_using, for_list}
use Rattle.meaning.specs.ForOf.{binds_identifier}
use Rattle.meaning.specs.Walk.{Act, keep, program, block, function_body, try_parts, for_loop, switch, for_of_insert, for_of_wrap}

-- the left side of a ForOf that is rewritten: a using of an identifier
pub record Binds (h : Head) (k : Forest) : Type 0 where
  pub uses : is_using h ≡ true
  pub identifier : binds_identifier k ≡ true
  pub both : (is_using h && binds_identifier k) ≡ true

-- of at least three children, those of a ForOf, the first is a using of an identifier
unfoldable pub held_using : Forest → Bool
held_using none = false
held_using (more h₁ k₁ none) = false
held_using (more h₁ k₁ (more h₂ k₂ none)) = false
held_using (more h₁ k₁ (more h₂ k₂ (more h₃ k₃ r))) = is_using h₁ && binds_identifier k₁

-- why a record is kept: no using stands in its list, a ForOf holds none, and no part of a Try and no Case of a Switch has one
pub record Idle (h : Head) (k : Forest) : Type 0 where
  pub list : one_of (Tag.Program ∷ Tag.Block ∷ Tag.For ∷ Tag.Body ∷ []) h.tag ≡ true → any_using k ≡ false
  pub loop : eqb h.tag Tag.ForOf ≡ true → held_using k ≡ false
  pub parts : eqb h.tag Tag.Try ≡ true → any_part_using k ≡ false
  pub cases : eqb h.tag Tag.Switch ≡ true → any_case_using k ≡ false

pub data Chosen : Act → Head → Forest → Type 0 where
  kept : {h : Head} {k : Forest} → Idle h k → Chosen keep h k
  as_program : {h : Head} {k : Forest} → h.tag ≡ Tag.Program → any_using k ≡ true → Chosen program h k
  as_block : {h : Head} {k : Forest} → h.tag ≡ Tag.Block → any_using k ≡ true → Chosen block h k
  as_body : {h : Head} {k : Forest} → h.tag ≡ Tag.Body → any_using k ≡ true → Chosen function_body h k
  as_try : {h : Head} {k : Forest} → h.tag ≡ Tag.Try → any_part_using k ≡ true → Chosen try_parts h k
  as_for : {h : Head} {k : Forest} → one_of (Tag.Label ∷ Tag.For ∷ []) h.tag ≡ true → any_using (for_list (one h k)) ≡ true → Chosen for_loop h k
  as_switch : {h : Head} {k : Forest} → h.tag ≡ Tag.Switch → any_case_using k ≡ true → Chosen switch h k
  as_insert : {h h₁ h₂ h₃ : Head} {k₁ k₂ k₃ r : Forest} → h.tag ≡ Tag.ForOf → Binds h₁ k₁ → h₃.tag ≡ Tag.Block
      → Chosen for_of_insert h (more h₁ k₁ (more h₂ k₂ (more h₃ k₃ r)))
  as_wrap : {h h₁ h₂ h₃ : Head} {k₁ k₂ k₃ r : Forest} → h.tag ≡ Tag.ForOf → Binds h₁ k₁
      → Chosen for_of_wrap h (more h₁ k₁ (more h₂ k₂ (more h₃ k₃ r)))
