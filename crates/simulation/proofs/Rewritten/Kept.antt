-- After a rewrite the symbol rows agree with those read, if they did before.
-- Assumes nothing.
use Rattle.std.specs.Prelude.{Bool, true, false, List}
use Rattle.meaning.specs.Tree.{Head, Forest, none, more, one}
use Rattle.meaning.specs.Scoping.{Store}
use Rattle.meaning.specs.Contexts.{transform_block_statement, enter_function_body, transform_for_statement, transform_switch_statement}
use Rattle.meaning.specs.ForOf.{insert_using, wrap_body, enter_for_of_statement}
use Rattle.meaning.specs.Walk.{Crumb, current_scope, hoist_scope}
use Rattle.representation.proofs.Store.Agreed.{Agreed, symbol_agreed, below_agreed, binding_agreed}
use Rattle.scoping_laws.specs.Created.Lists.{block_agreed, body_agreed}
use Rattle.scoping_laws.specs.Created.Loops.{for_agreed, switch_agreed}

module _ (path : List Crumb) (h : Head) (k : Forest) (st : Store) (a : Agreed st) where
  pub block_kept : Agreed (transform_block_statement (current_scope path) (hoist_scope path) h k st).1
  block_kept = block_agreed (current_scope path) (hoist_scope path) h k st a

  pub body_kept : Agreed (enter_function_body (current_scope path) (hoist_scope path) k st).1
  body_kept = body_agreed (current_scope path) (hoist_scope path) k st a

  pub for_kept : Agreed (transform_for_statement (current_scope path) (hoist_scope path) h k st).1
  for_kept = for_agreed (current_scope path) (hoist_scope path) h k st a

  pub switch_kept : Agreed (transform_switch_statement (current_scope path) h k st).1
  switch_kept = switch_agreed (current_scope path) h k st a

pub for_of_kept : (wraps : Bool) (h : Head) (k : Forest) (st : Store) → Agreed st → Agreed (enter_for_of_statement wraps h k st).1
unfolding enter_for_of_statement insert_using wrap_body
for_of_kept wraps h none st a = a
for_of_kept wraps h (more h₁ k₁ none) st a = a
for_of_kept wraps h (more h₁ k₁ (more h₂ k₂ none)) st a = a
for_of_kept true h (more h₁ k₁ (more h₂ k₂ (more h₃ k₃ r))) st a =
    binding_agreed _ (below_agreed _ (symbol_agreed st a _ 6 h.a 1) h.a (one h₃ k₃)) _ _
for_of_kept false h (more h₁ k₁ (more h₂ k₂ (more h₃ k₃ r))) st a = binding_agreed _ (symbol_agreed st a _ 6 h.a 1) _ h₃.a
