-- Changes of the store that leave the scope rows as they are: symbols, the helper, contexts, the items of a Program.
-- Assumes nothing.
use Rattle.std.specs.Prelude.{if◌then◌else◌, ◌≡◌, refl, Bool, true, false, List, [], ◌∷◌, ℕ, eqb}
use Rattle.std.proofs.Common.{◌∙◌}
use Rattle.meaning.specs.Numbers.Mode
use Rattle.meaning.specs.Tree.{Head, Forest, none, more}
use Rattle.meaning.specs.Scoping.{Store, Change, return, create_symbol, move_binding, move_bindings, set_symbol_flags, set_flags_of}
use Rattle.meaning.specs.HelperLoader.{make_helper, load_runtime, load_external, helper_load}
use Rattle.meaning.specs.Statements.{make_context, transform_statements}
use Rattle.meaning.specs.Program.{
  preserve_class_expression_name,
  transform_class_decl,
  bound_names,
  top_level_class,
  top_level_declaration,
  exported_declaration,
  exported_class,
  default_class,
  default_value,
  ItemAct,
  stay,
  move,
  lower_class,
  lower_declaration,
  export_declaration,
  export_class,
  export_default_class,
  export_default_value,
  item_act,
  item_as,
  program_item,
  program_items,
}

abbrev pub SameScopes : {A : Type 0} → Change A → Store → Type 0
SameScopes c st = (c st).1.scopes ≡ st.scopes

-- ---- symbols

pub moved_scopes : (ys : List ℕ) (scope : ℕ) (st : Store) → SameScopes (move_bindings ys scope) st
unfolding move_bindings move_binding
moved_scopes [] scope st = refl
moved_scopes (y ∷ ys) scope st = moved_scopes ys scope (move_binding y scope st).1

pub flagged_scopes : (ys : List ℕ) (flags : ℕ) (st : Store) → SameScopes (set_flags_of ys flags) st
unfolding set_flags_of set_symbol_flags
flagged_scopes [] flags st = refl
flagged_scopes (y ∷ ys) flags st = flagged_scopes ys flags (set_symbol_flags y flags st).1

-- ---- contexts

either_scopes : {A : Type 0} (b : Bool) (c d : Change A) (st : Store) → SameScopes c st → SameScopes d st → SameScopes (if b then c else d) st
either_scopes true c d st p q = p
either_scopes false c d st p q = q

runtime_scopes : (st : Store) → SameScopes load_runtime st
unfolding load_runtime make_helper create_symbol
runtime_scopes st = either_scopes (eqb st.helper 0) make_helper (return st.helper) st refl refl

pub load_scopes : (cur : ℕ) (st : Store) → SameScopes (helper_load cur) st
unfolding helper_load load_external
load_scopes cur st = either_scopes (eqb st.mode Mode.Runtime) load_runtime (load_external cur) st (runtime_scopes st) refl

pub context_scopes : (hoist : ℕ) (st : Store) → SameScopes (make_context hoist) st
unfolding make_context create_symbol
context_scopes hoist st = refl

pub transformed_scopes : (cur hoist : ℕ) (list : Forest) (st : Store) → SameScopes (transform_statements cur hoist list) st
unfolding transform_statements
transformed_scopes cur hoist list st = load_scopes cur (make_context hoist st).1 ∙ context_scopes hoist st

-- ---- the items of a Program

item_scopes : (x : ItemAct) (h : Head) (k : Forest) (st : Store) → SameScopes (item_as x h k) st
unfolding item_as top_level_class top_level_declaration exported_declaration exported_class default_class default_value transform_class_decl preserve_class_expression_name create_symbol set_symbol_flags
item_scopes stay h k st = refl
item_scopes move h k st = refl
item_scopes lower_class h k st = refl
item_scopes lower_declaration h k st = flagged_scopes (bound_names k) 1 st
item_scopes (export_declaration k₁) h k st = flagged_scopes (bound_names k₁) 1 st
item_scopes (export_class h₁ k₁) h k st = refl
item_scopes (export_default_class h₁ k₁) h k st = refl
item_scopes (export_default_value h₁ k₁) h k st = refl

pub items_scopes : (f : Forest) (st : Store) → SameScopes (program_items f) st
unfolding program_items program_item
items_scopes none st = refl
items_scopes (more h k r) st = items_scopes r (program_item h k st).1 ∙ item_scopes (item_act h k) h k st
