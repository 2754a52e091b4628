-- `enter_program`, with the classes and exports that it moves.
-- Assumes nothing.
use Rattle.std.specs.Prelude.{if◌then◌else◌, Bool, not, ◌&&◌, List, [], ◌∷◌, ◌++◌, ℕ, eqb}
use Rattle.meaning.specs.Numbers.Tag
use Rattle.meaning.specs.Numbers.Kind
use Rattle.meaning.specs.Numbers.Form
use Rattle.meaning.specs.Numbers.SymbolFlag
use Rattle.meaning.specs.Numbers.KnownName
use Rattle.meaning.specs.Tree.{one_of, Head, hd, Forest, none, more, one, Node, node, ◌&◌}
use Rattle.meaning.specs.Shapes.{block, declaration, export_named, specifier, class_expression}
use Rattle.meaning.specs.Scoping.{
  Store,
  Change,
  ◌>>=◌,
  ◌>>◌,
  return,
  get,
  symbol_in,
  create_symbol,
  generate_binding,
  set_symbol_flags,
  set_flags_of,
  insert_scope_below,
}
use Rattle.meaning.specs.Statements.{is_using}
use Rattle.meaning.specs.Contexts.{names_in}

-- ---- classes

-- `preserve_class_expression_name`: a new symbol in the class's scope for the inner name; the old one becomes a var's
unfoldable pub preserve_class_expression_name : Head → Change ℕ
preserve_class_expression_name h = do
  st ← get
  inner ← create_symbol (symbol_in st h.c).name SymbolFlag.Class h.b (symbol_in st h.c).made
  set_symbol_flags h.c SymbolFlag.FunctionScoped
  return inner

-- `transform_class_decl`: `var C = class C {}`
unfoldable pub transform_class_decl : Head → Forest → Change Forest
transform_class_decl h items = do
  inner ← preserve_class_expression_name h
  return (declaration Kind.Var h.c (class_expression h.b inner items))

-- ---- the items

-- what stays an item of Program, and what goes into its new Block
pub record Split : Type 0 where
  pub kept : Forest
  pub moved : Forest

abbrev pub split : Forest → Forest → Split
split kept moved = record { kept = kept; moved = moved }

-- the symbols that a Declaration binds, by its Declarators
unfoldable pub bound_names : Forest → List ℕ
bound_names none = []
bound_names (more h k r) = (if eqb h.tag Tag.Declarator then names_in k else []) ++ bound_names r

-- each exported under its own name
unfoldable pub specifiers : Store → List ℕ → Forest
specifiers st [] = none
specifiers st (y ∷ ys) = specifier y (symbol_in st y).name (specifiers st ys)

-- a direct Class
unfoldable pub top_level_class : Head → Forest → Change Split
top_level_class h items = do
  class ← transform_class_decl h items
  return (split none class)

-- a direct Declaration becomes var; a using is recorded
unfoldable pub top_level_declaration : Head → Forest → Change Split
top_level_declaration h k = do
  set_flags_of (bound_names k) SymbolFlag.FunctionScoped
  return (split none (one (hd Tag.Declaration Kind.Var (if is_using h then h.a else 0) 0) k))

-- `export let x = e`: var, not recorded
unfoldable pub exported_declaration : Forest → Change Split
exported_declaration k = do
  set_flags_of (bound_names k) SymbolFlag.FunctionScoped
  st ← get
  return (split (export_named (specifiers st (bound_names k))) (one (hd Tag.Declaration Kind.Var 0 0) k))

-- `export class C {}`
unfoldable pub exported_class : Head → Forest → Change Split
exported_class h items = do
  st ← get
  class ← transform_class_decl h items
  return (split (export_named (specifier h.c (symbol_in st h.c).name none)) class)

-- `export default class C {}` keeps its name
unfoldable pub default_class : Head → Forest → Change Split
default_class h items = do
  class ← transform_class_decl h items
  return (split (export_named (specifier h.c KnownName.Default none)) class)

unfoldable pub as_expression : Head → Head
as_expression h = if eqb h.tag Tag.Class then hd Tag.Class Form.Expression h.b h.c else h

-- `export default e`: `_default` is bound in scope 1, unique or not
unfoldable pub default_value : Head → Forest → Change Split
default_value h k = do
  y ← generate_binding KnownName.DefaultValue 1 SymbolFlag.FunctionScoped
  return (split (export_named (specifier y KnownName.Default none)) (declaration Kind.Var y (one (as_expression h) k)))

-- ---- what becomes of an item

-- It stays or moves as it is, or it is lowered. What is exported comes with its children.
pub data ItemAct : Type 0 where
  stay move lower_class lower_declaration : ItemAct
  export_declaration : Forest → ItemAct
  export_class export_default_class export_default_value : Head → Forest → ItemAct

-- 19: a Function stays
unfoldable pub export_act : Forest → ItemAct
export_act none = stay
export_act (more h k r) =
    if eqb h.tag Tag.Class then export_class h k
    else if eqb h.tag Tag.Declaration then export_declaration k
    else stay

-- 18: a form 0 Function stays
unfoldable pub keeps_default : Head → Bool
keeps_default h = eqb h.tag Tag.Function && eqb h.a Form.Declaration

-- a form 0 Class with a symbol keeps its name
unfoldable pub default_act : Forest → ItemAct
default_act none = stay
default_act (more h k r) =
    if keeps_default h then stay
    else if eqb h.tag Tag.Class && eqb h.a Form.Declaration && not (eqb h.c 0) then export_default_class h k
    else export_default_value h k

-- functions, imports and exports stay; all else moves
unfoldable pub item_act : Head → Forest → ItemAct
item_act h k =
    let t = h.tag in
    if one_of (Tag.Function ∷ Tag.ModuleLine ∷ []) t then stay
    else if eqb t Tag.DefaultExport then default_act k
    else if eqb t Tag.ExportedDeclaration then export_act k
    else if eqb t Tag.Class then lower_class
    else if eqb t Tag.Declaration then lower_declaration
    else move

unfoldable pub item_as : ItemAct → Head → Forest → Change Split
item_as stay h k = return (split (one h k) none)
item_as move h k = return (split none (one h k))
item_as lower_class h k = top_level_class h k
item_as lower_declaration h k = top_level_declaration h k
item_as (export_declaration k₁) h k = exported_declaration k₁
item_as (export_class h₁ k₁) h k = exported_class h₁ k₁
item_as (export_default_class h₁ k₁) h k = default_class h₁ k₁
item_as (export_default_value h₁ k₁) h k = default_value h₁ k₁

unfoldable pub program_item : Head → Forest → Change Split
program_item h k = item_as (item_act h k) h k

unfoldable pub program_items : Forest → Change Split
program_items none = return (split none none)
program_items (more h k r) = do
  item ← program_item h k
  rest ← program_items r
  return (split (item.kept & rest.kept) (item.moved & rest.moved))

-- for a Program with a direct using: what stays first, then the Block with the rest
unfoldable pub enter_program : Head → Forest → Change Node
enter_program h items = do
  parts ← program_items items
  scope ← insert_scope_below h.a parts.moved
  return (node h (parts.kept & block scope parts.moved))
