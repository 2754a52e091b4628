-- The walk, one visit at a time (01, "Rewrites").
-- Assumes nothing.
use Rattle.std.specs.Prelude.{if◌then◌else◌, List, [], ◌∷◌, Bool, true, false, ℕ, zero, suc, eqb}
use Rattle.meaning.specs.Numbers.Tag
use Rattle.meaning.specs.Tree.{one_of, Head, Forest, none, more, one, Node, node, ◌&◌}
use Rattle.meaning.specs.File.{Symbol, File}
use Rattle.meaning.specs.Grammar.{scope_of, below}
use Rattle.meaning.specs.Scoping.{Store, Change, return}
use Rattle.meaning.specs.Statements.{any_using}
use Rattle.meaning.specs.Contexts.{
  any_part_using,
  any_case_using,
  for_list,
  transform_block_statement,
  enter_function_body,
  exit_static_block,
  enter_try_statement,
  transform_for_statement,
  transform_switch_statement,
}
use Rattle.meaning.specs.ForOf.{ForOfAct, as_is, insert, wrap, for_of_act, enter_for_of_statement}
use Rattle.meaning.specs.Program.{enter_program}

-- ---- what entering a record does

pub data Act : Type 0 where
  keep program block function_body try_parts for_loop switch for_of_insert for_of_wrap : Act

abbrev pub act_if : Bool → Act → Act
act_if b a = if b then a else keep

abbrev pub of_for_of : ForOfAct → Act
of_for_of as_is = keep
of_for_of insert = for_of_insert
of_for_of wrap = for_of_wrap

-- A Block below a Try, or below a Catch of one, is never met here with a using: the visit to the Try took it up (`part_taken_up`).
unfoldable pub act_of : List Symbol → Head → Forest → Act
act_of as_read h k =
    let t = h.tag in
    if eqb t Tag.Program then act_if (any_using k) program
    else if eqb t Tag.Block then act_if (any_using k) block
    else if one_of (Tag.Label ∷ Tag.For ∷ []) t then act_if (any_using (for_list (one h k))) for_loop
    else if eqb t Tag.ForOf then of_for_of (for_of_act as_read k)
    else if eqb t Tag.Switch then act_if (any_case_using k) switch
    else if eqb t Tag.Try then act_if (any_part_using k) try_parts
    else if eqb t Tag.Body then act_if (any_using k) function_body
    else keep

unfoldable pub enter_as : Act → ℕ → ℕ → Head → Forest → Change Node
enter_as keep cur hoist h k = return (node h k)
enter_as program cur hoist h k = enter_program h k
enter_as block cur hoist h k = transform_block_statement cur hoist h k
enter_as function_body cur hoist h k = enter_function_body cur hoist k
enter_as try_parts cur hoist h k = enter_try_statement cur hoist h k
enter_as for_loop cur hoist h k = transform_for_statement cur hoist h k
enter_as switch cur hoist h k = transform_switch_statement cur h k
enter_as for_of_insert cur hoist h k = enter_for_of_statement false h k
enter_as for_of_wrap cur hoist h k = enter_for_of_statement true h k

unfoldable pub enter : ℕ → ℕ → Head → Forest → Change Node
enter cur hoist h k = λ st. enter_as (act_of st.as_read h k) cur hoist h k st

-- leaving a StaticBlock
abbrev pub is_static_block : Head → Bool
is_static_block h = eqb h.tag Tag.StaticBlock

unfoldable pub leave : Head → Forest → Change Node
leave h k = if any_using k then exit_static_block h k else return (node h k)

-- ---- where the walk stands

-- an open record, with what stands before it and after it
pub data Crumb : Type 0 where
  crumb : Head → Forest → Forest → Crumb

-- Before a record that is entered next, between those done and those after it; at the end of a StaticBlock, whose children are done; or over.
-- The open records are listed from the innermost.
pub data Spot : Type 0 where
  at : Forest → Head → Forest → Forest → List Crumb → Store → Spot
  leaving : Forest → Head → Forest → Forest → List Crumb → Store → Spot
  over : Forest → Store → Spot

unfoldable pub is_over : Spot → Bool
is_over (over tree st) = true
is_over (at earlier h k r path st) = false
is_over (leaving kids h before after path st) = false

-- the scope of the nearest open record with one
unfoldable pub current_scope : List Crumb → ℕ
current_scope [] = 0
current_scope (crumb h before after ∷ path) = below (current_scope path) (scope_of h)

-- that of the nearest Program, Function or StaticBlock
unfoldable pub hoist_scope : List Crumb → ℕ
hoist_scope [] = 0
hoist_scope (crumb h before after ∷ path) = if one_of (Tag.Program ∷ Tag.Function ∷ Tag.StaticBlock ∷ []) h.tag then scope_of h else hoist_scope path

-- records whose children are all done are left behind; leaving a StaticBlock is a visit
unfoldable pub settle : Forest → Forest → List Crumb → Store → Spot
settle earlier none [] st = over earlier st
settle earlier (more h k r) [] st = at earlier h k r [] st
settle earlier none (crumb h before after ∷ path) st =
    if is_static_block h then leaving earlier h before after path st
    else settle (before & one h earlier) after path st
settle earlier (more h k r) (c ∷ path) st = at earlier h k r (c ∷ path) st

-- the walk goes on with the children of what was entered, and behind what was left
abbrev pub opened : Forest → Forest → List Crumb → Node × Store → Spot
opened before after path e = settle none e.0.children (crumb e.0.head before after ∷ path) e.1

abbrev pub closed : Forest → Forest → List Crumb → Node × Store → Spot
closed before after path e = settle (before & one e.0.head e.0.children) after path e.1

-- ---- visits

-- the next visit; after the last there is no change
unfoldable pub visit : Spot → Spot
visit (over tree st) = over tree st
visit (at earlier h k r path st) = opened earlier r path (enter (current_scope path) (hoist_scope path) h k st)
visit (leaving kids h before after path st) = closed before after path (leave h kids st)

unfoldable pub visits : ℕ → Spot → Spot
visits zero s = s
visits (suc k) s = visits k (visit s)

-- the tree just read
unfoldable pub store_of : File → Store
store_of f =
    record {
      mode = f.mode;
      is_module = f.is_module;
      scopes = f.scopes;
      symbols = f.symbols;
      as_read = f.symbols;
      helper = 0;
      contexts = 0;
    }

unfoldable pub start : File → Spot
start f = settle none f.tree [] (store_of f)

-- the tree and the store as they stand
unfoldable pub plug : Forest → List Crumb → Forest
plug f [] = f
plug f (crumb h before after ∷ path) = plug (before & more h f after) path

unfoldable pub tree_at : Spot → Forest
tree_at (over tree st) = tree
tree_at (at earlier h k r path st) = plug (earlier & more h k r) path
tree_at (leaving kids h before after path st) = plug (before & more h kids after) path

unfoldable pub store_at : Spot → Store
store_at (over tree st) = st
store_at (at earlier h k r path st) = st
store_at (leaving kids h before after path st) = st

-- as a file
unfoldable pub file_at : Spot → File
file_at s =
    record {
      mode = (store_at s).mode;
      is_module = (store_at s).is_module;
      scopes = (store_at s).scopes;
      symbols = (store_at s).symbols;
      tree = tree_at s;
    }
