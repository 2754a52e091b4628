-- What each visit is charged (01, "Charges"): the lines of what it does.
-- Assumes nothing.
use Rattle.std.specs.Prelude.{if◌then◌else◌, List, [], ◌∷◌, ◌++◌, Bool, true, false, ◌||◌, ◌&&◌, ℕ, zero, suc, eqb}
use Rattle.meaning.specs.Numbers.Tag
use Rattle.meaning.specs.Numbers.Mode
use Rattle.meaning.specs.Tree.{Head, Forest, none, more, one}
use Rattle.meaning.specs.Scoping.{Store}
use Rattle.meaning.specs.Contexts.{for_list}
use Rattle.meaning.specs.Walk.{
  Act,
  keep,
  program,
  block,
  function_body,
  try_parts,
  for_loop,
  switch,
  for_of_insert,
  for_of_wrap,
  act_of,
  Spot,
  at,
  leaving,
  over,
  is_over,
  visit,
  store_at,
}
use Rattle.meaning.specs.ImportLine.{import_due}
use Rattle.meaning.specs.Charges.{
  of_block,
  of_body,
  of_static_block,
  of_try_part,
  of_for,
  of_switch,
  Line,
  context,
  wrapped,
  for_of,
  for_of_block,
  program_block,
  top_level_class,
  exported_class,
  default_export,
  exported_names,
  helper,
  import_line,
  case_wraps,
  context_lines,
  item_lines,
}

-- the parts of a Try that have a using, in turn
unfoldable pub part_lines : Forest → List Line
part_lines none = []
part_lines (more h k r) =
    (if eqb h.tag Tag.Catch then part_lines k
    else if eqb h.tag Tag.Block then context_lines of_try_part k
    else [])
    ++ part_lines r

-- entering a record, by what it does
unfoldable pub enter_lines : Act → Head → Forest → List Line
enter_lines keep h k = []
enter_lines program h k = program_block ∷ item_lines k
enter_lines block h k = context_lines of_block k
enter_lines function_body h k = context_lines of_body k
enter_lines try_parts h k = part_lines k
enter_lines for_loop h k = context_lines of_for (for_list (one h k))
enter_lines switch h k = context of_switch ∷ wrapped (case_wraps k) ∷ []
enter_lines for_of_insert h k = for_of ∷ []
enter_lines for_of_wrap h k = for_of_block ∷ []

-- what the next visit is charged for its rewrite
unfoldable pub rewrite_lines : Spot → List Line
rewrite_lines (over tree st) = []
rewrite_lines (at earlier h k r path st) = enter_lines (act_of st.as_read h k) h k
rewrite_lines (leaving kids h before after path st) = context_lines of_static_block kids

-- ---- the runtime helper

unfoldable pub is_context : Line → Bool
is_context (context k) = true
is_context (wrapped n) = false
is_context for_of = false
is_context for_of_block = false
is_context program_block = false
is_context top_level_class = false
is_context exported_class = false
is_context default_export = false
is_context (exported_names n) = false
is_context helper = false
is_context import_line = false

unfoldable pub any_context : List Line → Bool
any_context [] = false
any_context (l ∷ ls) = is_context l || any_context ls

-- it is still to be made
abbrev pub missing : Store → Bool
missing st = eqb st.mode Mode.Runtime && eqb st.helper 0

-- WHAT THE NEXT VISIT IS CHARGED: its rewrite, and the helper with the first context.
unfoldable pub due : Spot → List Line
due s = let lines = rewrite_lines s in if missing (store_at s) && any_context lines then helper ∷ lines else lines

-- the charges of the next k visits, as long as there are visits
unfoldable pub dues : ℕ → Spot → List (List Line)
dues zero s = []
dues (suc k) s = if is_over s then [] else (due s ∷ dues k (visit s))

-- ---- the import line (02, request 1)

-- what the line is charged where the walk stands: two records from the call of the last visit on
unfoldable pub import_dues : Spot → List Line
import_dues (over tree st) = if import_due st then import_line ∷ [] else []
import_dues (at earlier h k r path st) = []
import_dues (leaving kids h before after path st) = []
