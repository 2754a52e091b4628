-- The runtime helper's import (02, request 1): the line, and the calls for visits, the last of which puts it.
-- Assumes nothing.
use Rattle.std.specs.Prelude.{if◌then◌else◌, Bool, not, ◌&&◌, ℕ, zero, suc, eqb}
use Rattle.meaning.specs.Numbers.Mode
use Rattle.meaning.specs.Tree.{Forest, none, more, ◌&◌}
use Rattle.meaning.specs.Shapes.{import_helper}
use Rattle.meaning.specs.Scoping.{Store}
use Rattle.meaning.specs.Walk.{Spot, at, leaving, over, visit}

-- A module in runtime mode in which a helper was loaded: the first load made its symbol.
unfoldable pub import_due : Store → Bool
import_due st = eqb st.mode Mode.Runtime && eqb st.is_module 1 && not (eqb st.helper 0)

-- Program with the line before all that stands in it
unfoldable pub with_import : ℕ → Forest → Forest
with_import y none = none
with_import y (more h k r) = more h (import_helper y & k) r

-- once the walk is over the line is put, if it is due
unfoldable pub completed : Spot → Spot
completed (over tree st) = over (if import_due st then with_import st.helper tree else tree) st
completed (at done h k r path st) = at done h k r path st
completed (leaving kids h before after path st) = leaving kids h before after path st

-- A CALL FOR THE NEXT VISIT makes that visit; after the last one, in the same call, it puts the line. Later calls change nothing.
unfoldable pub visit_call : Spot → Spot
visit_call (over tree st) = over tree st
visit_call (at done h k r path st) = completed (visit (at done h k r path st))
visit_call (leaving kids h before after path st) = completed (visit (leaving kids h before after path st))

unfoldable pub visit_calls : ℕ → Spot → Spot
visit_calls zero s = s
visit_calls (suc k) s = visit_calls k (visit_call s)
