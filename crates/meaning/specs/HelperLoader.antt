-- `helper_load` (src/common/helper_loader.rs).
-- Assumes nothing.
use Rattle.std.specs.Prelude.{if◌then◌else◌, Bool, ℕ, length, eqb, leb}
use Rattle.meaning.specs.Numbers.Mode
use Rattle.meaning.specs.Numbers.SymbolFlag
use Rattle.meaning.specs.Numbers.KnownName
use Rattle.meaning.specs.Tree.{Forest}
use Rattle.meaning.specs.Shapes.{load}
use Rattle.meaning.specs.Scoping.{Store, Change, ◌>>=◌, ◌>>◌, return, get, put, with_helper, generate_uid, find_binding}

-- Runtime: the first load makes one symbol on `using_ctx` in scope 1, an import in a module and a var elsewhere; later loads read it.
unfoldable pub make_helper : Change ℕ
make_helper = do
  st ← get
  y ← generate_uid KnownName.UsingCtx 1 (if eqb st.is_module 1 then SymbolFlag.Import else SymbolFlag.FunctionScoped)
  st' ← get
  put (with_helper st' y)
  return y

unfoldable pub load_runtime : Change Forest
load_runtime = do
  st ← get
  y ← (if eqb st.helper 0 then make_helper else return st.helper)
  return (load Mode.Runtime y)

-- External: the symbol of `babelHelpers` seen from the current scope, or 0.
unfoldable pub load_external : ℕ → Change Forest
load_external cur = do
  st ← get
  return (load Mode.External (find_binding (length st.scopes) st cur KnownName.BabelHelpers))

-- The load of a context is the walk's first if no other context was made; that context is counted already (02, request 1).
unfoldable pub is_first : Store → Bool
is_first st = leb st.contexts 1

-- by the mode; in inline mode there is no load, since refusal 8 comes before
unfoldable pub helper_load : ℕ → Change Forest
helper_load cur = do
  st ← get
  if eqb st.mode Mode.Runtime then load_runtime else load_external cur
