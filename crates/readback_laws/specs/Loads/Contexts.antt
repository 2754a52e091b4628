-- The Loads of a tree, and the contexts that lines charge.
-- Assumes nothing.
use Rattle.std.specs.Prelude.{if◌then◌else◌, List, ℕ, ◌+◌, eqb}
use Rattle.meaning.specs.Numbers.Tag
use Rattle.meaning.specs.Numbers.Kind
use Rattle.meaning.specs.Tree.{Forest, none, more}
use Rattle.meaning.specs.Charges.{Line, total}

-- 1 for a Load
unfoldable pub load_of : ℕ → ℕ
load_of t = if eqb t Tag.Load then 1 else 0

unfoldable pub loads : Forest → ℕ
loads none = 0
loads (more h k r) = load_of h.tag + loads k + loads r

-- the contexts that some lines charge
abbrev pub contexts_of : List Line → ℕ
contexts_of ls = (total ls).contexts
