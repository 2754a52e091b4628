-- The numbers of an accepted file fit 16 bits with the import line, too.
-- Assumes nothing.
use Rattle.std.specs.Prelude.{Ok, ◌≡◌, List, ℕ, ◌≤◌}
use Rattle.std.proofs.Common.{arith}
use Rattle.meaning.specs.Tree.{Forest, none, more, ◌&◌}
use Rattle.meaning.specs.File.{File}
use Rattle.meaning.specs.Reading.{read_file}
use Rattle.meaning.specs.Walk.{start, visits, tree_at}
use Rattle.meaning.specs.ImportLine.{with_import, completed}
use Rattle.spec_laws.specs.Trees.{Bytes}
use Rattle.spec_laws.specs.Calls.{completed_keeps}
use Rattle.bound_laws.specs.Numbers.{TreeWithin}
use Rattle.bound_laws.specs.NumbersFit.{numbers_fit}

within_import : (B y : ℕ) (tree : Forest) → 20 ≤ B → y ≤ B → TreeWithin B tree → TreeWithin B (with_import y tree)
unfolding with_import ◌&◌
within_import B y none big l t = tt
within_import B y (more h k r) big l t = (
  t.0,
  (
    (omega arith, omega arith, omega arith, omega arith),
    ((omega arith, l, omega arith, omega arith), tt, tt),
    t.1,
  ),
  t.2,
)

-- The numbers fit where calls for visits lead, too.
pub calls_fit : (b : List ℕ) (f : File) (k : ℕ) → Bytes b → read_file b ≡ Ok f → TreeWithin 65535 (tree_at (completed (visits k (start f))))
calls_fit b f k bytes e =
    let n = numbers_fit b f k bytes e in
    completed_keeps (TreeWithin 65535) (visits k (start f)) n.0 (within_import 65535 _ _ (omega arith) n.1.helper n.0)
