-- The rows visited and those to visit are the records of the tree.
-- Assumes nothing.
use Rattle.std.specs.Prelude.{◌≡◌, List, [], ◌∷◌, ℕ, suc, ◌+◌, length}
use Rattle.std.proofs.Common.{arith, length-append}
use Rattle.meaning.specs.Tree.{Head, Forest, more, one, count, size, ◌&◌}
use Rattle.meaning.specs.Scoping.{Store}
use Rattle.meaning.specs.Walk.{Crumb, crumb, Spot, at, leaving, over, settle, plug, tree_at}
use Rattle.representation.specs.Gap.Cells.{length_rows, size_&}
use Rattle.representation.specs.Spots.Spots.{open_rows_of, after_rows_of, visited_at, rest_at}
use Rattle.representation.proofs.Spots.Lengths.{inner_length, after_length, visited_at_lem, rest_at_lem, visited_leaving, visited_settled, rest_settled}

-- the records at the end of a path, and what stands around them
plug_size : (path : List Crumb) (f : Forest) (n l : ℕ)
    → size (plug f path) ≡ length (open_rows_of path n l) + (size f + length (after_rows_of path))
unfolding plug size open_rows_of after_rows_of
plug_size [] f n l = omega arith
plug_size (crumb h before after ∷ path) f n l =
    omega (
      arith,
      plug_size path (before & more h f after) (count before + suc (count after)) (count after),
      size_& before (more h f after),
      inner_length h before after path n l,
      after_length h before after path,
    )

rest_leaving : (st : Store) (kids : Forest) (h : Head) (before after : Forest) (path : List Crumb)
    → length (rest_at (leaving kids h before after path st)) ≡ size after + length (after_rows_of path)
unfolding rest_at
rest_leaving st kids h before after path = rw (length-append, length_rows)

-- AT EVERY SPOT
pub rows_size : (s : Spot) → length (visited_at s) + length (rest_at s) ≡ size (tree_at s)
unfolding tree_at visited_at rest_at size
rows_size (over tree st) = omega (arith, length_rows tree)
rows_size (at done h k r path st) =
    omega (
      arith,
      visited_at_lem st done h k r path 0 0,
      rest_at_lem st done h k r path,
      plug_size path (done & more h k r) 0 0,
      size_& done (more h k r),
    )
rows_size (leaving kids h before after path st) =
    omega (
      arith,
      visited_leaving st kids h before after path 0 0,
      rest_leaving st kids h before after path,
      inner_length h before after path 0 0,
      plug_size path (before & more h kids after) (count before + suc (count after)) (count after),
      size_& before (more h kids after),
    )

-- ---- after settling

pub settled_size : (st : Store) (path : List Crumb) (done f : Forest) → size (tree_at (settle done f path st)) ≡ size (plug (done & f) path)
settled_size st path done f =
    omega (
      arith,
      rows_size (settle done f path st),
      visited_settled st path done f 0 0,
      rest_settled st path done f,
      plug_size path (done & f) 0 0,
      size_& done f,
    )

-- ANOTHER RECORD in a record's place
pub plug_other : (path : List Crumb) (done r : Forest) (h : Head) (k : Forest) (h' : Head) (k' : Forest)
    → size (plug (done & more h' k' r) path) + size (one h k) ≡ size (plug (done & more h k r) path) + size (one h' k')
unfolding size
plug_other path done r h k h' k' =
    omega (
      arith,
      plug_size path (done & more h k r) 0 0,
      plug_size path (done & more h' k' r) 0 0,
      size_& done (more h k r),
      size_& done (more h' k' r),
    )
