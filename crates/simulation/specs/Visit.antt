-- Before a record the walk leaves nothing and goes on. That one visit on the tables is 01's is in proofs/Visit.antt.
-- Assumes nothing.
use Rattle.std.specs.Prelude.{◌≡◌, true, false, List, [], ◌∷◌, ◌++◌, ℕ, suc, ◌+◌, ltb, length}
use Rattle.std.proofs.Math.Path.{refl}
use Rattle.std.proofs.Common.{append_assoc, ne_eqb, lt-ltb}
use native.Mathlib.Omega.{arith}
use Rattle.meaning.specs.Tree.{Head, Forest, count, size}
use Rattle.meaning.specs.Scoping.{Store}
use Rattle.meaning.specs.Walk.{Crumb, crumb, at, enter, visit}
use Rattle.representation.specs.Gap.Cells.{free, rows_of}
use Rattle.representation.specs.Spots.Spots.{open_rows_of, opens_at, visited_at, rest_at, Rest, walk_at, held}
use Rattle.representation.proofs.Spots.Scopes.{some_open, inner_left}
use Rattle.representation.proofs.Spots.Lengths.{rest_at_lem}
use Rattle.walk.specs.Visit.{is_leaving_f}

-- ---- where the walk stands

-- before a record the innermost open record has children to enter
pub not_leaving : (earlier : Forest) (h : Head) (k r : Forest) (path : List Crumb) (st : Store) (g : ℕ) (z : Rest)
    → (let q = held (at earlier h k r path st) g z in is_leaving_f q.records q.walk ≡ false)
unfolding is_leaving_f held walk_at visited_at opens_at open_rows_of
not_leaving earlier h k r [] st g z = refl
not_leaving earlier h k r (crumb h₁ before after ∷ path) st g z =
    let n = count earlier + suc (count r) in
    let l = suc (count r) in
    let s = at earlier h k r (crumb h₁ before after ∷ path) st in
    rw (
      some_open h₁ before after path n l,
      append_assoc (open_rows_of (crumb h₁ before after ∷ path) n l) (rows_of earlier) (free g ++ rest_at s),
      inner_left h₁ before after path n l (rows_of earlier ++ (free g ++ rest_at s)) z.records,
    )
    (ne_eqb l 0 (λ e. omega arith))

-- before a record there is something to visit
pub goes_on : (earlier : Forest) (h : Head) (k r : Forest) (path : List Crumb) (st : Store) (g : ℕ) (z : Rest)
    → (let w = (held (at earlier h k r path st) g z).walk in ltb w.gap.0 w.end.0 ≡ true)
unfolding held walk_at size
goes_on earlier h k r path st g z =
    let s = at earlier h k r path st in
    let v = length (visited_at s) + g in
    lt-ltb v (v + length (rest_at s)) (omega (arith, rest_at_lem st earlier h k r path))
