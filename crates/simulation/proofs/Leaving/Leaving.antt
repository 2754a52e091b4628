-- Leaving a StaticBlock is one visit.
-- Assumes nothing.
use Rattle.std.specs.Prelude.{◌≡◌, Bool, true, false, List, ℕ, ◌+◌, ◌≤◌, length}
use Rattle.std.proofs.Math.Path.{refl}
use Rattle.std.proofs.Common.{arith}
use Rattle.meaning.specs.Tree.{Head, Forest, count, size}
use Rattle.meaning.specs.Scoping.{Store}
use Rattle.meaning.specs.Statements.{any_using}
use Rattle.meaning.specs.Walk.{Crumb, leaving, leave, visit}
use Rattle.representation.proofs.Store.Agreed.{Agreed}
use Rattle.representation.specs.Spots.Spots.{visited_at, rest_at, Rest, held}
use Rattle.representation.proofs.Spots.Scopes.{inner_number}
use Rattle.representation.proofs.Spots.Lengths.{visited_leaving}
use Rattle.scoping_laws.specs.Created.Held.{Room}
use Rattle.scoping_laws.specs.Created.Parts.{static_agreed}
use Rattle.simulation.proofs.Rewritten.Replaced.{with_free}
use Rattle.walk.specs.Visit.{leave_f}
use Rattle.simulation.specs.Leaving.Standing.{closed_rows, closed_tables, settled_law}
use Rattle.simulation.specs.Leaving.Block.{records_for, scopes_for, symbols_for, leave_by}
use Rattle.simulation.proofs.Leaving.Block.{leave_block_law}

module _ (kids : Forest) (h : Head) (before after : Forest) (path : List Crumb) (st : Store) where
  -- LEAVING A STATICBLOCK
  pub leave_visit_law : (g : ℕ) (z : Rest)
      → (let s = leaving kids h before after path st in
      let b = any_using kids in
      let n = records_for b kids in
      length (visited_at s) + (n + g) + length (rest_at s) ≤ 65535 → Agreed st → Room (leave h kids st).1
      → leave_f (held s (n + g) (with_free (scopes_for b) (symbols_for b st) z)) ≡ held (visit s) g z)
  unfolding leave_f leave visit size
  leave_visit_law g z fits a room =
      let b = any_using kids in
      let n = records_for b kids in
      let z₀ = with_free (scopes_for b) (symbols_for b st) z in
      let e = leave_by b h kids st in
      let l₁ = visited_leaving st kids h before after path (count kids) 0 in
      let l₂ = inner_number h before after path (count kids) 0 in
      rw (
        closed_rows before after path h kids st (n + g) z₀,
        closed_tables before after path h kids st (n + g) z₀,
        leave_block_law before after path h kids st g z b refl (omega arith) a room,
      )
      (settled_law before after path e.0.head e.0.children e.1 g z)

  -- the symbol rows still agree with those read
  by_using : (b : Bool) → Agreed st → Agreed (leave_by b h kids st).1
  by_using true a = static_agreed h kids st a
  by_using false a = a

  pub leave_kept : Agreed st → Agreed (leave h kids st).1
  unfolding leave
  leave_kept a = by_using (any_using kids) a
