-- A StaticBlock with a using gets its context; any other stays.
-- Assumes nothing.
use Rattle.std.specs.Prelude.{◌≡◌, Bool}
use Rattle.std.proofs.Math.Path.{refl, ap}
use Rattle.std.proofs.Common.{◌∙◌, zero-add}
use Rattle.std.proofs.Math.Bool.{true, false}
use mathlib.Core.List.{List, ◌++◌}
use Prim.Native.Nat.{ℕ, ◌+◌, ◌-◌, ◌≤◌}
use native.Mathlib.Omega.{arith}
use Rattle.std.proofs.Math.ListN.{length}
use Rattle.meaning.specs.Tree.{Head, Forest, one, size}
use Rattle.meaning.specs.Scoping.{Store}
use Rattle.meaning.specs.Statements.{any_using, take_up}
use Rattle.meaning.specs.Contexts.{exit_static_block}
use Rattle.meaning.specs.Charges.{wraps}
use Rattle.meaning.specs.Walk.{Crumb}
use Rattle.tables.specs.Table.{closed_row_f}
use Rattle.tables.specs.declared.Row.{Row}
use Rattle.path.specs.Path.{Tables, with_cursor_f}
use Rattle.representation.specs.Gap.Cells.{rows_of, gapped}
use Rattle.representation.proofs.Store.Agreed.{Agreed}
use Rattle.representation.specs.Spots.Spots.{Rest}
use Rattle.representation.proofs.Spots.Scopes.{under}
use Rattle.statements.specs.declared.Plan.{Plan}
use Rattle.charge_laws.proofs.Growth.Trees.{list_taken}
use Rattle.table_laws.specs.Lists.Plan.{awaits}
use Rattle.scoping_laws.specs.Created.Held.{free_scopes, free_symbols, Room}
use Rattle.scoping_laws.specs.Created.Parts.{static_parts, static_held, static_node, static_room}
use Rattle.rewrite_contexts.specs.Lists.{list_scope, wrapped_rows_f, exit_static_block_f}
use Rattle.table_laws.proofs.Streamed.Lists.{wrapped_rows_law}
use Rattle.simulation.proofs.Rewritten.Replaced.{with_free}
use Rattle.simulation.proofs.Rewritten.Contexts.{try_size}
use Rattle.walk.specs.Visit.{leave_block_f}
use Rattle.simulation.specs.Leaving.Standing.{behind, standing}
use Rattle.simulation.specs.Leaving.Block.{plan_is, back_is, old_is, written_law, no_usings, records_for, scopes_for, symbols_for, leave_by}
use Rattle.simulation.specs.Leaving.Block as block

module _ (before after : Forest) (path : List Crumb) (h : Head) (k : Forest) (st : Store) (g : ℕ) (z : Rest) where
  abbrev up_to : List Row
  up_to = under before after path

  abbrev v : List Row
  v = behind before after path

  abbrev n : ℕ
  n = wraps k + 12

  abbrev taken : Tables
  taken = block.taken before after path h k st g z

  -- IT GETS ITS CONTEXT
  exit_law : (p : Plan) → p.awaits ≡ awaits k
      → (let e = exit_static_block h k st in
      length up_to + (n + g) + size (one h k) ≤ 65535 → Agreed st → Room e.1
      → exit_static_block_f p taken ≡ standing before after path e.0.head e.0.children e.1 g z)
  unfolding exit_static_block_f with_cursor_f size
  exit_law p same fits a room =
      let parts = static_parts h k st (awaits k) in
      let s = list_scope parts in
      let ctx = parts.context.0 in
      let room' = static_room h k st (awaits k) room in
      let i : n + g ≡ wraps k + (12 + g) = omega arith in
      let rows = ap
      (λ (i : ℕ). wrapped_rows_f (closed_row_f 16 s 0 0 1) h.a parts (gapped z.records up_to i (rows_of (one h k) ++ v))) i
      ∙ wrapped_rows_law z.records 16 s h k h.a parts up_to g v (omega arith) room' in
      let larger = try_size h.a (take_up ctx k) parts in
      rw (
        old_is before after path h k st g z,
        same,
        static_held h k st z.scopes z.symbols (awaits k) a room,
        rows,
        static_node h k st (awaits k) refl,
      )
      (written_law before after path h k st g z _ (exit_static_block h k st).1 (omega (arith, larger, list_taken k ctx)))

module _ (before after : Forest) (path : List Crumb) (h : Head) (k : Forest) (st : Store) (g : ℕ) (z : Rest) where
  -- THE STATICBLOCK IS LEFT, first by whether it has a using
  pub leave_block_law : (b : Bool) → any_using k ≡ b
      → (let n = records_for b k in
      let e = leave_by b h k st in
      length (under before after path) + (n + g) + size (one h k) ≤ 65535 → Agreed st → Room e.1
      → leave_block_f (standing before after path h k st (n + g) (with_free (scopes_for b) (symbols_for b st) z))
      ≡ standing before after path e.0.head e.0.children e.1 g z)
  unfolding leave_block_f free_scopes free_symbols
  leave_block_law true u fits a room =
      let n = wraps k + 12 in
      rw (
        plan_is before after path h k st (n + g) z.records (omega arith),
        no_usings k true u,
        back_is before after path h k st (n + g) z.records (omega arith),
      )
      (exit_law before after path h k st g z _ refl fits a room)
  leave_block_law false u fits a room =
      rw (zero-add g, plan_is before after path h k st g z.records (omega arith), no_usings k false u)
