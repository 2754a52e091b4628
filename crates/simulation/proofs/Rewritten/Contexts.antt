-- A record makes place for one with a context.
-- Assumes nothing.
use Rattle.std.specs.Prelude.{◌≡◌, List, ◌++◌, ℕ, suc, ◌+◌, ◌≤◌, length}
use Rattle.std.proofs.Common.{arith}
use Rattle.meaning.specs.Tree.{Head, Forest, Node, one, single, size, ◌&◌}
use Rattle.meaning.specs.Shapes.{block, try_statement}
use Rattle.meaning.specs.Scoping.{Store}
use Rattle.meaning.specs.Walk.{Crumb, at, current_scope, hoist_scope}
use Rattle.meaning.specs.Due.{missing}
use Rattle.charge_laws.proofs.Growth.Rows.{one_if}
use Rattle.tables.specs.Stream.{Buf}
use Rattle.path.specs.Path.{Tables, tables, charged_f, with_ctx_f}
use Rattle.representation.specs.Gap.Cells.{rows_of, gapped}
use Rattle.representation.specs.Spots.Spots.{visited_at, rest_at, Rest, held}
use Rattle.statements.specs.declared.Parts.{Parts}
use Rattle.table_laws.specs.Lists.Try.{context_of, handlers_of}
use Rattle.creation.specs.Creation.{InRows, in_rows, Creating}
use Rattle.scoping_laws.specs.Created.Held.{free_scopes, free_symbols, rows_held, created_as}
use Rattle.rewrite_contexts.specs.Lists.{current_in, hoist_in}
use Rattle.simulation.proofs.Rewritten.Standing.{before, behind, store_is, current_is, hoist_is}
use Rattle.simulation.proofs.Rewritten.Replaced.{with_free, rewritten, start_law, start_room, replaced_law}

-- a Try around a list with its context
pub try_size : (scope : ℕ) (list : Forest) (p : Parts)
    → size (single (try_statement (block scope (context_of p & list) & handlers_of p))) ≡ size list + 12
unfolding size context_of handlers_of ◌&◌
try_size scope list p = omega arith

-- The rows of a context are made by the current scope and the hoist scope, m record rows are charged, and the record's rows pass.
abbrev pub context_f : (InRows → ℕ → ℕ → Creating) → ℕ → (Parts → Buf → Buf) → Tables → Tables
context_f make m pass q =
    let c = make (in_rows q.scopes q.symbols q.walk.ctx) (current_in q) (hoist_in q) in
    let v = charged_f q.walk m in
    let b = pass c.created.parts (record { t = q.records; read = q.walk.gap.0; written = v.gap.0 }) in
    tables b.t c.scopes c.symbols (with_ctx_f v c.created.ctx)

-- A CONTEXT IS MADE, s scopes with it. The rewrite e puts x in the record's place.
pub context_law : (done : Forest) (h : Head) (k r : Forest) (path : List Crumb) (st : Store) (n g : ℕ) (z : Rest) (s : ℕ)
    (make : InRows → ℕ → ℕ → Creating) (m : ℕ) (pass : Parts → Buf → Buf) (e : Node × Store) (x : Node) (p : Parts)
    → (let here = at done h k r path st in
    let y = 2 + one_if (missing st) in
    make (rows_held st (free_scopes s z.scopes) (free_symbols y z.symbols)) (current_scope path) (hoist_scope path)
    ≡ created_as e.1 z.scopes z.symbols p
    → m ≡ n
    → e.0 ≡ x
    → size (single x) ≡ size (one h k) + n
    → (length (before here g) + n + suc (size k) ≤ 65535
    → pass p (gapped z.records (before here g) n (rows_of (one h k) ++ behind r path))
    ≡ gapped z.records (before here g ++ rows_of (single x)) 0 (behind r path))
    → length (visited_at here) + (n + g) + length (rest_at here) ≤ 65535
    → context_f make m pass (held here (n + g) (with_free s y z)) ≡ held (rewritten done r path e) g z)
context_law done h k r path st n g z s make m pass e x p made same put larger rows fits =
    let z₀ = with_free s (2 + one_if (missing st)) z in
    rw (
      store_is done h k r path st (n + g) z₀,
      current_is done h k r path st (n + g) z₀,
      hoist_is done h k r path st (n + g) z₀,
      made,
      same,
      put,
      start_law done h k r path st n g z₀,
      rows (start_room done h k r path st n g z fits),
    )
    (replaced_law done h k r path st n g z x.head x.children e.1 z₀ larger)
