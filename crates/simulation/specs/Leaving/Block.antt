-- The tables when a StaticBlock is left: what it has to take up, its rows taken back, and another record in its place.
-- Assumes nothing.
use Rattle.std.specs.Prelude.{if◌then◌else◌, ◌≡◌, Bool, not, eqb}
use Rattle.std.proofs.Math.Path.{refl, ap}
use Rattle.std.proofs.Common.{sym, ◌∙◌}
use Rattle.std.proofs.Math.Bool.{true, false}
use mathlib.Core.List.{List, ◌++◌, append_assoc}
use Prim.Native.Nat.{ℕ, suc, ◌+◌, ◌-◌, ◌≤◌}
use native.Mathlib.Omega.{arith}
use Rattle.std.proofs.Math.ListN.{length, length-append}
use Rattle.meaning.specs.Tree.{Head, Forest, Node, node, one, single, count, size}
use Rattle.meaning.specs.Scoping.{Store, return}
use Rattle.meaning.specs.Statements.{any_using}
use Rattle.meaning.specs.Contexts.{exit_static_block}
use Rattle.meaning.specs.Charges.{wraps}
use Rattle.meaning.specs.Walk.{Crumb}
use Rattle.meaning.specs.Due.{missing}
use Rattle.charge_laws.proofs.Growth.Rows.{one_if}
use Rattle.tables.specs.Table.{capped, column_f, row_f}
use Rattle.tables.specs.Stream.{Buf, take_back_f}
use Rattle.tables.specs.declared.Row.{Row}
use Rattle.path.specs.Path.{Tables, tables, with_cursor_f, with_ctx_f}
use Rattle.representation.specs.Gap.Cells.{free, line, rows_of, gapped, length_rows}
use Rattle.representation.proofs.Gap.Rows.{n_at, next_gapped, take_back_gapped}
use Rattle.representation.specs.Store.Held.{scope_cells, symbol_cells, ctx_of}
use Rattle.representation.specs.Spots.Spots.{Rest}
use Rattle.representation.proofs.Spots.Scopes.{under}
use Rattle.representation.proofs.Spots.Lengths.{walk_eq}
use Rattle.statements.specs.Plan.{plan, no_plan, plan_f}
use Rattle.table_laws.specs.Lists.Plan.{usings, awaits, any_usings, cap_sum}
use Rattle.scoping_laws.specs.Created.Held.{free_scopes, free_symbols}
use Rattle.table_laws.specs.Streamed.Places.{one_row, plan_below}
use Rattle.simulation.specs.Leaving.Standing.{behind, walk_in, rows_in, standing}

module _ (before after : Forest) (path : List Crumb) (h : Head) (k : Forest) (st : Store) where
  abbrev pub up_to : List Row
  up_to = under before after path

  abbrev pub v : List Row
  v = behind before after path

  -- ---- its list

  module _ (g : ℕ) (z : List ℕ) where
    abbrev t : List ℕ
    t = rows_in before after path h k g z

    -- what it has to take up
    pub plan_is : length up_to + size (one h k) ≤ 65535
        → plan_f t (no_plan (suc (length up_to))) (column_f t (suc (length up_to) - 1) 4)
        ≡ plan (length up_to + suc (size k)) (usings k) (awaits k) (wraps k)
    unfolding size
    plan_is fits =
        let i : suc (length up_to) - 1 ≡ length up_to = omega arith in
        let j : capped (length up_to) 1 ≡ suc (length up_to) = cap_sum (length up_to) 1 (omega arith) ∙ omega arith in
        rw (i, ← j, one_row h k, n_at z up_to (line h (count k)) (rows_of k ++ (free g ++ v)))
        (plan_below z h k up_to (free g ++ v) _ refl (omega arith))

    -- its rows stand behind the gap again
    pub back_is : length up_to + size (one h k) + 1 ≤ 65535
        → (let w = walk_in before after path h k st g in
        take_back_f (capped w.visited.0 1 - w.inner.0) (record { t = t; read = w.gap.0; written = w.visited.0 })
        ≡ gapped z up_to g (rows_of (one h k) ++ v))
    unfolding gapped
    back_is fits =
        let m = rows_of (one h k) in
        let l₁ = length_rows (one h k) in
        let l₂ : length (up_to ++ m) ≡ length up_to + size (one h k) = omega (arith, length-append up_to m) in
        let l₃ : capped (length up_to + size (one h k)) 1 - suc (length up_to) ≡ length m =
        omega (arith, cap_sum (length up_to + size (one h k)) 1 fits) in
        rw (l₃, ← l₂, ← append_assoc up_to m (free g ++ v)) (take_back_gapped z up_to g m v)

  -- ---- its context

  module _ (g : ℕ) (z : Rest) where
    abbrev pub n : ℕ
    n = wraps k + 12

    -- the tables once its rows are taken back
    abbrev pub back : Buf
    back = gapped z.records up_to (n + g) (rows_of (one h k) ++ v)

    abbrev pub taken : Tables
    taken =
        tables
        back.t
        (scope_cells st.scopes (free_scopes 4 z.scopes))
        (symbol_cells st.symbols st.as_read (free_symbols (2 + one_if (missing st)) z.symbols))
        (with_cursor_f (walk_in before after path h k st (n + g)) back.read back.written)

    pub old_is : column_f back.t back.read 1 ≡ h.a
    unfolding row_f
    old_is =
        rw (one_row h k) (ap (λ (x : Row). x.a) (next_gapped z.records up_to (n + g) (line h (count k)) (rows_of k ++ v)))

    -- another record, larger by n, is written
    pub written_law : (x : Node) (st' : Store) → size (single x) ≡ size (one h k) + n
        → (let b = gapped z.records (up_to ++ rows_of (single x)) g v in
        tables
        b.t
        (scope_cells st'.scopes z.scopes)
        (symbol_cells st'.symbols st'.as_read z.symbols)
        (with_ctx_f (with_cursor_f taken.walk b.read b.written) (ctx_of st'))
        ≡ standing before after path x.head x.children st' g z)
    unfolding gapped with_ctx_f with_cursor_f
    written_law x st' larger =
        let l₁ = length-append up_to (rows_of (single x)) in
        let l₂ = length_rows (single x) in
        rw (append_assoc up_to (rows_of (single x)) (free g ++ v))
        (ap
        (tables
        (rows_in before after path x.head x.children g z.records)
        (scope_cells st'.scopes z.scopes)
        (symbol_cells st'.symbols st'.as_read z.symbols))
        (walk_eq (omega arith) (omega arith) (omega arith) refl refl))

-- ---- by whether it has a using

pub no_usings : (k : Forest) (b : Bool) → any_using k ≡ b → eqb (usings k) 0 ≡ not b
no_usings k b e = not_not (eqb (usings k) 0) ∙ ap not (sym (any_usings k) ∙ e)
  where
    not_not : (c : Bool) → c ≡ not (not c)
    not_not true = refl
    not_not false = refl

-- the free rows that leaving it takes: records, scopes, symbols
abbrev pub records_for : Bool → Forest → ℕ
records_for b k = if b then wraps k + 12 else 0

abbrev pub scopes_for : Bool → ℕ
scopes_for b = if b then 4 else 0

abbrev pub symbols_for : Bool → Store → ℕ
symbols_for b st = if b then 2 + one_if (missing st) else 0

-- what is put in its place
abbrev pub leave_by : Bool → Head → Forest → Store → Node × Store
leave_by b h k st = (if b then exit_static_block h k else return (node h k)) st
