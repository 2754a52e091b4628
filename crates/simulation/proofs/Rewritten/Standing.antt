-- What the tables say of the record to enter: its rows, its scopes, and what it has to take up.
-- Assumes nothing.
use Rattle.std.specs.Prelude.{◌≡◌, length}
use Rattle.std.proofs.Math.Path.{refl, sym, ap}
use Rattle.std.proofs.Common.{◌∙◌, arith}
use mathlib.Core.List.{List, [], ◌∷◌, ◌++◌, append_assoc}
use Prim.Native.Nat.{ℕ, suc, ◌+◌, ◌≤◌}
use Rattle.meaning.specs.Tree.{Head, Forest, one, count, size}
use Rattle.meaning.specs.Scoping.{Store}
use Rattle.meaning.specs.Contexts.{for_list}
use Rattle.meaning.specs.Charges.{wraps, case_wraps}
use Rattle.meaning.specs.Walk.{Crumb, Spot, at, current_scope, hoist_scope, store_at}
use Rattle.charge_laws.proofs.Counts.TakenUp.{Labelled}
use Rattle.tables.specs.Table.{cap_one, capped, column_f, row_f}
use Rattle.tables.specs.declared.Row.{Row}
use Rattle.path.specs.Path.{Tables}
use Rattle.representation.specs.Gap.Cells.{table, free, line, rows_of}
use Rattle.representation.proofs.Gap.Rows.{row_at_lem, length_snoc, length_left}
use Rattle.representation.specs.Spots.Spots.{open_rows_of, after_rows_of, opens_at, visited_at, rest_at, Rest, walk_at, held}
use Rattle.representation.proofs.Spots.Scopes.{depth_law, current_law, hoist_law}
use Rattle.representation.proofs.Spots.Lengths.{visited_at_lem, rest_at_lem}
use Rattle.statements.specs.Plan.{plan, no_plan, plan_f}
use Rattle.statements.specs.declared.Plan.{Plan}
use Rattle.table_laws.specs.Lists.Plan.{usings, awaits, plan_list_law}
use Rattle.creation.specs.Creation.{in_rows}
use Rattle.scoping_laws.specs.Created.Held.{rows_held}
use Rattle.rewrite_contexts.specs.Lists.{current_in, hoist_in}
use Rattle.rewrite_for_switch.specs.For.{plan_for_f}
use Rattle.rewrite_for_switch.specs.Switch.{plan_cases_f}
use Rattle.table_laws.specs.Streamed.Places.{one_row, more_rows}
use Rattle.table_laws.proofs.Streamed.For.{Plans, plan_for_law}
use Rattle.table_laws.proofs.Streamed.Cases.{case_usings, case_awaits, plan_cases_law}

-- the rows up to the record, with g free ones; up to its list; and behind it
abbrev pub before : Spot → ℕ → List Row
before s g = visited_at s ++ free g

abbrev pub to_list : Spot → ℕ → Head → Forest → List Row
to_list s g h k = before s g ++ line h (count k) ∷ []

abbrev pub behind : Forest → List Crumb → List Row
behind r path = rows_of r ++ after_rows_of path

-- what the list of n items of the record to enter has to take up; what the Cases among them have
abbrev pub list_plan : Tables → ℕ → Plan
list_plan q n = plan_f q.records (no_plan (capped q.walk.gap.0 1)) n

abbrev pub cases_plan : Tables → ℕ → Plan
cases_plan q n = plan_cases_f q.records (capped q.walk.gap.0 1) n

module _ (done : Forest) (h : Head) (k r : Forest) (path : List Crumb) (st : Store) (g : ℕ) (z : Rest) where
  abbrev here : Spot
  here = at done h k r path st

  -- its rows stand behind the free ones
  pub rows_here : (held here g z).records ≡ table (before here g ++ (rows_of (one h k) ++ behind r path)) z.records
  unfolding held rest_at
  rows_here = rw (more_rows h k r (after_rows_of path)) (simp append_assoc)

  pub gap_here : (held here g z).walk.gap.0 ≡ length (before here g)
  unfolding held walk_at
  gap_here = sym (length_left (visited_at here) g)

  line_here : (held here g z).records ≡ table (before here g ++ line h (count k) ∷ (rows_of k ++ behind r path)) z.records
  line_here = rows_here ∙ rw (one_row h k)

  -- ITS OWN ROW
  pub row_is : row_f (held here g z).records (held here g z).walk.gap.0 ≡ line h (count k)
  row_is = rw (line_here, gap_here) (row_at_lem z.records (before here g) (line h (count k)) (rows_of k ++ behind r path))

  pub a_is : column_f (held here g z).records (held here g z).walk.gap.0 1 ≡ h.a
  unfolding row_f
  a_is = ap (λ (x : Row). x.a) row_is

  pub n_is : column_f (held here g z).records (held here g z).walk.gap.0 4 ≡ count k
  unfolding row_f
  n_is = ap (λ (x : Row). x.n) row_is

  -- ---- its store and its scopes

  pub store_is : in_rows (held here g z).scopes (held here g z).symbols (held here g z).walk.ctx ≡ rows_held st z.scopes z.symbols
  unfolding held walk_at store_at
  store_is = refl

  -- the open rows, and what is done
  rows_open : (w : List Row)
      → visited_at here ++ w ≡ open_rows_of path (count done + suc (count r)) (suc (count r)) ++ (rows_of done ++ w)
  unfolding visited_at opens_at
  rows_open w = append_assoc (open_rows_of path (count done + suc (count r)) (suc (count r))) (rows_of done) w

  -- a row for each open record
  deep : length path ≤ length (visited_at here)
  deep =
      let n = count done + suc (count r) in
      omega (arith, depth_law path n (suc (count r)), visited_at_lem st done h k r path n (suc (count r)))

  -- THE CURRENT SCOPE
  pub current_is : current_in (held here g z) ≡ current_scope path
  unfolding held walk_at opens_at
  current_is =
      rw (rows_open (free g ++ rest_at here)) (current_law path _ _ (rows_of done ++ (free g ++ rest_at here)) z.records _ deep)

  -- THE SCOPE FOR HOISTED NAMES
  pub hoist_is : hoist_in (held here g z) ≡ hoist_scope path
  unfolding held walk_at opens_at
  hoist_is =
      rw (rows_open (free g ++ rest_at here)) (hoist_law path _ _ (rows_of done ++ (free g ++ rest_at here)) z.records _ deep)

  -- ---- what it has to take up

  module _ (fits : length (visited_at here) + g + length (rest_at here) ≤ 65535) where
    pub room_here : length (before here g) + size (one h k) ≤ 65535
    unfolding size
    room_here = omega (arith, length_left (visited_at here) g, rest_at_lem st done h k r path)

    -- where its list stands
    pub list_here : (capped (held here g z).walk.gap.0 1 ≡ length (to_list here g h k))
        × ((held here g z).records ≡ table (to_list here g h k ++ (rows_of k ++ behind r path)) z.records)
        × (length (to_list here g h k) + size k ≤ 65535)
    unfolding size
    list_here =
        let l = length_snoc (before here g) (line h (count k)) in (
          ap (λ (i : ℕ). capped i 1) gap_here ∙ cap_one (length (before here g)) (omega (arith, room_here)) ∙ sym l,
          line_here ∙ simp append_assoc,
          omega (arith, room_here),
        )

    -- IN ITS LIST
    pub list_plan_lem : list_plan (held here g z) (count k) ≡ plan (length (to_list here g h k) + size k) (usings k) (awaits k) (wraps k)
    list_plan_lem = rw list_here.0 (plan_list_law z.records k (to_list here g h k) (behind r path) _ list_here.1 list_here.2)

    -- IN ITS CASES
    pub cases_plan_lem : cases_plan (held here g z) (count k)
        ≡ plan (length (to_list here g h k) + size k) (case_usings k) (case_awaits k) (case_wraps k)
    cases_plan_lem = rw list_here.0 (plan_cases_law z.records k (to_list here g h k) (behind r path) _ list_here.1 list_here.2)

    -- BELOW ITS LABELS
    pub for_plan : Labelled (one h k) → Plans (for_list (one h k)) (plan_for_f (held here g z).records (held here g z).walk.gap.0)
    for_plan o = rw gap_here (plan_for_law z.records (one h k) (before here g) (behind r path) _ o rows_here room_here)
