-- What the tables say of a ForOf to enter: its using, its body, and what is done.
-- Assumes nothing.
use Rattle.std.specs.Prelude.{if◌then◌else◌, ◌≡◌, refl, Bool, true, false, not, ◌&&◌, List, ◌∷◌, ◌++◌, ℕ, suc, ◌+◌, ◌≤◌, ◌<◌, eqb, length}
use Rattle.std.proofs.Math.Path.{ap}
use Rattle.std.proofs.Common.{◌∙◌, append_assoc, arith}
use Rattle.std.proofs.Math.ListN.{length-append}
use Rattle.meaning.specs.Numbers.Tag
use Rattle.meaning.specs.Tree.{Head, Forest, none, more, one, count, size}
use Rattle.meaning.specs.Scoping.{Store, insert_scope_below}
use Rattle.meaning.specs.Statements.{is_using}
use Rattle.meaning.specs.ForOf.{binds_identifier, bound_symbol, binds_name, ForOfAct, as_is, insert, wrap, for_of_act}
use Rattle.meaning.specs.Walk.{Crumb, Spot, at, store_at}
use Rattle.charge_laws.proofs.Counts.Enter.{Begins, Left}
use Rattle.tables.specs.Table.{capped, column_f, row_f}
use Rattle.tables.specs.declared.Row.{Row}
use Rattle.representation.specs.Gap.Cells.{table, line, rows_of, length_rows}
use Rattle.representation.proofs.Gap.Rows.{a_at}
use Rattle.scoping.specs.Changes.{SymbolRows, in_symbols}
use Rattle.representation.specs.Store.Held.{scopes_held, symbols_held}
use Rattle.representation.proofs.Store.Searches.{binds_name_is}
use Rattle.representation.proofs.Store.Agreed.{Agreed}
use Rattle.path.specs.Path.{Tables}
use Rattle.representation.specs.Spots.Spots.{visited_at, rest_at, Rest, walk_at, held}
use Rattle.creation.specs.Scopes.{insert_scope_below_f}
use Rattle.scoping_laws.specs.Created.Held.{free_scopes}
use Rattle.scoping_laws.specs.Created.Scopes.{insert_below_law}
use Rattle.rewrite_for_of.specs.ForOf.{takes_using_f, using_symbol_f, body_after_f, inserts_f}
use Rattle.table_laws.specs.Lists.Plan.{parted}
use Rattle.table_laws.specs.Streamed.Places.{more_rows}
use Rattle.table_laws.proofs.Streamed.Sides.{sides_rows, takes_none_law, takes_using_law, using_symbol_law, body_after_law, body_row_law}
use Rattle.simulation.proofs.Rewritten.Standing.{before, to_list, behind, rows_here, gap_here, room_here, list_here}

-- the symbol rows of a spot
pub symbols_are : (s : Spot) (g : ℕ) (z : Rest)
    → in_symbols (held s g z).symbols (held s g z).walk.ctx ≡ symbols_held (store_at s) z.symbols
unfolding held walk_at
symbols_are s g z = refl

module _ (done : Forest) (h h₁ : Head) (k₁ : Forest) (h₂ : Head) (k₂ : Forest) (h₃ : Head) (k₃ r₃ r : Forest) (path : List Crumb)
    (st : Store) (g : ℕ) (z : Rest) where
  abbrev children : Forest
  children = more h₁ k₁ (more h₂ k₂ (more h₃ k₃ r₃))

  abbrev here : Spot
  here = at done h children r path st

  abbrev t : List ℕ
  t = (held here g z).records

  abbrev gap : ℕ
  gap = (held here g z).walk.gap.0

  module _ (fits : length (visited_at here) + g + length (rest_at here) ≤ 65535) where
    stands : t ≡ table (before here g ++ (rows_of (one h children) ++ behind r path)) z.records
    stands = rows_here done h children r path st g z

    within : length (before here g) + size (one h children) ≤ 65535
    within = room_here done h children r path st g z fits

    -- ---- its using

    takes_is : takes_using_f t gap ≡ (is_using h₁ && binds_identifier k₁)
    takes_is =
        rw (gap_here done h children r path st g z)
        (takes_using_law z.records h h₁ k₁ h₂ k₂ h₃ k₃ r₃ (before here g) (behind r path) t stands within)

    pub symbol_is : Begins k₁ → using_symbol_f t gap ≡ bound_symbol k₁
    symbol_is b =
        rw (gap_here done h children r path st g z)
        (using_symbol_law z.records h h₁ k₁ h₂ k₂ h₃ k₃ r₃ (before here g) (behind r path) t stands within b)

    pub kind_is : column_f t (capped gap 1) 1 ≡ h₁.a
    kind_is =
        let l = list_here done h children r path st g z fits in
        let a = to_list here g h children in
        let e = (parted z.records h₁ k₁ (more h₂ k₂ (more h₃ k₃ r₃)) a (behind r path) t l.1).0 in
        rw (l.0, e) (a_at z.records a (line h₁ (count k₁)) _)

    -- ---- its body

    body_is : row_f t (body_after_f t gap) ≡ line h₃ (count k₃)
    body_is =
        rw (gap_here done h children r path st g z)
        (body_row_law z.records h h₁ k₁ h₂ k₂ h₃ k₃ r₃ (before here g) (behind r path) t stands within)

    pub scope_is : column_f t (body_after_f t gap) 1 ≡ h₃.a
    unfolding row_f
    scope_is = ap (λ (x : Row). x.a) body_is

    -- where it stands
    abbrev up_to : List Row
    up_to = before here g ++ line h (count children) ∷ (rows_of (one h₁ k₁) ++ rows_of (one h₂ k₂))

    body_here : (body_after_f t gap ≡ length up_to)
        × (t ≡ table (up_to ++ (rows_of (one h₃ k₃) ++ (rows_of r₃ ++ behind r path))) z.records)
        × (length up_to + size (one h₃ k₃) ≤ 65535)
    unfolding size
    body_here =
        let a = before here g in
        let v = behind r path in
        let e = body_after_law z.records h h₁ k₁ h₂ k₂ h₃ k₃ r₃ a v t stands within in
        let l₁ = length-append a (line h (count children) ∷ (rows_of (one h₁ k₁) ++ rows_of (one h₂ k₂))) in
        let l₂ = length-append (rows_of (one h₁ k₁)) (rows_of (one h₂ k₂)) in
        let l₃ = length_rows (one h₁ k₁) in
        let l₄ = length_rows (one h₂ k₂) in (
          rw (gap_here done h children r path st g z) (e ∙ omega arith),
          stands ∙ rw (sides_rows h h₁ k₁ h₂ k₂ (more h₃ k₃ r₃) v, more_rows h₃ k₃ r₃ v) (simp append_assoc),
          omega (arith, within),
        )

    -- a new scope above it
    pub below_is : (st₁ : Store) (zs : List ℕ) (scope : ℕ) → suc (length st₁.scopes) ≤ 65535
        → insert_scope_below_f t (scopes_held st₁ (free_scopes 1 zs)) scope (body_after_f t gap) 1
        ≡ scopes_held (insert_scope_below scope (one h₃ k₃) st₁).1 zs
    unfolding count
    below_is st₁ zs scope i =
        rw body_here.0 (insert_below_law zs z.records (one h₃ k₃) up_to _ t body_here.1 body_here.2 st₁ scope i)

    inserts_is : Begins k₁ → Agreed st
        → inserts_f t (in_symbols (held here g z).symbols (held here g z).walk.ctx) gap
        ≡ (eqb h₃.tag Tag.Block && not (binds_name st.as_read h₃.a (bound_symbol k₁)))
    unfolding inserts_f store_at
    inserts_is b a =
        ap (λ (q : SymbolRows). inserts_f t q gap) (symbols_are here g z)
        ∙ rw (body_is, symbol_is b, binds_name_is st z.symbols h₃.a (bound_symbol k₁) a)

-- ---- what is done

abbrev pub for_of_act_f : Tables → ForOfAct
for_of_act_f q =
    let gap = q.walk.gap.0 in
    if takes_using_f q.records gap then (
    if inserts_f q.records (in_symbols q.symbols q.walk.ctx) gap then insert else wrap)
    else as_is

-- with fewer than three children
none_is : (done : Forest) (h : Head) (k r : Forest) (path : List Crumb) (st : Store) (g : ℕ) (z : Rest) → count k < 3
    → for_of_act_f (held (at done h k r path st) g z) ≡ as_is
none_is done h k r path st g z i =
    rw (
      gap_here done h k r path st g z,
      takes_none_law z.records h k _ (behind r path) _ (rows_here done h k r path st g z) i,
    )

-- with three, by whether it takes its using
three_is : (done : Forest) (h h₁ : Head) (k₁ : Forest) (h₂ : Head) (k₂ : Forest) (h₃ : Head) (k₃ r₃ r : Forest) (path : List Crumb)
    (st : Store) (g : ℕ) (z : Rest) (b : Bool)
    → (let k = more h₁ k₁ (more h₂ k₂ (more h₃ k₃ r₃)) in
    let s = at done h k r path st in
    length (visited_at s) + g + length (rest_at s) ≤ 65535 → Agreed st → (is_using h₁ && binds_identifier k₁) ≡ b → (b ≡ true → Begins k₁)
    → for_of_act_f (held s g z) ≡ for_of_act st.as_read k)
unfolding for_of_act
three_is done h h₁ k₁ h₂ k₂ h₃ k₃ r₃ r path st g z true fits a e l =
    rw (
      takes_is done h h₁ k₁ h₂ k₂ h₃ k₃ r₃ r path st g z fits,
      e,
      inserts_is done h h₁ k₁ h₂ k₂ h₃ k₃ r₃ r path st g z fits (l refl) a,
    )
three_is done h h₁ k₁ h₂ k₂ h₃ k₃ r₃ r path st g z false fits a e l =
    rw (takes_is done h h₁ k₁ h₂ k₂ h₃ k₃ r₃ r path st g z fits, e)

-- THE TABLES SAY WHAT 01 SAYS
pub for_of_act_law : (done : Forest) (h : Head) (k r : Forest) (path : List Crumb) (st : Store) (g : ℕ) (z : Rest)
    → (let s = at done h k r path st in
    length (visited_at s) + g + length (rest_at s) ≤ 65535 → Agreed st → Left k → for_of_act_f (held s g z) ≡ for_of_act st.as_read k)
unfolding for_of_act count
for_of_act_law done h none r path st g z fits a l = none_is done h none r path st g z (omega arith)
for_of_act_law done h (more h₁ k₁ none) r path st g z fits a l = none_is done h (one h₁ k₁) r path st g z (omega arith)
for_of_act_law done h (more h₁ k₁ (more h₂ k₂ none)) r path st g z fits a l =
    none_is done h (more h₁ k₁ (one h₂ k₂)) r path st g z (omega arith)
for_of_act_law done h (more h₁ k₁ (more h₂ k₂ (more h₃ k₃ r₃))) r path st g z fits a l =
    three_is done h h₁ k₁ h₂ k₂ h₃ k₃ r₃ r path st g z (is_using h₁ && binds_identifier k₁) fits a refl (λ e. (l e).1)
