-- A ForOf that gives its using to its body.
-- Assumes nothing.
use Rattle.std.specs.Prelude.{◌≡◌, refl, true, false, List, ◌∷◌, ◌++◌, ℕ, suc, ◌+◌, ◌≤◌}
use Rattle.std.proofs.Common.{sym, append_assoc, arith}
use Rattle.std.proofs.Math.ListN.{length}
use Rattle.meaning.specs.Numbers.Tag
use Rattle.meaning.specs.Numbers.Kind
use Rattle.meaning.specs.Tree.{Head, hd, Forest, more, one, size, ◌&◌}
use Rattle.meaning.specs.Shapes.{block, declaration, read}
use Rattle.meaning.specs.Scoping.{Store, symbol_in, create_symbol, insert_scope_below, move_binding}
use Rattle.meaning.specs.ForOf.{bound_symbol, rebind, insert_using, wrap_body, enter_for_of_statement}
use Rattle.meaning.specs.Walk.{Crumb, at, store_at}
use Rattle.charge_laws.proofs.Growth.Rows.{symbol_made as symbol_grows, scope_below, binding_moved as binding_grows}
use Rattle.charge_laws.proofs.Counts.Enter.{Begins}
use Rattle.tables.specs.declared.Row.{Row}
use Rattle.representation.specs.Gap.Cells.{table, free, gapped}
use Rattle.scoping.specs.Changes.{move_binding_f}
use Rattle.representation.specs.Store.Held.{scope_cells, symbol_cells, ctx_of, symbols_held}
use Rattle.representation.proofs.Store.Symbols.{name_is, symbol_made, symbol_number_lem, binding_moved, binding_ctx}
use Rattle.representation.proofs.Store.Agreed.{Agreed, agrees_length}
use Rattle.representation.specs.Spots.Spots.{visited_at, rest_at, Rest, held}
use Rattle.scoping_laws.specs.Created.Held.{free_scopes, free_symbols, Room, room_before}
use Rattle.scoping_laws.specs.Created.Scopes.{below_symbols, below_number}
use Rattle.rewrite_for_of.specs.ForOf.{make_temp_f, insert_using_f, wrap_body_f}
use Rattle.table_laws.proofs.Streamed.ForOf.{size_rebind, insert_rows_law, wrap_rows_law}
use Rattle.simulation.proofs.Rewritten.Standing.{before, behind, a_is}
use Rattle.simulation.proofs.Rewritten.Replaced.{with_free, rewritten, start_law, start_room, replaced_law}
use Rattle.simulation.proofs.Rewritten.Sides.{symbols_are, symbol_is, kind_is, scope_is, below_is}

-- ---- the new symbol

abbrev temp_in : Head → Forest → Store → ℕ × Store
temp_in h k₁ st = create_symbol (symbol_in st (bound_symbol k₁)).name 6 h.a 1 st

temp_made : (h : Head) (k₁ : Forest) (st : Store) (z : List ℕ) → Agreed st → suc (length st.symbols) ≤ 65535
    → make_temp_f (symbols_held st (free_symbols 1 z)) (bound_symbol k₁) h.a ≡ symbols_held (temp_in h k₁ st).1 z
unfolding make_temp_f free_symbols
temp_made h k₁ st z a room =
    rw (name_is st.symbols st.as_read (0 ∷ 0 ∷ 0 ∷ 0 ∷ 0 ∷ z) (bound_symbol k₁))
    (symbol_made st _ 6 h.a 1 0 0 0 0 z room (agrees_length st.as_read st.symbols a))

-- the scopes stay
temp_scopes : (earlier : Forest) (h : Head) (k₁ k r : Forest) (path : List Crumb) (st : Store) (g : ℕ) (z : Rest)
    → (held (at earlier h k r path st) g z).scopes ≡ scope_cells (temp_in h k₁ st).1.scopes z.scopes
unfolding held store_at create_symbol
temp_scopes earlier h k₁ k r path st g z = refl

-- the using moves
moved_held : (y scope : ℕ) (st : Store) (zs zy : List ℕ)
    → (let st' = (move_binding y scope st).1 in
    (move_binding_f (symbols_held st zy) y scope ≡ symbol_cells st'.symbols st'.as_read zy)
    × (scope_cells st.scopes zs ≡ scope_cells st'.scopes zs) × (ctx_of st ≡ ctx_of st'))
unfolding move_binding
moved_held y scope st zs zy = (binding_moved st y zy scope, refl, sym (binding_ctx st y scope))

-- ---- what is put in its place

module _ (h h₁ : Head) (k₁ : Forest) (h₂ : Head) (k₂ : Forest) (h₃ : Head) (k₃ r₃ : Forest) (kind y temp : ℕ) where
  -- with a body
  abbrev bodied : Forest → Forest
  bodied body = more (hd Tag.Declaration Kind.Const 0 0) (rebind temp k₁) (more h₂ k₂ (body & r₃))

  insert_size : size (one h (bodied (one h₃ (declaration kind y (read temp) & k₃))))
      ≡ size (one h (more h₁ k₁ (more h₂ k₂ (more h₃ k₃ r₃)))) + 4
  unfolding size ◌&◌
  insert_size = omega (arith, size_rebind temp k₁)

  wrap_size : (scope : ℕ)
      → size (one h (bodied (block scope (declaration kind y (read temp) & one h₃ k₃))))
      ≡ size (one h (more h₁ k₁ (more h₂ k₂ (more h₃ k₃ r₃)))) + 5
  unfolding size ◌&◌
  wrap_size scope = omega (arith, size_rebind temp k₁)

-- rows put together
together : (a m v : List Row) (z : List ℕ) → table (a ++ (m ++ v)) z ≡ (gapped z (a ++ m) 0 v).t
unfolding gapped free
together a m v z = simp append_assoc

module _ (earlier : Forest) (h h₁ : Head) (k₁ : Forest) (h₂ : Head) (k₂ : Forest) (h₃ : Head) (k₃ r₃ r : Forest) (path : List Crumb)
    (st : Store) (g : ℕ) (z : Rest) (b : Begins k₁) where
  start_size : (n : ℕ)
      → (let k = more h₁ k₁ (more h₂ k₂ (more h₃ k₃ r₃)) in
      let s = at earlier h k r path st in
      length (visited_at s) + (n + g) + length (rest_at s) ≤ 65535 → length (before s g) + n + size (one h k) ≤ 65535)
  unfolding size
  start_size n fits = omega (arith, start_room earlier h (more h₁ k₁ (more h₂ k₂ (more h₃ k₃ r₃))) r path st n g z fits)

  -- THE USING GOES INTO THE BODY
  pub insert_law :
      (let k = more h₁ k₁ (more h₂ k₂ (more h₃ k₃ r₃)) in
      let s = at earlier h k r path st in
      let e = enter_for_of_statement false h k st in
      length (visited_at s) + (4 + g) + length (rest_at s) ≤ 65535 → Agreed st → Room e.1
      → insert_using_f (held s (4 + g) (with_free 0 1 z)) ≡ held (rewritten earlier r path e) g z)
  unfolding insert_using_f enter_for_of_statement insert_using store_at free_scopes
  insert_law fits a room =
      let k = more h₁ k₁ (more h₂ k₂ (more h₃ k₃ r₃)) in
      let s = at earlier h k r path st in
      let z₀ = with_free 0 1 z in
      let y = bound_symbol k₁ in
      let st₁ = (temp_in h k₁ st).1 in
      let temp = length st₁.symbols in
      let r₁ = room_before (binding_grows y h₃.a st₁) room in
      let m = moved_held y h₃.a st₁ z.scopes z.symbols in
      rw (
        symbol_is earlier h h₁ k₁ h₂ k₂ h₃ k₃ r₃ r path st (4 + g) z₀ fits b,
        kind_is earlier h h₁ k₁ h₂ k₂ h₃ k₃ r₃ r path st (4 + g) z₀ fits,
        a_is earlier h k r path st (4 + g) z₀,
        scope_is earlier h h₁ k₁ h₂ k₂ h₃ k₃ r₃ r path st (4 + g) z₀ fits,
        symbols_are s (4 + g) z₀,
        temp_scopes earlier h k₁ k r path st (4 + g) z₀,
        temp_made h k₁ st z.symbols a (omega (arith, (symbol_grows (symbol_in st y).name 6 h.a 1 st).symbols, r₁)),
        m.0,
        m.1,
        m.2,
        symbol_number_lem st (symbol_in st y).name 6 h.a 1,
        start_law earlier h k r path st 4 g z₀,
        insert_rows_law z.records temp h₁.a y h h₁ k₁ h₂ k₂ h₃ k₃ r₃ (before s g) (behind r path) b (start_size 4 fits),
        together (before s g) _ (behind r path) z.records,
      )
      (replaced_law earlier h k r path st 4 g z h _ _ z₀ (insert_size h h₁ k₁ h₂ k₂ h₃ k₃ r₃ h₁.a y temp))

  -- THE USING GOES BEFORE THE BODY in a new Block
  pub wrap_law :
      (let k = more h₁ k₁ (more h₂ k₂ (more h₃ k₃ r₃)) in
      let s = at earlier h k r path st in
      let e = enter_for_of_statement true h k st in
      length (visited_at s) + (5 + g) + length (rest_at s) ≤ 65535 → Agreed st → Room e.1
      → wrap_body_f (held s (5 + g) (with_free 1 1 z)) ≡ held (rewritten earlier r path e) g z)
  unfolding wrap_body_f enter_for_of_statement wrap_body store_at
  wrap_law fits a room =
      let k = more h₁ k₁ (more h₂ k₂ (more h₃ k₃ r₃)) in
      let s = at earlier h k r path st in
      let z₀ = with_free 1 1 z in
      let y = bound_symbol k₁ in
      let st₁ = (temp_in h k₁ st).1 in
      let st₂ = (insert_scope_below h.a (one h₃ k₃) st₁).1 in
      let temp = length st₁.symbols in
      let scope = length st₂.scopes in
      let g₂ = scope_below h.a (one h₃ k₃) st₁ in
      let r₂ = room_before (binding_grows y _ st₂) room in
      let r₁ = room_before g₂ r₂ in
      let m = moved_held y scope st₂ z.scopes z.symbols in
      rw (
        symbol_is earlier h h₁ k₁ h₂ k₂ h₃ k₃ r₃ r path st (5 + g) z₀ fits b,
        kind_is earlier h h₁ k₁ h₂ k₂ h₃ k₃ r₃ r path st (5 + g) z₀ fits,
        a_is earlier h k r path st (5 + g) z₀,
        symbols_are s (5 + g) z₀,
        temp_scopes earlier h k₁ k r path st (5 + g) z₀,
        temp_made h k₁ st z.symbols a (omega (arith, (symbol_grows (symbol_in st y).name 6 h.a 1 st).symbols, r₁)),
        below_is earlier h h₁ k₁ h₂ k₂ h₃ k₃ r₃ r path st (5 + g) z₀ fits st₁ z.scopes h.a (omega (arith, g₂.scopes, r₂)),
        below_symbols h.a (one h₃ k₃) st₁ z.symbols,
        below_number h.a (one h₃ k₃) st₁,
        m.0,
        m.1,
        m.2,
        symbol_number_lem st (symbol_in st y).name 6 h.a 1,
        start_law earlier h k r path st 5 g z₀,
        wrap_rows_law z.records temp h₁.a y h h₁ k₁ h₂ k₂ h₃ k₃ r₃ (before s g) (behind r path) b scope (start_size 5 fits),
        together (before s g) _ (behind r path) z.records,
      )
      (replaced_law earlier h k r path st 5 g z h _ _ z₀ (wrap_size h h₁ k₁ h₂ k₂ h₃ k₃ r₃ h₁.a y temp scope))
