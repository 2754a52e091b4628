-- Each visit adds as many Loads as it makes contexts.
-- Assumes nothing.
use Rattle.std.specs.Prelude.{if◌then◌else◌, ◌≡◌, refl, Bool, true, false, List, ℕ, ◌+◌}
use Rattle.std.proofs.Common.{arith, eqb-true, eq-eqb}
use Rattle.meaning.specs.Numbers.Tag
use Rattle.meaning.specs.Tree.{Head, Forest, one, Node, node, single}
use Rattle.meaning.specs.Scoping.{Store, return}
use Rattle.meaning.specs.Statements.{any_using}
use Rattle.meaning.specs.Contexts.{exit_static_block}
use Rattle.meaning.specs.Walk.{Act, act_of, enter_as, enter, leave, is_static_block}
use Rattle.meaning.specs.Charges.{of_static_block, of_switch, Line, line_charge, total, context_lines}
use Rattle.meaning.specs.Due.{enter_lines}
use Rattle.charge_laws.proofs.Growth.Charged.{counts, Visited}
use Rattle.charge_laws.proofs.Growth.Enter.{Proper, entered, left}
use Rattle.charge_laws.specs.Growth.Chosen.{Chosen, kept, as_program, as_block, as_body, as_try, as_for, as_switch, as_insert, as_wrap}
use Rattle.charge_laws.proofs.Growth.Chosen.{chosen}
use Rattle.readback_laws.specs.Loads.Contexts.{loads}
use Rattle.readback_laws.proofs.Loads.Contexts.{Brings, kind_one, block_brings, body_brings, static_brings, for_brings, switch_brings, try_brings, insert_keeps, wrap_keeps}
use Rattle.readback_laws.proofs.Loads.Program.{program_keeps, items_free, helper_free}

act_brings : {a : Act} {h : Head} {k : Forest} (cur hoist : ℕ) (st : Store) → Proper h k → Chosen a h k
    → Brings (enter_lines a h k) (one h k) (single (enter_as a cur hoist h k st).0)
unfolding enter_lines enter_as total line_charge
act_brings {h = h} {k = k} cur hoist st p (kept i) = omega arith
act_brings {h = h} {k = k} cur hoist st p (as_program e u) =
    omega (arith, (items_free k).free, program_keeps h k st (p.0 (eq-eqb h.tag Tag.Program e) u))
act_brings {h = h} {k = k} cur hoist st p (as_block e u) = block_brings cur hoist h k st u e
act_brings {h = h} {k = k} cur hoist st p (as_body e u) = body_brings cur hoist h k st u e
act_brings {h = h} {k = k} cur hoist st p (as_try e u) = try_brings cur hoist h k st
act_brings {h = h} {k = k} cur hoist st p (as_for e u) = for_brings cur hoist h k st u
act_brings {h = h} {k = k} cur hoist st p (as_switch e u) = omega (arith, switch_brings cur h k st, kind_one of_switch)
act_brings {h = h} cur hoist st p (as_insert {h₁ = h₁} {h₂ = h₂} {h₃ = h₃} {k₁ = k₁} {k₂ = k₂} {k₃ = k₃} {r = r} e b two) =
    omega (arith, insert_keeps h h₁ k₁ h₂ k₂ h₃ k₃ r st b.uses (p.1 (eq-eqb h.tag Tag.ForOf e) b.both))
act_brings {h = h} cur hoist st p (as_wrap {h₁ = h₁} {h₂ = h₂} {h₃ = h₃} {k₁ = k₁} {k₂ = k₂} {k₃ = k₃} {r = r} e b) =
    omega (arith, wrap_keeps h h₁ k₁ h₂ k₂ h₃ k₃ r st b.uses (p.1 (eq-eqb h.tag Tag.ForOf e) b.both))

enter_brings : (cur hoist : ℕ) (h : Head) (k : Forest) (st : Store) → Proper h k
    → Brings (enter_lines (act_of st.as_read h k) h k) (one h k) (single (enter cur hoist h k st).0)
unfolding enter
enter_brings cur hoist h k st p = act_brings cur hoist st p (chosen st.as_read h k)

leave_if : (b : Bool) (h : Head) (k : Forest) (st : Store) → any_using k ≡ b → h.tag ≡ Tag.StaticBlock
    → Brings (context_lines of_static_block k) (one h k) (single ((if b then exit_static_block h k else return (node h k)) st).0)
unfolding context_lines total
leave_if true h k st u e = static_brings h k st u e
leave_if false h k st u e = rw u (omega arith)

leave_brings : (h : Head) (k : Forest) (st : Store) → h.tag ≡ Tag.StaticBlock
    → Brings (context_lines of_static_block k) (one h k) (single (leave h k st).0)
unfolding leave
leave_brings h k st e = leave_if (any_using k) h k st refl e

-- so many Loads more as contexts
abbrev Grows : Forest → Store → Node × Store → Type 0
Grows f st e = loads (single e.0) + st.contexts ≡ loads f + e.1.contexts

grows_by : {ls : List Line} {f : Forest} {st : Store} {e : Node × Store} → Visited ls f st e → Brings ls f (single e.0) → Grows f st e
unfolding counts
grows_by {ls} {st = st} v b = omega (arith, v.adds, (helper_free st ls).free)

pub enter_loads : (cur hoist : ℕ) (h : Head) (k : Forest) (st : Store) → Proper h k → Grows (one h k) st (enter cur hoist h k st)
enter_loads cur hoist h k st p = grows_by (entered cur hoist h k st p) (enter_brings cur hoist h k st p)

pub leave_loads : (h : Head) (k : Forest) (st : Store) → is_static_block h ≡ true → Grows (one h k) st (leave h k st)
leave_loads h k st e = grows_by (left h k st e) (leave_brings h k st (eqb-true h.tag Tag.StaticBlock e))
