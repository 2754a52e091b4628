-- Each visit adds what its lines charge.
-- Assumes nothing.
use Rattle.std.specs.Prelude.{if◌then◌else◌, ◌≡◌, refl, Bool, true, false, ◌&&◌, ℕ, eqb}
use Rattle.std.proofs.Common.{eqb-true, eq-eqb}
use Rattle.meaning.specs.Numbers.Tag
use Rattle.meaning.specs.Tree.{Head, Forest, none, more, one, single, node}
use Rattle.meaning.specs.Scoping.{Store, return}
use Rattle.meaning.specs.Statements.{is_using, any_using}
use Rattle.meaning.specs.Contexts.{exit_static_block}
use Rattle.meaning.specs.ForOf.{binds_identifier}
use Rattle.meaning.specs.Walk.{is_static_block, Act, act_of, enter_as, enter, leave}
use Rattle.meaning.specs.Charges.{◌⊕◌, total, context_lines, of_static_block}
use Rattle.meaning.specs.Due.{enter_lines}
use Rattle.spec_laws.specs.Figures.{figures_same}
use Rattle.charge_laws.proofs.Growth.Charged.{PaysFor, pays_nothing, counts, helper_line, Visited, visited}
use Rattle.charge_laws.proofs.Growth.Contexts.{block_pays, body_pays, static_pays, for_pays, switch_pays}
use Rattle.charge_laws.proofs.Growth.Parts.{try_pays}
use Rattle.charge_laws.proofs.Growth.ForOf.{Named, insert_pays, wrap_pays}
use Rattle.charge_laws.proofs.Growth.Items.{Exports}
use Rattle.charge_laws.proofs.Growth.Program.{program_pays}
use Rattle.charge_laws.specs.Growth.Chosen.{Chosen, kept, as_program, as_block, as_body, as_try, as_for, as_switch, as_insert, as_wrap}
use Rattle.charge_laws.proofs.Growth.Chosen.{chosen}

-- ---- what a record must be

-- the left side of a ForOf that a visit rewrites
abbrev pub NamedLeft : Forest → Type 0
NamedLeft none = Unit {0}
NamedLeft (more h k r) = (is_using h && binds_identifier k) ≡ true → Named k

-- The exports of a Program with a using have one child each, and the using of a ForOf begins with a Name.
abbrev pub Proper : Head → Forest → Type 0
Proper h k = (eqb h.tag Tag.Program ≡ true → any_using k ≡ true → Exports k) × (eqb h.tag Tag.ForOf ≡ true → NamedLeft k)

-- ---- visits

act_pays : {a : Act} {h : Head} {k : Forest} (cur hoist : ℕ) (st : Store) → Proper h k → Chosen a h k
    → PaysFor (enter_lines a h k) (one h k) st (enter_as a cur hoist h k st)
unfolding enter_lines enter_as
act_pays {h = h} {k = k} cur hoist st p (kept i) = pays_nothing (one h k) st
act_pays {h = h} {k = k} cur hoist st p (as_program e u) = program_pays h k st (p.0 (eq-eqb h.tag Tag.Program e) u)
act_pays {h = h} {k = k} cur hoist st p (as_block e u) = block_pays cur hoist h k st e u
act_pays {h = h} {k = k} cur hoist st p (as_body e u) = body_pays cur hoist h k st e u
act_pays {h = h} {k = k} cur hoist st p (as_try e u) = try_pays cur hoist h k st
act_pays {h = h} {k = k} cur hoist st p (as_for e u) = for_pays cur hoist h k st u
act_pays {h = h} {k = k} cur hoist st p (as_switch e u) = switch_pays cur h k st
act_pays {h = h} cur hoist st p (as_insert {h₁ = h₁} {h₂ = h₂} {h₃ = h₃} {k₁ = k₁} {k₂ = k₂} {k₃ = k₃} {r = r} e b two) =
    insert_pays h h₁ k₁ h₂ k₂ h₃ k₃ r st b.uses (p.1 (eq-eqb h.tag Tag.ForOf e) b.both)
act_pays {h = h} cur hoist st p (as_wrap {h₁ = h₁} {h₂ = h₂} {h₃ = h₃} {k₁ = k₁} {k₂ = k₂} {k₃ = k₃} {r = r} e b) =
    wrap_pays h h₁ k₁ h₂ k₂ h₃ k₃ r st b.uses (p.1 (eq-eqb h.tag Tag.ForOf e) b.both)

pub entered : (cur hoist : ℕ) (h : Head) (k : Forest) (st : Store) → Proper h k
    → Visited (enter_lines (act_of st.as_read h k) h k) (one h k) st (enter cur hoist h k st)
unfolding enter
entered cur hoist h k st p = visited (act_pays cur hoist st p (chosen st.as_read h k))

leave_pays : (b : Bool) (h : Head) (k : Forest) (st : Store) → any_using k ≡ b → h.tag ≡ Tag.StaticBlock
    → PaysFor (context_lines of_static_block k) (one h k) st ((if b then exit_static_block h k else return (node h k)) st)
unfolding context_lines
leave_pays true h k st u e = static_pays h k st e u
leave_pays false h k st u e = rw u (pays_nothing (one h k) st)

pub left : (h : Head) (k : Forest) (st : Store) → is_static_block h ≡ true
    → Visited (context_lines of_static_block k) (one h k) st (leave h k st)
unfolding leave
left h k st e = visited (leave_pays (any_using k) h k st refl (eqb-true h.tag Tag.StaticBlock e))

-- ---- the figures

pub enter_adds : (cur hoist : ℕ) (h : Head) (k : Forest) (st : Store) → Proper h k
    → let e = enter cur hoist h k st in
    let ls = enter_lines (act_of st.as_read h k) h k in
    counts e.1 (single e.0) ≡ counts st (one h k) ⊕ (total ls ⊕ total (helper_line st ls))
enter_adds cur hoist h k st p = figures_same _ _ (entered cur hoist h k st p).adds

pub leave_adds : (h : Head) (k : Forest) (st : Store) → is_static_block h ≡ true
    → let e = leave h k st in
    let ls = context_lines of_static_block k in
    counts e.1 (single e.0) ≡ counts st (one h k) ⊕ (total ls ⊕ total (helper_line st ls))
leave_adds h k st e = figures_same _ _ (left h k st e).adds
