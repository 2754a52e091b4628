-- Entering a fit record, and leaving a StaticBlock: the rows offer what comes of it demands.
-- Assumes nothing.
use Rattle.std.specs.Prelude.{◌≡◌, true, false, ℕ}
use Rattle.std.proofs.Common.{eqb-true, eq-eqb}
use Rattle.meaning.specs.Numbers.Tag
use Rattle.meaning.specs.Tree.{Head, Forest, node}
use Rattle.meaning.specs.Scoping.{Store, return}
use Rattle.meaning.specs.Statements.{any_using}
use Rattle.meaning.specs.Contexts.{transform_block_statement, enter_function_body, exit_static_block, transform_switch_statement}
use Rattle.meaning.specs.ForOf.{enter_for_of_statement}
use Rattle.meaning.specs.Program.{enter_program}
use Rattle.meaning.specs.Walk.{Act, enter_as, enter, is_static_block, leave}
use Rattle.charge_laws.specs.Growth.Chosen.{Chosen, kept, as_program, as_block, as_body, as_try, as_for, as_switch, as_insert, as_wrap}
use Rattle.charge_laws.proofs.Growth.Chosen.{chosen, at_tag}
use Rattle.charge_laws.proofs.Counts.Enter.{Fit}
use Rattle.agreement_laws.specs.Tries.{Keeps}
use Rattle.agreement_laws.specs.Contexts.{block_keeps, body_keeps, static_keeps, for_keeps, switch_keeps}
use Rattle.agreement_laws.specs.Parts.{keeps_if, try_keeps}
use Rattle.agreement_laws.specs.ForOf.{insert_keeps, wrap_keeps}
use Rattle.agreement_laws.specs.Program.{program_keeps}

-- BY THE VIEW of a visit
act_keeps : {a : Act} {h : Head} {k : Forest} (cur hoist : ℕ) (st : Store) → Fit h k → Chosen a h k → Keeps cur h k st (enter_as a cur hoist h k st)
unfolding enter_as
act_keeps cur hoist st p (kept i) = λ R o. o
act_keeps {h = h} {k = k} cur hoist st p (as_program e u) =
    at_tag (λ h. Keeps cur h k st (enter_program h k st)) h Tag.Program e
    (program_keeps cur h.a h.b h.c k st (p.items (eq-eqb h.tag Tag.Program e) u).0)
act_keeps {h = h} {k = k} cur hoist st p (as_block e u) =
    at_tag (λ h. Keeps cur h k st (transform_block_statement cur hoist h k st)) h Tag.Block e (block_keeps cur hoist h.a h.b h.c k st)
act_keeps {h = h} {k = k} cur hoist st p (as_body e u) =
    at_tag (λ h. Keeps cur h k st (enter_function_body cur hoist k st)) h Tag.Body e (body_keeps cur hoist h.a h.b h.c k st)
act_keeps {h = h} {k = k} cur hoist st p (as_try e u) = try_keeps cur hoist h k st
act_keeps {h = h} {k = k} cur hoist st p (as_for e u) = for_keeps cur hoist h k st
act_keeps {h = h} {k = k} cur hoist st p (as_switch e u) =
    at_tag (λ h. Keeps cur h k st (transform_switch_statement cur h k st)) h Tag.Switch e (switch_keeps cur h.a h.b h.c k st)
act_keeps {h = h} {k = k} cur hoist st p (as_insert {h₁ = h₁} {h₂ = h₂} {h₃ = h₃} {k₁ = k₁} {k₂ = k₂} {k₃ = k₃} {r = r} e b two) =
    let n = (p.side (eq-eqb h.tag Tag.ForOf e) b.both).0 in
    at_tag (λ h. Keeps cur h k st (enter_for_of_statement false h k st)) h Tag.ForOf e
    (insert_keeps cur h.a h.b h.c h₁ k₁ h₂ k₂ h₃ k₃ r st b.uses n)
act_keeps {h = h} {k = k} cur hoist st p (as_wrap {h₁ = h₁} {h₂ = h₂} {h₃ = h₃} {k₁ = k₁} {k₂ = k₂} {k₃ = k₃} {r = r} e b) =
    let n = (p.side (eq-eqb h.tag Tag.ForOf e) b.both).0 in
    at_tag (λ h. Keeps cur h k st (enter_for_of_statement true h k st)) h Tag.ForOf e
    (wrap_keeps cur h.a h.b h.c h₁ k₁ h₂ k₂ h₃ k₃ r st b.uses n)

-- ENTERING A FIT RECORD.
pub enter_keeps : (cur hoist : ℕ) (h : Head) (k : Forest) (st : Store) → Fit h k → Keeps cur h k st (enter cur hoist h k st)
unfolding enter
enter_keeps cur hoist h k st p = act_keeps cur hoist st p (chosen st.as_read h k)

-- LEAVING A STATICBLOCK.
pub leave_keeps : (cur : ℕ) (h : Head) (k : Forest) (st : Store) → is_static_block h ≡ true → Keeps cur h k st (leave h k st)
unfolding leave
leave_keeps cur h k st e =
    keeps_if (any_using k) cur h k st (exit_static_block h k) (return (node h k))
    (λ _. at_tag (λ h. Keeps cur h k st (exit_static_block h k st)) h Tag.StaticBlock (eqb-true h.tag Tag.StaticBlock e)
    (static_keeps cur h.a h.b h.c k st))
    (λ _ R o. o)
