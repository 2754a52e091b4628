-- What is entered is quiet or a StaticBlock, and stands beside others as what it was.
-- Assumes nothing.
use Rattle.std.specs.Prelude.{◌≡◌, refl, Bool, true, false, ℕ, eqb}
use Rattle.std.proofs.Common.{inl, inr}
use Rattle.meaning.specs.Numbers.Tag
use Rattle.meaning.specs.Numbers.Kind
use Rattle.meaning.specs.Tree.{Head, hd, Forest, none, more, Node}
use Rattle.meaning.specs.Scoping.{Store}
use Rattle.meaning.specs.Statements.{is_using, any_using, create_try_stmt}
use Rattle.meaning.specs.Contexts.{
  transform_block_statement,
  enter_function_body,
  enter_try_statement,
  transform_for_statement,
  transform_switch_statement,
}
use Rattle.meaning.specs.ForOf.{enter_for_of_statement}
use Rattle.meaning.specs.Program.{enter_program}
use Rattle.meaning.specs.Walk.{
  Act,
  enter_as,
  enter,
}
use Rattle.spec_laws.specs.Tags.{clash}
use Rattle.charge_laws.proofs.Counts.Enter.{Fit}
use Rattle.charge_laws.specs.Growth.Chosen.{held_using, Idle, Chosen, kept, as_program, as_block, as_body, as_try, as_for, as_switch, as_insert, as_wrap}
use Rattle.charge_laws.proofs.Growth.Chosen.{chosen, at_tag, at_loop}
use Rattle.hint_laws.specs.Hints.{takes_up}
use Rattle.hint_laws.proofs.Outline.{Neutral, Same, same_refl, same_neutral}
use Rattle.hint_laws.proofs.Lowered.Quiet.{Quiet, calm, quiet_list}
use Rattle.hint_laws.proofs.Lowered.Paths.{OpenQuiet}
use Rattle.hint_laws.proofs.Lowered.Program.{program_list}

-- what comes of a record that is entered
abbrev pub Opens : Head → Forest → Node × Store → Type 0
Opens h k e = OpenQuiet e.0.head e.0.children × ((r : Forest) → Same (more h k r) (more e.0.head e.0.children r))

changed : (h : Head) (k : Forest) (e : Node × Store) → Neutral h → Neutral e.0.head → Quiet e.0.head e.0.children → Opens h k e
changed h k e n n' q = (inr q, (λ r. same_neutral h e.0.head k e.0.children r n n'))

-- a ForOf, by its first child
quiet_for_of : (h : Head) (k : Forest) → takes_up h.tag ≡ false → held_using k ≡ false → Quiet h k
unfolding Quiet
quiet_for_of h k p e = ((λ t. absurd (clash p t)), (λ _. e))

-- whose first child is no using
pub first_held : (h : Head) (k r : Forest) → is_using h ≡ false → held_using (more h k r) ≡ false
unfolding held_using
first_held h k none e = refl
first_held h k (more h₂ k₂ none) e = refl
first_held h k (more h₂ k₂ (more h₃ k₃ r)) e = rw e

-- lowered, it declares a const
for_of_quiet : (wraps : Bool) (a b c : ℕ) (h₁ : Head) (k₁ : Forest) (h₂ : Head) (k₂ : Forest) (h₃ : Head) (k₃ r : Forest) (st : Store)
    → let h = hd Tag.ForOf a b c in
    let k = more h₁ k₁ (more h₂ k₂ (more h₃ k₃ r)) in
    Opens h k (enter_for_of_statement wraps h k st)
unfolding enter_for_of_statement is_using
for_of_quiet wraps a b c h₁ k₁ h₂ k₂ h₃ k₃ r st =
    changed _ _ (enter_for_of_statement wraps (hd Tag.ForOf a b c) (more h₁ k₁ (more h₂ k₂ (more h₃ k₃ r))) st) refl refl
    (quiet_for_of _ _ refl (first_held (hd Tag.Declaration Kind.Const 0 0) _ _ refl))

-- a record that is kept: a StaticBlock, a Case, whose Switch has taken up its usings, or another
idle_quiet : (h : Head) (k : Forest) (s c : Bool) → eqb h.tag Tag.StaticBlock ≡ s → eqb h.tag Tag.Case ≡ c → Fit h k → Idle h k → OpenQuiet h k
unfolding Quiet
idle_quiet h k true c e n f i = inl e
idle_quiet h k false true e n f i = inr ((λ t. f.taken refl n), i.loop)
idle_quiet h k false false e n f i = inr ((λ t. i.list (rw (e, n) at t)), i.loop)

abbrev tagged : Head → ℕ → Head
tagged h t = hd t h.a h.b h.c

-- BY THE VIEW of a visit: what is entered is quiet or a StaticBlock.
act_opens : {a : Act} {h : Head} {k : Forest} (cur hoist : ℕ) (st : Store) → Fit h k → Chosen a h k → Opens h k (enter_as a cur hoist h k st)
unfolding enter_as is_using any_using enter_program transform_block_statement transform_for_statement transform_switch_statement enter_try_statement enter_function_body create_try_stmt
act_opens {h = h} {k = k} cur hoist st f (kept i) =
    (idle_quiet h k (eqb h.tag Tag.StaticBlock) (eqb h.tag Tag.Case) refl refl f i, (λ r. same_refl (more h k r)))
act_opens {h = h} {k = k} cur hoist st f (as_program e u) =
    let h₁ = tagged h 1 in
    at_tag (λ h. Opens h k (enter_program h k st)) h Tag.Program e
    (changed h₁ k (enter_program h₁ k st) refl refl (quiet_list _ _ refl (program_list h₁ k st)))
act_opens {h = h} {k = k} cur hoist st f (as_block e u) =
    let h₂ = tagged h 2 in
    at_tag (λ h. Opens h k (transform_block_statement cur hoist h k st)) h Tag.Block e
    (changed h₂ k (transform_block_statement cur hoist h₂ k st) refl refl (calm _ _ refl refl))
act_opens {h = h} {k = k} cur hoist st f (as_body e u) =
    at_tag (λ h. Opens h k (enter_function_body cur hoist k st)) h Tag.Body e
    (changed (tagged h 14) k (enter_function_body cur hoist k st) refl refl (quiet_list _ _ refl refl))
act_opens {h = h} {k = k} cur hoist st f (as_try e u) =
    let h₁₁ = tagged h 11 in
    at_tag (λ h. Opens h k (enter_try_statement cur hoist h k st)) h Tag.Try e
    (changed h₁₁ k (enter_try_statement cur hoist h₁₁ k st) refl refl (calm _ _ refl refl))
act_opens {h = h} {k = k} cur hoist st f (as_for e u) =
    let h₄ = tagged h 4 in
    let h₇ = tagged h 7 in
    at_loop (λ h. Opens h k (transform_for_statement cur hoist h k st)) h e
    (changed h₄ k (transform_for_statement cur hoist h₄ k st) refl refl (calm _ _ refl refl))
    (changed h₇ k (transform_for_statement cur hoist h₇ k st) refl refl (calm _ _ refl refl))
act_opens {h = h} {k = k} cur hoist st f (as_switch e u) =
    let h₉ = tagged h 9 in
    at_tag (λ h. Opens h k (transform_switch_statement cur h k st)) h Tag.Switch e
    (changed h₉ k (transform_switch_statement cur h₉ k st) refl refl (calm _ _ refl refl))
act_opens {h = h} {k = k} cur hoist st f (as_insert e b two) =
    at_tag (λ h. Opens h k (enter_for_of_statement false h k st)) h Tag.ForOf e (for_of_quiet false _ _ _ _ _ _ _ _ _ _ st)
act_opens {h = h} {k = k} cur hoist st f (as_wrap e b) =
    at_tag (λ h. Opens h k (enter_for_of_statement true h k st)) h Tag.ForOf e (for_of_quiet true _ _ _ _ _ _ _ _ _ _ st)

-- Entering a record leaves it quiet or a StaticBlock, and what stands around it sees the same usings.
pub enter_opens : (cur hoist : ℕ) (h : Head) (k : Forest) (st : Store) → Fit h k → Opens h k (enter cur hoist h k st)
unfolding enter
enter_opens cur hoist h k st f = act_opens cur hoist st f (chosen st.as_read h k)
