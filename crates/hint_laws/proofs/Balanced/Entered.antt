-- A record that is entered or left counts what it counted, and stands beside others as what it was.
-- Assumes nothing.
use Rattle.std.specs.Prelude.{if◌then◌else◌, ◌≡◌, Bool, List, ◌∷◌, ℕ, ◌≤◌, length}
use Rattle.std.proofs.Math.Path.{refl}
use Rattle.std.proofs.Common.{ap, eqb-true, eq-eqb}
use Rattle.std.proofs.Math.Bool.{true, false}
use Rattle.std.proofs.Math.Dec.{eqb}
use Rattle.meaning.specs.Numbers.Tag
use Rattle.meaning.specs.Grammar.{expressions}
use Rattle.meaning.specs.Tree.{one_of, Head, hd, Forest, more, Node, node}
use Rattle.meaning.specs.Scoping.{Store, return}
use Rattle.meaning.specs.Statements.{any_using, create_try_stmt}
use Rattle.meaning.specs.Contexts.{
  transform_block_statement,
  enter_function_body,
  exit_static_block,
  enter_try_statement,
  transform_for_statement,
  transform_switch_statement,
}
use Rattle.meaning.specs.ForOf.{enter_for_of_statement}
use Rattle.meaning.specs.Program.{enter_program}
use Rattle.meaning.specs.Walk.{is_static_block, Act, enter_as, enter, leave}
use Rattle.charge_laws.specs.Growth.Chosen.{Chosen, kept, as_program, as_block, as_body, as_try, as_for, as_switch, as_insert, as_wrap}
use Rattle.charge_laws.proofs.Growth.Chosen.{chosen, at_tag, at_loop}
use Rattle.charge_laws.proofs.Counts.Enter.{Fit}
use Rattle.hint_laws.proofs.Outline.{Neutral, Same, same_refl, same_neutral}
use Rattle.hint_laws.proofs.Requested.Asked.{OldCalls}
use Rattle.hint_laws.proofs.Balanced.Contexts.{Keeps, block_keeps, body_keeps, static_keeps}
use Rattle.hint_laws.proofs.Balanced.ForSwitch.{for_keeps, switch_keeps}
use Rattle.hint_laws.proofs.Balanced.Parts.{try_keeps}
use Rattle.hint_laws.proofs.Balanced.ForOf.{Unseen, insert_keeps, wrap_keeps}
use Rattle.hint_laws.proofs.Balanced.Program.{program_keeps}

-- a Program that is lowered calls nothing through a context that lowering made
abbrev pub Source : ℕ → Head → Forest → Type 0
Source read h k = h.tag ≡ Tag.Program → any_using k ≡ true → OldCalls read k

module _ (w : List ℕ → List ℕ → ℕ → ℕ) (read : ℕ) where
  -- what comes of a record
  abbrev pub Opens : Head → Forest → Node × Store → Type 0
  Opens h k e = Keeps w read h k e × ((r : Forest) → Same (more h k r) (more e.0.head e.0.children r))

  changed : (h : Head) (k : Forest) (e : Node × Store) → Neutral h → Neutral e.0.head → Keeps w read h k e → Opens h k e
  changed h k e n n' q = (q, (λ r. same_neutral h e.0.head k e.0.children r n n'))

  -- ---- leaving a StaticBlock

  left_if : (b : Bool) (h : Head) (k : Forest) (st : Store) → read ≤ length st.symbols → h.tag ≡ Tag.StaticBlock
      → Opens h k ((if b then exit_static_block h k else return (node h k)) st)
  unfolding exit_static_block
  left_if true h k st new e =
      changed h k (exit_static_block h k st) (ap (λ (t : ℕ). one_of (Tag.Declaration ∷ Tag.Declarator ∷ Tag.Name ∷ expressions) t) e) refl (static_keeps w read h k st new e)
  left_if false h k st new e = (refl, (λ r. same_refl (more h k r)))

  pub leave_keeps : (h : Head) (k : Forest) (st : Store) → read ≤ length st.symbols → is_static_block h ≡ true → Opens h k (leave h k st)
  unfolding leave
  leave_keeps h k st new e = left_if (any_using k) h k st new (eqb-true h.tag Tag.StaticBlock e)

  -- ---- entering

  module _ (unseen : Unseen w read) (cur hoist : ℕ) where
    -- a record with a tag
    at_change : (t : ℕ) (go : Head → Node × Store) (h : Head) (k : Forest) → h.tag ≡ t
        → let g = hd t h.a h.b h.c in Neutral g → Neutral (go g).0.head → Keeps w read g k (go g) → Opens h k (go h)
    at_change t go h k e n n' q =
        let g = hd t h.a h.b h.c in
        at_tag (λ g. Opens g k (go g)) h t e (changed g k (go g) n n' q)

    act_keeps : {a : Act} {h : Head} {k : Forest} (st : Store) → read ≤ length st.symbols → Source read h k → Fit h k → Chosen a h k
        → Opens h k (enter_as a cur hoist h k st)
    unfolding enter_as enter_program transform_block_statement transform_for_statement transform_switch_statement enter_try_statement enter_function_body enter_for_of_statement create_try_stmt
    act_keeps {h = h} {k = k} st new s p (kept i) = (refl, (λ r. same_refl (more h k r)))
    act_keeps {h = h} {k = k} st new s p (as_program e u) =
        let i = p.items (eq-eqb h.tag Tag.Program e) u in
        at_change Tag.Program (λ g. enter_program g k st) h k e refl refl (program_keeps w read h.a h.b h.c k st (s e u) i.0 i.1)
    act_keeps {h = h} {k = k} st new s p (as_block e u) =
        at_change Tag.Block (λ g. transform_block_statement cur hoist g k st) h k e refl refl
        (block_keeps w read cur hoist h.a h.b h.c k st new)
    act_keeps {h = h} {k = k} st new s p (as_body e u) =
        at_change Tag.Body (λ _. enter_function_body cur hoist k st) h k e refl refl (body_keeps w read cur hoist h.a h.b h.c k st new)
    act_keeps {h = h} {k = k} st new s p (as_try e u) =
        at_change Tag.Try (λ g. enter_try_statement cur hoist g k st) h k e refl refl (try_keeps w read cur hoist h.a h.b h.c k st new)
    act_keeps {h = h} {k = k} st new s p (as_for e u) =
        changed h k (transform_for_statement cur hoist h k st) (at_loop Neutral h e refl refl) refl
        (for_keeps w read cur hoist h k st new (at_loop (λ g. eqb g.tag Tag.Declaration ≡ false) h e refl refl) u)
    act_keeps {h = h} {k = k} st new s p (as_switch e u) =
        at_change Tag.Switch (λ g. transform_switch_statement cur g k st) h k e refl refl (switch_keeps w read cur h.a h.b h.c k st new)
    act_keeps {h = h} st new s p (as_insert {h₁ = h₁} {h₂ = h₂} {h₃ = h₃} {k₁ = k₁} {k₂ = k₂} {k₃ = k₃} {r = r} e b two) =
        let q = p.side (eq-eqb h.tag Tag.ForOf e) b.both in
        at_change Tag.ForOf (λ g. enter_for_of_statement false g (more h₁ k₁ (more h₂ k₂ (more h₃ k₃ r))) st) h _ e refl refl
        (insert_keeps w read h.a h.b h.c h₁ k₁ h₂ k₂ h₃ k₃ r st b.uses b.identifier q.0 q.1 q.2 q.3 q.4 unseen new two)
    act_keeps {h = h} st new s p (as_wrap {h₁ = h₁} {h₂ = h₂} {h₃ = h₃} {k₁ = k₁} {k₂ = k₂} {k₃ = k₃} {r = r} e b) =
        let q = p.side (eq-eqb h.tag Tag.ForOf e) b.both in
        at_change Tag.ForOf (λ g. enter_for_of_statement true g (more h₁ k₁ (more h₂ k₂ (more h₃ k₃ r))) st) h _ e refl refl
        (wrap_keeps w read h.a h.b h.c h₁ k₁ h₂ k₂ h₃ k₃ r st b.uses b.identifier q.0 q.1 q.2 q.3 q.4 unseen new)

  pub enter_keeps : Unseen w read → (cur hoist : ℕ) (h : Head) (k : Forest) (st : Store)
      → read ≤ length st.symbols → Source read h k → Fit h k → Opens h k (enter cur hoist h k st)
  unfolding enter
  enter_keeps unseen cur hoist h k st new s p = act_keeps unseen cur hoist st new s p (chosen st.as_read h k)
