-- Entering a record rewrites the tables as 01 rewrites the tree and the store.
-- Assumes nothing.
use Rattle.std.specs.Prelude.{◌≡◌, Bool, true, false, List, [], ◌∷◌, ℕ}
use Rattle.std.proofs.Math.Path.{refl, subst}
use Rattle.std.proofs.Common.{sym, ap, ◌∙◌, eq-eqb}
use Rattle.meaning.specs.Numbers.Tag
use Rattle.meaning.specs.Tree.{Head, hd, Forest, none, more, one}
use Rattle.meaning.specs.Scoping.{Store}
use Rattle.meaning.specs.Statements.{any_using}
use Rattle.meaning.specs.Contexts.{any_part_using, any_case_using, for_list}
use Rattle.meaning.specs.ForOf.{for_of_act}
use Rattle.meaning.specs.Walk.{
  Act,
  keep,
  program,
  block,
  function_body,
  try_parts,
  for_loop,
  switch,
  act_if,
  of_for_of,
  act_of,
  enter_as,
  enter,
  Crumb,
  at,
  current_scope,
  hoist_scope,
}
use Rattle.spec_laws.specs.Tags.{Seen, other, here, there, seen}
use Rattle.charge_laws.specs.Growth.Chosen.{Chosen, kept, as_program, as_block, as_body, as_try, as_for, as_switch, as_insert, as_wrap}
use Rattle.charge_laws.proofs.Growth.Chosen.{chosen}
use Rattle.charge_laws.proofs.Counts.Enter.{Fit}
use Rattle.charge_laws.proofs.Counts.Fits.{FitsIn}
use Rattle.tables.specs.Table.{column_f, row_f}
use Rattle.tables.specs.declared.Row.{Row}
use Rattle.representation.proofs.Store.Agreed.{Agreed}
use Rattle.path.specs.Path.{Tables}
use Rattle.representation.specs.Spots.Spots.{Rest, held}
use Rattle.table_laws.proofs.Streamed.Parts.{Catches}
use Rattle.simulation.proofs.Rewritten.Standing.{row_is}
use Rattle.simulation.proofs.Rewritten.Kept.{block_kept, body_kept, for_kept, switch_kept, for_of_kept}
use Rattle.simulation.proofs.Tried.Try.{try_agreed}
use Rattle.simulation.proofs.Arranged.Program.{program_kept}
use Rattle.walk.specs.Visit.{
  rewrite_program_f,
  rewrite_block_f,
  rewrite_body_f,
  rewrite_for_f,
  rewrite_switch_f,
  rewrite_try_f,
  rewrite_for_of_f,
  rewrite_f,
}
use Rattle.simulation.proofs.Rewrite.{DoneBy, By, kept_by}
use Rattle.simulation.proofs.Lists.{block_by, body_by, for_by, switch_by_lem}
use Rattle.simulation.proofs.Others.{try_by, program_by, for_of_by}

-- no Catch stands in a Catch of a fit list
pub catches : (in_switch : Bool) (f : Forest) → FitsIn in_switch f → Catches f
catches in_switch none p = tt
catches in_switch (more h k r) p = (p.0.handler, catches in_switch r p.2)

-- ---- by the tag

pub tag_is : (done : Forest) (h : Head) (k r : Forest) (path : List Crumb) (st : Store) (g : ℕ) (z : Rest)
    → (let q = held (at done h k r path st) g z in column_f q.records q.walk.gap.0 0 ≡ h.tag)
unfolding row_f
tag_is done h k r path st g z = ap (λ (x : Row). x.tag) (row_is done h k r path st g z)

module _ (done k r : Forest) (path : List Crumb) (st : Store) (g : ℕ) (z : Rest) (a b c : ℕ) where
  abbrev tagged : ℕ → Head
  tagged t = hd t a b c

  abbrev At : ℕ → (Tables → Tables) → Act → Type 0
  At t f x = By done (tagged t) k r path st g z f x

  -- this tag's rewrite is done
  by_its : (t : ℕ) (f : Tables → Tables) (x : Act)
      → ((g : ℕ) (z : Rest) → (let q = held (at done (tagged t) k r path st) g z in rewrite_f q ≡ f q)) → At t f x → At t rewrite_f x
  by_its t f x e d = λ fits ag room. e _ _ ∙ d fits ag room

  by_tag : {t : ℕ} → Fit (tagged t) k → Catches k → Seen (Tag.Program ∷ Tag.Block ∷ Tag.Label ∷ Tag.For ∷ Tag.ForOf ∷ Tag.Switch ∷ Tag.Try ∷ Tag.Body ∷ []) t
      → At t rewrite_f (act_of st.as_read (tagged t) k)
  unfolding rewrite_f act_of enter_as
  by_tag p q here =
      by_its Tag.Program rewrite_program_f (act_if (any_using k) program)
      (λ g z. rw (tag_is done (tagged Tag.Program) k r path st g z))
      (program_by done (tagged Tag.Program) k r path st g z (any_using k) refl (λ u. (p.items refl u).0))
  by_tag p q (there e₁ here) =
      by_its Tag.Block rewrite_block_f (act_if (any_using k) block)
      (λ g z. rw (tag_is done (tagged Tag.Block) k r path st g z))
      (block_by done (tagged Tag.Block) k r path st g z (any_using k) refl refl)
  by_tag p q (there e₁ (there e₂ here)) =
      by_its Tag.Label rewrite_for_f (act_if (any_using (for_list (one (tagged Tag.Label) k))) for_loop)
      (λ g z. rw (tag_is done (tagged Tag.Label) k r path st g z))
      (for_by done (tagged Tag.Label) k r path st g z (any_using (for_list (one (tagged Tag.Label) k))) refl p.label)
  by_tag p q (there e₁ (there e₂ (there e₄ here))) =
      by_its Tag.For rewrite_for_f (act_if (any_using (for_list (one (tagged Tag.For) k))) for_loop)
      (λ g z. rw (tag_is done (tagged Tag.For) k r path st g z))
      (for_by done (tagged Tag.For) k r path st g z (any_using (for_list (one (tagged Tag.For) k))) refl p.label)
  by_tag p q (there e₁ (there e₂ (there e₄ (there e₇ here)))) =
      by_its Tag.ForOf rewrite_for_of_f (of_for_of (for_of_act st.as_read k))
      (λ g z. rw (tag_is done (tagged Tag.ForOf) k r path st g z))
      (for_of_by done (tagged Tag.ForOf) k r path st g z (p.side refl))
  by_tag p q (there e₁ (there e₂ (there e₄ (there e₇ (there e₈ here))))) =
      by_its Tag.Switch rewrite_switch_f (act_if (any_case_using k) switch)
      (λ g z. rw (tag_is done (tagged Tag.Switch) k r path st g z))
      (switch_by_lem done (tagged Tag.Switch) k r path st g z (any_case_using k) refl)
  by_tag p q (there e₁ (there e₂ (there e₄ (there e₇ (there e₈ (there e₉ here)))))) =
      by_its Tag.Try rewrite_try_f (act_if (any_part_using k) try_parts)
      (λ g z. rw (tag_is done (tagged Tag.Try) k r path st g z))
      (try_by done (tagged Tag.Try) k r path st g z (any_part_using k) refl q)
  by_tag p q (there e₁ (there e₂ (there e₄ (there e₇ (there e₈ (there e₉ (there e₁₁ here))))))) =
      by_its Tag.Body rewrite_body_f (act_if (any_using k) function_body)
      (λ g z. rw (tag_is done (tagged Tag.Body) k r path st g z))
      (body_by done (tagged Tag.Body) k r path st g z (any_using k) refl refl)
  by_tag {t} p q (there e₁ (there e₂ (there e₄ (there e₇ (there e₈ (there e₉ (there e₁₁ (there e₁₄ other)))))))) =
      let none_of : act_of st.as_read (tagged t) k ≡ keep = rw (e₁, e₂, e₄, e₇, e₈, e₉, e₁₁, e₁₄) in
      subst (λ (x : Act). At t rewrite_f x) (sym none_of)
      (kept_by done (tagged t) k r path st g z rewrite_f
      (λ fits ag. rw (tag_is done (tagged t) k r path st g z, e₁, e₂, e₄, e₇, e₈, e₉, e₁₁, e₁₄)))

-- THE REWRITE ON TABLES IS 01'S: what entering adds takes as many free rows.
pub rewrite_law : (done : Forest) (h : Head) (k r : Forest) (path : List Crumb) (st : Store) (g : ℕ) (z : Rest) → Fit h k → Catches k
    → DoneBy done h k r path st g z rewrite_f (enter (current_scope path) (hoist_scope path) h k st)
unfolding enter
rewrite_law done h k r path st g z p q =
    by_tag done k r path st g z h.a h.b h.c p q (seen (Tag.Program ∷ Tag.Block ∷ Tag.Label ∷ Tag.For ∷ Tag.ForOf ∷ Tag.Switch ∷ Tag.Try ∷ Tag.Body ∷ []) h.tag)

-- ---- the symbol rows still agree with those read

agreed_as : {x : Act} {h : Head} {k : Forest} (path : List Crumb) (st : Store) → Fit h k → Catches k → Agreed st → Chosen x h k
    → Agreed (enter_as x (current_scope path) (hoist_scope path) h k st).1
unfolding enter_as
agreed_as path st p c a (kept i) = a
agreed_as {h = h} {k = k} path st p c a (as_program e u) = program_kept h k st (p.items (eq-eqb h.tag Tag.Program e) u).0 a
agreed_as {h = h} {k = k} path st p c a (as_block e u) = block_kept path h k st a
agreed_as {h = h} {k = k} path st p c a (as_body e u) = body_kept path h k st a
agreed_as {h = h} {k = k} path st p c a (as_try e u) = try_agreed (current_scope path) (hoist_scope path) h k st c a
agreed_as {h = h} {k = k} path st p c a (as_for e u) = for_kept path h k st a
agreed_as {h = h} {k = k} path st p c a (as_switch e u) = switch_kept path h k st a
agreed_as {h = h} {k = k} path st p c a (as_insert e b two) = for_of_kept false h k st a
agreed_as {h = h} {k = k} path st p c a (as_wrap e b) = for_of_kept true h k st a

pub enter_kept : (path : List Crumb) (h : Head) (k : Forest) (st : Store) → Fit h k → Catches k → Agreed st
    → Agreed (enter (current_scope path) (hoist_scope path) h k st).1
unfolding enter
enter_kept path h k st p c a = agreed_as path st p c a (chosen st.as_read h k)
