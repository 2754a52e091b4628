-- For and Switch: what their context makes of them counts what they counted.
-- Assumes nothing.
use Rattle.std.specs.Prelude.{if◌then◌else◌, ◌≡◌, true, false, List, [], ◌∷◌, ℕ, ◌≤◌, ◌<◌, length}
use Rattle.std.proofs.Math.Path.{refl}
use native.Mathlib.Omega.{arith}
use Rattle.std.proofs.Math.Dec.{eqb}
use Rattle.meaning.specs.Numbers.Tag
use Rattle.meaning.specs.Tree.{Head, hd, Forest, none, more, one}
use Rattle.meaning.specs.Scoping.{Store, create_child_scope, change_scope_parent, insert_scope_below}
use Rattle.meaning.specs.HelperLoader.{helper_load}
use Rattle.meaning.specs.Statements.{any_using, any_await_using, take_up, make_context}
use Rattle.meaning.specs.Contexts.{
  for_list,
  take_up_for,
  transform_for_statement,
  any_case_await_using,
  take_up_cases,
  transform_switch_statement,
}
use Rattle.spec_laws.specs.Tags.{Seen, other, here, there, seen, clash}
use Rattle.hint_laws.specs.Hints.{asks_for, calls_in}
use Rattle.hint_laws.specs.Balanced.Balance.{letter_in, waits, gives}
use Rattle.hint_laws.proofs.Balanced.Sums.{own_letter, worth, balance_more, plain_one}
use Rattle.hint_laws.proofs.Balanced.Lists.{worth_plain}
use Rattle.hint_laws.proofs.Balanced.Tries.{try_listed, taken_listed}
use Rattle.hint_laws.proofs.Balanced.Contexts.{Keeps, Counts, new_context}

module _ (w : List ℕ → List ℕ → ℕ → ℕ) (read : ℕ) where
  -- ---- For

  loop_one : {t : ℕ} (a b c : ℕ) (k r : Forest) (ctx : ℕ) → read < ctx → Seen (Tag.Label ∷ Tag.For ∷ []) t
      → any_using (for_list (more (hd t a b c) k r)) ≡ true
      → (any_using (for_list k) ≡ true → Counts w read k (take_up_for ctx k))
      → Counts w read (more (hd t a b c) k r) (take_up_for ctx (more (hd t a b c) k r))
  unfolding take_up_for for_list any_using calls_in worth waits gives asks_for letter_in own_letter
  loop_one a b c k r ctx new here u i =
      let j = i u in
      let h = hd Tag.Label a b c in (
        omega (
          arith,
          balance_more w read h k r,
          balance_more w read h (take_up_for ctx k) r,
          worth_plain w read Tag.Label k refl refl,
          worth_plain w read Tag.Label (take_up_for ctx k) refl refl,
        ),
        refl,
      )
  loop_one a b c k r ctx new (there e₄ here) u i =
      let h = hd Tag.For a b c in
      let k' = take_up ctx k in
      (omega (arith, balance_more w read h k r, balance_more w read h k' r, taken_listed w read ctx k new), refl)
  loop_one a b c k r ctx new (there e₄ (there e₇ other)) u i = absurd (clash (rw (e₄, e₇)) u)

  loop_counts : (f : Forest) (ctx : ℕ) → read < ctx → any_using (for_list f) ≡ true → Counts w read f (take_up_for ctx f)
  unfolding for_list any_using
  loop_counts none ctx new u = absurd (clash refl u)
  loop_counts (more h k r) ctx new u =
      loop_one h.a h.b h.c k r ctx new (seen (Tag.Label ∷ Tag.For ∷ []) h.tag) u (loop_counts k ctx new)

  pub for_keeps : (cur hoist : ℕ) (h : Head) (k : Forest) (st : Store) → read ≤ length st.symbols → eqb h.tag Tag.Declaration ≡ false
      → any_using (for_list (one h k)) ≡ true → Keeps w read h k (transform_for_statement cur hoist h k st)
  unfolding transform_for_statement take_up_for
  for_keeps cur hoist h k st new e u =
      let c = make_context hoist st in
      let s = insert_scope_below cur (one h k) c.1 in
      let l = helper_load cur s.1 in
      let taken = take_up_for c.0 (one h k) in
      omega (
        arith,
        try_listed w read s.0 taken c.0 cur c.0 cur (any_await_using (for_list (one h k))) s.1 l.1,
        loop_counts (one h k) c.0 (new_context w read hoist st new) u,
        plain_one w read h (if eqb h.tag Tag.Label then take_up_for c.0 k else take_up c.0 k) e,
      )

  -- ---- Switch

  case_one : {t : ℕ} (a b c : ℕ) (k r r' : Forest) (ctx : ℕ) → read < ctx → Seen (Tag.Case ∷ []) t → Counts w read r r'
      → let h = hd t a b c in
      Counts w read (more h k r) (more h (if eqb t Tag.Case then take_up ctx k else k) r')
  unfolding calls_in worth waits gives asks_for letter_in own_letter
  case_one a b c k r r' ctx new here i =
      let h = hd Tag.Case a b c in
      let k' = take_up ctx k in
      (omega (arith, balance_more w read h k r, balance_more w read h k' r', taken_listed w read ctx k new), omega arith)
  case_one {t} a b c k r r' ctx new (there e other) i =
      let h = hd t a b c in
      rw e (omega (arith, balance_more w read h k r, balance_more w read h k r'), omega arith)

  cases_count : (f : Forest) (ctx : ℕ) → read < ctx → Counts w read f (take_up_cases ctx f)
  unfolding take_up_cases
  cases_count none ctx new = (refl, refl)
  cases_count (more h k r) ctx new =
      case_one h.a h.b h.c k r (take_up_cases ctx r) ctx new (seen (Tag.Case ∷ []) h.tag) (cases_count r ctx new)

  pub switch_keeps : (cur a b c : ℕ) (k : Forest) (st : Store) → read ≤ length st.symbols
      → Keeps w read (hd Tag.Switch a b c) k (transform_switch_statement cur (hd Tag.Switch a b c) k st)
  unfolding transform_switch_statement
  switch_keeps cur a b d k st new =
      let h = hd Tag.Switch a b d in
      let c = make_context cur st in
      let s = create_child_scope cur 0 c.1 in
      let q = change_scope_parent h.a s.0 s.1 in
      let l = helper_load cur q.1 in
      let k' = take_up_cases c.0 k in
      omega (
        arith,
        try_listed w read s.0 (one h k') c.0 cur c.0 cur (any_case_await_using k) q.1 l.1,
        plain_one w read h k' refl,
        cases_count k c.0 (new_context w read cur st new),
        balance_more w read h k none,
        balance_more w read h k' none,
        worth_plain w read Tag.Switch k refl refl,
        worth_plain w read Tag.Switch k' refl refl,
      )
