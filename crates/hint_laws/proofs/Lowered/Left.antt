-- What a StaticBlock becomes when it is left is quiet.
-- Assumes nothing.
use Rattle.std.specs.Prelude.{if◌then◌else◌, ◌≡◌, refl, Bool, true, false, ◌∷◌, ℕ, eqb}
use Rattle.std.proofs.Common.{ap, eqb-true}
use Rattle.meaning.specs.Numbers.Tag
use Rattle.meaning.specs.Numbers.Kind
use Rattle.meaning.specs.Grammar.{expressions}
use Rattle.meaning.specs.Tree.{one_of, Head, Forest, more, one, node, ◌&◌}
use Rattle.meaning.specs.Scoping.{Store, return, insert_scope_between, move_binding, set_scope_flags}
use Rattle.meaning.specs.Shapes.{declaration}
use Rattle.meaning.specs.HelperLoader.{load_runtime, load_external, helper_load}
use Rattle.meaning.specs.Statements.{
  is_using,
  any_using,
  any_await_using,
  as_taken_up,
  take_up,
  make_context,
  transform_statements,
  create_catch_clause,
  create_finally_block,
  create_try_stmt,
}
use Rattle.meaning.specs.Contexts.{exit_static_block}
use Rattle.meaning.specs.Walk.{is_static_block, leave}
use Rattle.hint_laws.proofs.Outline.{Same, same_refl, same_neutral}
use Rattle.hint_laws.proofs.Lowered.Quiet.{AllQuiet, calm, quiet_list}
use Rattle.charge_laws.proofs.Growth.Taken.{Taken, nothing, passed, as_const, in_declarator_lem, called, taken}
use Rattle.charge_laws.proofs.Counts.TakenUp.{none_left as taken_list}
use Rattle.hint_laws.specs.Hints.{takes_up}

-- ---- the list that is taken up

taken_quiet : {ctx n : ℕ} {f f' : Forest} → Taken ctx n f f' → AllQuiet f → AllQuiet f'
unfolding AllQuiet as_taken_up
taken_quiet nothing p = tt
taken_quiet (passed t) p = (p.0, p.1, taken_quiet t p.2)
taken_quiet (as_const u s t) p = (calm _ _ refl refl, taken_quiet s p.1, taken_quiet t p.2)
taken_quiet (in_declarator_lem e s t) p =
    (calm _ _ (ap takes_up e) (ap (λ (t : ℕ). eqb t Tag.ForOf) e), taken_quiet s p.1, taken_quiet t p.2)
taken_quiet (called l) p = (calm _ _ refl refl, (p.0, p.1, tt), p.2)

-- ---- the Try

load_quiet : (b : Bool) (cur : ℕ) (st : Store) → AllQuiet ((if b then load_runtime else load_external cur) st).0
unfolding AllQuiet load_runtime load_external
load_quiet true cur st = (calm _ _ refl refl, tt, tt)
load_quiet false cur st = (calm _ _ refl refl, tt, tt)

-- around a quiet list without a using
try_quiet : (scope : ℕ) (list : Forest) (ctx cur ctx' parent : ℕ) (needs_await : Bool) (st st' : Store)
    → any_using list ≡ false → AllQuiet list
    → AllQuiet (create_try_stmt scope (declaration Kind.Var ctx (helper_load cur st).0 & list) ctx' parent needs_await st').0.children
unfolding AllQuiet create_try_stmt create_catch_clause create_finally_block helper_load ◌&◌ any_using is_using
try_quiet scope list ctx cur ctx' parent needs_await st st' u p = (
  quiet_list _ _ refl u,
  (
    calm _ _ refl refl,
    (calm _ _ refl refl, (calm _ _ refl refl, tt, load_quiet (eqb st.mode 0) cur st), tt),
    p,
  ),
  (
    calm _ _ refl refl,
    (calm _ _ refl refl, tt, (quiet_list _ _ refl refl, (calm _ _ refl refl, tt, tt), tt)),
    (quiet_list _ _ refl refl, (calm _ _ refl refl, tt, tt), tt),
  ),
)

-- ---- the StaticBlock

exit_quiet : (h : Head) (k : Forest) (st : Store) → AllQuiet k
    → let e = exit_static_block h k st in
    AllQuiet (one e.0.head e.0.children)
unfolding AllQuiet exit_static_block transform_statements create_try_stmt any_using is_using
exit_quiet h k st p =
    let c = make_context h.a st in
    let l = helper_load h.a c.1 in
    let s = insert_scope_between h.a 4 l.1 in
    let m = move_binding c.0 s.0 s.1 in
    let f = set_scope_flags h.a 1 m.1 in (
      quiet_list _ _ refl refl,
      (
        calm _ _ refl refl,
        try_quiet h.a (take_up c.0 k) c.0 h.a c.0 s.0 (any_await_using k) c.1 f.1
            (taken_list k c.0)
            (taken_quiet (taken c.0 k) p),
        tt,
      ),
      tt,
    )

-- what comes of it: quiet, and beside others as what it was
left_if : (b : Bool) (h : Head) (k : Forest) (st : Store) → any_using k ≡ b → h.tag ≡ Tag.StaticBlock → AllQuiet k
    → let e = (if b then exit_static_block h k else return (node h k)) st in
    AllQuiet (one e.0.head e.0.children) × ((r : Forest) → Same (more h k r) (more e.0.head e.0.children r))
unfolding AllQuiet exit_static_block
left_if true h k st u e p = (
  exit_quiet h k st p,
  (λ r. same_neutral h _ k _ r (ap (λ (t : ℕ). one_of (Tag.Declaration ∷ Tag.Declarator ∷ Tag.Name ∷ expressions) t) e) refl),
)
left_if false h k st u e p = ((quiet_list h k (ap (λ (t : ℕ). eqb t Tag.ForOf) e) u, p, tt), (λ r. same_refl (more h k r)))

-- Leaving a StaticBlock whose children are quiet makes it quiet, and what stands around it sees the same usings.
pub leave_quiet : (h : Head) (k : Forest) (st : Store) → is_static_block h ≡ true → AllQuiet k
    → let e = leave h k st in
    AllQuiet (one e.0.head e.0.children) × ((r : Forest) → Same (more h k r) (more e.0.head e.0.children r))
unfolding leave
leave_quiet h k st e p = left_if (any_using k) h k st refl (eqb-true h.tag Tag.StaticBlock e) p
