-- `writing::Source::put_scopes` meets its contract. Assumes nothing.
use mathlib.Core.Path.{refl, ◌∙◌}
use native.Mathlib.Nat.{sub-zero}
use Rattle.writing.proofs.Laws.{scopes_turn, scopes_last, behind_turn, behind_last, behind_most}
use borrow.Author.Rules.{rules}
use Rattle.writing.proofs.Source.put_scopes.Goals as goal

pub loop-k-init : goal.loop-k-init
loop-k-init c = (search rules, refl, rw sub-zero, rw sub-zero)

pub loop-k-preserved : goal.loop-k-preserved
loop-k-preserved c =
    let put = c.put_named-at.ensures in
    let inv = c.loop-k.invariant in
    let row = c.row_after.ensures in
    let more = c.loop-k-test.true in (
      behind_most _ _ _ _ inv.0 put.next,
      c.put_named-at.auto.out ∙ inv.1,
      scopes_turn _ _ _ _ _ _ _ _ _ _ _ inv.2 more row put.bytes put.next,
      behind_turn _ _ _ _ _ _ _ inv.3 more row put.next,
    )

pub returns : goal.returns
returns c =
    let inv = c.loop-k.invariant in
    let last = c.loop-k-test.false in
    record { bytes = scopes_last _ _ _ _ _ _ _ _ inv.2 last; next = behind_last _ _ _ _ _ inv.3 last; most = search rules }
