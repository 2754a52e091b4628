-- `scoping::binding_from` meets its contract. Assumes nothing.
use native.Mathlib.Omega.{arith}
use mathlib.Core.Path.{refl, sym, ◌∙◌, ◌≡◌}
use Rattle.scoping.proofs.Laws.{binding_turn, binding_last}
use Rattle.scoping.proofs.Skips.{next_less, binding_pass}
use Rattle.std.specs.Prelude.{if◌then◌else◌}
use Prim.Native.Nat.{◌+◌}
use Rattle.meaning.specs.Scoping.{binds}
use Rattle.tables.specs.Table.{capped}
use Rattle.scoping.specs.Rows.{symbol_at}
use Rattle.scoping.proofs.binding_from.Goals.{then-binds_at, else-binds_at}
use Rattle.scoping.proofs.binding_from.Goals as goal

pub loop-at-init : goal.loop-at-init
loop-at-init c = refl

pub loop-at-smaller : goal.loop-at-smaller
loop-at-smaller c =
    let here = c.in-Some.ensures in
    next_less _ _ _ _ _ _ here.0 here.1

pub loop-at-preserved : goal.loop-at-preserved
loop-at-preserved c =
    let here = c.in-Some.ensures in
    let at = c.in-Some.at in
    let last : at + 1 ≡ capped at 1 = omega (arith, here.0, c.ranges) in
    let sought = c.args.sought in
    let more : c.if-binds_at.found.0 ≡ (if binds (symbol_at c.args.symbols.now sought.f at) sought.scope.0 sought.name then capped at 1 else c.loop-at.found.0) =
    elim c.if-binds_at.branch [
      | then-binds_at w ↦ rw (← c.binds_at.ensures, w.if-binds_at.true, w.found-is) last
      | else-binds_at w ↦ rw (← c.binds_at.ensures, w.if-binds_at.false, w.found-is)
    ] in
    c.loop-at.invariant
    ∙ binding_pass _ _ _ _ _ (omega (arith, c.ranges)) _ _ _ here.1
    ∙ binding_turn _ _ _ _ _ _ _ _ here.0 (omega (arith, c.ranges)) more

pub returns : goal.returns
returns c =
    sym (c.loop-at.invariant ∙ binding_pass _ _ _ _ _ (omega (arith, c.ranges)) _ _ _ refl ∙ binding_last _ _ _ _ _ _ _ c.in_default.ensures)
