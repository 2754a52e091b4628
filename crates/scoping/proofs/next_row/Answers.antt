-- `scoping::next_row` meets its contract. Assumes nothing.
use mathlib.Core.Path.{refl, sym, ◌∙◌, ◌≡◌}
use native.Mathlib.Omega.{arith}
use Rattle.scoping.proofs.Skips.{next_on, next_some, next_within}
use borrow.Author.Rules.{rules}
use Prim.Native.Nat.{◌+◌}
use Rattle.scoping.specs.Search.{next_row_f}
use Rattle.scoping.proofs.next_row.Goals as goal

pub loop-k-init : goal.loop-k-init
loop-k-init c = (search rules, refl)

pub returns-in-Some : goal.returns-in-Some
returns-in-Some c =
    let here = c.in-Some.ensures in
    (omega (arith, here.0), sym (c.loop-k.invariant.1 ∙ next_some _ _ _ _ 8 _ _ (omega arith) here.1 here.0))

pub loop-k-preserved : goal.loop-k-preserved
loop-k-preserved c =
    let k = c.loop-k.k in
    let behind : k + 8 ≡ next_row_f c.args.symbols.now c.args.f c.args.want 8 k =
    omega (arith, c.in_default.ensures, next_within c.args.symbols.now c.args.f c.args.want c.args.count 8 k) in
    (search rules, c.loop-k.invariant.1 ∙ next_on _ _ _ _ 8 _ _ (omega arith) behind)

pub returns : goal.returns
returns c =
    rw c.loop-k.invariant.1 c.next_near.ensures
