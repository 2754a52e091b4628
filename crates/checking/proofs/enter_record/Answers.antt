-- `checking::enter_record` meets its contract. Assumes nothing.
use Rattle.spec_laws.specs.Refused.{handed_on}
use Rattle.checking.proofs.Laws.{enter_is}
use Rattle.checking.proofs.enter_record.Goals as goal

pub returns-in_err-x : goal.returns-in_err-x
returns-in_err-x c =
    rw (handed_on _ c.from_residual.ensures.1, enter_is _ _ _ _ _ _, ← c.read_right.ensures, c.in_err-x.was)

pub returns-then-not-name_scope : goal.returns-then-not-name_scope
returns-then-not-name_scope c =
    rw (
      enter_is _ _ _ _ _ _,
      ← c.read_right.ensures,
      c.in_ok-x.was,
      ← c.scope_in.ensures,
      ← c.name_scope.ensures.told,
      c.if-not-name_scope.true,
    )

pub returns : goal.returns
returns c =
    rw (
      c.name_scope.ensures.marked,
      enter_is _ _ _ _ _ _,
      ← c.read_right.ensures,
      c.in_ok-x.was,
      ← c.scope_in.ensures,
      ← c.name_scope.ensures.told,
      c.if-not-name_scope.false,
    )
