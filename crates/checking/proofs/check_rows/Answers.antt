-- `checking::check_rows` meets its contract. Assumes nothing.
use native.Mathlib.Omega.{arith}
use Rattle.spec_laws.specs.Refused.{handed_on}
use Rattle.meaning.specs.Reading.{read_scopes, most_rows}
use Rattle.checking.specs.Flat.{rows_f}
use Rattle.checking.proofs.Laws.{few}
use Rattle.checking.proofs.check_rows.Goals as goal

pub overflow_cast-rows : goal.overflow_cast-rows
unfolding read_scopes
overflow_cast-rows c =
    omega (arith, few _ _ most_rows _ _ _ _ c.read_scopes.ensures c.in_ok-rows.was)

pub check_symbols-requires : goal.check_symbols-requires
unfolding read_scopes
check_symbols-requires c =
    few _ _ most_rows _ _ _ _ c.read_scopes.ensures c.in_ok-rows.was

pub returns-in_err-rows : goal.returns-in_err-rows
unfolding rows_f
returns-in_err-rows c = rw (handed_on _ c.from_residual.ensures.1, ← c.read_scopes.ensures, c.in_err-rows.was)

pub returns : goal.returns
unfolding rows_f
returns c = rw (← c.read_scopes.ensures, c.in_ok-rows.was) c.check_symbols.ensures
