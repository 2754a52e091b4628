-- `checking::check_symbols` meets its contract. Assumes nothing.
use native.Mathlib.Omega.{arith}
use Rattle.spec_laws.specs.Refused.{handed_on}
use Rattle.meaning.specs.Reading.{most_symbols, read_symbols}
use Rattle.checking.specs.Flat.{symbols_f}
use Rattle.checking.proofs.Laws.{few}
use Rattle.checking.proofs.check_symbols.Goals as goal

pub overflow_cast-rows : goal.overflow_cast-rows
unfolding read_symbols
overflow_cast-rows c =
    omega (arith, few _ _ most_symbols _ _ _ _ c.read_symbols.ensures c.in_ok-symbol_rows.was)

pub check_counts-requires : goal.check_counts-requires
unfolding read_symbols
check_counts-requires c =
    rw c.with_records.ensures (few _ _ most_symbols _ _ _ _ c.read_symbols.ensures c.in_ok-symbol_rows.was)

pub returns-in_err-symbol_rows : goal.returns-in_err-symbol_rows
unfolding symbols_f
returns-in_err-symbol_rows c =
    rw (handed_on _ c.from_residual.ensures.1, ← c.read_symbols.ensures, c.in_err-symbol_rows.was)

pub returns-in_err-end : goal.returns-in_err-end
unfolding symbols_f
returns-in_err-end c =
    rw (
      handed_on _ c.from_residual-in_err-end.ensures.1,
      ← c.read_symbols.ensures,
      c.in_ok-symbol_rows.was,
      ← c.check_unmarked.ensures,
      c.in_err-end.was,
    )

pub returns : goal.returns
unfolding symbols_f
returns c =
    rw (
      ← c.read_symbols.ensures,
      c.in_ok-symbol_rows.was,
      ← c.min.ensures,
      ← c.min-2.ensures,
      ← c.check_unmarked.ensures,
      c.in_ok-end.was,
      ← c.with_records.ensures,
    ) c.check_counts.ensures
