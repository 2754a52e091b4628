-- `lowering::lower` meets its contract. Assumes nothing.
use native.Mathlib.Omega.{arith}
use Rattle.spec_laws.specs.Refused.{handed_on}
use Rattle.lowering.specs.Flat.{lower_by}
use Rattle.lowering.specs.Law.{lower_is}
use Rattle.lowering.proofs.lower.Goals as goal

pub returns : goal.returns
unfolding lower_by
returns c =
    rw (
      ← lower_is _ _ _ _ _ (λ i. omega (arith, c.shared_slice_known-1.given i)) _ c.admit_output.ensures,
      c.in_ok-admitted.was,
      ← c.capped-rows.ensures,
      ← c.fill-first.ensures,
      ← c.run-last.ensures,
      c.finish.ensures.records,
      c.finish.ensures.scopes,
      c.finish.ensures.symbols,
      c.finish.ensures.written,
      c.run-last.auto.records,
      c.run-last.auto.scopes,
      c.run-last.auto.symbols,
      c.fill-first.auto.records,
      c.fill-first.auto.scopes,
      c.fill-first.auto.symbols,
    )

pub returns-in_err-admitted : goal.returns-in_err-admitted
unfolding lower_by
returns-in_err-admitted c =
    rw (
      handed_on _ c.from_residual.ensures.1,
      ← lower_is _ _ _ _ _ (λ i. omega (arith, c.shared_slice_known-1.given i)) _ c.admit_output.ensures,
      c.in_err-admitted.was,
    )
