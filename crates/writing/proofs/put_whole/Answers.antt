-- `writing::put_whole` meets its contract. Assumes nothing.
use mathlib.Core.Path.{refl}
use native.Mathlib.Omega.{arith}
use Rattle.writing.specs.Stored.{record_few}
use Rattle.writing.proofs.Laws.{next_whole}
use Rattle.writing.proofs.Over.{bare_over, record_over}
use Rattle.writing.proofs.put_whole.Goals as goal

pub returns-then-length-eq0 : goal.returns-then-length-eq0
returns-then-length-eq0 c = record { bytes = rw c.put_head.ensures (bare_over c.args.r _ _ _ c.length_of-length.ensures.rule c.if-length-eq0.true); next = next_whole _ _ c.args.r c.length_of-length.ensures.rule }

pub put_numbers-requires : goal.put_numbers-requires
put_numbers-requires c =
    let l = c.length_of-length.ensures.rule in
    let m = record_few c.args.r.tag in
    (omega (arith, c.if-length-eq0.false), omega (arith, l, m))

pub returns : goal.returns
returns c = record { bytes = rw (c.put_numbers.ensures, c.put_head.ensures) (record_over c.args.r _ _ _ _ _ c.length_of-length.ensures.rule c.has_children.ensures c.if-length-eq0.false refl); next = next_whole _ _ c.args.r c.length_of-length.ensures.rule }
