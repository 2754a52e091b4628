-- `memory::Rows::told` meets its contract. Assumes nothing.
use mathlib.Core.Path.{sym, ◌∙◌}
use native.Mathlib.Omega.{arith}
use Rattle.test_lines.proofs.Parts.{number_text, had_more, last_part, next_part}
use Rattle.test_lines.proofs.memory.Rows.told.Goals as goal

pub returns : goal.returns
returns c =
    let begun = c.splitn-numbers.ensures in
    let n1 = c.next.ensures.steps.0 in
    let n2 = c.next-2.ensures.steps.0 in
    let first = next_part _ _ _ _ c.next.ensures.steps c.in_ok-next.was _ begun.pattern (omega (arith, begun.count)) (had_more _ _ _ _ c.next-2.ensures.steps c.in_ok-next-2.was) in
    let second = next_part _ _ _ _ c.next-2.ensures.steps c.in_ok-next-2.was _ first.0 (omega (arith, begun.count, n1)) (had_more _ _ _ _ c.next-3.ensures.steps c.in_ok-next-3.was) in
    let third = last_part _ _ _ _ c.next-3.ensures.steps c.in_ok-next-3.was (omega (arith, begun.count, n1, n2)) in
    let number = number_text c.in_ok-next.field-0.now 16 _ _ _ c.parse.ensures.value.0 c.ok.ensures.value c.in_ok-ok.was in
    let number-2 = number_text c.in_ok-next-2.field-0.now 16 _ _ _ c.parse-2.ensures.value.0 c.ok-2.ensures.value c.in_ok-ok-2.was in
    let number-3 = number_text c.in_ok-next-3.field-0.now 16 _ _ _ c.parse-3.ensures.value.0 c.ok-3.ensures.value c.in_ok-ok-3.was in (
      _,
      (_, _, sym begun.text ∙ first.1, number, (_, _, second.1, number-2, sym third)),
      number-3,
    )
