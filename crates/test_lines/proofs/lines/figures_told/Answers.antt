-- `lines::figures_told` meets its contract. Assumes nothing.
use mathlib.Core.Path.{sym, ◌∙◌}
use native.Mathlib.Omega.{arith}
use Rattle.test_lines.specs.Told.{fine_prefix}
use Rattle.test_lines.proofs.Parts.{number_text, stripped, had_more, last_part, next_part}
use Rattle.test_lines.proofs.lines.figures_told.Goals as goal

pub returns-clause-figures : goal.returns-clause-figures
returns-clause-figures c =
    let begun = c.splitn-words.ensures in
    let n1 = c.next.ensures.steps.0 in
    let n2 = c.next-2.ensures.steps.0 in
    let n3 = c.next-3.ensures.steps.0 in
    let n4 = c.next-4.ensures.steps.0 in
    let first = next_part _ _ _ _ c.next.ensures.steps c.in_ok-next.was _ begun.pattern (omega (arith, begun.count)) (had_more _ _ _ _ c.next-2.ensures.steps c.in_ok-next-2.was) in
    let second = next_part _ _ _ _ c.next-2.ensures.steps c.in_ok-next-2.was _ first.0 (omega (arith, begun.count, n1)) (had_more _ _ _ _ c.next-3.ensures.steps c.in_ok-next-3.was) in
    let third = next_part _ _ _ _ c.next-3.ensures.steps c.in_ok-next-3.was _ second.0 (omega (arith, begun.count, n1, n2)) (had_more _ _ _ _ c.next-4.ensures.steps c.in_ok-next-4.was) in
    let fourth = next_part _ _ _ _ c.next-4.ensures.steps c.in_ok-next-4.was _ third.0 (omega (arith, begun.count, n1, n2, n3)) (had_more _ _ _ _ c.next-5.ensures.steps c.in_ok-next-5.was) in
    let last = last_part _ _ _ _ c.next-5.ensures.steps c.in_ok-next-5.was (omega (arith, begun.count, n1, n2, n3, n4)) in
    let number = number_text c.in_ok-next.field-0.now 64 _ _ _ c.parse.ensures.value.0 c.ok.ensures.value c.in_ok-ok.was in
    let number-2 = number_text c.in_ok-next-2.field-0.now 64 _ _ _ c.parse-2.ensures.value.0 c.ok-2.ensures.value c.in_ok-ok-2.was in
    let number-3 = number_text c.in_ok-next-3.field-0.now 64 _ _ _ c.parse-3.ensures.value.0 c.ok-3.ensures.value c.in_ok-ok-3.was in
    let number-4 = number_text c.in_ok-next-4.field-0.now 64 _ _ _ c.parse-4.ensures.value.0 c.ok-4.ensures.value c.in_ok-ok-4.was in (
      c.in_ok-strip_prefix.field-0.now,
      stripped fine_prefix c.args.answer.now c.in_ok-strip_prefix.field-0.now c.in_ok-strip_prefix.ensures.cases,
      (_, _, sym begun.text ∙ first.1, number, (_, _, second.1, number-2, (_, _, third.1, number-3, (_, _, fourth.1, number-4, sym last)))),
    )
