-- `lines::refusal_told` meets its contract. Assumes nothing.
use mathlib.Core.Path.{refl}
use Rattle.test_lines.specs.Told.{space, refused_prefix}
use Rattle.test_lines.proofs.Parts.{number_text, stripped, split_around}
use Rattle.test_lines.proofs.lines.refusal_told.Goals as goal

pub returns : goal.returns
returns c = (
  c.in_ok-strip_prefix.field-0.now,
  c.in_ok-number.place.now,
  stripped refused_prefix c.args.answer.now c.in_ok-strip_prefix.field-0.now c.in_ok-strip_prefix.ensures.cases,
  (_, _, split_around space _ _ _ c.in_ok-number.ensures.cases, number_text c.in_ok-number.number.now 8 _ _ _ c.parse.ensures.value.0 c.ok.ensures.value c.in_ok-ok.was, refl),
  number_text c.in_ok-number.place.now 64 _ _ _ c.parse-2.ensures.value.0 c.ok-2.ensures.value c.in_ok-ok-2.was,
)
