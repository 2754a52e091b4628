-- `lines::shown` meets its contract. Assumes nothing.
use Rattle.std.specs.Prelude.{◌≡◌, List, ℕ, take, IfOk}
use Rattle.std.specs.String.{string_bytes}
use Rattle.std.specs.Str.Lossy.{utf8_lossy}
use Rattle.std.proofs.Common.{ap, subst, ◌∙◌}
use Rattle.notation.specs.Shown as shown
use Rattle.test_lines.specs.Told.{large}
use Rattle.test_lines.proofs.Stored.{stored_front}
use Rattle.test_lines.proofs.lines.shown.Goals as goal

pub returns : goal.returns
returns c =
    let text = shown.shown c.args.file.now in
    let cut : c.deref.result.now ≡ take large text =
    c.deref.ensures.value
    ∙ c.truncate.ensures.items
    ∙ stored_front text c.deref_mut.result.now c.show-length.new.text _ c.in_ok-text.text.len c.show-length.result c.show-length.ensures.text_after c.deref_mut.ensures.len c.show-length.ensures.value
    ∙ ap (λ (n : ℕ). take n text) c.in_ok-text.ensures.len in
    subst (λ (b : List ℕ). IfOk c.from_utf8_lossy.result (λ t. string_bytes t ≡ utf8_lossy b)) cut c.from_utf8_lossy.ensures.lossy
