-- `lines::encoded` meets its contract. Assumes nothing.
use Rattle.std.specs.Prelude.{take}
use Rattle.std.proofs.Common.{ap, ap₂, ◌∙◌}
use Rattle.notation.specs.Notation as notation
use Rattle.test_lines.proofs.Stored.{stored_front}
use Rattle.test_lines.proofs.lines.encoded.Goals as goal

pub returns : goal.returns
returns c =
    c.truncate.ensures.items
    ∙ stored_front (notation.encoded c.as_bytes.result.now) c.deref_mut.result.now c.encode-length.new.file _ c.in_ok-file.file.len c.encode-length.result c.encode-length.ensures.file_after c.deref_mut.ensures.len c.encode-length.ensures.value
    ∙ ap₂ take c.in_ok-file.ensures.len (ap notation.encoded c.as_bytes.ensures.value)
