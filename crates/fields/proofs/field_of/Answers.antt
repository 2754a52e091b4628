-- `fields::field_of` meets its contract. Assumes nothing.
use Rattle.meaning.specs.File.{field_bytes}
use Rattle.meaning.specs.Grammar.{field_of}
use Rattle.fields.specs.Lengths.{half}
use Rattle.fields.proofs.field_of.Goals as goal

pub returns : goal.returns
unfolding field_of field_bytes
returns c =
    rw (
      ← c.tag_at-tag.ensures,
      ← c.length_of-length.ensures.rule,
      half c.length_of-length.ensures.rule,
      ← c.number_of.ensures,
      ← c.number_of-2.ensures,
      ← c.number_of-3.ensures,
      ← c.number_of-4.ensures,
    )
