-- `fields::field_at` meets its contract. Assumes nothing.
use mathlib.Core.Path.{◌∙◌}
use Prim.Native.Nat.{◌+◌}
use native.Mathlib.Omega.{arith}
use lib.ListN.{length}
use borrow.Author.Tests.{eq-eqb, ne_eqb, lt-ltb, le-ltb}
use Rattle.meaning.specs.File.{field_bytes}
use Rattle.meaning.specs.Grammar.{field_at, field_of}
use Rattle.fields.specs.Lengths.{half}
use Rattle.fields.proofs.field_at.Goals as goal

pub returns-then-left-lt-HEAD_BYTES : goal.returns-then-left-lt-HEAD_BYTES
unfolding field_at
returns-then-left-lt-HEAD_BYTES c =
    let file = c.args.file.now in
    let at = c.args.at in
    rw (lt-ltb (length file) (at + 3) (omega arith))

pub returns-then-not-is_allowed : goal.returns-then-not-is_allowed
unfolding field_at
returns-then-not-is_allowed c =
    let file = c.args.file.now in
    let at = c.args.at in
    rw (
      le-ltb (length file) (at + 3) (omega arith),
      ← c.tag_at-tag.ensures,
      ← c.is_allowed.ensures,
      c.if-not-is_allowed.true,
    )

pub returns-then-read_two-from : goal.returns-then-read_two-from
unfolding field_at
returns-then-read_two-from c =
    let file = c.args.file.now in
    let at = c.args.at in
    rw (
      le-ltb (length file) (at + 3) (omega arith),
      ← c.tag_at-tag.ensures,
      ← c.is_allowed.ensures,
      c.if-not-is_allowed.false,
      ← c.read_two.ensures,
      ← c.length_of-length.ensures.rule,
      ne_eqb _ _ (rw c.from.ensures at c.if-read_two-from.true),
    )

pub returns-then-left-length : goal.returns-then-left-length
unfolding field_at field_bytes
returns-then-left-length c =
    let file = c.args.file.now in
    let at = c.args.at in
    rw (
      le-ltb (length file) (at + 3) (omega arith),
      ← c.tag_at-tag.ensures,
      ← c.is_allowed.ensures,
      c.if-not-is_allowed.false,
      ← c.read_two.ensures,
      ← c.length_of-length.ensures.rule,
      eq-eqb _ _ (c.if-read_two-from.false ∙ c.from.ensures),
      lt-ltb (length file) (at + (3 + c.length_of-length.result)) (omega arith),
    )

pub returns : goal.returns
unfolding field_at field_bytes field_of
returns c =
    let file = c.args.file.now in
    let at = c.args.at in
    rw (
      le-ltb (length file) (at + 3) (omega arith),
      ← c.tag_at-tag.ensures,
      ← c.is_allowed.ensures,
      c.if-not-is_allowed.false,
      ← c.read_two.ensures,
      ← c.length_of-length.ensures.rule,
      half c.length_of-length.ensures.rule,
      eq-eqb _ _ (c.if-read_two-from.false ∙ c.from.ensures),
      le-ltb (length file) (at + (3 + c.length_of-length.result)) (omega arith),
      ← c.read_number.ensures,
      ← c.read_number-2.ensures,
      ← c.read_number-3.ensures,
      ← c.read_number-4.ensures,
    )
