-- The tag of a Load, told of a field.
-- Assumes nothing.
use Rattle.std.specs.Prelude.{Bool, ℕ, eqb}
use Rattle.meaning.specs.Numbers.Tag

abbrev pub is_load : ℕ → Bool
is_load t = eqb t Tag.Load
