-- The modes of a file; a Load has the number of its mode as form.
-- Assumes nothing.
use Rattle.std.specs.Prelude.{ℕ}

abbrev pub Runtime : ℕ
Runtime = 0

abbrev pub External : ℕ
External = 1

abbrev pub Inline : ℕ
Inline = 2
