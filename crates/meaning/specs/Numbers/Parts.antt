-- The parts of a Try besides its Block.
-- Assumes nothing.
use Rattle.std.specs.Prelude.{ℕ}

abbrev pub Handler : ℕ
Handler = 1

abbrev pub Finalizer : ℕ
Finalizer = 2

abbrev pub Both : ℕ
Both = 3
