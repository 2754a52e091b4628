-- `writing::Source::put_symbols` meets its contract. Assumes nothing.
use mathlib.Core.Path.{◌≡◌}
use Prim.Native.Nat.{◌+◌, ◌*◌, ◌-◌}
use lib.ListN.{length}
use lib.Seq.{sets}
use Rattle.meaning.specs.File.{symbol_bytes}
use Rattle.renumbering.specs.Numbers.{number_in}
use Rattle.writing.specs.Writing.{symbol_field, rows_bytes}
use Rattle.writing.proofs.Source.put_symbols.Given as goal

abbrev pub invariant-loop-k : goal.invariant-loop-k
invariant-loop-k l =
    (length l.out ≡ length l.initial.out)
    × (sets l.initial.out l.first (rows_bytes (symbol_field l.self.symbols.now (number_in l.self.numbers.now)) 0 l.count) ≡ sets l.out (l.first + symbol_bytes * l.k) (rows_bytes (symbol_field l.self.symbols.now (number_in l.self.numbers.now)) l.k (l.count - l.k)))
