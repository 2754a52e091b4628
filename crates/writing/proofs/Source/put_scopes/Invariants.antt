-- `writing::Source::put_scopes` meets its contract. Assumes nothing.
use mathlib.Core.Path.{◌≡◌}
use Prim.Native.Nat.{◌+◌, ◌*◌, ◌-◌, ◌≤◌}
use lib.ListN.{length}
use lib.Seq.{sets}
use Rattle.meaning.specs.File.{settings_bytes, scope_bytes}
use Rattle.renumbering.specs.Numbers.{number_in, named_in}
use Rattle.writing.specs.Writing.{scope_field, list_bytes}
use Rattle.writing.proofs.Source.put_scopes.Given as goal

abbrev pub invariant-loop-k : goal.invariant-loop-k
invariant-loop-k l =
    let field = scope_field l.self.scopes.now (number_in l.self.numbers.now) in
    (l.at ≤ settings_bytes + scope_bytes * l.k) × (length l.out ≡ length l.initial.out)
    × (sets l.initial.out settings_bytes (list_bytes field (named_in l.self.records.now 0 l.count)) ≡ sets l.out l.at (list_bytes field (named_in l.self.records.now l.k (l.count - l.k))))
    × (settings_bytes + scope_bytes * length (named_in l.self.records.now 0 l.count) ≡ l.at + scope_bytes * length (named_in l.self.records.now l.k (l.count - l.k)))
