-- The cycle of calls: records and lists of children. Assumes nothing.
use mathlib.Core.Path.{◌≡◌}
use Prim.Native.Nat.{◌+◌, ◌-◌, ◌*◌, ◌≤◌}
use Rattle.meaning.specs.Grammar.{place_of}
use Rattle.checking.specs.Flat.{ups_f, list_f, record_f, children_f}
use Rattle.checking.proofs.+records.Given as goal

-- a list asks for its children with a level less; a child asks for its record, a record for what is left of it, and that for its list of
-- children, with the same levels
abbrev pub decreases-check_child : goal.decreases-check_child
decreases-check_child l = 4 * l.levels + 3

abbrev pub decreases-check_children : goal.decreases-check_children
decreases-check_children l = 4 * l.levels

abbrev pub decreases-check_entered : goal.decreases-check_entered
decreases-check_entered l = 4 * l.levels + 1

abbrev pub decreases-check_expression : goal.decreases-check_expression
decreases-check_expression l = 4 * l.levels + 2

abbrev pub decreases-check_statement : goal.decreases-check_statement
decreases-check_statement l = 4 * l.levels + 2

-- what the children so far came to, and those that are left
abbrev pub invariant-check_children-loop-k : goal.invariant-check_children-loop-k
invariant-check_children-loop-k l =
    (1 ≤ l.levels)
    × (l.k ≤ l.n)
    × (children_f l.levels l.source.file.now l.source.rows.scopes l.source.rows.symbols l.site.place l.site.role l.x l.site.scope.0 l.initial.marks
    ≡ list_f
    (λ j s a m.
    record_f l.levels l.source.file.now l.source.rows.scopes l.source.rows.symbols (place_of l.site.place l.x j) (ups_f l.source.file.now l.site.role l.x j) l.site.scope.0 s a m)
    (l.n - l.k) l.k l.tally l.at l.marks)
