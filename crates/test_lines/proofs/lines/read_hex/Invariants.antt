-- The bytes read fit into the file.
use Rattle.std.proofs.Common.{◌-◌, ◌≤◌}
use Rattle.test_lines.proofs.lines.read_hex.Given as goal

abbrev pub invariant-loop-n : goal.invariant-loop-n
invariant-loop-n l = l.n ≤ l.most

abbrev pub decreases-loop-n : goal.decreases-loop-n
decreases-loop-n l = l.most - l.n
