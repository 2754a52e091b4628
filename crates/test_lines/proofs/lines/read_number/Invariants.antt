-- Each digit moves the place on.
use Rattle.std.proofs.Common.{length, ◌-◌}
use Rattle.test_lines.proofs.lines.read_number.Given as goal

abbrev pub decreases-loop-at : goal.decreases-loop-at
decreases-loop-at l = length l.text - l.at
