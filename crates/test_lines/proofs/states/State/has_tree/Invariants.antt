-- Each field makes the rest shorter.
use Rattle.std.proofs.Common.{length}
use Rattle.test_lines.proofs.states.State.has_tree.Given as goal

abbrev pub decreases-loop-field : goal.decreases-loop-field
decreases-loop-field l = length l.rest
