-- What is read lies in the room; each read fills some of the rest.
use Rattle.std.proofs.Common.{length, ◌-◌, ◌≤◌}
use Rattle.test_lines.proofs.lines.read_full.Given as goal

abbrev pub invariant-loop-done : goal.invariant-loop-done
invariant-loop-done g l = l.done ≤ length l.initial.room

abbrev pub decreases-loop-done : goal.decreases-loop-done
decreases-loop-done g l = length l.initial.room - l.done
