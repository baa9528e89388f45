-- What was read stands within the buffer, and each read that brings bytes leaves less room, which ends the loop.
use Rattle.std.proofs.Common.{length, ◌-◌, ◌≤◌}
use Rattle.ffps.proofs.read_input.Given as goal

abbrev pub invariant-loop-n : goal.invariant-loop-n
invariant-loop-n g l = l.n ≤ length l.buffer

abbrev pub decreases-loop-n : goal.decreases-loop-n
decreases-loop-n g l = length l.initial.buffer - l.n
