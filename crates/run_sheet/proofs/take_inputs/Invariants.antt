use Rattle.std.proofs.Common.{◌≤◌, length}
use Rattle.run_sheet.proofs.take_inputs.Given as goal

abbrev pub invariant-loop-place : goal.invariant-loop-place
invariant-loop-place g l = l.n ≤ length l.yielded
