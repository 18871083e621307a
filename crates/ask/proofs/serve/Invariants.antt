use Rattle.std.proofs.Common.{◌≤◌, length}
use Rattle.ask.specs.Waiting.{waiting}
use Rattle.ask.proofs.serve.Given as goal

abbrev pub invariant-loop : goal.invariant-loop
invariant-loop g l = waiting l.state ≤ length l.buf
