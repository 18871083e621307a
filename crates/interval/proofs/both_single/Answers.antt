use Rattle.interval.proofs.Calls.{ands}
use Rattle.interval.proofs.both_single.Goals as goal

pub returns-then-a : goal.returns-then-a
returns-then-a c = search ands

pub returns-else-a : goal.returns-else-a
returns-else-a c = search ands
