use Rattle.interval.proofs.Calls.{ands}
use Rattle.interval.proofs.mended.equal_ever.Goals as goal

pub returns-then-a-b : goal.returns-then-a-b
returns-then-a-b c = search ands

pub returns-else-a-b : goal.returns-else-a-b
returns-else-a-b c = search ands
