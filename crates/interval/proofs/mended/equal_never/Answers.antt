use Rattle.interval.proofs.Calls.{ors}
use Rattle.interval.proofs.mended.equal_never.Goals as goal

pub returns-then-a-b : goal.returns-then-a-b
returns-then-a-b c = search ors

pub returns-else-a-b : goal.returns-else-a-b
returns-else-a-b c = search ors
