use Rattle.interval.proofs.Calls.{ands}
use Rattle.interval.proofs.Interval.is_only.Goals as goal

pub returns-then-self-n : goal.returns-then-self-n
returns-then-self-n c = search ands

pub returns-else-self-n : goal.returns-else-self-n
returns-else-self-n c = search ands
