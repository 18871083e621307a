use Rattle.interval.proofs.Calls.{ands}
use Rattle.interval.proofs.mended.has_ends.Goals as goal

pub returns-then-a-low : goal.returns-then-a-low
returns-then-a-low c = search ands

pub returns-else-a-low : goal.returns-else-a-low
returns-else-a-low c = search ands
