use Rattle.interval.proofs.Calls.{ands}
use Rattle.interval.proofs.Interval.is_bottom.Goals as goal

pub returns-then-self-eq-MAX : goal.returns-then-self-eq-MAX
returns-then-self-eq-MAX c = search ands

pub returns-else-self-eq-MAX : goal.returns-else-self-eq-MAX
returns-else-self-eq-MAX c = search ands
