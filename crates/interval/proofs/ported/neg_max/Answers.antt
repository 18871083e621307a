use Rattle.whole.proofs.Sums.{results}
use Rattle.whole.proofs.Flags.{flags}
use Rattle.interval.proofs.PortedCalls.{beside}
use Rattle.interval.proofs.ported.neg_max.Goals as goal

pub overflow_sub-result : goal.overflow_sub-result
overflow_sub-result c = search (beside, flags)

pub returns-then-x-eq-MAX : goal.returns-then-x-eq-MAX
returns-then-x-eq-MAX c = search (results, beside, flags)

pub returns-else-x-eq-MAX : goal.returns-else-x-eq-MAX
returns-else-x-eq-MAX c = search (results, beside, flags)
