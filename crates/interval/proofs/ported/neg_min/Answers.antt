use Rattle.whole.proofs.Sums.{results}
use Rattle.whole.proofs.Flags.{flags}
use Rattle.interval.proofs.PortedCalls.{beside}
use Rattle.interval.proofs.ported.neg_min.Goals as goal

pub overflow_sub-result : goal.overflow_sub-result
overflow_sub-result c = search (beside, flags)

pub returns-then-x-eq-MIN : goal.returns-then-x-eq-MIN
returns-then-x-eq-MIN c = search (results, beside, flags)

pub returns-else-x-eq-MIN : goal.returns-else-x-eq-MIN
returns-else-x-eq-MIN c = search (results, beside, flags)
