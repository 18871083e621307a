use Rattle.whole.proofs.Flags.{flags}
use Rattle.whole.proofs.Sums.{results}
use Rattle.interval.proofs.Remainder.{negated-need, reached}
use Rattle.interval.proofs.mended.reach.Goals as goal

pub overflow_sub-next : goal.overflow_sub-next
overflow_sub-next c = search (negated-need, flags)

pub returns : goal.returns
returns c = search (reached, results, negated-need, flags) depth 8 fits 5000
