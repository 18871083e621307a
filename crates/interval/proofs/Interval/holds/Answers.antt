use Rattle.whole.proofs.Flags.{bools}
use Rattle.whole.proofs.Sizes.{both_is}
use Rattle.interval.proofs.Calls.{and-is-no}
use Rattle.interval.proofs.Interval.holds.Goals as goal

pub returns-then-self-n : goal.returns-then-self-n
returns-then-self-n c = search (both_is, bools)

pub returns-else-self-n : goal.returns-else-self-n
returns-else-self-n c = search (and-is-no, bools)
