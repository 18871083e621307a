use Rattle.whole.proofs.Flags.{bools}
use Rattle.whole.proofs.Sizes.{both_is, both-no}
use Rattle.whole.proofs.between.Goals as goal

pub returns-then-low-x : goal.returns-then-low-x
returns-then-low-x c = search (both_is, bools)

pub returns-else-low-x : goal.returns-else-low-x
returns-else-low-x c = search (both-no, bools)
