use Rattle.whole.proofs.Flags.{bools}
use Rattle.interval.proofs.is_empty.Goals as goal

pub returns : goal.returns
returns c = search bools
