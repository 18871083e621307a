use Rattle.whole.proofs.Flags.{bools}
use Rattle.interval.specs.Mended.{less_or_equal}
use Rattle.interval.proofs.Calls.{lenient-made}
use Rattle.interval.proofs.mended.less_or_equal.Goals as goal

pub returns : goal.returns
unfolding less_or_equal
returns c = search (lenient-made, bools) depth 8 fits 5000
