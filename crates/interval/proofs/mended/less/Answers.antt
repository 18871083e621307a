use Rattle.whole.proofs.Flags.{bools}
use Rattle.interval.specs.Mended.{less}
use Rattle.interval.proofs.Calls.{lenient-made}
use Rattle.interval.proofs.mended.less.Goals as goal

pub returns : goal.returns
unfolding less
returns c = search (lenient-made, bools) depth 8 fits 5000
