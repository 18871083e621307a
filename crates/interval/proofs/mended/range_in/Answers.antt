use Rattle.interval.proofs.Ranges.{range-exact}
use Rattle.whole.proofs.Flags.{flags}
use Rattle.interval.proofs.mended.range_in.Goals as goal

pub returns : goal.returns
returns c = search (range-exact, flags) depth 8 fits 5000
