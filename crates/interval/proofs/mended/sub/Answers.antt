use Rattle.whole.proofs.Flags.{flags}
use Rattle.interval.specs.Mended.{sub}
use Rattle.interval.proofs.Ranges.{ranged-made, sub-called}
use Rattle.interval.proofs.mended.sub.Goals as goal

pub returns : goal.returns
unfolding sub
returns c = search (ranged-made, sub-called, flags) depth 8 fits 5000
