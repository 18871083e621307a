use Rattle.whole.proofs.Flags.{flags}
use Rattle.interval.specs.Mended.{add}
use Rattle.interval.proofs.Ranges.{ranged-made, add-called}
use Rattle.interval.proofs.mended.add.Goals as goal

pub returns : goal.returns
unfolding add
returns c = search (ranged-made, add-called, flags) depth 8 fits 5000
