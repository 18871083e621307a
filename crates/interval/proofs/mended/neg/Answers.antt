use Rattle.whole.proofs.Flags.{flags}
use Rattle.interval.specs.Mended.{neg}
use Rattle.interval.proofs.Ranges.{ranged-made, neg-called}
use Rattle.interval.proofs.mended.neg.Goals as goal

pub returns : goal.returns
unfolding neg
returns c = search (ranged-made, neg-called, flags) depth 8 fits 5000
