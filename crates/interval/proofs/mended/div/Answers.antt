use Rattle.interval.specs.Mended.{div}
use Rattle.interval.proofs.Remainder.{strict-called}
use Rattle.interval.proofs.mended.div.Goals as goal

pub returns : goal.returns
unfolding div
returns c = search strict-called
